use Rattle.std.proofs.Common.{refl}
use Rattle.ds_tried.specs.Worked.{store_to_null_traps, store_off_its_width_traps, load_behind_heap_traps}
use Rattle.ds_tried.proofs.Examples.{worked}
use Rattle.ds_tried.proofs.bad_addresses.Goals as goal

pub returns-clause-store_to_null_traps : goal.returns-clause-store_to_null_traps
returns-clause-store_to_null_traps c = worked store_to_null_traps refl refl refl refl

pub returns-clause-store_off_its_width_traps : goal.returns-clause-store_off_its_width_traps
returns-clause-store_off_its_width_traps c = worked store_off_its_width_traps refl refl refl refl

pub returns-clause-load_behind_heap_traps : goal.returns-clause-load_behind_heap_traps
returns-clause-load_behind_heap_traps c = worked load_behind_heap_traps refl refl refl refl
