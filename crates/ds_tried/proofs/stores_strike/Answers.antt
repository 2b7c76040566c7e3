use Rattle.std.proofs.Common.{refl}
use Rattle.ds_tried.specs.Frees.{store_is_no_longer_due}
use Rattle.ds_tried.proofs.Trials.{tried}
use Rattle.ds_tried.proofs.stores_strike.Goals as goal

pub returns-clause-store_is_no_longer_due : goal.returns-clause-store_is_no_longer_due
returns-clause-store_is_no_longer_due c = tried store_is_no_longer_due refl

pub returns-clause-store_strikes : goal.returns-clause-store_strikes
returns-clause-store_strikes c = (refl, refl, refl)

pub returns-clause-exchange_strikes : goal.returns-clause-exchange_strikes
returns-clause-exchange_strikes c = refl

pub returns-clause-load_leaves : goal.returns-clause-load_leaves
returns-clause-load_leaves c = refl
