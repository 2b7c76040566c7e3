use Rattle.std.proofs.Common.{refl}
use Rattle.ds_tried.specs.Words.{whole_stores_write, narrow_stores_exchange}
use Rattle.ds_tried.proofs.Trials.{tried}
use Rattle.ds_tried.proofs.words_are_stored.Goals as goal

pub returns-clause-whole_stores_write : goal.returns-clause-whole_stores_write
returns-clause-whole_stores_write c = tried whole_stores_write refl

pub returns-clause-is_stored : goal.returns-clause-is_stored
returns-clause-is_stored c = (refl, refl, refl)

pub returns-clause-narrow_stores_exchange : goal.returns-clause-narrow_stores_exchange
returns-clause-narrow_stores_exchange c = tried narrow_stores_exchange refl
