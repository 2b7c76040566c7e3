use Rattle.std.proofs.Common.{refl}
use Rattle.ds_tried.specs.Loops.{full_page_gives_null, one_place_left}
use Rattle.ds_tried.proofs.Trials.{tried}
use Rattle.ds_tried.proofs.Examples.{worked}
use Rattle.ds_tried.proofs.full_pages.Goals as goal

pub returns-clause-full_page_gives_null : goal.returns-clause-full_page_gives_null
returns-clause-full_page_gives_null c = worked full_page_gives_null refl refl refl refl

pub returns-clause-one_place_left : goal.returns-clause-one_place_left
returns-clause-one_place_left c = tried one_place_left refl
