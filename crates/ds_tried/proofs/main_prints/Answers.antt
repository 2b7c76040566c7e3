use Rattle.std.proofs.Common.{refl}
use Rattle.ds_tried.specs.Threads.{main_begins, begins_once, prints_are_numbered, ends_where_it_returns}
use Rattle.ds_tried.specs.Threads.{nothing_behind_end, log_is_no_event}
use Rattle.ds_tried.proofs.Trials.{tried}
use Rattle.ds_tried.proofs.main_prints.Goals as goal

pub returns-clause-main_begins : goal.returns-clause-main_begins
returns-clause-main_begins c = tried main_begins refl

pub returns-clause-begins_once : goal.returns-clause-begins_once
returns-clause-begins_once c = tried begins_once refl

pub returns-clause-prints_are_numbered : goal.returns-clause-prints_are_numbered
returns-clause-prints_are_numbered c = tried prints_are_numbered refl

pub returns-clause-ends_where_it_returns : goal.returns-clause-ends_where_it_returns
returns-clause-ends_where_it_returns c = tried ends_where_it_returns refl

pub returns-clause-nothing_behind_end : goal.returns-clause-nothing_behind_end
returns-clause-nothing_behind_end c = tried nothing_behind_end refl

pub returns-clause-log_is_no_event : goal.returns-clause-log_is_no_event
returns-clause-log_is_no_event c = tried log_is_no_event refl

pub returns-clause-is_printed : goal.returns-clause-is_printed
returns-clause-is_printed c = (refl, refl)
