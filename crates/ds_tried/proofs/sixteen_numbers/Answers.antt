use Rattle.std.proofs.Common.{refl}
use Rattle.ds_tried.specs.Threads.{sixteenth_is_refused, refusal_is_told, sixteen_is_never_given_out}
use Rattle.ds_tried.proofs.Trials.{tried}
use Rattle.ds_tried.proofs.sixteen_numbers.Goals as goal

pub returns-clause-sixteenth_is_refused : goal.returns-clause-sixteenth_is_refused
returns-clause-sixteenth_is_refused c = tried sixteenth_is_refused refl

pub returns-clause-refusal_is_told : goal.returns-clause-refusal_is_told
returns-clause-refusal_is_told c = tried refusal_is_told refl

pub returns-clause-sixteen_is_never_given_out : goal.returns-clause-sixteen_is_never_given_out
returns-clause-sixteen_is_never_given_out c = tried sixteen_is_never_given_out refl
