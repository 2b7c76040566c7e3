use Rattle.std.proofs.Common.{refl}
use Rattle.ds_tried.proofs.Turned.{made}
use Rattle.ds_tried.proofs.runs_are_cut_into_rounds.Goals as goal

pub returns-clause-ten_thousand_end_a_round : goal.returns-clause-ten_thousand_end_a_round
returns-clause-ten_thousand_end_a_round c = (made refl refl, made refl refl)

pub returns-clause-one_unit_less_goes_on : goal.returns-clause-one_unit_less_goes_on
returns-clause-one_unit_less_goes_on c = (made refl refl, made refl refl)

pub returns-clause-each_thread_has_each_round : goal.returns-clause-each_thread_has_each_round
returns-clause-each_thread_has_each_round c = (made refl refl, made refl refl, made refl refl)

pub returns-clause-main_ends_in_the_last : goal.returns-clause-main_ends_in_the_last
returns-clause-main_ends_in_the_last c = (made refl refl, made refl refl, made refl refl)
