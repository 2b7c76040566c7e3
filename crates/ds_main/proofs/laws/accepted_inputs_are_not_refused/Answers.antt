use Rattle.ds_main.proofs.Refusals as refusals
use Rattle.ds_main.proofs.laws.accepted_inputs_are_not_refused.Goals as goal

pub returns : goal.returns
returns c =
    refusals.accepted_inputs_are_not_refused c.texts_spell_one_module.ensures c.texts_are_not_refused.ensures
    c.layouts_are_not_refused.ensures c.accepted_are_not_refused.ensures
