use Rattle.std.proofs.Common.{sym, ◌∙◌, ap}
use Rattle.ds_ast.specs.declared.name.Name.TheVariants.{Text}
use Rattle.ds_names.proofs.Placed.{keeps_text}
use Rattle.ds_names.proofs.places.Places.keep.Goals as goal

pub returns-in_ok-insert-in-Text-clause-ok : goal.returns-in_ok-insert-in-Text-clause-ok
returns-in_ok-insert-in-Text-clause-ok c =
    keeps_text c.args.self.now.texts c.insert-in-Text.new.self c.args.self.now.numbers c.as_slice.result.now c.args.at
    c.args.name.now
    (c.in-Text.is ∙ ap Text (sym c.as_slice.ensures)) c.in_ok-insert-in-Text.ensures.updates
