use Rattle.std.proofs.Common.{ℕ, Vec, Global, refl, ◌∙◌, sym, ap}
use Rattle.std.specs.Prelude.{Some}
use Rattle.ds_ast.specs.declared.name.Name.TheVariants.{Text}
use Rattle.ds_parse_global.proofs.Keyed.{absent, keyed, text_noted}
use Rattle.ds_parse_global.proofs.places.Places.note.Goals as goal

pub returns-in_ok-insert-in-Text-clause-ok : goal.returns-in_ok-insert-in-Text-clause-ok
returns-in_ok-insert-in-Text-clause-ok c =
    let key = c.in_ok-key-in-Text.key.items in
    text_noted c.args.self.now (record {
      alloc = c.args.self.now.alloc;
      numbers = c.args.self.now.numbers;
      texts =
          c.insert-in-Text.new.self;
    }) key c.args.at c.args.name.now
    (c.in-Text.is ∙ ap Text (sym (c.in_ok-key-in-Text.ensures.items ∙ c.as_slice.ensures)))
    (sym c.get.ensures ∙ absent c.get.result (sym c.is_some.ensures ∙ c.if-is_some.false)) refl
    (λ cs. keyed (λ (k : Vec ℕ Global). k.items) key cs c.args.self.now.texts c.insert-in-Text.new.self
    (Some c.args.at) c.in_ok-insert-in-Text.ensures.updates)
