use Rattle.std.proofs.Common.{◌-◌, subst, sym, length, take}
use Rattle.ds_grammar.specs.Lexemes.{AreInside}
use Rattle.ds_parse.proofs.parser.module_of.Goals as goal

pub new-requires-clause-inside : goal.new-requires-clause-inside
new-requires-clause-inside c =
    let all = c.as_slice-all.result.now in
    subst (λ ts. AreInside c.args.text.now (take (length all - 1) ts)) (sym c.as_slice-all.ensures)
    (c.tokens_lie_inside.ensures c.args.text.now c.args.tokens.now c.requires.lexed (length all - 1) 0)
