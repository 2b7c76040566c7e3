use Rattle.std.proofs.Common.{sym, ap, ◌∙◌}
use Rattle.std.specs.Prelude.{None, if◌then◌else◌}
use Rattle.ds_grammar.specs.Tokens.{lookup}
use Rattle.ds_grammar.specs.Instructions.{if_none, other_words}
use Rattle.ds_parse_instr.proofs.dispatch.row_word.Goals as goal

pub returns-in-Some : goal.returns-in-Some
returns-in-Some c =
    ap (λ found. if_none found (if c.args.named then None else lookup other_words c.args.bytes.now)) c.in-Some.ensures

pub returns-else-named : goal.returns-else-named
returns-else-named c =
    c.find-else-named.ensures
    ∙ ap (λ named. if named then None else lookup other_words c.args.bytes.now) (sym c.if-named.false)
    ∙ ap (λ found. if_none found (if c.args.named then None else lookup other_words c.args.bytes.now))
    c.in-None.ensures
