use Rattle.std.proofs.Common.{◌≡◌, FitsSigned, to_z, of_z, ap, ◌∙◌, rules}
use Rattle.std.proofs.lemmas.Int.{to_z-of_z}
use Rattle.ds_arith.specs.Numbers.{signed, stored}
use Rattle.ds_arith.proofs.Readings.{extended}
use Rattle.ds_arith.proofs.numbers.sign_extend.Goals as goal
use mir.Syntax.{w128}

pub returns-clause-same : goal.returns-clause-same
returns-clause-same c =
    let from = c.args.from in
    let to = c.args.to in
    let a = c.args.a in
    let number = c.signed.result in
    let fits : FitsSigned w128 number = search rules in
    let read : to_z w128 (of_z w128 number) ≡ signed from a = to_z-of_z w128 number fits ∙ c.signed.ensures.value in
    ap (signed to) (c.stored.ensures ∙ ap (stored to) read)
    ∙ extended from to a c.requires.widths.0 c.requires.widths.1 c.requires.operand
