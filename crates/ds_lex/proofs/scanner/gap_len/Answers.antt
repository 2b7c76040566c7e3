use Rattle.std.proofs.Common.{◌+◌, get_or, drop, sym, ◌∙◌, arith}
use Rattle.std.proofs.lemmas.List.{at_drop_more, at_drop_all}
use Rattle.ds_lex.specs.Scan.{gap_len}
use Rattle.ds_lex.proofs.Gaps.{gap_some, gap_none, gap_nil}
use Rattle.ds_lex.proofs.scanner.gap_len.Goals as goal

pub returns-in-None-clause-len : goal.returns-in-None-clause-len
returns-in-None-clause-len c =
    let bs = c.args.bytes.now in
    let i = c.loop-i.i in
    let e = at_drop_more (gap_len c.loop-i.in_comment) bs i 0 (omega arith)
    ∙ gap_none _ (get_or bs i 0) (drop (i + 1) bs) (sym c.in-None.ensures) in
    omega (arith, e, c.loop-i.invariant)

pub loop-i-preserved : goal.loop-i-preserved
loop-i-preserved c =
    let bs = c.args.bytes.now in
    let i = c.loop-i.i in
    let e = at_drop_more (gap_len c.loop-i.in_comment) bs i 0 (omega arith)
    ∙ gap_some _ (get_or bs i 0) (drop (i + 1) bs) _ (sym c.in-Some.ensures) in
    omega (arith, e, c.loop-i.invariant)

pub returns-clause-len : goal.returns-clause-len
returns-clause-len c =
    let bs = c.args.bytes.now in
    let e = at_drop_all (gap_len c.loop-i.in_comment) bs c.loop-i.i (omega arith) ∙ gap_nil c.loop-i.in_comment in
    omega (arith, e, c.loop-i.invariant)
