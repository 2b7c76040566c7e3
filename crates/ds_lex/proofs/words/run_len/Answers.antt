use Rattle.std.proofs.Common.{◌≡◌, ◌+◌, true, false, get_or, drop, ◌∙◌, arith}
use Rattle.std.proofs.lemmas.List.{at_drop_more, at_drop_all}
use Rattle.ds_lex.specs.Bytes.{belongs}
use Rattle.ds_lex.specs.Scan.{run_len}
use Rattle.ds_lex.proofs.Runs.{run_more, run_none, run_nil}
use Rattle.ds_lex.proofs.words.run_len.Goals as goal

pub returns-then-not-belongs-clause-len : goal.returns-then-not-belongs-clause-len
returns-then-not-belongs-clause-len c =
    let set = c.args.set in
    let bs = c.args.bytes.now in
    let i = c.loop-i.i in
    let h : belongs set (get_or bs i 0) ≡ false = cc in
    let e = at_drop_more (run_len set) bs i 0 (omega arith) ∙ run_none set (get_or bs i 0) (drop (i + 1) bs) h in
    omega (arith, e, c.loop-i.invariant)

pub loop-i-preserved : goal.loop-i-preserved
loop-i-preserved c =
    let set = c.args.set in
    let bs = c.args.bytes.now in
    let i = c.loop-i.i in
    let h : belongs set (get_or bs i 0) ≡ true = cc in
    let e = at_drop_more (run_len set) bs i 0 (omega arith) ∙ run_more set (get_or bs i 0) (drop (i + 1) bs) h in
    omega (arith, e, c.loop-i.invariant)

pub returns-clause-len : goal.returns-clause-len
returns-clause-len c =
    let bs = c.args.bytes.now in
    let e = at_drop_all (run_len c.args.set) bs c.loop-i.i (omega arith) ∙ run_nil c.args.set in
    omega (arith, e, c.loop-i.invariant)
