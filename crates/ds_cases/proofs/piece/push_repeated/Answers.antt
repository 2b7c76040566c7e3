use Rattle.std.proofs.Common.{◌≡◌, ◌++◌, ◌∙◌, ap, sym, arith}
use Rattle.std.proofs.lemmas.List.{append-nil}
use Rattle.ds_cases.specs.Texts.{repeated}
use Rattle.ds_cases.proofs.Repeated.{once_more}
use Rattle.ds_cases.proofs.piece.push_repeated.Goals as goal

pub loop-time-init : goal.loop-time-init
loop-time-init c = sym (append-nil c.args.text.now.items)

pub loop-time-preserved : goal.loop-time-preserved
loop-time-preserved c =
    once_more c.args.text.now.items c.loop-time.text.items c.extend_from_slice.new.self.items c.args.bytes.now
    c.loop-time._time
    c.loop-time.invariant c.in_ok-extend_from_slice.ensures.items

pub returns : goal.returns
returns c =
    let all : c.loop-time._time ≡ c.args.times = omega (arith, c.loop-time-test.false, c.loop-time.auto._time-end) in
    c.loop-time.invariant ∙ ap (λ n. c.args.text.now.items ++ repeated n c.args.bytes.now) all
