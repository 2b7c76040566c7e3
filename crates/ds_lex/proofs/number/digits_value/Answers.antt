use Rattle.std.proofs.Common.{◌+◌, get_or, drop, sym, ◌∙◌, arith}
use Rattle.std.proofs.lemmas.List.{at_drop_more, at_drop_all}
use Rattle.ds_lex.specs.Number.{extended}
use Rattle.ds_lex.proofs.Decimals.{extended_some, extended_none, extended_nil, extended_fits}
use Rattle.ds_lex.proofs.number.digits_value.Goals as goal

pub returns-in_err-value : goal.returns-in_err-value
returns-in_err-value c =
    let ds = c.args.digits.now in
    let i = c.loop-byte.byte-index in
    c.from_residual.ensures ∙ sym (extended_none _ (get_or ds i 0) (drop (i + 1) ds) (sym c.in_err-value.ensures))
    ∙ sym (at_drop_more (extended c.loop-byte.value) ds i 0 (omega arith)) ∙ c.loop-byte.invariant.same

pub loop-byte-preserved : goal.loop-byte-preserved
loop-byte-preserved c =
    let ds = c.args.digits.now in
    let i = c.loop-byte.byte-index in
    record {
      same =
          sym (extended_some _ (get_or ds i 0) (drop (i + 1) ds) _ (sym c.in_ok-value.ensures))
          ∙ sym (at_drop_more (extended c.loop-byte.value) ds i 0 (omega arith)) ∙ c.loop-byte.invariant.same;
      fits = extended_fits _ (get_or ds i 0) _ (sym c.in_ok-value.ensures);
    }

pub returns : goal.returns
returns c =
    sym (extended_nil c.loop-byte.value c.loop-byte.invariant.fits)
    ∙ sym (at_drop_all (extended c.loop-byte.value) c.args.digits.now c.loop-byte.byte-index (omega arith))
    ∙ c.loop-byte.invariant.same
