use Rattle.std.proofs.Common.{length, ap, ◌∙◌}
use Rattle.ds_step.proofs.Start.{pieces-first_words, length-first_words}
use Rattle.ds_step.proofs.table.VecWords.new.Goals as goal

pub returns-clause-first : goal.returns-clause-first
returns-clause-first c =
    pieces-first_words c.args.limits.now c.args.image.now c.in_ok-words.words.items c.push_zeros.new.words.items
    c.extend_from_slice.new.self.items c.push_zeros-2.new.words.items c.word_of-first.result c.words-len.result
    c.word_of-first.ensures.exact c.words-len.ensures.words c.in_ok-words.ensures c.in_ok-push_zeros.ensures
    c.in_ok-extend_from_slice.ensures.items c.in_ok-push_zeros-2.ensures

pub returns-clause-len : goal.returns-clause-len
returns-clause-len c =
    ap length (returns-clause-first c) ∙ length-first_words c.args.limits.now c.args.image.now c.requires
