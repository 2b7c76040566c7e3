use Rattle.std.proofs.Common.{arith}
use Rattle.ds_main.proofs.Words.{is_only}
use Rattle.ds_main.proofs.job.is_only_word.Goals as goal

pub returns-in-len1 : goal.returns-in-len1
returns-in-len1 c =
    is_only c.args.words.now c.only-item.result c.as_bytes.result.now c.args.word.now c.eq.result
    (omega (arith, c.in-len1.len_at_least, c.in-len1.len_below)) c.only-item.is c.as_bytes.ensures.value c.eq.ensures
