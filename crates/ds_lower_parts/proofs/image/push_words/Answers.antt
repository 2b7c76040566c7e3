use Rattle.ds_lower_parts.proofs.Imaged.{words_on}
use Rattle.ds_lower_parts.proofs.image.push_words.Goals as goal

pub loop-i-preserved : goal.loop-i-preserved
loop-i-preserved c =
    words_on c.loop-i.words c.push.new.self _ c.loop-i.rest.now c.behind_word-rest.result.now c.args.count c.loop-i.i
    c.first_word.result c.loop-i-test.true c.loop-i.invariant c.in_ok-push.ensures.ok c.first_word.ensures
    c.behind_word-rest.ensures
