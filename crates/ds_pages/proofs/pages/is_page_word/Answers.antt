use Rattle.std.proofs.Common.{arith}
use Rattle.std.proofs.lemmas.Bool.Decides.{nat_tests}
use Rattle.ds_pages.proofs.Classed.{class_of_word, word_of_class}
use Rattle.ds_pages.proofs.pages.is_page_word.Goals as goal

pub returns-clause-means : goal.returns-clause-means
returns-clause-means c = (
  λ test. class_of_word c.args.word (grind (arith, nat_tests, test)),
  λ (class, is, e). let le = word_of_class c.args.word class is e in grind (arith, nat_tests, le),
)
