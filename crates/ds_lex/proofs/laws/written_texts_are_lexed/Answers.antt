use Rattle.std.proofs.Common.{[], refl, arith}
use Rattle.ds_lex.specs.Written.{written}
use Rattle.ds_lex.proofs.Apart.{lexed_behind}
use Rattle.ds_lex.proofs.Spelled.{spelled_behind}
use Rattle.ds_lex.proofs.laws.written_texts_are_lexed.Goals as goal

pub returns-clause-lexed : goal.returns-clause-lexed
returns-clause-lexed c =
    λ ps a. lexed_behind (written ps) 0 [] ps (record { within = omega arith; behind = refl; blank = refl }) a

pub returns-clause-spelled : goal.returns-clause-spelled
returns-clause-spelled c = λ ps. spelled_behind (written ps) 0 ps refl
