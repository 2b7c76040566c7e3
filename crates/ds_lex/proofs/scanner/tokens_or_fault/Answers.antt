use Rattle.ds_lex.proofs.Lexing.{apart}
use Rattle.ds_lex.proofs.scanner.tokens_or_fault.Goals as goal

pub returns : goal.returns
returns c = λ text ts f l h. apart text 0 ts h.0 f l h.1
