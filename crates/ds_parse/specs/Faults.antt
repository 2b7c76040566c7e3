-- Why a text gives no module.
use Rattle.std.specs.Prelude.{ℕ, List, length}
use Rattle.ds_lex.specs.declared.fault.LexFault.{LexFault}
use Rattle.ds_lex.specs.declared.fault.LexFault.TheVariants as lex
use Rattle.ds_lex.specs.declared.token.Token.{Token}
use Rattle.ds_lex.specs.Lexed.{Lexed}
use Rattle.ds_lex.specs.Fault.{HasFault}
use Rattle.ds_grammar.specs.declared.fault.ParseFault.{ParseFault}
use Rattle.ds_grammar.specs.declared.fault.ParseFault.TheVariants as fault
use Rattle.ds_grammar.specs.Lexemes.{lexemes_from}
use Rattle.ds_grammar.specs.Parsed.{RefuseWhole}
use Rattle.ds_grammar.specs.Functions.{module_text}

-- the text has tokens, and they are refused with this fault
pub record IsRefused (text : List ℕ) (f : ParseFault) : Type 0 where
  pub tokens : List Token
  pub lexed : Lexed text tokens
  pub refused : RefuseWhole module_text (lexemes_from text tokens 0) (length text) f

-- The fault of a text that spells no module: a lexical fault anywhere comes first; where there is none, it is that of
-- the tokens. Want of memory is no fault of a text.
abbrev pub HasParseFault : List ℕ → ParseFault → Type 0
HasParseFault text (fault.Lex f) = HasFault text f
HasParseFault text (fault.Expected at) = IsRefused text (fault.Expected at)
HasParseFault text (fault.Unsupported at) = IsRefused text (fault.Unsupported at)
HasParseFault text (fault.Range at) = IsRefused text (fault.Range at)
HasParseFault text (fault.DeepType at) = IsRefused text (fault.DeepType at)
HasParseFault text fault.Memory = ⊥

-- the fault of the parser by that of the lexer
abbrev pub parse_fault : LexFault → ParseFault
parse_fault lex.Memory = fault.Memory
parse_fault other = fault.Lex other
