-- With which fault tokens are refused.
use Rattle.std.specs.Prelude.{◌≡◌, ℕ, ◌<◌, ◌≤◌, false, if◌then◌else◌, ◌⊎◌, List, [], ◌∷◌, ◌++◌, Option, Some, None}
use Rattle.ds_grammar.specs.declared.fault.Bound.{Bound}
use Rattle.ds_grammar.specs.declared.fault.Bound.TheVariants.{Range, Depth}
use Rattle.ds_grammar.specs.declared.fault.Breach.{Breach}
use Rattle.ds_grammar.specs.declared.fault.ParseFault.{ParseFault}
use Rattle.ds_grammar.specs.declared.fault.ParseFault.TheVariants as fault
use Rattle.ds_grammar.specs.Sort.{Lexeme}
use Rattle.ds_grammar.specs.Grammar.{Mark}
use Rattle.ds_grammar.specs.Words.{is_refused_token}
use Rattle.ds_lex.specs.declared.token.TokenKind.{TokenKind}

-- this breach is made by one of these marks
abbrev pub IsBreachIn : List Mark → Breach → Type 0
IsBreachIn [] b = ⊥
IsBreachIn (m ∷ ms) b = ((m.within ≡ false) × (m.breach ≡ b)) ⊎ IsBreachIn ms b

-- every mark is within its bound
abbrev pub AreWithin : List Mark → Type 0
AreWithin ms = (b : Breach) → IsBreachIn ms b → ⊥

-- The least breach, and of those at one place the earliest: each breach of the marks before its own stands at a
-- greater place, and none of the marks behind it at a lesser one.
pub record IsLeastBreach (ms : List Mark) (b : Breach) : Type 0 where
  pub before : List Mark
  pub mark : Mark
  pub behind : List Mark
  pub split : ms ≡ before ++ mark ∷ behind
  pub made : mark.within ≡ false
  pub is : mark.breach ≡ b
  pub earliest : (c : Breach) → IsBreachIn before c → b.at < c.at
  pub least : (c : Breach) → IsBreachIn behind c → b.at ≤ c.at

-- the least breach, or that there is none
abbrev pub IsWorst : List Mark → Option Breach → Type 0
IsWorst ms None = AreWithin ms
IsWorst ms (Some b) = IsLeastBreach ms b

-- the fault of a breach of this bound, at this place
abbrev pub bound_fault : Bound → ℕ → ParseFault
bound_fault Range at = fault.Range at
bound_fault Depth at = fault.DeepType at

-- the fault of a breach
abbrev pub breach_fault : Breach → ParseFault
breach_fault b = bound_fault b.bound b.at

-- the fault of a dead token: a refused word is not supported
abbrev pub token_fault : TokenKind → List ℕ → ℕ → ParseFault
token_fault kind bytes at = if is_refused_token kind bytes then fault.Unsupported at else fault.Expected at

-- the fault of a dead end, where these tokens are left from it on and the text ends at `end`
abbrev pub dead_fault : ℕ → List Lexeme → ParseFault
dead_fault end [] = fault.Expected end
dead_fault end (t ∷ rest) = token_fault t.kind t.bytes t.at

-- the fault: that of the least breach, or where none is made that of the dead end
abbrev pub IsFault : List Mark → ParseFault → ParseFault → Type 0
IsFault ms at_dead_end f =
    ((b : Breach) × IsLeastBreach ms b × (f ≡ breach_fault b)) ⊎ (AreWithin ms × (f ≡ at_dead_end))
