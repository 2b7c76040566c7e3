-- What the answer to all tokens says of a text.
use Rattle.std.proofs.Common.{◌≡◌, ℕ, Bool, true, false, List, [], ◌∷◌, refl, sym, ap, subst, inl, inr, ◌⊎◌}
use Rattle.std.specs.Prelude.{Result, Ok, Err, length, IfOk, IfErr, if◌then◌else◌}
use Rattle.ds_ast.specs.declared.module.Module.{Module}
use Rattle.ds_lex.specs.declared.token.Token.{Token}
use Rattle.ds_lex.specs.declared.fault.LexFault.{LexFault}
use Rattle.ds_lex.specs.declared.fault.LexFault.TheVariants.{BadByte, BadName, BadNumber, OpenText}
use Rattle.ds_lex.specs.declared.fault.LexFault.TheVariants as lex
use Rattle.ds_lex.specs.Lexed.{Lexed}
use Rattle.ds_lex.specs.Fault.{HasFault, TokensOrFault}
use Rattle.ds_lex.specs.Written.{TokensAreUnique}
use Rattle.ds_grammar.specs.declared.fault.ParseFault.{ParseFault}
use Rattle.ds_grammar.specs.declared.fault.ParseFault.TheVariants as fault
use Rattle.ds_grammar.specs.Sort.{Lexeme}
use Rattle.ds_grammar.specs.Fault.{bound_fault, dead_fault}
use Rattle.ds_grammar.specs.Words.{is_refused_token}
use Rattle.ds_grammar.specs.declared.fault.Bound.{Bound}
use Rattle.ds_grammar.specs.declared.fault.Bound.TheVariants.{Range, Depth}
use Rattle.ds_grammar.specs.Lexemes.{lexemes_from}
use Rattle.ds_grammar.specs.Parsed.{SpellWhole, RefuseWhole}
use Rattle.ds_grammar.specs.Functions.{module_text, Text}
use Rattle.ds_parse.specs.Faults.{IsRefused, HasParseFault, parse_fault}

-- the tokens of a text spell the module of the text
pub text_of : (text : List ℕ) (ts : List Token) (m : Module) → Lexed text ts
    → SpellWhole module_text (lexemes_from text ts 0) m → Text text m
unfolding SpellWhole
text_of text ts m l h = record { tokens = ts; lexed = l; marks = h.0; form = h.1; within = h.2 }

-- the module of a text is spelled by its tokens
pub spelled_by : TokensAreUnique → (text : List ℕ) (ts : List Token) (m : Module) → Lexed text ts → Text text m
    → SpellWhole module_text (lexemes_from text ts 0) m
unfolding SpellWhole
spelled_by unique text ts m l t =
    let P : List Token → Type 0 = λ us. SpellWhole module_text (lexemes_from text us 0) m in
    subst P (unique text t.tokens ts t.lexed l) (t.marks, t.form, t.within)

-- a fault of all tokens is one of the text
refused_as : (text : List ℕ) (ts : List Token) (f : ParseFault) → Lexed text ts
    → RefuseWhole module_text (lexemes_from text ts 0) (length text) f → IsRefused text f
refused_as text ts f l h = record { tokens = ts; lexed = l; refused = h }

-- no tokens are refused with a lexical fault or for want of memory
abbrev IsOfTokens : ParseFault → Type 0
IsOfTokens (fault.Lex f) = ⊥
IsOfTokens (fault.Expected at) = Unit {0}
IsOfTokens (fault.Unsupported at) = Unit {0}
IsOfTokens (fault.Range at) = Unit {0}
IsOfTokens (fault.DeepType at) = Unit {0}
IsOfTokens fault.Memory = ⊥

bound_is : (b : Bound) (at : ℕ) → IsOfTokens (bound_fault b at)
bound_is Range at = tt
bound_is Depth at = tt

token_is : (b : Bool) (at : ℕ) → IsOfTokens (if b then fault.Unsupported at else fault.Expected at)
token_is true at = tt
token_is false at = tt

dead_is : (end : ℕ) (ts : List Lexeme) → IsOfTokens (dead_fault end ts)
dead_is end [] = tt
dead_is end (t ∷ ts) = token_is (is_refused_token t.kind t.bytes) t.at

of_tokens : (text : List ℕ) (ts : List Token) (f : ParseFault)
    → RefuseWhole module_text (lexemes_from text ts 0) (length text) f → IsOfTokens f
unfolding RefuseWhole
of_tokens text ts f (front, rest, ms, d, h, inl (b, least, e)) = subst IsOfTokens (sym e) (bound_is b.bound b.at)
of_tokens text ts f (front, rest, ms, d, h, inr (w, none, e)) = subst IsOfTokens (sym e) (dead_is (length text) rest)

by_fault : (text : List ℕ) (f : ParseFault) → IsOfTokens f → IsRefused text f → HasParseFault text f
by_fault text (fault.Lex f) h r = absurd h
by_fault text (fault.Expected at) h r = r
by_fault text (fault.Unsupported at) h r = r
by_fault text (fault.Range at) h r = r
by_fault text (fault.DeepType at) h r = r
by_fault text fault.Memory h r = absurd h

pub parse_fault_of : (text : List ℕ) (ts : List Token) (f : ParseFault) → Lexed text ts
    → RefuseWhole module_text (lexemes_from text ts 0) (length text) f → HasParseFault text f
parse_fault_of text ts f l h = by_fault text f (of_tokens text ts f h) (refused_as text ts f l h)

-- THE CLAUSES

-- the module of the tokens is that of the text
pub is_text : (text : List ℕ) (ts : List Token) (r : Result Module ParseFault) → Lexed text ts
    → IfOk r (λ m. SpellWhole module_text (lexemes_from text ts 0) m) → IfOk r (λ m. Text text m)
is_text text ts (Ok m) l h = text_of text ts m l h
is_text text ts (Err f) l h = tt

-- the fault of the tokens is one of the text
pub has_fault : (text : List ℕ) (ts : List Token) (r : Result Module ParseFault) → Lexed text ts
    → IfErr r (λ f. (f ≡ fault.Memory) ⊎ RefuseWhole module_text (lexemes_from text ts 0) (length text) f)
    → IfErr r (λ f. (f ≡ fault.Memory) ⊎ HasParseFault text f)
has_fault text ts (Ok m) l h = tt
has_fault text ts (Err f) l (inl m) = inl m
has_fault text ts (Err f) l (inr h) = inr (parse_fault_of text ts f l h)

-- a fault of the text is one of all tokens
refused_by : TokensAreUnique → (text : List ℕ) (ts : List Token) (f : ParseFault) → Lexed text ts → IsRefused text f
    → RefuseWhole module_text (lexemes_from text ts 0) (length text) f
refused_by unique text ts f l r =
    let P : List Token → Type 0 = λ us. RefuseWhole module_text (lexemes_from text us 0) (length text) f in
    subst P (unique text r.tokens ts r.lexed l) r.refused

pub only_refused : TokensAreUnique → TokensOrFault → (text : List ℕ) (ts : List Token) (f : ParseFault)
    → Lexed text ts → HasParseFault text f
    → RefuseWhole module_text (lexemes_from text ts 0) (length text) f
only_refused unique either text ts (fault.Lex f) l h = absurd (either text ts f l h)
only_refused unique either text ts (fault.Expected at) l h = refused_by unique text ts (fault.Expected at) l h
only_refused unique either text ts (fault.Unsupported at) l h = refused_by unique text ts (fault.Unsupported at) l h
only_refused unique either text ts (fault.Range at) l h = refused_by unique text ts (fault.Range at) l h
only_refused unique either text ts (fault.DeepType at) l h = refused_by unique text ts (fault.DeepType at) l h
only_refused unique either text ts fault.Memory l h = absurd h

-- this fault is told, or there was not enough memory
abbrev IsTold : {A E : Type 0} → Result A E → E → E → Type 0
IsTold r f memory = (r ≡ Err f) ⊎ (r ≡ Err memory)

err_same : {A E : Type 0} (f g : E) → ◌≡◌ {A = Result A E} (Err f) (Err g) → f ≡ g
err_same f g e = cc (e)

-- want of memory is passed on
no_memory : (g : LexFault) (h : ParseFault) → g ≡ lex.Memory → IsTold {A = Module} (Err (parse_fault g)) h fault.Memory
no_memory g h e = inr (ap (λ x. Err (parse_fault x)) e)

-- the fault of the lexer is that of the text
lexical_is : (g f : LexFault) → g ≡ f → IsTold {A = Module} (Err (parse_fault g)) (fault.Lex f) fault.Memory
lexical_is g (BadByte at) e = inl (ap (λ x. Err (parse_fault x)) e)
lexical_is g (BadName at) e = inl (ap (λ x. Err (parse_fault x)) e)
lexical_is g (BadNumber at) e = inl (ap (λ x. Err (parse_fault x)) e)
lexical_is g (OpenText at) e = inl (ap (λ x. Err (parse_fault x)) e)
lexical_is g lex.Memory e = inr (ap (λ x. Err (parse_fault x)) e)

module _ (text : List ℕ) (g : LexFault) (only : (ts : List Token) → Lexed text ts → g ≡ lex.Memory)
    (only_fault : (f : LexFault) → HasFault text f → IsTold {A = List Token} (Err g) f lex.Memory) where
  lexical_told : (f : LexFault) → IsTold {A = List Token} (Err g) f lex.Memory
      → IsTold {A = Module} (Err (parse_fault g)) (fault.Lex f) fault.Memory
  lexical_told f (inl e) = lexical_is g f (err_same g f e)
  lexical_told f (inr e) = no_memory g (fault.Lex f) (err_same g lex.Memory e)

  refused_told : (f : ParseFault) → IsRefused text f → IsTold {A = Module} (Err (parse_fault g)) f fault.Memory
  refused_told f r = no_memory g f (only r.tokens r.lexed)

  -- where the lexer finds a fault, it is the one of the text
  pub only_lexical : (f : ParseFault) → HasParseFault text f → IsTold {A = Module} (Err (parse_fault g)) f fault.Memory
  only_lexical (fault.Lex f) h = lexical_told f (only_fault f h)
  only_lexical (fault.Expected at) h = refused_told (fault.Expected at) h
  only_lexical (fault.Unsupported at) h = refused_told (fault.Unsupported at) h
  only_lexical (fault.Range at) h = refused_told (fault.Range at) h
  only_lexical (fault.DeepType at) h = refused_told (fault.DeepType at) h
  only_lexical fault.Memory h = absurd h

-- the fault of the lexer is told, or there was not enough memory
pub told : (text : List ℕ) (f : LexFault) → (f ≡ lex.Memory) ⊎ HasFault text f → (parse_fault f ≡ fault.Memory)
    ⊎ HasParseFault text (parse_fault f)
told text (BadByte at) (inl m) = absurd (cc m)
told text (BadName at) (inl m) = absurd (cc m)
told text (BadNumber at) (inl m) = absurd (cc m)
told text (OpenText at) (inl m) = absurd (cc m)
told text (BadByte at) (inr h) = inr h
told text (BadName at) (inr h) = inr h
told text (BadNumber at) (inr h) = inr h
told text (OpenText at) (inr h) = inr h
told text lex.Memory h = inl refl
