-- What a text that spells a module can't be.
use Rattle.std.proofs.Common.{◌≡◌, ℕ, List, [], length, subst}
use Rattle.ds_ast.specs.declared.module.Module.{Module}
use Rattle.ds_lex.specs.declared.token.Token.{Token}
use Rattle.ds_lex.specs.Lexed.{Lexed}
use Rattle.ds_lex.specs.Fault.{HasFault, TokensOrFault}
use Rattle.ds_lex.specs.Written.{TokensAreUnique}
use Rattle.ds_grammar.specs.declared.fault.ParseFault.{ParseFault}
use Rattle.ds_grammar.specs.declared.fault.ParseFault.TheVariants as fault
use Rattle.ds_grammar.specs.Sort.{a_module}
use Rattle.ds_grammar.specs.Form.{Form}
use Rattle.ds_grammar.specs.Laws.{FormsAreUnique, WholesAreNotRefused}
use Rattle.ds_grammar.specs.Lexemes.{lexemes_from}
use Rattle.ds_grammar.specs.Functions.{module_text, Text}
use Rattle.ds_parse.specs.Faults.{IsRefused, HasParseFault}
use Rattle.ds_parse.specs.Laws.{TextsSpellOneModule, TextsAreNotRefused}
use Rattle.ds_parse.proofs.Parsing.{spelled_by}

pub one_module : TokensAreUnique → FormsAreUnique → TextsSpellOneModule
one_module tokens forms text m n t u =
    let P : List Token → Type 0 = λ ts. Form module_text (lexemes_from text ts 0) [] m t.marks in
    (forms a_module module_text (lexemes_from text u.tokens 0) _ m n t.marks u.marks
    (subst P (tokens text t.tokens u.tokens t.lexed u.lexed) t.form) u.form).0

-- tokens that are refused are not those of a module
not_refused : TokensAreUnique → WholesAreNotRefused → (text : List ℕ) (m : Module) (f : ParseFault) → Text text m
    → IsRefused text f → ⊥
not_refused tokens law text m f t r = law a_module module_text (lexemes_from text r.tokens 0) (length text) m f
    (spelled_by tokens text r.tokens m r.lexed t) r.refused

pub no_fault : TokensOrFault → TokensAreUnique → WholesAreNotRefused → TextsAreNotRefused
no_fault either tokens law text m (fault.Lex f) t h = either text t.tokens f t.lexed h
no_fault either tokens law text m (fault.Expected at) t h = not_refused tokens law text m _ t h
no_fault either tokens law text m (fault.Unsupported at) t h = not_refused tokens law text m _ t h
no_fault either tokens law text m (fault.Range at) t h = not_refused tokens law text m _ t h
no_fault either tokens law text m (fault.DeepType at) t h = not_refused tokens law text m _ t h
no_fault either tokens law text m fault.Memory t h = h
