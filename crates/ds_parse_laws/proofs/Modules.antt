-- Modules are within their bounds.
use Rattle.std.proofs.Common.{◌≡◌, ℕ, ◌<◌, ◌^◌, Bool, true, false, cond, List, [], ◌∷◌, ◌++◌, sym, subst}
use Rattle.std.proofs.Common.{append_assoc, append-nil}
use Rattle.std.specs.Prelude.{All, Some, None, codes}
use Rattle.std.specs.Str.{bytes_eq}
use Rattle.std.proofs.lemmas.List.Elements.{All-nil, All-push, All-weaker}
use Rattle.ds_lex.specs.declared.token.TokenKind.{TokenKind}
use Rattle.ds_lex.specs.declared.token.TokenKind.TheVariants as kind
use Rattle.ds_ast.specs.declared.module.Module.{Module}
use Rattle.ds_ast.specs.declared.module.StructDef.{StructDef}
use Rattle.ds_ast.specs.declared.module.GlobalDef.{GlobalDef}
use Rattle.ds_ast.specs.Bounds.{IsName, IsStruct, IsGlobal, IsFunction, Bounds}
use Rattle.ds_grammar.specs.declared.item.Entity.{Entity}
use Rattle.ds_grammar.specs.declared.item.Entity.TheVariants as entity
use Rattle.ds_grammar.specs.Tokens.{token_name}
use Rattle.ds_grammar.specs.Functions.{entity_word, entity_of, entity_rest, module_text}
use Rattle.ds_parse_laws.specs.Laws.{TokensAreWithinBounds}
use Rattle.ds_parse_laws.proofs.Within.{Within, done, skip, run, weaker, ◌⨾◌}
use Rattle.ds_parse_laws.proofs.Leaves.{mapped, token_name_is}
use Rattle.ds_parse_laws.proofs.Bodies.{define_within, declare_within}
use Rattle.ds_parse_laws.proofs.Initialisers.{Lasts, global_within, struct_within}

-- a module so far
record Grows (m : Module) : Type 0 where
  pub structs : All IsStruct m.structs
  pub globals : All (Lasts m.structs) m.globals
  pub functions : All IsFunction m.functions

-- what an entity begins with
abbrev IsEntity : Entity → Type 0
IsEntity (entity.Struct n) = IsName n
IsEntity (entity.Global n) = IsName n
IsEntity other = Unit {0}

word_is : (bs : List ℕ) (v : Entity) → entity_word bs ≡ Some v → IsEntity v
word_is bs v e = by (bytes_eq bs (codes "source_filename")) (bytes_eq bs (codes "target"))
    (bytes_eq bs (codes "declare")) (bytes_eq bs (codes "define")) (bytes_eq bs (codes "attributes")) e
  where
    by : (a b c d f : Bool) → cond a (Some entity.SourceFilename)
        (cond b (Some entity.Target) (cond c (Some entity.Declare)
        (cond d (Some entity.Define) (cond f (Some entity.Attributes) None)))) ≡ Some v → IsEntity v
    by true b c d f e = let same : entity.SourceFilename ≡ v = cc (e) in subst IsEntity same tt
    by false true c d f e = let same : entity.Target ≡ v = cc (e) in subst IsEntity same tt
    by false false true d f e = let same : entity.Declare ≡ v = cc (e) in subst IsEntity same tt
    by false false false true f e = let same : entity.Define ≡ v = cc (e) in subst IsEntity same tt
    by false false false false true e = let same : entity.Attributes ≡ v = cc (e) in subst IsEntity same tt
    by false false false false false e = absurd (cc (e))

entity_is : (k : TokenKind) (bs : List ℕ) (v : Entity) → All (λ b. b < 2 ^ 8) bs → entity_of k bs ≡ Some v → IsEntity v
entity_is kind.Word bs v h e = word_is bs v e
entity_is kind.Local bs v h e = let (n, i, same) = mapped (λ n. entity.Struct n) (token_name bs) v e in
    subst IsEntity (sym same) (token_name_is bs n h i)
entity_is kind.Global bs v h e = let (n, i, same) = mapped (λ n. entity.Global n) (token_name bs) v e in
    subst IsEntity (sym same) (token_name_is bs n h i)
entity_is kind.Meta bs v h e = let same : entity.Metadata ≡ v = cc (e) in subst IsEntity same tt
entity_is other bs v h e = absurd (cc (e))

still_lasts : (structs : List StructDef) (s : StructDef) (g : GlobalDef) → Lasts structs g
    → Lasts (structs ++ s ∷ []) g
still_lasts structs s g h =
    record { is = λ more. subst (λ all. IsGlobal all g) (sym (append_assoc structs (s ∷ []) more)) (h.is (s ∷ more)) }

entity_within : (m : Module) (v : Entity) → Grows m → IsEntity v → Within (entity_rest m v) Grows
entity_within m entity.SourceFilename h i = skip (λ u. done m h)
entity_within m entity.Target h i = skip (λ u. done m h)
entity_within m (entity.Struct n) h i =
    struct_within n i ⨾ (λ s j. done (record {
      structs = m.structs ++ s ∷ [];
      globals = m.globals;
      functions =
          m.functions;
    }) (record {
      structs = All-push IsStruct m.structs s h.structs j;
      globals =
          All-weaker (Lasts m.structs) (Lasts (m.structs ++ s ∷ [])) (still_lasts m.structs s) m.globals h.globals;
      functions = h.functions;
    }))
entity_within m (entity.Global n) h i =
    global_within m.structs n i ⨾ (λ g j. done (record
    { structs = m.structs; globals = m.globals ++ g ∷ []; functions = m.functions }) (record {
      structs = h.structs;
      globals = All-push (Lasts m.structs) m.globals g h.globals j;
      functions = h.functions;
    }))
entity_within m entity.Declare h i =
    declare_within ⨾ (λ f j. done (record {
      structs = m.structs;
      globals = m.globals;
      functions = m.functions ++ f ∷
          [];
    }) (record {
      structs = h.structs;
      globals = h.globals;
      functions = All-push IsFunction m.functions f h.functions j;
    }))
entity_within m entity.Define h i =
    define_within ⨾ (λ f j. done (record {
      structs = m.structs;
      globals = m.globals;
      functions = m.functions ++ f ∷ [];
    }) (record {
      structs = h.structs;
      globals = h.globals;
      functions = All-push IsFunction m.functions f h.functions j;
    }))
entity_within m entity.Attributes h i = skip (λ u. done m h)
entity_within m entity.Metadata h i = skip (λ u. done m h)

grown : (m : Module) → Grows m → Bounds m
grown m h = record {
  structs = h.structs;
  globals = All-weaker (Lasts m.structs) (IsGlobal m.structs)
      (λ g i. subst (λ all. IsGlobal all g) (append-nil m.structs) (i.is [])) m.globals h.globals;
  functions = h.functions;
}

module_within : Within module_text Bounds
unfolding module_text
module_within =
    weaker (run {P = Grows} (record {
      structs = All-nil IsStruct;
      globals = All-nil
          (Lasts []);
      functions = All-nil IsFunction;
    })
    (λ m t v p b e. entity_within m v p (entity_is t.kind t.bytes v b e))) grown

pub tokens_within : TokensAreWithinBounds
tokens_within ts m marks bytes few form within =
    module_within.is ts [] m marks form within (record { bytes = bytes; few = few })
