-- An initialiser by how many brackets may still be opened.
use Rattle.std.proofs.Common.{◌≡◌, ℕ, zero, suc, ◌-◌, List, refl, ap, arith}
use Rattle.ds_ast.specs.declared.ty.Ty.{Ty}
use Rattle.ds_ast.specs.declared.module.StructDef.{StructDef}
use Rattle.ds_grammar.specs.declared.item.InitHead.{InitHead}
use Rattle.ds_grammar.specs.Sort.{an_init}
use Rattle.ds_grammar.specs.Grammar.{Grammar}
use Rattle.ds_grammar.specs.Reading.{Place, marked, then_at, value_at}
use Rattle.ds_grammar.specs.Globals.{init_leaf, init_rest, initialiser}
use Rattle.ds_parse_global.specs.Heads.{head}

-- what stands behind the first token, which stands at a place
abbrev pub behind : List StructDef → ℕ → Ty → ℕ → InitHead → Grammar an_init
behind structs zero t at h = init_leaf at h
behind structs (suc n) t at h = init_rest structs (initialiser structs n) t h

-- the first token is read, then its mark, and then what stands behind it
pub by_head : (structs : List StructDef) (n : ℕ) (t : Ty) (p : Place)
    → value_at (initialiser structs n t) p ≡ then_at (value_at (head structs t) p)
    (λ h q. value_at (behind structs n t h.1.breach.at h.0) (marked q h.1))
unfolding initialiser
by_head structs zero t p = refl
by_head structs (suc n) t p = refl

pub behind_leaf : (structs : List StructDef) (n : ℕ) (t : Ty) (at : ℕ) (h : InitHead) → n ≡ 0
    → behind structs n t at h ≡ init_leaf at h
behind_leaf structs zero t at h e = refl
behind_leaf structs (suc n) t at h e = absurd (omega (arith, e))

pub behind_rest : (structs : List StructDef) (n : ℕ) (t : Ty) (at : ℕ) (h : InitHead) → (n ≡ 0 → ⊥)
    → behind structs n t at h ≡ init_rest structs (initialiser structs (n - 1)) t h
behind_rest structs zero t at h e = absurd (e refl)
behind_rest structs (suc n) t at h e =
    let m : n ≡ suc n - 1 = omega arith in ap (λ m. init_rest structs (initialiser structs m) t h) m
