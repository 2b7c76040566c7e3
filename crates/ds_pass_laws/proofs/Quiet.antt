-- No function of an accepted module is named ds_note, and no instruction calls it.
use Rattle.std.proofs.Common.{◌≡◌, ℕ, suc, ◌+◌, Bool, true, false, if◌then◌else◌, List, [], ◌∷◌, ◌++◌, ◌⊎◌, inl}
use Rattle.std.proofs.Common.{inr}
use Rattle.std.proofs.Common.{length, Option, Some, None, slice_get, refl, ap, sym, ◌∙◌, subst}
use Rattle.std.specs.Prelude.{All, codes}
use Rattle.std.specs.Option.{option_map}
use Rattle.std.proofs.lemmas.List.Elements.{All-head, All-tail}
use Rattle.std.proofs.lemmas.Option.{slice_get-map}
use Rattle.ds_ast.specs.declared.name.Name.{Name}
use Rattle.ds_ast.specs.declared.name.Name.TheVariants.{Text}
use Rattle.ds_ast.specs.declared.instr.Op.{Op}
use Rattle.ds_ast.specs.declared.instr.Op.TheVariants.{Bin, Icmp, Select, Cast, Alloca, Load, Store, Gep, Call, Phi}
use Rattle.ds_ast.specs.declared.instr.Op.TheVariants.{Rmw, Cmpxchg, Extract, Fence, Ret, Br, CondBr, Switch}
use Rattle.ds_ast.specs.declared.instr.Op.TheVariants.{Unreachable}
use Rattle.ds_ast.specs.declared.instr.Instr.{Instr}
use Rattle.ds_ast.specs.declared.module.Module.{Module}
use Rattle.ds_ast.specs.declared.module.Function.{Function}
use Rattle.ds_ast.specs.declared.module.Block.{Block}
use Rattle.ds_ast.specs.Bounds.{is_name}
use Rattle.ds_names.specs.Names.{Among, place_of}
use Rattle.ds_shape.specs.Types.{Stands, IsTypedOp}
use Rattle.ds_shape.specs.Site.{function_number}
use Rattle.ds_shape.specs.Placed.{Placed, placed_in, placed_from}
use Rattle.ds_shape.specs.Accepted.{IsReserved, IsGoodExternal, IsGoodInstr, IsGood, Accepted}
use Rattle.ds_meaning.specs.Callees.{Callee, Defined, Declared, Unknown, External, externals, external_among, is_note}
use Rattle.ds_meaning.specs.Callees.{callee_by, callee_at, callee_numbered, callee_of, is_ds_note}
use Rattle.ds_meaning.specs.Places.{is_note_call}
use Rattle.ds_code_laws.proofs.Composed.{all_get}
use Rattle.ds_code_laws.proofs.Named.{names_decide, stands_there, among_stands}
use Rattle.ds_pass.specs.Noted.{note_name, noted}
use Rattle.ds_pass_laws.proofs.Shifted.{NoNotes}
use Rattle.ds_pass_laws.proofs.Called.{names, noted_callee, callee_kept}
use Rattle.ds_pass_laws.proofs.Passed.{AreQuiet, IsQuiet}

-- NAMES THAT ARE KEPT FOR THE PASS

-- the name of ds_note is one of them
reserved : (name : Name) → name ≡ note_name → IsReserved name
reserved name e = subst IsReserved (sym e) (codes "note", refl)

unnamed_by : (fs : List Function) → All IsGoodExternal fs → place_of (names fs) note_name ≡ None
unnamed_by [] good = refl
unnamed_by (f ∷ fs) good = by_test (unnamed_by fs (All-tail IsGoodExternal f fs good)) (is_name f.name note_name) refl
  where
    by_test : place_of (names fs) note_name ≡ None → (t : Bool) → is_name f.name note_name ≡ t
        → (if t then Some 0 else option_map suc (place_of (names fs) note_name)) ≡ None
    by_test rec true is =
        absurd ((All-head IsGoodExternal f fs good).0 (reserved f.name ((names_decide f.name note_name).0 is)))
    by_test rec false is = ap (λ o. option_map suc o) rec

-- CALLS

-- only the last of these notes
abbrev AllKnown : List (List ℕ × External) → Type 0
AllKnown [] = Unit {0}
AllKnown (e ∷ es) = ((is_note e.1 ≡ false) ⊎ (Text e.0 ≡ note_name)) × AllKnown es

among_free : (es : List (List ℕ × External)) (name : Name) → AllKnown es → (IsReserved name → ⊥)
    → is_ds_note (external_among es name) ≡ false
among_free [] name known free = refl
among_free (e ∷ es) name known free =
    by_test (among_free es name known.1 free) known.0 (is_name (Text e.0) name) refl
  where
    by_test : is_ds_note (external_among es name) ≡ false → (is_note e.1 ≡ false) ⊎ (Text e.0 ≡ note_name) → (t : Bool)
        → is_name (Text e.0) name ≡ t
        → is_ds_note (if t then Declared e.1 else external_among es name) ≡ false
    by_test rec (inl none) true is = none
    by_test rec (inr same) true is =
        absurd (free (reserved name (sym ((names_decide (Text e.0) name).0 is) ∙ same)))
    by_test rec k false is = rec

among_in : (before after : List Function) (f : Function) → Among f.name (names (before ++ f ∷ after))
among_in [] after f = inl refl
among_in (g ∷ before) after f = inr (among_in before after f)

-- a function that stands in the module has a number
pub numbered : (m : Module) (name : Name) (f : Function) → Stands f m.functions → f.name ≡ name
    → (n : ℕ) × (function_number m name ≡ Some n)
numbered m name f stands same =
    let s = among_stands (names m.functions) name (subst (λ x. Among x (names m.functions)) same
    (subst (λ (fs : List Function). Among f.name (names fs)) (sym stands.2) (among_in stands.0 stands.1 f))) in
    (s.place, s.is)

module _ (m : Module) (accepted : Accepted m) where
  function_free : (n : ℕ) (f : Function) (bs : List Block) → slice_get m.functions n ≡ Some f
      → is_ds_note (callee_by n f bs) ≡ false
  function_free n f [] e =
      among_free externals f.name (inl refl, (inl refl, (inl refl, (inl refl, (inl refl, (inr refl, tt))))))
      (all_get IsGoodExternal m.functions n f accepted.no_bad_external e).0
  function_free n f (b ∷ bs) e = refl

  callee_free : (name : Name) → is_ds_note (callee_of m name) ≡ false
  callee_free name = by_number (function_number m name)
    where
      by_function : (n : ℕ) (o : Option Function) → slice_get m.functions n ≡ o → is_ds_note (callee_at n o) ≡ false
      by_function n None e = refl
      by_function n (Some f) e = function_free n f f.blocks e

      by_number : (o : Option ℕ) → is_ds_note (callee_numbered m o) ≡ false
      by_number None = refl
      by_number (Some n) = by_function n (slice_get m.functions n) refl

  -- with its notes it is none either
  noted_free : (callee : Callee) → is_ds_note callee ≡ false → is_ds_note (noted_callee callee) ≡ false
  noted_free (Defined n f) e = refl
  noted_free (Declared external) e = e
  noted_free Unknown e = refl

  -- a call of a function that stands in the module is none, with the notes as without them
  named_free : (name : Name) (f : Function) → Stands f m.functions → f.name ≡ name
      → is_ds_note (callee_of (noted m) name) ≡ false
  named_free name f stands same =
      let s = numbered m name f stands same in by_function s.0 s.1 (slice_get m.functions s.0) refl
    where
      by_function : (n : ℕ) → function_number m name ≡ Some n → (o : Option Function) → slice_get m.functions n ≡ o
          → is_ds_note (callee_of (noted m) name) ≡ false
      by_function n is None e =
          let named : Some name ≡ None = sym (stands_there (names m.functions) name n is)
          ∙ slice_get-map (λ (g : Function). g.name) m.functions n
          ∙ ap (λ o. option_map (λ (g : Function). g.name) o) e in
          absurd (cc named)
      by_function n is (Some g) e =
          ap is_ds_note (callee_kept m name n g is e)
          ∙ noted_free (callee_by n g g.blocks) (function_free n g g.blocks e)

  -- INSTRUCTIONS

  op_free : (op : Op) → is_note_call m op ≡ false
  op_free (Bin op ty a b) = refl
  op_free (Icmp cond ty a b) = refl
  op_free (Select c ty a b) = refl
  op_free (Cast op from a to) = refl
  op_free (Alloca ty count) = refl
  op_free (Load ty at) = refl
  op_free (Store ty value at) = refl
  op_free (Gep ty base indices) = refl
  op_free (Call result callee args) = callee_free callee
  op_free (Phi ty arms) = refl
  op_free (Rmw op at ty value) = refl
  op_free (Cmpxchg at ty expected new) = refl
  op_free (Extract ty of index) = refl
  op_free Fence = refl
  op_free (Ret value) = refl
  op_free (Br label) = refl
  op_free (CondBr c first second) = refl
  op_free (Switch ty value other cases) = refl
  op_free Unreachable = refl

  noted_op_free : (f : Function) (op : Op) → IsTypedOp m f op → is_note_call (noted m) op ≡ false
  noted_op_free f (Bin op ty a b) typed = refl
  noted_op_free f (Icmp cond ty a b) typed = refl
  noted_op_free f (Select c ty a b) typed = refl
  noted_op_free f (Cast op from a to) typed = refl
  noted_op_free f (Alloca ty count) typed = refl
  noted_op_free f (Load ty at) typed = refl
  noted_op_free f (Store ty value at) typed = refl
  noted_op_free f (Gep ty base indices) typed = refl
  noted_op_free f (Call result callee args) typed = named_free callee typed.1.0 typed.1.1 typed.1.2
  noted_op_free f (Phi ty arms) typed = refl
  noted_op_free f (Rmw op at ty value) typed = refl
  noted_op_free f (Cmpxchg at ty expected new) typed = refl
  noted_op_free f (Extract ty of index) typed = refl
  noted_op_free f Fence typed = refl
  noted_op_free f (Ret value) typed = refl
  noted_op_free f (Br label) typed = refl
  noted_op_free f (CondBr c first second) typed = refl
  noted_op_free f (Switch ty value other cases) typed = refl
  noted_op_free f Unreachable typed = refl

  -- the instructions of a block, in front of what stands behind it
  code_free : (f : Function) (number : ℕ) (b : Block) (front code : List Instr) (rest : List Placed)
      → All (IsGoodInstr m f) (placed_in number b front code ++ rest)
      → NoNotes m code × NoNotes (noted m) code × All (IsGoodInstr m f) rest
  code_free f number b front [] rest good = (tt, tt, good)
  code_free f number b front (i ∷ code) rest good =
      let p : Placed = record { number = number; block = b; front = front; instr = i } in
      let more = placed_in (suc number) b (front ++ i ∷ []) code ++ rest in
      let head = All-head (IsGoodInstr m f) p more good in
      let tail = code_free f (suc number) b (front ++ i ∷ []) code rest (All-tail (IsGoodInstr m f) p more good) in
      ((op_free i.op, tail.0), (noted_op_free f i.op head.no_wrong_type, tail.1), tail.2)

  blocks_free : (f : Function) (number : ℕ) (bs : List Block) → All (IsGoodInstr m f) (placed_from number bs)
      → AreQuiet m bs
  blocks_free f number [] good = tt
  blocks_free f number (b ∷ bs) good =
      let first = code_free f number b [] b.code (placed_from (number + length b.code) bs) good in
      (first.0, first.1, blocks_free f (number + length b.code) bs first.2)

  function_quiet : (f : Function) (bs : List Block) → f.blocks ≡ bs → IsGood m f → AreQuiet m bs
  function_quiet f [] e good = tt
  function_quiet f (b ∷ bs) e good =
      subst (AreQuiet m) e (blocks_free f 0 f.blocks (good (λ none. absurd (cc (e, none)))).instructions)

  -- so it is quiet
  pub is_quiet : IsQuiet m
  is_quiet = record {
    unnamed = unnamed_by m.functions accepted.no_bad_external;
    uncalled = λ n f e.
        function_quiet f f.blocks refl (all_get (IsGood m) m.functions n f accepted.well_formed.functions e);
  }
