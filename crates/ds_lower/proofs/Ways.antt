-- Edges.
use Rattle.std.proofs.Common.{◌≡◌, ℕ, zero, suc, ◌<◌, Bool, true, false, if◌then◌else◌, List, [], ◌∷◌, ◌++◌, length}
use Rattle.std.proofs.Common.{map}
use Rattle.std.proofs.Common.{refl, ap, sym, ◌∙◌, subst, arith, inl, inr}
use Rattle.std.specs.Prelude.{Option, Some, None, slice_get, IfSome, flat_map}
use Rattle.std.specs.Option.{option_map, is_some}
use Rattle.std.proofs.lemmas.List.{length-map}
use Rattle.std.proofs.lemmas.Bool.Decides.{Decides-eqb}
use Rattle.std.proofs.lemmas.Slice.Eq.{bytes_eq-Decides}
use Rattle.ds_ast.specs.declared.name.Name.{Name}
use Rattle.ds_ast.specs.declared.name.Name.TheVariants.{Number, Text}
use Rattle.ds_ast.specs.declared.instr.Instr.{Instr}
use Rattle.ds_ast.specs.declared.module.Module.{Module}
use Rattle.ds_ast.specs.declared.module.Function.{Function}
use Rattle.ds_ast.specs.declared.module.Block.{Block}
use Rattle.ds_ast.specs.Bounds.{is_name}
use Rattle.ds_names.specs.Names.{Among, place_of}
use Rattle.ds_shape.specs.Site.{instructions_before}
use Rattle.ds_code.specs.declared.sources.Copying.{Copying}
use Rattle.ds_code.specs.Cells.{cells_for}
use Rattle.ds_code.specs.Lowering.{front, copied_at, copies_into, block_number, edge_by, edge_of, each_once}

-- a first place lies among the names
inside : (names : List Name) (name : Name) (n : ℕ) → place_of names name ≡ Some n → n < length names
inside [] name n e = absurd (cc)
inside (m ∷ names) name n e = by_test (λ k f. inside names name k f) (is_name m name) (place_of names name) refl e
  where
    by_test : ((k : ℕ) → place_of names name ≡ Some k → k < length names) → (t : Bool) (o : Option ℕ)
        → place_of names name ≡ o → (if t then Some 0 else option_map suc o) ≡ Some n
        → n < suc (length names)
    by_test rec true o f e = let none : 0 ≡ n = cc in omega arith
    by_test rec false None f e = absurd (cc)
    by_test rec false (Some k) f e = let one : suc k ≡ n = cc in let lt = rec k f in omega arith

-- the number of a block lies among them
pub block_inside : (f : Function) (label : Name) (found : Option ℕ) (n : ℕ) → found ≡ block_number f label → found
    ≡ Some n
    → n < length f.blocks
block_inside f label found n is some =
    let lt = inside (map (λ (b : Block). b.name) f.blocks) label n (sym is ∙ some) in
    let long : length (map (λ (b : Block). b.name) f.blocks) ≡ length f.blocks =
    length-map f.blocks (λ (b : Block). b.name) in
    omega arith

get_there : {A : Type 0} (xs : List A) (n : ℕ) → n < length xs → (x : A) × (slice_get xs n ≡ Some x)
get_there [] n lt = absurd (omega arith)
get_there (x ∷ xs) zero lt = (x, refl)
get_there (y ∷ xs) (suc n) lt = get_there xs n (omega arith)

-- the edge to a block that is there
pub edge_there : (m : Module) (f : Function) (from label : Name) (found : Option ℕ) (n target : ℕ) (copies : List
    Copying)
    (phis : List Instr) → found ≡ block_number f label → found ≡ Some n → target ≡ instructions_before f n
    → IfSome (slice_get f.blocks n) (λ b. phis ≡ front b.code)
    → copies ≡ flat_map (copied_at m (cells_for f) from) phis
    → record { target = target; copies = copies } ≡ edge_of m f from label
edge_there m f from label found n target copies phis is some at row made =
    let b = get_there f.blocks n (block_inside f label found n is some) in
    let same : phis ≡ front b.0.code = subst (λ o. IfSome o (λ c. phis ≡ front c.code)) b.1 row in
    let all : copies ≡ copies_into m (cells_for f) from (slice_get f.blocks n) =
    made ∙ ap (λ is. flat_map (copied_at m (cells_for f) from) is) same
    ∙ sym (ap (λ o. copies_into m (cells_for f) from o) b.1) in
    ap (λ (t : ℕ). record { target = t; copies = copies }) at
    ∙ ap (λ (cs : List Copying). record { target = instructions_before f n; copies = cs }) all
    ∙ sym (ap (λ o. edge_by m f from o) (sym is ∙ some))

-- a name is itself
itself : (x : Name) → is_name x x ≡ true
itself (Number n) = (Decides-eqb n n).1 refl
itself (Text bytes) = (bytes_eq-Decides bytes bytes).1 refl

-- a name that stands there has a place
among_some : (names : List Name) (x : Name) → Among x names → is_some (place_of names x) ≡ true
among_some [] x a = absurd a
among_some (y ∷ names) x (inl e) =
    subst (λ z. is_some (place_of (z ∷ names) x) ≡ true) (sym e)
    (ap (λ t. is_some (if t then Some 0 else option_map suc (place_of names x))) (itself x))
among_some (y ∷ names) x (inr a) = by_test (is_name y x) (place_of names x) (among_some names x a)
  where
    by_test : (t : Bool) (o : Option ℕ) → is_some o ≡ true → is_some (if t then Some 0 else option_map suc o) ≡ true
    by_test true o e = refl
    by_test false None e = e
    by_test false (Some n) e = refl

-- a label that stands there stays alone
pub label_there : (old now : List Name) (label : Name) → Among label old → now ≡ old → now ≡ each_once old (label ∷ [])
label_there old now label a same =
    same ∙ sym (ap (λ t. if t then old else old ++ label ∷ []) (among_some old label a))
