-- The code of an instruction stands at its place.
use Rattle.std.proofs.Common.{◌≡◌, ℕ, zero, suc, ◌+◌, ◌-◌, Bool, true, false, not, if◌then◌else◌, List, [], ◌∷◌}
use Rattle.std.proofs.Common.{◌++◌}
use Rattle.std.proofs.Common.{length, map, take, Option, Some, None, slice_get, refl, ap, sym, ◌∙◌, subst, arith}
use Rattle.std.proofs.Common.{length-append}
use Rattle.std.specs.Prelude.{filter, flat_map, option_map}
use Rattle.ds_ast.specs.declared.name.Name.{Name}
use Rattle.ds_ast.specs.declared.instr.Instr.{Instr}
use Rattle.ds_ast.specs.declared.module.Module.{Module}
use Rattle.ds_ast.specs.declared.module.Function.{Function}
use Rattle.ds_ast.specs.declared.module.Block.{Block}
use Rattle.ds_ast.specs.Bounds.{is_name}
use Rattle.ds_names.specs.Names.{place_of}
use Rattle.ds_meaning.specs.Frames.{block_among, entry_of}
use Rattle.ds_meaning.specs.Places.{is_note_call, counted, counted_to}
use Rattle.ds_code.specs.declared.ops.CodeInstr.{CodeInstr}
use Rattle.ds_code.specs.Lowering.{seen_with, lowered_instr, lowered_code, lowered_blocks}
use Rattle.ds_code_laws.proofs.Named.{names_decide, at_head}

abbrev pub labels : List Block → List Name
labels bs = map (λ (b : Block). b.name) bs

-- how many instructions the blocks have
abbrev pub total : List Block → ℕ
total bs = length (flat_map (λ (b : Block). b.code) bs)

pub get_left : {A : Type 0} (xs ys : List A) (k : ℕ) (x : A) → slice_get xs k ≡ Some x → slice_get (xs ++ ys) k ≡ Some x
get_left [] ys k x e = absurd (cc)
get_left (z ∷ xs) ys zero x e = e
get_left (z ∷ xs) ys (suc k) x e = get_left xs ys k x e

pub get_right : {A : Type 0} (xs ys : List A) (n k : ℕ) → n ≡ length xs + k → slice_get (xs ++ ys) n ≡ slice_get ys k
get_right [] ys n k e = let same : n ≡ k = omega arith in ap (λ j. slice_get ys j) same
get_right (z ∷ xs) ys zero k e = absurd (omega arith)
get_right (z ∷ xs) ys (suc n) k e = get_right xs ys n k (omega arith)

-- the block of a label, by its number
pub record Numbered (bs : List Block) (label : Name) (b : Block) : Type 0 where
  pub number : ℕ
  pub is : place_of (labels bs) label ≡ Some number
  pub stands : slice_get bs number ≡ Some b
  pub named : b.name ≡ label

pub block_found : (bs : List Block) (label : Name) (b : Block) → block_among bs label ≡ Some b → Numbered bs label b
block_found [] label b e = absurd (cc)
block_found (c ∷ bs) label b e = by_test (λ f. block_found bs label b f) (is_name c.name label) refl e
  where
    by_test : (block_among bs label ≡ Some b → Numbered bs label b) → (t : Bool) → is_name c.name label ≡ t
        → (if t then Some c else block_among bs label) ≡ Some b → Numbered (c ∷ bs) label b
    by_test rec true is e =
        let same : c ≡ b = cc in
        record {
          number = 0;
          is = ap (λ t. if t then Some 0 else option_map suc (place_of (labels bs) label)) is;
          stands = ap (λ (x : Block). Some x) same;
          named = subst (λ (x : Block). x.name ≡ label) same ((names_decide c.name label).0 is);
        }
    by_test rec false is e =
        let n = rec e in
        record {
          number = suc n.number;
          is = ap (λ t. if t then Some 0 else option_map suc (place_of (labels bs) label)) is
              ∙ ap (λ o. option_map suc o) n.is;
          stands = n.stands;
          named = n.named;
        }

-- nothing stands before the first block
pub entry_there : (bs : List Block) (n : ℕ) → place_of (labels bs) (entry_of bs) ≡ Some n → 0 ≡ total (take n bs) + 0
entry_there [] n e = absurd (cc)
entry_there (b ∷ bs) n e =
    let none : 0 ≡ n = (let both : Some 0 ≡ Some n = sym (at_head b.name (labels bs)) ∙ e in cc) in
    subst (λ k. 0 ≡ total (take k (b ∷ bs)) + 0) none refl

-- one instruction more is counted
counted_more : (m : Module) (i : Instr) (is : List Instr) (seen : ℕ)
    → seen_with m i seen + counted m is ≡ seen + counted m (i ∷ is)
counted_more m i is seen = by_test (not (is_note_call m i.op))
  where
    rest : List Instr
    rest = filter (λ (j : Instr). not (is_note_call m j.op)) is

    by_test : (t : Bool) → (if t then suc seen else seen) + length rest ≡ seen + length (if t then i ∷ rest else rest)
    by_test true = omega arith
    by_test false = omega arith

counted_none : (m : Module) (i : Instr) (seen : ℕ) → seen_with m i seen ≡ seen + counted m (i ∷ [])
counted_none m i seen = let e : seen_with m i seen + 0 ≡ seen + counted m (i ∷ []) = counted_more m i [] seen in omega
    arith

-- the instruction k of a block
block_code : (m : Module) (f : Function) (from : Name) (seen : ℕ) (is : List Instr) (k : ℕ) (i : Instr)
    → slice_get is k ≡ Some i
    → slice_get (lowered_code m f from seen is) k
    ≡ Some (lowered_instr m f from (seen + counted m (take (suc k) is) - 1) i)
block_code m f from seen [] k i e = absurd (cc)
block_code m f from seen (j ∷ is) zero i e =
    let same : j ≡ i = cc in
    ap (λ n. Some (lowered_instr m f from (n - 1) j)) (counted_none m j seen)
    ∙ ap (λ (u : Instr). Some (lowered_instr m f from (seen + counted m (j ∷ []) - 1) u)) same
block_code m f from seen (j ∷ is) (suc k) i e =
    block_code m f from (seen_with m j seen) is k i e
    ∙ ap (λ n. Some (lowered_instr m f from (n - 1) i)) (counted_more m j (take (suc k) is) seen)

block_long : (m : Module) (f : Function) (from : Name) (seen : ℕ) (is : List Instr)
    → length (lowered_code m f from seen is) ≡ length is
block_long m f from seen [] = refl
block_long m f from seen (i ∷ is) = ap suc (block_long m f from (seen_with m i seen) is)

-- the instruction k of the block of a label
pub code_found : (m : Module) (f : Function) (seen : ℕ) (bs : List Block) (label : Name) (n k : ℕ) (b : Block) (i :
    Instr)
    → place_of (labels bs) label ≡ Some n → slice_get bs n ≡ Some b → slice_get b.code k ≡ Some i
    → slice_get (lowered_blocks m f seen bs) (total (take n bs) + k)
    ≡ Some (lowered_instr m f label (seen + counted_to m bs label k - 1) i)
code_found m f seen [] label n k b i p s e = absurd (cc)
code_found m f seen (c ∷ bs) label n k b i p s e =
    by_test (λ j q r. code_found m f (seen + counted m c.code) bs label j k b i q r e) (is_name c.name label) refl n p s
  where
    front : List CodeInstr
    front = lowered_code m f c.name seen c.code

    back : List CodeInstr
    back = lowered_blocks m f (seen + counted m c.code) bs

    by_number : ((j : ℕ) → place_of (labels bs) label ≡ Some j → slice_get bs j ≡ Some b
        → slice_get back (total (take j bs) + k)
        ≡ Some (lowered_instr m f label (seen + counted m c.code + counted_to m bs label k - 1) i))
        → (o : Option ℕ) → place_of (labels bs) label ≡ o → (n : ℕ) → option_map suc o ≡ Some n
        → slice_get (c ∷ bs) n ≡ Some b
        → slice_get (front ++ back) (total (take n (c ∷ bs)) + k)
        ≡ Some (lowered_instr m f label (seen + (counted m c.code + counted_to m bs label k) - 1) i)
    by_number rec None q n p s = absurd (cc)
    by_number rec (Some j) q zero p s = absurd (let bad : suc j ≡ 0 = cc in omega arith)
    by_number rec (Some j) q (suc n) p s =
        let same : j ≡ n = (let both : suc j ≡ suc n = cc in omega arith) in
        let place : place_of (labels bs) label ≡ Some n = q ∙ ap (λ x. Some x) same in
        let long : length front ≡ length c.code = block_long m f c.name seen c.code in
        let all : total (c ∷ take n bs) ≡ length c.code + total (take n bs) =
        length-append c.code (flat_map (λ (d : Block). d.code) (take n bs)) in
        let sum : seen + counted m c.code + counted_to m bs label k
        ≡ seen + (counted m c.code + counted_to m bs label k) =
        omega arith in
        get_right front back (total (c ∷ take n bs) + k) (total (take n bs) + k) (omega arith)
        ∙ rec n place s
        ∙ ap (λ x. Some (lowered_instr m f label (x - 1) i)) sum

    by_test : ((j : ℕ) → place_of (labels bs) label ≡ Some j → slice_get bs j ≡ Some b
        → slice_get back (total (take j bs) + k)
        ≡ Some (lowered_instr m f label (seen + counted m c.code + counted_to m bs label k - 1) i))
        → (t : Bool) → is_name c.name label ≡ t → (n : ℕ)
        → (if t then Some 0 else option_map suc (place_of (labels bs) label)) ≡ Some n → slice_get (c ∷ bs) n ≡ Some b
        → slice_get (front ++ back) (total (take n (c ∷ bs)) + k)
        ≡ Some (lowered_instr m f label (seen + (if t then counted m (take (suc k) c.code)
        else counted m c.code + counted_to m bs label k) - 1) i)
    by_test rec true is zero p s =
        let same : c ≡ b = cc in
        let here : slice_get c.code k ≡ Some i = subst (λ (u : Block). slice_get u.code k ≡ Some i) (sym same) e in
        (let at : 0 + k ≡ k = omega arith in ap (λ n. slice_get (front ++ back) n) at)
        ∙ get_left front back k _ (block_code m f c.name seen c.code k i here)
        ∙ ap (λ l. Some (lowered_instr m f l (seen + counted m (take (suc k) c.code) - 1) i))
        ((names_decide c.name label).0 is)
    by_test rec true is (suc n) p s = absurd (let bad : 0 ≡ suc n = cc in omega arith)
    by_test rec false is n p s = by_number rec (place_of (labels bs) label) refl n p s
