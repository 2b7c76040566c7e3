-- Names, and what each names in a function where no name stands twice.
use Rattle.std.proofs.Common.{◌≡◌, ℕ, zero, suc, Bool, true, false, if◌then◌else◌}
use Rattle.std.proofs.Common.{List, [], ◌∷◌, ◌++◌, map, Option, Some, None}
use Rattle.std.proofs.Common.{slice_get, refl, ap, sym, ◌∙◌, subst, true≢false, ◌⊎◌, inl, inr}
use Rattle.std.specs.Prelude.{option_map, flat_map, option_to_list}
use Rattle.std.specs.Bool.{Decides}
use Rattle.std.proofs.lemmas.Bool.Decides.{Decides-eqb}
use Rattle.std.proofs.lemmas.Slice.Eq.{bytes_eq-Decides}
use Rattle.std.proofs.lemmas.List.{map-append}
use Rattle.ds_ast.specs.declared.name.Name.{Name}
use Rattle.ds_ast.specs.declared.name.Name.TheVariants.{Number, Text}
use Rattle.ds_ast.specs.declared.instr.Op.{Op}
use Rattle.ds_ast.specs.declared.instr.Instr.{Instr}
use Rattle.ds_ast.specs.declared.module.Function.{Function}
use Rattle.ds_ast.specs.declared.module.Param.{Param}
use Rattle.ds_ast.specs.declared.module.Block.{Block}
use Rattle.ds_ast.specs.Bounds.{is_name, names_of, names_of_block}
use Rattle.ds_names.specs.Names.{Among, AreDistinct, place_of}
use Rattle.ds_shape.specs.declared.local.LocalType.{LocalType}
use Rattle.ds_shape.specs.declared.local.LocalType.TheVariants.{Plain}
use Rattle.ds_shape.specs.Types.{Stands, result_type}
use Rattle.ds_meaning.specs.Frames.{block_among}
use Rattle.ds_safe_laws.proofs.Lists.{stands_head, stands_tail, stands_left, stands_right, stands_cases, none_stands}
use Rattle.ds_safe_laws.proofs.Lists.{stands_either, stands_flat, stands_map, number_of}

abbrev number : Name → ℕ
number (Number n) = n
number (Text bytes) = 0

abbrev spelling : Name → List ℕ
spelling (Number n) = []
spelling (Text bytes) = bytes

pub names_decide : (m n : Name) → Decides (is_name m n) (m ≡ n)
names_decide (Number a) (Number b) = let d = Decides-eqb a b in (λ e. ap Number (d.0 e), λ e. d.1 (ap number e))
names_decide (Number a) (Text b) = (λ e. absurd (true≢false (sym e)), λ e. cc)
names_decide (Text a) (Number b) = (λ e. absurd (true≢false (sym e)), λ e. cc)
names_decide (Text a) (Text b) = let d = bytes_eq-Decides a b in (λ e. ap Text (d.0 e), λ e. d.1 (ap spelling e))

-- a name is itself
pub itself : (x : Name) → is_name x x ≡ true
itself x = (names_decide x x).1 refl

-- PLACES

-- what stands at a place is among the names
among_get : (names : List Name) (n : ℕ) (x : Name) → slice_get names n ≡ Some x → Among x names
among_get [] n x e = absurd (cc)
among_get (y ∷ names) zero x e = let same : y ≡ x = cc in inl same
among_get (y ∷ names) (suc n) x e = inr (among_get names n x e)

-- among distinct names each stands at its first place
pub distinct_place : (names : List Name) (n : ℕ) (x : Name) → AreDistinct names → slice_get names n ≡ Some x
    → place_of names x ≡ Some n
distinct_place [] n x d e = absurd (cc)
distinct_place (y ∷ names) zero x d e =
    let same : y ≡ x = cc in
    ap (λ t. if t then Some 0 else option_map suc (place_of names x)) ((names_decide y x).1 same)
distinct_place (y ∷ names) (suc n) x d e = by_test (distinct_place names n x d.1 e) (is_name y x) refl
  where
    by_test : place_of names x ≡ Some n → (t : Bool) → is_name y x ≡ t → place_of (y ∷ names) x ≡ Some (suc n)
    by_test rec true is =
        absurd (d.0 (subst (λ z. Among z names) (sym ((names_decide y x).0 is)) (among_get names n x e)))
    by_test rec false is =
        ap (λ t. if t then Some 0 else option_map suc (place_of names x)) is
        ∙ ap (λ o. option_map suc o) rec

-- the names behind others are distinct where all are
pub distinct_behind : (xs ys : List Name) → AreDistinct (xs ++ ys) → AreDistinct ys
distinct_behind [] ys d = d
distinct_behind (x ∷ xs) ys d = distinct_behind xs ys d.1

-- BLOCKS BY THEIR LABELS

-- the block that a label finds
pub record Found (bs : List Block) (label : Name) : Type 0 where
  pub block : Block
  pub is : block_among bs label ≡ Some block
  pub stands : Stands block bs
  pub named : block.name ≡ label

-- a block of the label is found, if there is one
pub block_there : (bs : List Block) (label : Name) (b : Block) → Stands b bs → b.name ≡ label → Found bs label
block_there [] label b s e = none_stands b s
block_there (c ∷ bs) label b s e =
    by_test (λ t. block_there bs label b t e) (is_name c.name label) refl (stands_cases b c bs s)
  where
    by_test : (Stands b bs → Found bs label) → (t : Bool) → is_name c.name label ≡ t → (c ≡ b) ⊎ Stands b bs
        → Found (c ∷ bs) label
    by_test rec true is cases = record {
      block = c;
      is = ap (λ t. if t then Some c else block_among bs label) is;
      stands = stands_head c bs;
      named = (names_decide c.name label).0 is;
    }
    by_test rec false is (inl same) =
        let called : c.name ≡ label = ap (λ (x : Block). x.name) same ∙ e in
        absurd (true≢false (sym ((names_decide c.name label).1 called) ∙ is))
    by_test rec false is (inr t) =
        let r = rec t in
        record {
          block = r.block;
          is = ap (λ t. if t then Some c else block_among bs label) is ∙ r.is;
          stands = stands_tail r.block c bs r.stands;
          named = r.named;
        }

-- the first block is found by its label
pub first_there : (b : Block) (bs : List Block) → block_among (b ∷ bs) b.name ≡ Some b
first_there b bs = ap (λ t. if t then Some b else block_among bs b.name) (itself b.name)

-- WHAT NAMES NAME

-- what a name of a function names: a value, with its type, or a block
pub data Thing : Type 0 where
  Typed : Option LocalType → Thing
  Labels : Block → Thing

pub record Entry : Type 0 where
  pub name : Name
  pub thing : Thing

abbrev pub entry_names : List Entry → List Name
entry_names es = map (λ (e : Entry). e.name) es

abbrev pub parameter_entry : Param → Entry
parameter_entry p = record { name = p.name; thing = Typed (Some (Plain p.ty)) }

abbrev pub result_entries : Option Name → Op → List Entry
result_entries None op = []
result_entries (Some name) op = record { name = name; thing = Typed (result_type op) } ∷ []

abbrev pub instr_entries : Instr → List Entry
instr_entries i = result_entries i.result i.op

abbrev pub label_entry : Block → Entry
label_entry b = record { name = b.name; thing = Labels b }

abbrev pub block_entries : Block → List Entry
block_entries b = label_entry b ∷ flat_map instr_entries b.code

abbrev pub entries : Function → List Entry
entries f = map parameter_entry f.params ++ flat_map block_entries f.blocks

parameters_named : (ps : List Param) → entry_names (map parameter_entry ps) ≡ map (λ (p : Param). p.name) ps
parameters_named [] = refl
parameters_named (p ∷ ps) = ap (λ ns. p.name ∷ ns) (parameters_named ps)

result_named : (o : Option Name) (op : Op) → entry_names (result_entries o op) ≡ option_to_list o
result_named None op = refl
result_named (Some x) op = refl

code_named : (is : List Instr)
    → entry_names (flat_map instr_entries is) ≡ flat_map (λ (i : Instr). option_to_list i.result) is
code_named [] = refl
code_named (i ∷ is) =
    map-append (λ (e : Entry). e.name) (instr_entries i) (flat_map instr_entries is)
    ∙ ap (λ ns. ns ++ entry_names (flat_map instr_entries is)) (result_named i.result i.op)
    ∙ ap (λ ns. option_to_list i.result ++ ns) (code_named is)

blocks_named : (bs : List Block) → entry_names (flat_map block_entries bs) ≡ flat_map names_of_block bs
blocks_named [] = refl
blocks_named (b ∷ bs) =
    map-append (λ (e : Entry). e.name) (block_entries b) (flat_map block_entries bs)
    ∙ ap (λ ns. b.name ∷ ns ++ entry_names (flat_map block_entries bs)) (code_named b.code)
    ∙ ap (λ ns. names_of_block b ++ ns) (blocks_named bs)

all_named : (f : Function) → entry_names (entries f) ≡ names_of f
all_named f =
    map-append (λ (e : Entry). e.name) (map parameter_entry f.params) (flat_map block_entries f.blocks)
    ∙ ap (λ ns. ns ++ entry_names (flat_map block_entries f.blocks)) (parameters_named f.params)
    ∙ ap (λ ns. map (λ (p : Param). p.name) f.params ++ ns) (blocks_named f.blocks)

among_entries : (es : List Entry) (n : ℕ) (e : Entry) → slice_get es n ≡ Some e → Among e.name (entry_names es)
among_entries [] n e is = absurd (cc)
among_entries (d ∷ es) zero e is = let same : d ≡ e = cc in inl (ap (λ (x : Entry). x.name) same)
among_entries (d ∷ es) (suc n) e is = inr (among_entries es n e is)

-- two entries of one name are one
one_entry : (es : List Entry) → AreDistinct (entry_names es) → (j k : ℕ) (d e : Entry) → slice_get es j ≡ Some d
    → slice_get es k ≡ Some e → d.name ≡ e.name → d ≡ e
one_entry [] dist j k d e at to same = absurd (cc)
one_entry (x ∷ es) dist zero zero d e at to same = cc
one_entry (x ∷ es) dist zero (suc k) d e at to same =
    let one : x ≡ d = cc in
    let called : e.name ≡ x.name = sym (ap (λ (y : Entry). y.name) one ∙ same) in
    absurd (dist.0 (subst (λ n. Among n (entry_names es)) called (among_entries es k e to)))
one_entry (x ∷ es) dist (suc j) zero d e at to same =
    let one : x ≡ e = cc in
    let called : d.name ≡ x.name = same ∙ sym (ap (λ (y : Entry). y.name) one) in
    absurd (dist.0 (subst (λ n. Among n (entry_names es)) called (among_entries es j d at)))
one_entry (x ∷ es) dist (suc j) (suc k) d e at to same = one_entry es dist.1 j k d e at to same

pub one_thing : (f : Function) → AreDistinct (names_of f) → (d e : Entry) → Stands d (entries f) → Stands e (entries f)
    → d.name ≡ e.name → d ≡ e
one_thing f dist d e s t same =
    let j = number_of (entries f) d s in
    let k = number_of (entries f) e t in
    one_entry (entries f) (subst AreDistinct (sym (all_named f)) dist) j.0 k.0 d e j.1 k.1 same

pub parameter_stands : (f : Function) (p : Param) → Stands p f.params → Stands (parameter_entry p) (entries f)
parameter_stands f p s =
    stands_left (parameter_entry p) (map parameter_entry f.params) (flat_map block_entries f.blocks)
    (stands_map parameter_entry p f.params s)

pub label_stands : (f : Function) (b : Block) → Stands b f.blocks → Stands (label_entry b) (entries f)
label_stands f b s =
    stands_right (label_entry b) (map parameter_entry f.params) (flat_map block_entries f.blocks)
    (stands_flat block_entries b (label_entry b) f.blocks s
    (stands_head (label_entry b) (flat_map instr_entries b.code)))

abbrev pub result_entry : Name → Op → Entry
result_entry name op = record { name = name; thing = Typed (result_type op) }

entry_of_result : (o : Option Name) (op : Op) (name : Name) → o ≡ Some name
    → Stands (result_entry name op) (result_entries o op)
entry_of_result None op name e = absurd (cc)
entry_of_result (Some x) op name e =
    let same : x ≡ name = cc in
    subst (λ y. Stands (result_entry y op) (result_entry x op ∷ [])) same (stands_head (result_entry x op) [])

pub result_stands : (f : Function) (b : Block) (i : Instr) (name : Name) → Stands b f.blocks → Stands i b.code
    → i.result ≡ Some name → Stands (result_entry name i.op) (entries f)
result_stands f b i name s t e =
    let here = entry_of_result i.result i.op name e in
    let along = stands_flat instr_entries i (result_entry name i.op) b.code t here in
    stands_right (result_entry name i.op) (map parameter_entry f.params) (flat_map block_entries f.blocks)
    (stands_flat block_entries b (result_entry name i.op) f.blocks s
    (stands_tail (result_entry name i.op) (label_entry b) (flat_map instr_entries b.code) along))

-- an instruction of the blocks stands in one of them
pub block_of : (bs : List Block) (i : Instr) → Stands i (flat_map (λ (b : Block). b.code) bs)
    → (b : Block) × Stands b bs × Stands i b.code
block_of [] i s = none_stands i s
block_of (c ∷ bs) i s =
    by_cases (λ t. block_of bs i t) (stands_either i c.code (flat_map (λ (b : Block). b.code) bs) s)
  where
    by_cases : (Stands i (flat_map (λ (b : Block). b.code) bs) → (b : Block) × Stands b bs × Stands i b.code)
        → Stands i c.code ⊎ Stands i (flat_map (λ (b : Block). b.code) bs)
        → (b : Block) × Stands b (c ∷ bs) × Stands i b.code
    by_cases rec (inl t) = (c, stands_head c bs, t)
    by_cases rec (inr t) = let r = rec t in (r.0, stands_tail r.0 c bs r.1, r.2)
