-- What the code tells of names, values, arms and instructions.
use Rattle.std.proofs.Common.{◌≡◌, ◌↔◌, ◌<◌, ◌≤◌, ◌+◌, ℕ, Bool, true, false, not, IsTrue, List, ◌⊎◌, length, take}
use Rattle.std.proofs.Common.{take_all, slice_index_or, Option, Some, None, refl, sym, ap, ◌∙◌, subst, slice_get}
use Rattle.std.proofs.Common.{true≢false, arith}
use Rattle.std.specs.Prelude.{All, IfOk, Result as Outcome, Ok, Err}
use Rattle.std.proofs.lemmas.Option.{slice_get_within, get_or_from_slice_get}
use Rattle.ds_ast.specs.declared.name.Name.{Name}
use Rattle.ds_ast.specs.declared.value.Value.{Value}
use Rattle.ds_ast.specs.declared.value.Value.TheVariants.{Local}
use Rattle.ds_ast.specs.declared.operand.Arm.{Arm}
use Rattle.ds_ast.specs.declared.instr.Op.{Op}
use Rattle.ds_ast.specs.declared.module.Function.{Function}
use Rattle.ds_ast.specs.declared.module.Block.{Block}
use Rattle.ds_check_paths.specs.Known.{Knows, IsEnd}
use Rattle.ds_check_blocks.specs.declared.sites.Site.{Site}
use Rattle.ds_check_blocks.specs.Sites.{IsSite}
use Rattle.ds_graph.specs.Graph.{Edges}
use Rattle.ds_graph.specs.Paths.{AllPass, IsReached}
use Rattle.ds_check_names.specs.declared.meaning.Meaning.{Meaning}
use Rattle.ds_check_names.specs.declared.meaning.Meaning.TheVariants.{Parameter, Label, Result}
use Rattle.ds_check_names.specs.Scope.{Means}
use Rattle.ds_shape.specs.declared.local.LocalType.{LocalType}
use Rattle.ds_shape.specs.Flow.{arms_of, IsAssignedAt}
use Rattle.ds_shape.specs.Operands.{uses_of}
use Rattle.ds_shape.specs.Placed.{Placed, BreaksFirst, KeepsAssigned, placed_of, IsAssignedArm, IsAssignedUse}
use Rattle.ds_shape.specs.Types.{Stands}
use Rattle.ds_check_paths.proofs.Assigned.{IsMeaning, parameter_assigned, label_tells, nothing_tells, result_tells}
use Rattle.ds_shape.specs.Breaches.{breach_at, kept_more, kept_all}
use Rattle.ds_check_paths.proofs.Stands.{number_of, one_item, item_at, stands_at}

-- NAMES

module _ (f named : Function) (edges : Edges) (known : Knows f named edges) (name : Name) (found : Option Meaning)
    (means : IsMeaning named name found) (b index : ℕ) where
  here : IsMeaning f name found
  here = subst (λ g. IsMeaning g name found) known.same means

  -- the answer tells whether the name is assigned at the place
  abbrev Tells : Bool → Type 0
  Tells r = (c : Block) → slice_get f.blocks b ≡ Some c → IsTrue r ↔ IsAssignedAt f name c (take index c.code)

  pub parameter_told : (t : LocalType) → found ≡ Some (Parameter t) → Tells true
  parameter_told t is = λ c at. (λ _. parameter_assigned f name found here t is c (take index c.code), λ _. refl)

  pub label_told : (n : ℕ) → found ≡ Some (Label n) → (r : Bool) → (IsTrue r ↔ IsReached edges b) → Tells (not r)
  label_told n is r told =
      λ c at. label_tells f name found here edges known.are_edges known.distinct b c at index n is r told

  pub nothing_told : found ≡ None → (r : Bool) → (IsTrue r ↔ IsReached edges b) → Tells (not r)
  nothing_told is r told =
      λ c at. nothing_tells f name found here edges known.are_edges known.distinct b c at index is r told

  pub result_told : {E : Type 0} (t : Option LocalType) (d k : ℕ) → found ≡ Some (Result t d k) → (r : Outcome Bool E)
      → IfOk r (λ answer. IsTrue answer ↔ (((d ≡ b) × (k < index)) ⊎ AllPass edges d b)) → IfOk r Tells
  result_told t d k is (Ok r) told =
      λ c at. result_tells f name found here edges known.are_edges known.distinct b c at index t d k is r told
  result_told t d k is (Err e) told = tt

  pub result_inside : (t : Option LocalType) (d k : ℕ) → found ≡ Some (Result t d k) → d < length edges
  result_inside t d k is =
      let m : Means f name (Result t d k) = (here (Result t d k)).0 is in
      subst (λ n. d < n) (sym known.are_edges.many) (slice_get_within f.blocks d m.0 m.2)

-- VALUES

-- the answer tells whether the value is assigned at the place
abbrev pub UseTold : Function → ℕ → ℕ → Value → Bool → Type 0
UseTold f b index v r =
    (c : Block) → slice_get f.blocks b ≡ Some c → IsTrue r ↔ IsAssignedUse f c (take index c.code) v

pub local_told : {E : Type 0} (f : Function) (b index : ℕ) (name : Name) (v : Value) → v ≡ Local name
    → (r : Outcome Bool E)
    → IfOk r (λ answer. (c : Block) → slice_get f.blocks b ≡ Some c
    → IsTrue answer ↔ IsAssignedAt f name c (take index c.code)) → IfOk r (UseTold f b index v)
local_told f b index name v is r told = subst (λ w. IfOk r (UseTold f b index w)) (sym is) told

-- ENDS

module _ (f named : Function) (same : named ≡ f) (label : Name) (found : Option ℕ)
    (means : (b : ℕ) → (found ≡ Some b ↔ Means named label (Label b))) where
  label_here : (b : ℕ) → (found ≡ Some b ↔ Means f label (Label b))
  label_here = subst (λ g. (b : ℕ) → (found ≡ Some b ↔ Means g label (Label b))) same means

  pub label_inside : (b : ℕ) → found ≡ Some b → b < length f.blocks
  label_inside b is = let m : Means f label (Label b) = (label_here b).0 is in slice_get_within f.blocks b m.0 m.1

  one_number : (o : Option ℕ) (i j : ℕ) → o ≡ Some i → o ≡ Some j → i ≡ j
  one_number None i j e h = cc
  one_number (Some k) i j e h = cc

  pub is_end : (s : Site) (c : Block) → found ≡ Some s.block → slice_get f.blocks s.block ≡ Some c
      → s.index ≡ length c.code → IsEnd f label s c
  is_end s c is at behind =
      let m : Means f label (Label s.block) = (label_here s.block).0 is in
      record {
        block = at;
        called = subst (λ (x : Block). x.name ≡ label) (one_item f.blocks s.block m.0 c m.1 at) m.2;
        behind = behind;
        alone = λ x stands called.
            let n : (i : ℕ) × (slice_get f.blocks i ≡ Some x) = number_of f.blocks x stands in
            let there : found ≡ Some n.0 = (label_here n.0).1 (x, n.1, called) in
            let one : n.0 ≡ s.block = one_number found n.0 s.block there is in
            one_item f.blocks s.block x c (subst (λ i. slice_get f.blocks i ≡ Some x) one n.1) at;
      }

  pub no_end : found ≡ None → (c : Block) → Stands c f.blocks → c.name ≡ label → ⊥
  no_end is c stands called =
      let n : (i : ℕ) × (slice_get f.blocks i ≡ Some c) = number_of f.blocks c stands in
      let there : found ≡ Some n.0 = (label_here n.0).1 (c, n.1, called) in
      let both = sym is ∙ there in cc

-- ARMS

at_end : (f : Function) (a : Arm) (s : Site) (c : Block) → IsEnd f a.from s c
    → IsAssignedUse f c (take s.index c.code) a.value ↔ IsAssignedArm f a
at_end f a s c end =
    let whole : take s.index c.code ≡ c.code = take_all s.index c.code (omega (arith, end.behind)) in (
      λ h b stands called. subst (λ (x : Block). IsAssignedUse f x x.code a.value) (sym (end.alone b stands called))
          (subst (λ code. IsAssignedUse f c code a.value) whole h),
      λ h. subst (λ code. IsAssignedUse f c code a.value) (sym whole)
          (h c (stands_at f.blocks s.block c end.block) end.called),
    )

pub arm_told : {E : Type 0} (f : Function) (a : Arm) (s : Site) → (c : Block) × IsEnd f a.from s c
    → (r : Outcome Bool E)
    → IfOk r (λ answer. (c : Block) → slice_get f.blocks s.block ≡ Some c
    → (IsTrue answer ↔ IsAssignedUse f c (take s.index c.code) a.value))
    → IfOk r (λ answer. IsTrue answer ↔ IsAssignedArm f a)
arm_told f a s end (Ok r) told =
    let here = told end.0 end.1.block in let is = at_end f a s end.0 end.1 in
    (λ t. is.0 (here.0 t), λ h. here.1 (is.1 h))
arm_told f a s end (Err e) told = tt

pub no_arm : (f : Function) (a : Arm) → ((c : Block) → Stands c f.blocks → c.name ≡ a.from → ⊥)
    → IsTrue true ↔ IsAssignedArm f a
no_arm f a none = (λ _ b stands called. absurd (none b stands called), λ _. refl)

-- OPERANDS

module _ {X : Type 0} (P : X → Type 0) (xs : List X) where
  -- what is known of the item at a place of the list
  abbrev pub IsJudged : ℕ → Bool → Type 0
  IsJudged n b = (x : X) → slice_get xs n ≡ Some x → (IsTrue b ↔ P x)

  -- one more item has the property
  pub judged_more : (n count : ℕ) (b : Bool) → count ≡ length xs → n < count → IsJudged n b → All P (take n xs)
      → IsTrue b → All P (take (n + 1) xs)
  judged_more n count b many h judged kept is =
      let x : (x : X) × (slice_get xs n ≡ Some x) = item_at xs n (subst (λ m. n < m) many h) in
      kept_more P xs n x.0 (slice_get_within xs n x.0 x.1) (sym (get_or_from_slice_get xs n x.0 x.0 x.1)) kept
      ((judged x.0 x.1).0 is)

  -- no item is left
  pub judged_all : (n count : ℕ) → count ≡ length xs → count ≤ n → All P (take n xs) → IsTrue true ↔ All P xs
  judged_all n count many h kept = (λ t. kept_all P xs n (omega (arith, many, h)) kept, λ all. refl)

-- INSTRUCTIONS

module _ (f : Function) (s : Site) (n : ℕ) (p : Placed) (site : IsSite f n s p) (op : Op) (is : op ≡ p.instr.op) where
  uses_told : (r : Bool)
      → ((c : Block) → slice_get f.blocks s.block ≡ Some c
      → (IsTrue r ↔ All (IsAssignedUse f c (take s.index c.code)) (uses_of op)))
      → IsTrue r ↔ All (IsAssignedUse f p.block p.front) (uses_of p.instr.op)
  uses_told r told =
      subst (λ o. IsTrue r ↔ All (IsAssignedUse f p.block p.front) (uses_of o)) is
      (subst (λ front. IsTrue r ↔ All (IsAssignedUse f p.block front) (uses_of op)) (sym site.front)
      (told p.block site.block))

  arms_decide : (r : Bool)
      → ((c : Block) → slice_get f.blocks s.block ≡ Some c
      → (IsTrue r ↔ All (IsAssignedUse f c (take s.index c.code)) (uses_of op)))
      → IsTrue r → (b : Bool) → (IsTrue b ↔ All (IsAssignedArm f) (arms_of op)) → IsTrue b ↔ KeepsAssigned f p
  arms_decide r told all_used b armed = (
    λ t. ((uses_told r told).0 all_used, subst (λ o. All (IsAssignedArm f) (arms_of o)) is (armed.0 t)),
    λ keeps. armed.1 (subst (λ o. All (IsAssignedArm f) (arms_of o)) (sym is) keeps.1),
  )

pub arms_told : {E : Type 0} (f : Function) (s : Site) (op : Op)
    → ((n : ℕ) (p : Placed) → IsSite f n s p → op ≡ p.instr.op) → (r : Bool)
    → ((c : Block) → slice_get f.blocks s.block ≡ Some c
    → (IsTrue r ↔ All (IsAssignedUse f c (take s.index c.code)) (uses_of op))) → IsTrue r → (out : Outcome Bool E)
    → IfOk out (λ b. IsTrue b ↔ All (IsAssignedArm f) (arms_of op))
    → IfOk out (λ b. (n : ℕ) (p : Placed) → IsSite f n s p → (IsTrue b ↔ KeepsAssigned f p))
arms_told f s op is r told used (Ok b) armed =
    λ n p site. arms_decide f s n p site op (is n p site) r told used b armed
arms_told f s op is r told used (Err e) armed = tt

-- SITES

-- the instruction of this number stands at the site
abbrev pub StandsAt : Function → ℕ → Site → Type 0
StandsAt f number s = (p : Placed) × IsSite f number s p × (slice_get (placed_of f) number ≡ Some p)

pub some_site : (f : Function) (number : ℕ) (s : Site) → StandsAt f number s → (n : ℕ) × (p : Placed) × IsSite f n s p
some_site f number s h = (number, h.0, h.1)

pub stands_at_site : (f sites : Function) → sites ≡ f → (number count : ℕ) → count ≡ length (placed_of sites)
    → number < count → (s : Site)
    → ((p : Placed) → IsSite sites number s (slice_index_or (placed_of sites) number p)) → StandsAt f number s
stands_at_site f sites same number count many low s told =
    let x : (x : Placed) × (slice_get (placed_of sites) number ≡ Some x) =
    item_at (placed_of sites) number (subst (λ m. number < m) many low) in
    let here : IsSite sites number s x.0 =
    subst (λ p. IsSite sites number s p) (get_or_from_slice_get (placed_of sites) number x.0 x.0 x.1) (told x.0) in
    subst (λ g. StandsAt g number s) same (x.0, here, x.1)

module _ (f : Function) (number : ℕ) (s : Site) (stands : StandsAt f number s) where
  inside : number < length (placed_of f)
  inside = slice_get_within (placed_of f) number stands.0 stands.2

  read : stands.0 ≡ slice_index_or (placed_of f) number stands.0
  read = sym (get_or_from_slice_get (placed_of f) number stands.0 stands.0 stands.2)

  pub first_breach : All (KeepsAssigned f) (take number (placed_of f)) → (r : Bool)
      → ((n : ℕ) (p : Placed) → IsSite f n s p → (IsTrue r ↔ KeepsAssigned f p)) → r ≡ false
      → BreaksFirst (KeepsAssigned f) f number
  first_breach kept r told no_use = (
    stands.0,
    breach_at (KeepsAssigned f) (placed_of f) number stands.0 inside read kept
        (λ keeps. true≢false (sym ((told number stands.0 stands.1).1 keeps) ∙ no_use)),
    sym stands.1.numbered,
  )

  pub one_more : All (KeepsAssigned f) (take number (placed_of f)) → (r : Bool)
      → ((n : ℕ) (p : Placed) → IsSite f n s p → (IsTrue r ↔ KeepsAssigned f p)) → IsTrue r
      → All (KeepsAssigned f) (take (number + 1) (placed_of f))
  one_more kept r told used = kept_more (KeepsAssigned f) (placed_of f) number stands.0 inside read kept
      ((told number stands.0 stands.1).0 used)

pub all_kept : (f sites : Function) → sites ≡ f → (number count : ℕ) → count ≡ length (placed_of sites)
    → count ≤ number → All (KeepsAssigned f) (take number (placed_of f))
    → All (KeepsAssigned f) (placed_of f)
all_kept f sites same number count many end kept =
    kept_all (KeepsAssigned f) (placed_of f) number
    (omega (arith, many, end, ap (λ (g : Function). length (placed_of g)) same)) kept
