-- The values of a phi's arms, one by one, and what they say of it.
use Rattle.std.proofs.Common.{◌≡◌, ◌<◌, ◌≤◌, ◌+◌, ◌++◌, ◌↔◌, ℕ, suc, Bool, true, false, List, [], ◌∷◌, ◌⊎◌, inl, inr}
use Rattle.std.proofs.Common.{length, map, take, drop, get_or, slice_index_or, slice_get, Option, Some, None, refl}
use Rattle.std.proofs.Common.{sym, ap, ◌∙◌, subst, true≢false, arith}
use Rattle.std.specs.Prelude.{IsTrue, Contains, IsSome, is_some, All}
use Rattle.std.specs.Ordering.{nat_cmp}
use Rattle.std.specs.BTreeMap.{get, is_at, IsEmpty}
use Rattle.std.specs.BTreeSet.{BTreeSet, contains}
use Rattle.std.proofs.lemmas.Map.Views.{tells_apart}
use Rattle.std.proofs.lemmas.Map.Lookups.{exact_unsigned}
use Rattle.std.proofs.lemmas.List.Elements.{Contains-append_right, Contains-append_cases, Contains-push_cases}
use Rattle.std.proofs.lemmas.List.{take_all, take_more, get_or_default}
use Rattle.std.specs.Map.{lookup}
use denote.Ref.{Bor}
use Rattle.ds_ast.specs.declared.name.Name.{Name}
use Rattle.ds_ast.specs.declared.value.Value.{Value}
use Rattle.ds_ast.specs.declared.operand.Arm.{Arm}
use Rattle.ds_ast.specs.declared.instr.Op.{Op}
use Rattle.ds_ast.specs.declared.instr.Instr.{Instr}
use Rattle.ds_ast.specs.declared.module.Function.{Function}
use Rattle.ds_ast.specs.declared.module.Block.{Block}
use Rattle.ds_graph.specs.Graph.{Edges, HasEdge}
use Rattle.ds_shape.specs.Types.{Stands}
use Rattle.ds_shape.specs.Flow.{arms_of, IsEdge}
use Rattle.ds_shape.specs.Placed.{IsPhi, IsGoodPhi}
use Rattle.ds_check_names.specs.Scope.{Means}
use Rattle.ds_check_names.specs.declared.meaning.Meaning.TheVariants.{Label}
use Rattle.ds_check_blocks.specs.Predecessors.{ArePredecessorsOf}
use Rattle.ds_check_blocks.specs.Phis.{Values, HasValue, IsNumber, AreArmsFor, Agrees, Keeps, AreKept, HasEach}
use Rattle.ds_shape.specs.Breaches as breach
use Rattle.ds_check_blocks.proofs.Standing.{some_is, stands_at, number_of, there_is, stands_more, stands_last, none_first}
use Rattle.ds_check_blocks.proofs.Standing.{stands_map, stands_mapped}
use Rattle.ds_check_blocks.proofs.Leads.{nothing_in, edge_from}
use Rattle.ds_check_blocks.proofs.Reversed.{has_iff}

-- one block has one label
one_label : (f : Function) (n m : Name) (k : ℕ) → Means f n (Label k) → Means f m (Label k) → n ≡ m
one_label f n m k a b =
    let same : a.0 ≡ b.0 = some_is a.0 b.0 (sym a.1 ∙ b.1) in sym a.2 ∙ ap (λ (c : Block). c.name) same ∙ b.2

-- ONE ARM

module _ (f : Function) (row : BTreeSet ℕ) (arm : Arm) (old : Values) (r : Option ℕ)
    (named : (b : ℕ) → r ≡ Some b ↔ Means f arm.from (Label b)) where
  pub no_block : (new : Values) → r ≡ None → Keeps f row.keys arm old new false
  no_block new none arms rest agrees fits =
      let k : (k : ℕ) × Means f arm.from (Label k) × Contains row.keys k = fits.known arm (arms, rest, refl) in
      let both : ◌≡◌ {A = Option ℕ} None (Some k.0) = sym none ∙ (named k.0).1 k.1 in cc

  module _ (block : ℕ) (is : r ≡ Some block) where
    number : IsNumber f arm.from block
    number = ((named block).0 is, λ j m. some_is j block (sym ((named j).1 m) ∙ is))

    pub foreign : (new : Values) → contains nat_cmp row block ≡ false → Keeps f row.keys arm old new false
    foreign new out arms rest agrees fits =
        let k : (k : ℕ) × Means f arm.from (Label k) × Contains row.keys k = fits.known arm (arms, rest, refl) in
        let there : Contains row.keys block = subst (λ n. Contains row.keys n) (number.1 k.0 k.1) k.2 in
        true≢false (sym ((has_iff row block).1 there) ∙ out)

    module _ (inside : contains nat_cmp row block ≡ true) where
      in_row : Contains row.keys block
      in_row = (has_iff row block).0 inside

      seen_same : (v : Bor Value) → Some v ≡ get nat_cmp old block → v.now ≡ arm.value
          → Keeps f row.keys arm old old true
      seen_same v got same arms agrees = record {
        arm = λ a s. of_arm a (stands_last arms arm a s);
        value = λ k x h. let older = agrees.value k x h in
            (older.0, stands_more arms (arm ∷ []) older.0 older.1, older.2, older.3);
      }
        where
          of_arm : (a : Arm) → Stands a arms ⊎ (arm ≡ a) → (k : ℕ) × IsNumber f a.from k × Contains row.keys k
              × HasValue old k a.value
          of_arm a (inl s) = agrees.arm a s
          of_arm a (inr e) =
              subst (λ (b : Arm). (k : ℕ) × IsNumber f b.from k × Contains row.keys k × HasValue old k b.value) e
              (block, number, in_row, (v, sym got, same))

      seen_other : (v : Bor Value) → Some v ≡ get nat_cmp old block → (v.now ≡ arm.value → ⊥)
          → Keeps f row.keys arm old old false
      seen_other v got other arms rest agrees fits =
          let older : (a : Arm) × Stands a arms × Means f a.from (Label block) × (a.value ≡ v.now) =
          agrees.value block v.now (v, sym got, refl) in
          let label : older.0.from ≡ arm.from = one_label f older.0.from arm.from block older.2 number.0 in
          let one : older.0.value ≡ arm.value =
          fits.one_value older.0 arm (stands_more arms (arm ∷ rest) older.0 older.1) (arms, rest, refl) label in
          other (sym older.3 ∙ one)

      pub seen : (v : Bor Value) (same : Bool) → Some v ≡ get nat_cmp old block → (IsTrue same ↔ (v.now ≡ arm.value))
          → Keeps f row.keys arm old old same
      seen v true got equal = seen_same v got (equal.0 refl)
      seen v false got equal = seen_other v got (λ e. true≢false (sym (equal.1 e)))

      pub inserted : (new : Values) (w : Bor Value) → w.now ≡ arm.value → None ≡ get nat_cmp old block
          → get nat_cmp new block ≡ Some w
          → ((q : ℕ) → is_at (nat_cmp block) q ≡ false → get nat_cmp new q ≡ get nat_cmp old q)
          → Keeps f row.keys arm old new true
      inserted new w given none here others arms agrees = record {
        arm = λ a s. of_arm a (stands_last arms arm a s);
        value = λ k x h. of_value k x (is_at (nat_cmp block) k) refl h;
      }
        where
          kept : (k : ℕ) (x : Value) (t : Bool) → is_at (nat_cmp block) k ≡ t → HasValue old k x → HasValue new k x
          kept k x true e h =
              let both : ◌≡◌ {A = Option (Bor Value)} None (Some h.0) =
              none ∙ ap (get nat_cmp old) (tells_apart exact_unsigned block k e) ∙ h.1 in cc
          kept k x false e h = (h.0, others k e ∙ h.1, h.2)

          of_arm : (a : Arm) → Stands a arms ⊎ (arm ≡ a) → (k : ℕ) × IsNumber f a.from k × Contains row.keys k
              × HasValue new k a.value
          of_arm a (inl s) =
              let older : (k : ℕ) × IsNumber f a.from k × Contains row.keys k × HasValue old k a.value =
              agrees.arm a s in
              (older.0, older.1, older.2, kept older.0 a.value (is_at (nat_cmp block) older.0) refl older.3)
          of_arm a (inr e) =
              subst (λ (b : Arm). (k : ℕ) × IsNumber f b.from k × Contains row.keys k × HasValue new k b.value) e
              (block, number, in_row, (w, here, given))

          of_value : (k : ℕ) (x : Value) (t : Bool) → is_at (nat_cmp block) k ≡ t → HasValue new k x
              → (a : Arm) × Stands a (arms ++ arm ∷ []) × Means f a.from (Label k) × (a.value ≡ x)
          of_value k x true e h =
              let at : block ≡ k = tells_apart exact_unsigned block k e in
              let one : w ≡ h.0 = some_is w h.0 (sym here ∙ ap (get nat_cmp new) at ∙ h.1) in (
                arm,
                (arms, [], refl),
                subst (λ n. Means f arm.from (Label n)) at number.0,
                sym given
                    ∙ ap (λ (b : Bor Value). b.now) one ∙ h.2,
              )
          of_value k x false e h =
              let older : (a : Arm) × Stands a arms × Means f a.from (Label k) × (a.value ≡ x) =
              agrees.value k x (h.0, sym (others k e) ∙ h.1, h.2) in
              (older.0, stands_more arms (arm ∷ []) older.0 older.1, older.2, older.3)

-- ALL ARMS

module _ (f : Function) (row : List ℕ) (arms : List Arm) where
  pub none_kept : (values : Values) → IsEmpty values → Agrees f row (take 0 arms) values
  none_kept values empty = record {
    arm = λ a s. absurd (none_first arms a s);
    value = λ k x h. absurd (nothing k x h);
  }
    where
      nothing : (k : ℕ) (x : Value) → HasValue values k x → ⊥
      nothing k x h =
          let at : get nat_cmp values k ≡ None = ap (λ es. lookup (is_at (nat_cmp k)) es) empty in
          let both : ◌≡◌ {A = Option (Bor Value)} None (Some h.0) = sym at ∙ h.1 in cc

  pub one_kept : (i : ℕ) (arm : Arm) (old new : Values) (t : Bool) → i < length arms → arm ≡ slice_index_or arms i arm
      → t ≡ true → Agrees f row (take i arms) old → Keeps f row arm old new t
      → Agrees f row (take (i + 1) arms) new
  one_kept i arm old new true h is e before keeps =
      subst (λ xs. Agrees f row xs new) (sym (take_more arms i arm h ∙ ap (λ a. take i arms ++ a ∷ []) (sym is)))
      (keeps (take i arms) before)
  one_kept i arm old new false h is e before keeps = absurd (true≢false (sym e))

  pub not_kept : (i : ℕ) (arm : Arm) (old new : Values) (t : Bool) → i < length arms → arm ≡ slice_index_or arms i arm
      → t ≡ false → Agrees f row (take i arms) old → Keeps f row arm old new t
      → AreArmsFor f row arms → ⊥
  not_kept i arm old new true h is e before keeps fits = true≢false e
  not_kept i arm old new false h is e before keeps fits =
      keeps (take i arms) (drop (suc i) arms) before
      (subst (λ xs. AreArmsFor f row xs) (breach.split_here arms i arm h is) fits)

  pub all_kept : (i : ℕ) (values : Values) → length arms ≤ i → Agrees f row (take i arms) values
      → Agrees f row arms values
  all_kept i values far agrees = subst (λ xs. Agrees f row xs values) (take_all i arms far) agrees

-- THE PHI

-- the row of a block has the numbers of the blocks from which an edge leads to it
record IsRowOf (f : Function) (c : Block) (row : List ℕ) : Type 0 where
  pub edge : (k : ℕ) (b : Block) → slice_get f.blocks k ≡ Some b → (IsEdge f b c → Contains row k)
      × (Contains row k → IsEdge f b c)
  pub inside : (k : ℕ) → Contains row k → k < length f.blocks

row_of : (f : Function) (back : Edges) (block : ℕ) (c : Block) (row : List ℕ) → ArePredecessorsOf f back
    → slice_get f.blocks block ≡ Some c → row ≡ get_or back block [] → IsRowOf f c row
row_of f back block c row are here is = record {
  edge = λ k b e.
      let edges : HasEdge are.0 k block ↔ IsEdge f b c = are.1.edge k block b c e here in
      let turned : HasEdge back block k ↔ HasEdge are.0 k block = are.2.edge k block in (
        λ h. subst (λ l. Contains l k) (sym is) (turned.1 (edges.1 h)),
        λ h. edges.0 (turned.0 (subst (λ l. Contains l k) is h)),
      );
  inside = λ k h.
      let turned : HasEdge back block k ↔ HasEdge are.0 k block = are.2.edge k block in
      subst (λ n. k < n) are.1.many (edge_from are.0 k block (turned.0 (subst (λ l. Contains l k) is h)));
}

pub row_inside : (f : Function) (back : Edges) (block : ℕ) → ArePredecessorsOf f back → block < length f.blocks
    → block < length back
row_inside f back block are h = subst (λ n. block < n) (sym (are.2.many ∙ are.1.many)) h

module _ (f : Function) (c : Block) (front : List Instr) (o : Op) (row : List ℕ) (is_row : IsRowOf f c row) where
  phi_fits : IsGoodPhi f c front o → AreArmsFor f row (arms_of o)
  phi_fits good = record { known = known; one_value = good.one_value }
    where
      known : (a : Arm) → Stands a (arms_of o) → (k : ℕ) × Means f a.from (Label k) × Contains row k
      known a s =
          let b : (b : Block) × Stands b f.blocks × (b.name ≡ a.from) =
          breach.each_standing (λ (x : Arm). (b : Block) × Stands b f.blocks × (b.name ≡ x.from))
          (arms_of o) good.known a s in
          let k : (k : ℕ) × (slice_get f.blocks k ≡ Some b.0) = number_of f.blocks b.0 b.1 in
          let named : Stands b.0.name (map (λ (x : Arm). x.from) (arms_of o)) =
          subst (λ n. Stands n (map (λ (x : Arm). x.from) (arms_of o))) (sym b.2)
          (stands_map (λ (x : Arm). x.from) (arms_of o) a s) in
          (k.0, (b.0, k.1, b.2), (is_row.edge k.0 b.0 k.1).0 ((good.labels b.0 b.1).1 named))

  module _ (values : Values) (agrees : Agrees f row (arms_of o) values) where
    has_arm : (k : ℕ) (b : Block) → slice_get f.blocks k ≡ Some b
        → Stands b.name (map (λ (x : Arm). x.from) (arms_of o)) → Contains row k × IsSome (get nat_cmp values k)
    has_arm k b e s =
        let a : (a : Arm) × Stands a (arms_of o) × (a.from ≡ b.name) =
        stands_mapped (λ (x : Arm). x.from) (arms_of o) b.name s in
        let at : (j : ℕ) × IsNumber f a.0.from j × Contains row j × HasValue values j a.0.value = agrees.arm a.0 a.1 in
        let one : k ≡ at.0 = at.1.1 k (b, e, sym a.2) in (
          subst (λ n. Contains row n) (sym one) at.2,
          subst (λ n. IsSome (get nat_cmp values n)) (sym one)
              (some_there (get nat_cmp values at.0) at.3.0 at.3.1),
        )
      where
        some_there : (r : Option (Bor Value)) (v : Bor Value) → r ≡ Some v → IsSome r
        some_there None v e = cc
        some_there (Some w) v e = refl

    phi_each : IsGoodPhi f c front o → HasEach values row
    phi_each good k h =
        let b : (b : Block) × (slice_get f.blocks k ≡ Some b) = there_is f.blocks k (is_row.inside k h) in
        (has_arm k b.0 b.1 ((good.labels b.0 (stands_at f.blocks k b.0 b.1)).0 ((is_row.edge k b.0 b.1).1 h))).1

    phi_good : All IsPhi front → HasEach values row → IsGoodPhi f c front o
    phi_good phis each = record {
      at_front = phis;
      labels = λ b s.
          let k : (k : ℕ) × (slice_get f.blocks k ≡ Some b) = number_of f.blocks b s in (
            λ edge. label k.0 b k.1 ((is_row.edge k.0 b k.1).0 edge),
            λ named. (is_row.edge k.0 b k.1).1 ((has_arm k.0 b k.1 named).0),
          );
      known = known;
      one_value = one_value;
    }
      where
        value_there : (r : Option (Bor Value)) → IsSome r → (v : Bor Value) × (r ≡ Some v)
        value_there None e = absurd (true≢false (sym e))
        value_there (Some v) e = (v, refl)

        label : (k : ℕ) (b : Block) → slice_get f.blocks k ≡ Some b → Contains row k
            → Stands b.name (map (λ (x : Arm). x.from) (arms_of o))
        label k b e h =
            let v : (v : Bor Value) × (get nat_cmp values k ≡ Some v) =
            value_there (get nat_cmp values k) (each k h) in
            let a : (a : Arm) × Stands a (arms_of o) × Means f a.from (Label k) × (a.value ≡ v.0.now) =
            agrees.value k v.0.now (v.0, v.1, refl) in
            subst (λ n. Stands n (map (λ (x : Arm). x.from) (arms_of o)))
            (one_label f a.0.from b.name k a.2 (b, e, refl)) (stands_map (λ (x : Arm). x.from) (arms_of o) a.0 a.1)

        known_here : (a : Arm) → Stands a (arms_of o) → (b : Block) × Stands b f.blocks × (b.name ≡ a.from)
        known_here a s =
            let at : (j : ℕ) × IsNumber f a.from j × Contains row j × HasValue values j a.value = agrees.arm a s in
            let m = at.1.0 in
            (m.0, stands_at f.blocks at.0 m.0 m.1, m.2)

        known : All (λ (a : Arm). (b : Block) × Stands b f.blocks × (b.name ≡ a.from)) (arms_of o)
        known i d h = known_here (slice_index_or (arms_of o) i d)
            (breach.stands_at (arms_of o) i (slice_index_or (arms_of o) i d) h (itself i d h))
          where
            itself : (i : ℕ) (d : Arm) → i < length (arms_of o)
                → slice_index_or (arms_of o) i d ≡ slice_index_or (arms_of o) i (slice_index_or (arms_of o) i d)
            itself i d h = get_or_default (arms_of o) i d (slice_index_or (arms_of o) i d) h

        one_value : (a b : Arm) → Stands a (arms_of o) → Stands b (arms_of o) → a.from ≡ b.from → a.value ≡ b.value
        one_value a b s t same =
            let x : (j : ℕ) × IsNumber f a.from j × Contains row j × HasValue values j a.value = agrees.arm a s in
            let y : (j : ℕ) × IsNumber f b.from j × Contains row j × HasValue values j b.value = agrees.arm b t in
            let one : x.0 ≡ y.0 = y.1.1 x.0 (subst (λ n. Means f n (Label x.0)) same x.1.0) in
            let v : x.3.0 ≡ y.3.0 = some_is x.3.0 y.3.0 (sym x.3.1 ∙ ap (get nat_cmp values) one ∙ y.3.1) in
            sym x.3.2 ∙ ap (λ (b : Bor Value). b.now) v ∙ y.3.2

-- what is answered where all arms were kept
pub judged : (f g : Function) (back : Edges) (block : ℕ) (row : List ℕ) (arms : List Arm) (o : Op)
    (found : Option Values) (values : Values) (behind good : Bool) → f ≡ g → ArePredecessorsOf g back
    → row ≡ get_or back block [] → arms ≡ arms_of o → AreKept f row arms found → found ≡ Some values
    → (IsTrue good ↔ HasEach values row) → behind ≡ true → (c : Block) (front : List Instr)
    → slice_get g.blocks block ≡ Some c → (IsTrue behind ↔ All IsPhi front) → IsTrue good ↔ IsGoodPhi g c front o
judged f g back block row arms o found values behind good same are is_row is_arms kept some each first c front here
    phis = (
      λ t. phi_good g c front o row rows values agrees (phis.0 first) (each.0 t),
      λ is_good. each.1 (phi_each g c front o row rows values agrees is_good),
    )
  where
    rows : IsRowOf g c row
    rows = row_of g back block c row are here is_row

    found_agrees : AreKept f row arms (Some values)
    found_agrees = subst (AreKept f row arms) some kept

    agrees : Agrees g row (arms_of o) values
    agrees = subst (λ xs. Agrees g row xs values) is_arms (subst (λ h. Agrees h row arms values) same found_agrees)

-- and where not
pub not_judged : (f g : Function) (back : Edges) (block : ℕ) (row : List ℕ) (arms : List Arm) (o : Op)
    (found : Option Values) → f ≡ g → ArePredecessorsOf g back → row ≡ get_or back block []
    → arms ≡ arms_of o → AreKept f row arms found → found ≡ None → (c : Block) (front : List Instr)
    → slice_get g.blocks block ≡ Some c → IsTrue false ↔ IsGoodPhi g c front o
not_judged f g back block row arms o found same are is_row is_arms kept none c front here = (
  λ t. absurd (true≢false (sym t)),
  λ is_good. absurd (misfit
      (subst (λ xs. AreArmsFor f row xs) (sym is_arms)
      (subst (λ h. AreArmsFor h row (arms_of o)) (sym same)
      (phi_fits g c front o row (row_of g back block c row are here is_row) is_good)))),
)
  where
    misfit : AreArmsFor f row arms → ⊥
    misfit = subst (AreKept f row arms) none kept

-- GOING THROUGH THE PREDECESSORS

-- each of the blocks is left or has a value
pub record AreLeft (values : Values) (row left : List ℕ) : Type 0 where
  pub each : (k : ℕ) → Contains row k → Contains left k ⊎ IsSome (get nat_cmp values k)
  pub inside : (k : ℕ) → Contains left k → Contains row k

pub all_left : (values : Values) (row left : List ℕ) → left ≡ row → AreLeft values row left
all_left values row left is =
    record { each = λ k h. inl (subst (λ l. Contains l k) (sym is) h); inside = λ k h. subst (λ l. Contains l k) is h }

pub one_done : (values : Values) (row left rest : List ℕ) (block : ℕ) → left ≡ block ∷ rest → AreLeft values row left
    → IsSome (get nat_cmp values block) → AreLeft values row rest
one_done values row left rest block is before has =
    record {
      each = λ k h. passed k (before.each k h);
      inside = λ k h. before.inside k
          (subst (λ l. Contains l k) (sym is) (Contains-append_right (block ∷ []) rest k h));
    }
  where
    first : (k : ℕ) → Contains (block ∷ []) k ⊎ Contains rest k → Contains rest k ⊎ IsSome (get nat_cmp values k)
    first k (inl h) = inr (subst (λ n. IsSome (get nat_cmp values n)) (is_it k (Contains-push_cases [] block k h)) has)
      where
        is_it : (k : ℕ) → Contains [] k ⊎ (block ≡ k) → block ≡ k
        is_it k (inl h) = absurd (nothing_in k h)
        is_it k (inr e) = e
    first k (inr h) = inl h

    passed : (k : ℕ) → Contains left k ⊎ IsSome (get nat_cmp values k)
        → Contains rest k ⊎ IsSome (get nat_cmp values k)
    passed k (inl h) = first k (Contains-append_cases (block ∷ []) rest k (subst (λ l. Contains l k) is h))
    passed k (inr h) = inr h

pub one_without : (values : Values) (row left rest : List ℕ) (block : ℕ) → left ≡ block ∷ rest
    → AreLeft values row left → is_some (get nat_cmp values block) ≡ false → IsTrue false ↔ HasEach values row
one_without values row left rest block is before none = (
  λ t. absurd (true≢false (sym t)),
  λ all. absurd (true≢false
      (sym (all block (before.inside block (subst (λ l. Contains l block) (sym is) (0, omega arith, refl)))) ∙ none)),
)

pub none_left : (values : Values) (row left : List ℕ) → left ≡ [] → AreLeft values row left
    → IsTrue true ↔ HasEach values row
none_left values row left is before = (λ t k h. done k (before.each k h), λ all. refl)
  where
    done : (k : ℕ) → Contains left k ⊎ IsSome (get nat_cmp values k) → IsSome (get nat_cmp values k)
    done k (inl h) = absurd (nothing_in k (subst (λ l. Contains l k) is h))
    done k (inr h) = h
