-- Rows of the blocks that instructions lead to.
use Rattle.std.proofs.Common.{◌≡◌, ◌<◌, ◌≤◌, ◌+◌, ◌++◌, ℕ, List, [], ◌∷◌, ◌⊎◌, inl, inr, length, get_or, slice_get}
use Rattle.std.proofs.Common.{Option, Some, None, refl, sym, ap, ◌∙◌, subst, arith}
use Rattle.std.specs.Prelude.{◌↔◌, Contains}
use Rattle.std.proofs.lemmas.List.Elements.{Contains-append_left, Contains-push, Contains-push_cases}
use Rattle.std.proofs.lemmas.List.{length_push, get_or_push, get_or_append_left, get_or_past}
use Rattle.std.proofs.lemmas.Bool.{cases_eq, cases_order}
use Rattle.std.proofs.lemmas.Option.{slice_get_within}
use Rattle.ds_ast.specs.declared.name.Name.{Name}
use Rattle.ds_ast.specs.declared.module.Function.{Function}
use Rattle.ds_ast.specs.declared.module.Block.{Block}
use Rattle.ds_check_names.specs.Scope.{Means}
use Rattle.ds_check_names.specs.declared.meaning.Meaning.TheVariants.{Label}
use Rattle.ds_graph.specs.Graph.{Edges, HasEdge, IsClosed}
use Rattle.ds_shape.specs.Types.{Stands}
use Rattle.ds_shape.specs.Flow.{IsEdge, targets_of}
use Rattle.ds_check_blocks.specs.Edges.{AreEdgesOf}
use Rattle.ds_check_blocks.specs.Leads.{LeadsFrom}
use Rattle.ds_check_blocks.proofs.Standing.{some_is, there_is, stands_at}

pub nothing_in : (b : ℕ) → Contains [] b → ⊥
nothing_in b h = let lt = h.1 in absurd (omega (arith, lt))

module _ (C P Q N : Type 0) (b : ℕ) (now : List ℕ) (before : Contains now b ↔ (C ⊎ P)) (more : Q ↔ (P ⊎ N)) where
  -- a label that is a block's
  pub pushed : (block : ℕ) (new : List ℕ) → (◌≡◌ {A = Option ℕ} (Some block) (Some b) ↔ N) → new ≡ now ++ block ∷ []
      → Contains new b ↔ (C ⊎ Q)
  pushed block new named push = (
    λ h. there (Contains-push_cases now block b (subst (λ l. Contains l b) push h)),
    λ o. subst (λ l. Contains l b) (sym push) (back o),
  )
    where
      kept : C ⊎ P → C ⊎ Q
      kept (inl c) = inl c
      kept (inr p) = inr (more.1 (inl p))

      there : Contains now b ⊎ (block ≡ b) → C ⊎ Q
      there (inl h) = kept (before.0 h)
      there (inr e) = inr (more.1 (inr (named.0 (ap Some e))))

      either : P ⊎ N → Contains (now ++ block ∷ []) b
      either (inl p) = Contains-append_left now (block ∷ []) b (before.1 (inr p))
      either (inr n) = subst (λ k. Contains (now ++ block ∷ []) k) (some_is block b (named.1 n))
          (Contains-push now block)

      back : C ⊎ Q → Contains (now ++ block ∷ []) b
      back (inl c) = Contains-append_left now (block ∷ []) b (before.1 (inl c))
      back (inr q) = either (more.0 q)

  -- a label that is none
  pub passed : (◌≡◌ {A = Option ℕ} None (Some b) ↔ N) → Contains now b ↔ (C ⊎ Q)
  passed named = (λ h. kept (before.0 h), λ o. back o)
    where
      kept : C ⊎ P → C ⊎ Q
      kept (inl c) = inl c
      kept (inr p) = inr (more.1 (inl p))

      either : P ⊎ N → Contains now b
      either (inl p) = before.1 (inr p)
      either (inr n) = let e = named.1 n in cc

      back : C ⊎ Q → Contains now b
      back (inl c) = before.1 (inl c)
      back (inr q) = either (more.0 q)

-- the labels of one instruction more
pub further : (P Q N : Type 0) (b : ℕ) (now new : List ℕ) → Contains now b ↔ P → Q ↔ (P ⊎ N)
    → Contains new b ↔ (Contains now b ⊎ N) → Contains new b ↔ Q
further P Q N b now new before more push = (λ h. there (push.0 h), λ q. push.1 (back (more.0 q)))
  where
    there : Contains now b ⊎ N → Q
    there (inl h) = more.1 (inl (before.0 h))
    there (inr n) = more.1 (inr n)

    back : P ⊎ N → Contains now b ⊎ N
    back (inl p) = inl (before.1 p)
    back (inr n) = inr n

-- before the first, and behind the last
pub start : (P C : Type 0) → (P → ⊥) → C ↔ (C ⊎ P)
start P C none = (λ c. inl c, λ o. only o)
  where
    only : C ⊎ P → C
    only (inl c) = c
    only (inr p) = absurd (none p)

pub finish : (R C P Q : Type 0) → R ↔ (C ⊎ P) → P ↔ Q → R ↔ (C ⊎ Q)
finish R C P Q is same = (λ r. there (is.0 r), λ o. is.1 (back o))
  where
    there : C ⊎ P → C ⊎ Q
    there (inl c) = inl c
    there (inr p) = inr (same.0 p)

    back : C ⊎ Q → C ⊎ P
    back (inl c) = inl c
    back (inr q) = inr (same.1 q)

pub none_in : (P : Type 0) (b : ℕ) (row : List ℕ) → row ≡ [] → (P → ⊥) → Contains row b ↔ P
none_in P b row none no_p = (λ h. absurd (nothing_in b (subst (λ l. Contains l b) none h)), λ p. absurd (no_p p))

pub through : (R P Q : Type 0) → R ↔ P → P ↔ Q → R ↔ Q
through R P Q a b = (λ r. b.0 (a.0 r), λ q. a.1 (b.1 q))

-- GRAPHS

-- the rows of so many blocks
pub record AreRows (f : Function) (n : ℕ) (edges : Edges) : Type 0 where
  pub many : length edges ≡ n
  pub row : (a : ℕ) (from : Block) → a < n → slice_get f.blocks a ≡ Some from → (b : ℕ)
      → Contains (get_or edges a []) b ↔ LeadsFrom f b from.code

pub no_rows : (f : Function) (edges : Edges) → edges ≡ [] → AreRows f 0 edges
no_rows f edges none = record { many = ap length none; row = λ a from h. absurd (omega (arith, h)) }

pub row_more : (f : Function) (n : ℕ) (edges new : Edges) (row : List ℕ) (c : Block) → slice_get f.blocks n ≡ Some c
    → AreRows f n edges
    → ((b : ℕ) → Contains row b ↔ LeadsFrom f b c.code) → new ≡ edges ++ row ∷ [] → AreRows f (n + 1) new
row_more f n edges new row c here before is push = record {
  many = ap length push ∙ length_push edges row ∙ ap (λ k. k + 1) before.many;
  row = λ a from h there. by_place a from h there (cases_eq a n);
}
  where
    by_place : (a : ℕ) (from : Block) → a < n + 1 → slice_get f.blocks a ≡ Some from → (a ≡ n) ⊎ ((a ≡ n) → ⊥)
        → (b : ℕ) → Contains (get_or new a []) b ↔ LeadsFrom f b from.code
    by_place a from h there (inl e) b =
        let same : c ≡ from = some_is c from (sym here ∙ ap (slice_get f.blocks) (sym e) ∙ there) in
        let at : get_or new a [] ≡ row = ap (λ l. get_or l a []) push
        ∙ get_or_push edges row [] a (before.many ∙ sym e) in
        subst (λ (d : Block). Contains (get_or new a []) b ↔ LeadsFrom f b d.code) same
        (subst (λ l. Contains l b ↔ LeadsFrom f b c.code) (sym at) (is b))
    by_place a from h there (inr other) b =
        let inside : a < n = omega (arith, h, other) in
        let at : get_or new a [] ≡ get_or edges a [] = ap (λ l. get_or l a []) push
        ∙ get_or_append_left edges (row ∷ []) [] a (subst (λ k. a < k) (sym before.many) inside) in
        subst (λ l. Contains l b ↔ LeadsFrom f b from.code) (sym at) (before.row a from inside there b)

-- a label is that of one of the function's blocks
pub label_inside : (f : Function) (label : Name) (k : ℕ) → Means f label (Label k) → k < length f.blocks
label_inside f label k m = slice_get_within f.blocks k m.0 m.1

-- an edge leads from a node
pub edge_from : (edges : Edges) (a b : ℕ) → HasEdge edges a b → a < length edges
edge_from edges a b h = by (cases_order a (length edges))
  where
    past : length edges ≤ a → a < length edges
    past far = absurd (nothing_in b (subst (λ l. Contains l b) (get_or_past edges a [] far) h))

    by : (a ≡ length edges) ⊎ ((a < length edges) ⊎ (length edges < a)) → a < length edges
    by (inl e) = past (omega (arith, e))
    by (inr (inl lt)) = lt
    by (inr (inr far)) = past (omega (arith, far))

pub rows_are_edges : (f g : Function) (n : ℕ) (edges : Edges) → f ≡ g → n ≡ length f.blocks → AreRows f n edges
    → AreEdgesOf g edges
rows_are_edges f g n edges same all rows =
    subst (λ h. AreEdgesOf h edges) same (record { many = rows.many ∙ all; closed = closed; edge = edge })
  where
    closed : IsClosed edges
    closed a b h =
        let lt : a < n = subst (λ k. a < k) rows.many (edge_from edges a b h) in
        let c : (c : Block) × (slice_get f.blocks a ≡ Some c) = there_is f.blocks a (subst (λ k. a < k) all lt) in
        let to : LeadsFrom f b c.0.code = (rows.row a c.0 lt c.1 b).0 h in
        subst (λ k. b < k) (sym (rows.many ∙ all)) (slice_get_within f.blocks b to.2.2.0 to.2.2.1)

    edge : (a b : ℕ) (from to : Block) → slice_get f.blocks a ≡ Some from → slice_get f.blocks b ≡ Some to
        → HasEdge edges a b ↔ IsEdge f from to
    edge a b from to here there =
        let row : Contains (get_or edges a []) b ↔ LeadsFrom f b from.code =
        rows.row a from (subst (λ k. a < k) (sym all) (slice_get_within f.blocks a from here)) here b in
        (λ h. leads_edge (row.0 h), λ e. row.1 (edge_leads e))
      where
        leads_edge : LeadsFrom f b from.code → IsEdge f from to
        leads_edge l =
            let one : l.2.2.0 ≡ to = some_is l.2.2.0 to (sym l.2.2.1 ∙ there) in
            let called : l.2.0 ≡ to.name = sym l.2.2.2 ∙ ap (λ (c : Block). c.name) one in (
              stands_at f.blocks a from here,
              stands_at f.blocks b to there,
              l.0,
              l.1,
              subst (λ name. Stands name (targets_of l.0.op)) called l.2.1,
            )

        edge_leads : IsEdge f from to → LeadsFrom f b from.code
        edge_leads e = (e.2, e.3, (to.name, e.4, (to, there, refl)))
