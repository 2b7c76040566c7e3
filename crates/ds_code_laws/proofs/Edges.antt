-- Edges: the block of a label is that of the edge, whose copies are the values of its phis.
use Rattle.std.proofs.Common.{◌≡◌, ℕ, zero, suc, ◌==◌, Bool, true, false, if◌then◌else◌, List, [], ◌∷◌}
use Rattle.std.proofs.Common.{◌++◌, map}
use Rattle.std.proofs.Common.{Option, Some, None, slice_get, refl, ap, sym, ◌∙◌, subst}
use Rattle.std.specs.Option.{unwrap_or, option_map, is_some}
use Rattle.ds_ast.specs.declared.name.Name.{Name}
use Rattle.ds_ast.specs.declared.module.Module.{Module}
use Rattle.ds_ast.specs.declared.module.Function.{Function}
use Rattle.ds_ast.specs.Bounds.{is_name}
use Rattle.ds_names.specs.Names.{place_of}
use Rattle.ds_meaning.specs.Control.{case_for}
use Rattle.ds_code.specs.CodeMeaning.{case_in}
use Rattle.ds_code.specs.Lowering.{edge_of, each_once, switch_labels, edge_number, case_of}
use Rattle.ds_code_laws.proofs.Named.{Stands, names_decide, stands_there, at_head, in_left, in_right, in_tail}

get_map : {A B : Type 0} (g : A → B) (xs : List A) (n : ℕ) (x : A) → slice_get xs n ≡ Some x
    → slice_get (map g xs) n ≡ Some (g x)
get_map g [] n x e = absurd (cc)
get_map g (y ∷ xs) zero x e = let same : y ≡ x = cc in ap (λ u. Some (g u)) same
get_map g (y ∷ xs) (suc n) x e = get_map g xs n x e

-- a label that stands there stays
once_keeps : (kept more : List Name) (x : Name) → Stands kept x → Stands (each_once kept more) x
once_keeps kept [] x s = s
once_keeps kept (l ∷ more) x s =
    by_test (λ ks t. once_keeps ks more x t) (is_some (place_of kept l))
  where
    by_test : ((ks : List Name) → Stands ks x → Stands (each_once ks more) x)
        → (t : Bool) → Stands (each_once (if t then kept else kept ++ l ∷ []) more) x
    by_test rec true = rec kept s
    by_test rec false = rec (kept ++ l ∷ []) (in_left kept (l ∷ []) x s)

-- and each that comes is there
once_has : (kept more : List Name) (x : Name) → Stands more x → Stands (each_once kept more) x
once_has kept [] x s = absurd (let bad : None ≡ Some s.place = s.is in cc)
once_has kept (l ∷ more) x s = by_name (λ ks t. once_has ks more x t) (is_name l x) refl
  where
    now : Stands (if is_some (place_of kept l) then kept else kept ++ l ∷ []) l
    now = by_place (place_of kept l) refl
      where
        by_place : (o : Option ℕ) → place_of kept l ≡ o → Stands (if is_some o then kept else kept ++ l ∷ []) l
        by_place None e = in_right kept (l ∷ []) l (record { place = 0; is = at_head l [] })
        by_place (Some n) e = record { place = n; is = e }

    further : ((ks : List Name) → Stands more x → Stands (each_once ks more) x)
        → (o : Option ℕ) → place_of more x ≡ o → is_name l x ≡ false
        → Stands (each_once (if is_some (place_of kept l) then kept else kept ++ l ∷ []) more) x
    further rec None e f = absurd (let bad : None ≡ Some s.place =
        sym (ap (λ o. option_map suc o) e) ∙ sym (ap (λ t. if t then Some 0 else option_map suc (place_of more x)) f)
        ∙ s.is in cc)
    further rec (Some n) e f =
        rec (if is_some (place_of kept l) then kept else kept ++ l ∷ []) (record { place = n; is = e })

    by_name : ((ks : List Name) → Stands more x → Stands (each_once ks more) x) → (t : Bool) → is_name l x ≡ t
        → Stands (each_once (if is_some (place_of kept l) then kept else kept ++ l ∷ []) more) x
    by_name rec true e =
        let same : l ≡ x = (names_decide l x).0 e in
        subst (λ z. Stands (each_once (if is_some (place_of kept l) then kept else kept ++ l ∷ []) more) z) same
        (once_keeps (if is_some (place_of kept l) then kept else kept ++ l ∷ []) more l now)
    by_name rec false e = further rec (place_of more x) refl e

-- the label of the case that is taken is one of them
case_stands : (n : ℕ) (cases : List (ℕ × Name)) (other : Name)
    → Stands (other ∷ map (λ (x : ℕ × Name). x.1) cases) (case_for n cases other)
case_stands n [] other = record { place = 0; is = at_head other [] }
case_stands n (c ∷ cases) other = by_test (case_stands n cases other) (c.0 == n)
  where
    rest : List Name
    rest = map (λ (x : ℕ × Name). x.1) cases

    -- what stands among others and more stands among one more
    wider : (x : Name) → Stands (other ∷ rest) x → Stands (other ∷ c.1 ∷ rest) x
    wider x s = by_first (is_name other x) refl
      where
        by_rest : (o : Option ℕ) → place_of rest x ≡ o → is_name other x ≡ false → Stands rest x
        by_rest None e f = absurd (let bad : None ≡ Some s.place =
            sym (ap (λ o. option_map suc o) e) ∙ sym (ap (λ t. if t then Some 0 else option_map suc (place_of rest x))
            f)
            ∙ s.is in cc)
        by_rest (Some k) e f = record { place = k; is = e }

        by_first : (t : Bool) → is_name other x ≡ t → Stands (other ∷ c.1 ∷ rest) x
        by_first true e = record {
          place = 0;
          is = ap (λ t. if t then Some 0 else option_map suc (place_of (c.1 ∷ rest) x)) e;
        }
        by_first false e = in_tail (c.1 ∷ rest) x other (in_tail rest x c.1 (by_rest (place_of rest x) refl e))

    by_test : Stands (other ∷ rest) (case_for n cases other) → (t : Bool)
        → Stands (other ∷ c.1 ∷ rest) (if t then c.1 else case_for n cases other)
    by_test rec true = in_tail (c.1 ∷ rest) c.1 other (record { place = 0; is = at_head c.1 rest })
    by_test rec false = wider (case_for n cases other) rec

-- the number of the case's edge is that of its label
pub case_number : (ls : List Name) (n : ℕ) (cases : List (ℕ × Name)) (other : Name)
    → case_in n (map (case_of ls) cases) (edge_number ls other) ≡ edge_number ls (case_for n cases other)
case_number ls n [] other = refl
case_number ls n (c ∷ cases) other = by_test (case_number ls n cases other) (c.0 == n)
  where
    by_test : case_in n (map (case_of ls) cases) (edge_number ls other) ≡ edge_number ls (case_for n cases other)
        → (t : Bool)
        → (if t then edge_number ls c.1 else case_in n (map (case_of ls) cases) (edge_number ls other))
        ≡ edge_number ls (if t then c.1 else case_for n cases other)
    by_test rec true = refl
    by_test rec false = rec

-- the edge of a number that a label has is that label's
pub edge_there : (m : Module) (f : Function) (from : Name) (ls : List Name) (label : Name) → Stands ls label
    → slice_get (map (edge_of m f from) ls) (edge_number ls label) ≡ Some (edge_of m f from label)
edge_there m f from ls label s =
    let e : edge_number ls label ≡ s.place = ap (λ o. unwrap_or o 0) s.is in
    ap (λ n. slice_get (map (edge_of m f from) ls) n) e
    ∙ get_map (edge_of m f from) ls s.place label (stands_there ls label s.place s.is)

-- a switch takes the edge of its case
pub switch_edge : (m : Module) (f : Function) (from : Name) (n : ℕ) (cases : List (ℕ × Name)) (other : Name)
    → slice_get (map (edge_of m f from) (switch_labels other cases))
    (case_in n (map (case_of (switch_labels other cases)) cases) (edge_number (switch_labels other cases) other))
    ≡ Some (edge_of m f from (case_for n cases other))
switch_edge m f from n cases other =
    let ls = switch_labels other cases in
    ap (λ k. slice_get (map (edge_of m f from) ls) k) (case_number ls n cases other)
    ∙ edge_there m f from ls (case_for n cases other)
    (once_has [] (other ∷ map (λ (x : ℕ × Name). x.1) cases) (case_for n cases other) (case_stands n cases other))
