-- Whether a module has a main, by going through its functions.
use Rattle.std.proofs.Common.{◌≡◌, ◌↔◌, ◌<◌, ◌≤◌, IsTrue, ℕ, true, false, List, length, slice_index_or, refl, sym, ap}
use Rattle.std.proofs.Common.{subst, true≢false, arith}
use Rattle.ds_ast.specs.declared.module.Module.{Module}
use Rattle.ds_ast.specs.declared.module.Function.{Function}
use Rattle.ds_shape.specs.Types.{Stands}
use Rattle.ds_shape.specs.Accepted.{HasMain, IsMain}
use Rattle.ds_shape.specs.Breaches.{stands_at, each_standing}

pub found : (m : Module) (fs : List Function) (i : ℕ) (f : Function) → fs ≡ m.functions → i < length fs
    → f ≡ slice_index_or fs i f → IsMain f → IsTrue true ↔ HasMain m
found m fs i f same h is main = (λ t. (f, subst (Stands f) same (stands_at fs i f h is), main), λ has. refl)

pub not_found : (m : Module) (fs : List Function) (i : ℕ) → fs ≡ m.functions → length fs ≤ i
    → ((k : ℕ) (d : Function) → k < i → IsMain (slice_index_or m.functions k d) → ⊥) → IsTrue false ↔ HasMain m
not_found m fs i same h none = (
  (λ t. absurd (true≢false (sym t))),
  λ has. absurd (each_standing (λ f. IsMain f → ⊥) m.functions
      (λ k d l. none k d (let e : length fs ≡ length m.functions = ap length same in omega (arith, l, h, e))) has.0
      has.1 has.2),
)
