-- What a module has too many of first.
use Rattle.std.proofs.Common.{[], ◌∷◌, refl}
use Rattle.std.specs.Prelude.{All}
use Rattle.std.proofs.lemmas.List.Elements.{All-cons, All-nil}
use Rattle.ds_ast.specs.declared.module.Module.{Module}
use Rattle.ds_shape.specs.Written.{IsFirstBreach}
use Rattle.ds_check.specs.declared.fault.CountKind.TheVariants.{Functions, Instructions, Params, GlobalWords}
use Rattle.ds_check.specs.Fault.{HasFew, count_kinds}

module _ (m : Module) where
  one : HasFew m Functions → All (HasFew m) (Functions ∷ [])
  one a = All-cons (HasFew m) Functions [] a (All-nil (HasFew m))

  two : HasFew m Functions → HasFew m Instructions → All (HasFew m) (Functions ∷ Instructions ∷ [])
  two a b =
      All-cons (HasFew m) Functions (Instructions ∷ []) a (All-cons (HasFew m) Instructions [] b (All-nil (HasFew m)))

  three : HasFew m Functions → HasFew m Instructions → HasFew m Params
      → All (HasFew m) (Functions ∷ Instructions ∷ Params ∷ [])
  three a b c = All-cons (HasFew m) Functions (Instructions ∷ Params ∷ []) a
      (All-cons (HasFew m) Instructions (Params ∷ []) b (All-cons (HasFew m) Params [] c (All-nil (HasFew m))))

  pub many_functions : (HasFew m Functions → ⊥) → IsFirstBreach (HasFew m) count_kinds Functions
  many_functions n = record {
    before = [];
    after = Instructions ∷ Params ∷ GlobalWords ∷ [];
    split = refl;
    breaks = n;
    kept_before = All-nil (HasFew m);
  }

  pub many_instructions : HasFew m Functions → (HasFew m Instructions → ⊥)
      → IsFirstBreach (HasFew m) count_kinds Instructions
  many_instructions a n =
      record {
        before = Functions ∷ [];
        after = Params ∷ GlobalWords ∷ [];
        split = refl;
        breaks = n;
        kept_before = one a;
      }

  pub many_parameters : HasFew m Functions → HasFew m Instructions → (HasFew m Params → ⊥)
      → IsFirstBreach (HasFew m) count_kinds Params
  many_parameters a b n =
      record {
        before = Functions ∷ Instructions ∷ [];
        after = GlobalWords ∷ [];
        split = refl;
        breaks = n;
        kept_before = two a b;
      }

  pub many_words : HasFew m Functions → HasFew m Instructions → HasFew m Params → (HasFew m GlobalWords → ⊥)
      → IsFirstBreach (HasFew m) count_kinds GlobalWords
  many_words a b c n =
      record {
        before = Functions ∷ Instructions ∷ Params ∷ [];
        after = [];
        split = refl;
        breaks = n;
        kept_before = three a b c;
      }

  pub none_many : HasFew m Functions → HasFew m Instructions → HasFew m Params → HasFew m GlobalWords
      → All (HasFew m) count_kinds
  none_many a b c d =
      All-cons (HasFew m) Functions (Instructions ∷ Params ∷ GlobalWords ∷ []) a
      (All-cons (HasFew m) Instructions (Params ∷ GlobalWords ∷ []) b
      (All-cons (HasFew m) Params (GlobalWords ∷ []) c (All-cons (HasFew m) GlobalWords [] d (All-nil (HasFew m)))))
