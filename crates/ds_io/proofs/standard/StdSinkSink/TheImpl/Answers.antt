use Rattle.std.proofs.Common.{ℕ, ◌≡◌, List, Option, None, Result, Ok, Err, IfOk, OnErr, refl, rules}
use Rattle.ds_io.proofs.standard.StdSinkSink.TheImpl.Goals as goal

-- what is not told stays so
if_ok_untold : {E : Type 0} (r : Result ℕ E) → IfOk r (λ _. ◌≡◌ {A = Option (List ℕ)} None None)
if_ok_untold (Ok n) = refl
if_ok_untold (Err e) = tt

on_err_untold : {E : Type 0} (r : Result ℕ E) → OnErr r (◌≡◌ {A = Option (List ℕ)} None None)
on_err_untold (Ok n) = tt
on_err_untold (Err e) = refl

pub write-tells : goal.write-tells
write-tells g c = record {
  some = search rules;
  bound = search rules;
  takes = if_ok_untold c.result;
  failed = search rules;
  unchanged = on_err_untold c.result;
  never_falls = search rules;
}
