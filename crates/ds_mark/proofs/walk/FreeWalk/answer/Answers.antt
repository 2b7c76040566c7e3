use Rattle.std.proofs.Common.{◌≡◌, ℕ, ap, sym, subst, ◌∙◌}
use Rattle.std.specs.Prelude.{IfSome, ◌↔◌}
use Rattle.ds_step.specs.declared.FreeTrap.TheVariants.{BadFree, DoubleFree}
use Rattle.ds_plain.specs.Freeing.{FreeNext, FreesOn, FailsFree}
use Rattle.ds_mark.specs.Walks.{FreeState, frees_at, next_in, StartsNone, IsNotLive}
use Rattle.ds_mark.proofs.Fails.{bad, double}
use Rattle.ds_mark.proofs.walk.FreeWalk.answer.Goals as goal

pub returns-clause-bad_free : goal.returns-clause-bad_free
returns-clause-bad_free c =
    let next = next_in c.step_of-event.result.1 in
    let stood : FreesOn c.in-FreesOn.at ≡ c.args.self.now.next =
    sym (ap next_in c.in-FreesOn.is) ∙ ap (λ (x : FreeState). x.next) c.self.view_is in
    subst (λ (n : FreeNext). IfSome (frees_at n) (λ at. (next ≡ FailsFree BadFree) ↔ StartsNone at c.args.old)) stood
    (bad c.in-FreesOn.at c.args.old next c.step_of-event.ensures.next)

pub returns-clause-double_free : goal.returns-clause-double_free
returns-clause-double_free c =
    let next = next_in c.step_of-event.result.1 in
    let stood : FreesOn c.in-FreesOn.at ≡ c.args.self.now.next =
    sym (ap next_in c.in-FreesOn.is) ∙ ap (λ (x : FreeState). x.next) c.self.view_is in
    subst (λ (n : FreeNext). IfSome (frees_at n) (λ at. (seen : ℕ)
    → (next ≡ FailsFree (DoubleFree seen)) ↔ ((seen ≡ c.args.old) × IsNotLive at c.args.old))) stood
    (λ seen. double c.in-FreesOn.at c.args.old seen next c.step_of-event.ensures.next)
