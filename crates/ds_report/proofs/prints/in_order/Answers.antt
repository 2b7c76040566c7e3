use Rattle.std.proofs.Common.{rules, subst}
use Rattle.std.proofs.lemmas.List.Sorted.{IsNonDecreasingBy-from_sort_by_key}
use Rattle.std.specs.List.Sorted.{IsPermutation}
use Rattle.ds_report.proofs.prints.in_order.Goals as goal

pub returns : goal.returns
returns c = record {
  same = subst (λ prints. IsPermutation prints c.sort_unstable_by_key.new.self.items) c.in_ok-prints.ensures
      c.sort_unstable_by_key.ensures.permutation;
  rises = IsNonDecreasingBy-from_sort_by_key (λ p. p.number) _ c.sort_unstable_by_key.ensures.sorted
      (λ a r q k. search rules);
}
