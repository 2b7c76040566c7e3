use Rattle.std.proofs.Common.{refl}
use Rattle.ds_tried.specs.Words.{compare_and_swap, narrow_compare_and_swap, compare_and_swap_tells}
use Rattle.ds_tried.proofs.Trials.{tried}
use Rattle.ds_tried.proofs.words_are_compared.Goals as goal

pub returns-clause-compare_and_swap : goal.returns-clause-compare_and_swap
returns-clause-compare_and_swap c = tried compare_and_swap refl

pub returns-clause-narrow_compare_and_swap : goal.returns-clause-narrow_compare_and_swap
returns-clause-narrow_compare_and_swap c = tried narrow_compare_and_swap refl

pub returns-clause-compare_and_swap_tells : goal.returns-clause-compare_and_swap_tells
returns-clause-compare_and_swap_tells c = tried compare_and_swap_tells refl
