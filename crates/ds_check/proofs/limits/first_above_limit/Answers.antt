use Rattle.std.proofs.Common.{◌≤◌, length, sym, ◌∙◌, true≢false, arith}
use Rattle.ds_check.proofs.FirstMany.{many_functions, many_instructions, many_parameters, many_words}
use Rattle.ds_check.proofs.limits.first_above_limit.Goals as goal

-- src/limits.rt:42:9
pub returns-then-len-gt-MOST_FUNCTIONS-clause-some :
    goal.returns-then-len-gt-MOST_FUNCTIONS-clause-some
returns-then-len-gt-MOST_FUNCTIONS-clause-some c =
    many_functions c.args.module.now (λ few. let h : length c.args.module.now.functions ≤ 1024 = few in
    absurd (grind (arith, h, c.if-len-gt-MOST_FUNCTIONS.true, c.len.ensures)))

-- src/limits.rt:45:9
pub returns-then-not-has_few_instructions-clause-some :
    goal.returns-then-not-has_few_instructions-clause-some
returns-then-not-has_few_instructions-clause-some c =
    let few : length c.args.module.now.functions ≤ 1024 =
    grind (arith, c.if-len-gt-MOST_FUNCTIONS.false, c.len.ensures) in
    many_instructions c.args.module.now few
    (λ i. true≢false (sym (c.has_few_instructions.ensures.1 i) ∙ c.if-not-has_few_instructions.true))

-- src/limits.rt:48:9
pub returns-then-not-has_few_parameters-clause-some :
    goal.returns-then-not-has_few_parameters-clause-some
returns-then-not-has_few_parameters-clause-some c =
    let few : length c.args.module.now.functions ≤ 1024 =
    grind (arith, c.if-len-gt-MOST_FUNCTIONS.false, c.len.ensures) in
    many_parameters c.args.module.now few (c.has_few_instructions.ensures.0 c.if-not-has_few_instructions.false)
    (λ p. true≢false (sym (c.has_few_parameters.ensures.1 p) ∙ c.if-not-has_few_parameters.true))

-- src/limits.rt:51:9
pub returns-then-not-has_few_words-clause-some : goal.returns-then-not-has_few_words-clause-some
returns-then-not-has_few_words-clause-some c =
    let few : length c.args.module.now.functions ≤ 1024 =
    grind (arith, c.if-len-gt-MOST_FUNCTIONS.false, c.len.ensures) in
    many_words c.args.module.now few (c.has_few_instructions.ensures.0 c.if-not-has_few_instructions.false)
    (c.has_few_parameters.ensures.0 c.if-not-has_few_parameters.false)
    (λ w. true≢false (sym (c.has_few_words.ensures.1 w) ∙ c.if-not-has_few_words.true))
