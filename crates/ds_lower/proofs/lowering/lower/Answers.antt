use Rattle.ds_lower.proofs.lowering.lower.Goals as goal

pub returns-clause-means : goal.returns-clause-means
returns-clause-means c = λ well known lim.
    c.code_means.ensures c.args.whole.now lim c.in_ok-code.code well known c.in_ok-code.ensures

pub returns-clause-accepted : goal.returns-clause-accepted
returns-clause-accepted c = λ good lim.
    c.accepted_code_means.ensures c.args.whole.now lim c.in_ok-code.code good c.in_ok-code.ensures
