use Rattle.std.proofs.Common.{Vec, Global, ◌<◌, ◌+◌, ◌≤◌, ℕ, ◌⊎◌, length, take, sym, ap, ◌∙◌, subst, arith}
use Rattle.std.specs.Prelude.{◌↔◌, Contains}
use Rattle.std.proofs.lemmas.Option.{slice_get_within}
use Rattle.ds_ast.specs.declared.name.Name.{Name}
use Rattle.ds_shape.specs.Flow.{targets_of}
use Rattle.ds_check_names.specs.Scope.{Means}
use Rattle.ds_check_names.specs.declared.meaning.Meaning.TheVariants.{Label}
use Rattle.ds_check_blocks.specs.Leads.{LeadsAmong}
use Rattle.ds_check_blocks.proofs.Standing.{none_yet, one_more, of_all, item_at}
use Rattle.ds_check_blocks.proofs.Leads.{label_inside, pushed, passed, start, finish}
use Rattle.ds_check_blocks.proofs.edges.push_targets.Goals.{in-Some+in_ok-push, in_default}
use Rattle.ds_check_blocks.proofs.edges.push_targets.Goals as goal

pub loop-number-init : goal.loop-number-init
loop-number-init c =
    λ b. start _ (Contains c.args.row.now.items b)
    (none_yet (λ (name : Name). Means c.args.locals.now name (Label b)) (targets_of c.args.op.now))

pub overflow_cast-block : goal.overflow_cast-block
overflow_cast-block c =
    let inside = label_inside c.args.locals.now c.target.result.now c.in-Some.block
    ((c.block.ensures c.in-Some.block).0 c.in-Some.is) in
    omega (arith, inside, c.requires.few)

pub loop-number-preserved : goal.loop-number-preserved
loop-number-preserved c = λ b.
    let labels = targets_of c.args.op.now in
    let i = c.loop-number.number in
    let name = c.target.result.now in
    let inside : i < length labels = slice_get_within labels i name c.target.ensures in
    let more : LeadsAmong c.args.locals.now b (take (i + 1) labels) ↔
    (LeadsAmong c.args.locals.now b (take i labels) ⊎ Means c.args.locals.now name (Label b)) =
    one_more (λ (name : Name). Means c.args.locals.now name (Label b)) labels i name inside
    (item_at labels i name c.target.ensures) in
    elim c.match-block.branch [
      | in-Some+in_ok-push w ↦ pushed _ _ _ _ b c.loop-number.row.items (c.loop-number.invariant b) more
          w.in-Some.block c.match-block.row.items (w.in-Some.ensures b)
          (ap (λ (row : Vec ℕ Global). row.items) w.row-is ∙ w.in_ok-push.ensures.items)
      | in_default w ↦ subst
          (λ (row : Vec ℕ Global). Contains row.items b ↔
          (Contains c.args.row.now.items b ⊎ LeadsAmong c.args.locals.now b (take (i + 1) labels))) (sym w.row-is)
          (passed _ _ _ _ b c.loop-number.row.items (c.loop-number.invariant b) more (w.in_default.ensures b))
    ]

pub returns : goal.returns
returns c = λ b.
    let far : length (targets_of c.args.op.now) ≤ c.loop-number.number =
    subst (λ n. n ≤ c.loop-number.number) c.target_count-number-end.ensures c.loop-number-test.false in
    finish _ _ _ _ (c.loop-number.invariant b)
    (of_all (λ (name : Name). Means c.args.locals.now name (Label b)) (targets_of c.args.op.now) c.loop-number.number
    far)
