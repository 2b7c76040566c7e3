use Rattle.ds_plain_laws.proofs.Runs.{explained}
use Rattle.ds_plain_laws.proofs.legal_runs_are_plain.Goals as goal

pub returns : goal.returns
returns c = explained (record {
  few = c.classes_are_few.ensures;
  begin = c.mallocs_begin.ensures;
  look_on = c.mallocs_look_on.ensures;
  have_left = c.mallocs_have_left.ensures;
  start = c.cursors_begin.ensures;
  move = c.cursors_move.ensures;
})
