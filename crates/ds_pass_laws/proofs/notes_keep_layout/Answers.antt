use Rattle.ds_pass_laws.proofs.Layouts as layouts
use Rattle.ds_pass_laws.proofs.notes_keep_layout.Goals as goal

pub returns : goal.returns
returns c = layouts.keeps_layout
