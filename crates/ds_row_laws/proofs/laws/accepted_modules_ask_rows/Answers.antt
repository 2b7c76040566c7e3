use Rattle.ds_row_laws.proofs.Rows.{asks_rows}
use Rattle.ds_row_laws.proofs.laws.accepted_modules_ask_rows.Goals as goal

pub returns : goal.returns
returns c = asks_rows
