use Rattle.std.proofs.Common.{rules}
use Rattle.ds_check_types.proofs.Walked.{next_type-array}
use Rattle.ds_check_types.proofs.addresses.next_type.Goals as goal

pub returns-in-Array : goal.returns-in-Array
returns-in-Array c = rw (c.in-Array.is, next_type-array) (search rules)
