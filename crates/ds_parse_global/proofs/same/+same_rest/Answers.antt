use Rattle.std.proofs.Common.{rules}
use Rattle.ds_parse_global.proofs.Again.{same-array}
use Rattle.ds_parse_global.proofs.same.+same_rest.Goals as goal

pub returns-in_err-rest-in-Array : goal.returns-in_err-rest-in-Array
returns-in_err-rest-in-Array t c = rw (c.in-Array.is, same-array) (search rules)

pub returns-in_err-rest-in-Array-2 : goal.returns-in_err-rest-in-Array-2
returns-in_err-rest-in-Array-2 t c = rw (c.in-Array.is, same-array) (search rules)

pub returns-in_err-rest-in-Array-3 : goal.returns-in_err-rest-in-Array-3
returns-in_err-rest-in-Array-3 t c = rw (c.in-Array.is, same-array) (search rules)

pub returns-in_err-rest-in-Array-4 : goal.returns-in_err-rest-in-Array-4
returns-in_err-rest-in-Array-4 t c = rw (c.in-Array.is, same-array) (search rules)

pub returns-in_ok-rest-in-Array-4 : goal.returns-in_ok-rest-in-Array-4
returns-in_ok-rest-in-Array-4 t c = rw (c.in-Array.is, same-array) (search rules)
