use Rattle.ds_lex.proofs.Writing.{decimal_digits, decimal_value, decimal_number, decimal_negative}
use Rattle.ds_lex.proofs.laws.decimals_are_read.Goals as goal

pub returns-clause-digits : goal.returns-clause-digits
returns-clause-digits c = λ n l. (decimal_digits n l, decimal_value n l)

pub returns-clause-number : goal.returns-clause-number
returns-clause-number c = decimal_number

pub returns-clause-negative : goal.returns-clause-negative
returns-clause-negative c = decimal_negative
