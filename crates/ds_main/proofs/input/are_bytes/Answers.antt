use Rattle.std.proofs.Common.{◌<◌, ◌^◌, arith}
use Rattle.std.proofs.lemmas.List.Elements.{All-from_get_or}
use Rattle.ds_main.proofs.input.are_bytes.Goals as goal

pub returns : goal.returns
returns c = All-from_get_or (λ byte. byte < 2 ^ 8) c.args.bytes.now 0 (λ i within. omega (arith, c.type_inv.bytes i))
