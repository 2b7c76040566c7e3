use Rattle.std.proofs.Common.{◌≡◌, take, map}
use Rattle.ds_ast.specs.declared.init.Init as init
use Rattle.ds_ast.specs.declared.value.Value.TheVariants as value
use Rattle.ds_parse_global.proofs.heads.array_of_bytes.Given as goal

abbrev pub invariant-loop-byte : goal.invariant-loop-byte
invariant-loop-byte l = l.parts ≡ map (λ b. init.Word (value.Int b)) (take l.byte-index l.bytes)
