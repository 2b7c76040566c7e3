use Rattle.std.proofs.Common.{◌≡◌, true, take}
use Rattle.std.specs.List.{list_all}
use Rattle.ds_lex.specs.Bytes.{belongs}
use Rattle.ds_lex.specs.declared.bytes.RunOf.TheVariants.{NameBytes}
use Rattle.ds_print.proofs.names.are_name_bytes.Given as goal

-- the bytes so far may stand in a name
abbrev pub invariant-loop-byte : goal.invariant-loop-byte
invariant-loop-byte l = list_all (belongs NameBytes) (take l.byte-index l.bytes) ≡ true
