use Rattle.std.proofs.Common.{◌≡◌, ◌+◌, ◌%◌, ◌^◌, ◌<◌, drop}
use Rattle.ds_code.specs.CodeMeaning.{bytes_added}
use Rattle.ds_frame.proofs.frames.Frames.address.Given as goal

-- with what the other indices add the address is the same
abbrev pub invariant-loop-stride : goal.invariant-loop-stride
invariant-loop-stride l = record {
  same : (l.address + bytes_added l.self (drop l.stride-index l.strides)) % 2 ^ 64
      ≡ (l.base + bytes_added l.self l.strides) % 2 ^ 64;
  small : l.address < 2 ^ 64;
}
