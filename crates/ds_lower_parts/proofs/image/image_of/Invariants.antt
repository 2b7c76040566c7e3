use Rattle.std.proofs.Common.{◌≡◌, flat_map, take}
use Rattle.ds_shape.specs.Image.{words_of_global}
use Rattle.ds_lower_parts.specs.Bytes.{address_in}
use Rattle.ds_lower_parts.proofs.image.image_of.Given as goal

-- the words of the globals so far
abbrev pub invariant-loop-global : goal.invariant-loop-global
invariant-loop-global l =
    l.words ≡ flat_map (words_of_global l.scope.structs (address_in l.scope)) (take l.global-index l.globals)
