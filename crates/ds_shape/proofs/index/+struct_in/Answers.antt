use Rattle.std.proofs.Common.{◌∙◌, sym, ap}
use Rattle.ds_shape.specs.Written.{struct_in}
use Rattle.ds_shape.proofs.Arrays.{struct_in_array}
use Rattle.ds_shape.proofs.index.+struct_in.Goals as goal

pub returns-in-Array : goal.returns-in-Array
returns-in-Array t c =
    c.struct_in.ensures ∙ ap struct_in c.get.ensures ∙ sym (struct_in_array c.in-Array.count c.in-Array.of)
    ∙ ap struct_in (sym c.in-Array.is)
