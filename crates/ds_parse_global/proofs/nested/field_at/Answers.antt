use Rattle.std.proofs.Common.{sym, ◌∙◌}
use Rattle.ds_parse_global.proofs.Fields.{field_at-get}
use Rattle.ds_parse_global.proofs.nested.field_at.Goals as goal

pub returns : goal.returns
returns c = c.nth.ensures ∙ sym (field_at-get c.args.types.now c.args.n)
