use Rattle.std.proofs.Common.{sym, ap, ◌∙◌}
use Rattle.std.specs.Prelude.{Some, option_map}
use Rattle.std.specs.Option.{option_copied}
use Rattle.ds_ast.specs.declared.module.StructDef.{StructDef}
use Rattle.ds_ast.specs.Bounds.{fields_of}
use Rattle.ds_parse_global.proofs.Keyed.{fields_at, noted_fields}
use Rattle.ds_parse_global.proofs.structs.Structs.fields.Goals as goal

pub returns-in-Some-get : goal.returns-in-Some-get
returns-in-Some-get c =
    ap Some c.as_slice.ensures ∙ ap (option_map (λ (line : StructDef). line.fields))
    (ap option_copied (sym c.in-Some-get.is) ∙ c.get-in-Some.ensures.value)
    ∙ ap (fields_at c.self.inside.lines) (sym c.in-Some.is)
    ∙ sym (noted_fields c.self.inside.lines c.self.inside.places c.args.name.now c.get.result c.self.invariant
    c.get.ensures) ∙ ap (λ lines. fields_of lines c.args.name.now) c.self.view_is

pub returns-in-None-get : goal.returns-in-None-get
returns-in-None-get c =
    ap (option_map (λ (line : StructDef). line.fields))
    (ap option_copied (sym c.in-None-get.is) ∙ c.get-in-Some.ensures.value)
    ∙ ap (fields_at c.self.inside.lines) (sym c.in-Some.is)
    ∙ sym (noted_fields c.self.inside.lines c.self.inside.places c.args.name.now c.get.result c.self.invariant
    c.get.ensures) ∙ ap (λ lines. fields_of lines c.args.name.now) c.self.view_is

pub returns-in-None : goal.returns-in-None
returns-in-None c =
    ap (fields_at c.self.inside.lines) (sym c.in-None.is)
    ∙ sym (noted_fields c.self.inside.lines c.self.inside.places c.args.name.now c.get.result c.self.invariant
    c.get.ensures) ∙ ap (λ lines. fields_of lines c.args.name.now) c.self.view_is
