-- What was read is what the source held, and why it gives no accepted module.
use Rattle.std.proofs.Common.{◌≡◌, ℕ, ◌≤◌, List, length, Option, Some, None, refl, sym, subst, ◌∙◌, ◌⊎◌, inl, inr}
use Rattle.ds_io.specs.Source.{GivesAll}
use Rattle.ds_grammar.specs.declared.fault.ParseFault.{ParseFault}
use Rattle.ds_grammar.specs.declared.fault.ParseFault.TheVariants as parse
use Rattle.ds_parse.specs.Faults.{HasParseFault}
use Rattle.ds_ast.specs.declared.module.Module.{Module}
use Rattle.ds_shape.specs.Fault.{HasShapeFault}
use Rattle.ds_shape.specs.declared.fault.ShapeFault.{ShapeFault}
use Rattle.ds_shape.specs.declared.fault.ShapeFault.TheVariants as shape
use Rattle.ds_shape.specs.Accepted.{HasLayout}
use Rattle.ds_check.specs.Fault.{HasTypeFault}
use Rattle.ds_check.specs.declared.fault.TypeFault.{TypeFault}
use Rattle.ds_check.specs.declared.fault.TypeFault.TheVariants as check
use Rattle.ds_report.specs.declared.fault.Fault.{Fault}
use Rattle.ds_report.specs.declared.fault.Fault.TheVariants as faults
use Rattle.ds_main.specs.declared.no_module.NoModule.{NoModule}
use Rattle.ds_main.specs.declared.no_module.NoModule.TheVariants as none
use Rattle.ds_main.specs.Input.{longest_input, Held, Spells, function_names}
use Rattle.ds_main.specs.Refusal.{HasModuleFault, SpellsFaulty}
use Rattle.ds_main.specs.Due.{IsInputFault}
use Rattle.ds_main.specs.Ending.{Reading, ReadRose, IsReadOut, IsSpelledBy}
use Rattle.ds_main.specs.Stopped.{Tells, Explains, ExplainsModule}

pub held_bytes : (left left_after : Option (List ℕ)) (given bytes : List ℕ) → GivesAll left given left_after
    → left ≡ Some bytes → given ≡ bytes
held_bytes None left_after given bytes all held = absurd (cc)
held_bytes (Some whole) left_after given bytes all held = let same : whole ≡ bytes = cc in all.0 ∙ same

at_end : (left left_after : Option (List ℕ)) (faults faults_after : ℕ) (bytes : List ℕ)
    → GivesAll left bytes left_after
    → IsReadOut (record { left = left; left_after = left_after; faults = faults; faults_after = faults_after })
at_end None left_after faults faults_after bytes all = all
at_end (Some whole) left_after faults faults_after bytes all = all.1

-- a source that gave all was read to its end
pub read_out : (source : Reading) (bytes : List ℕ) → GivesAll source.left bytes source.left_after → IsReadOut source
read_out source bytes all = at_end source.left source.left_after source.faults source.faults_after bytes all

-- what is known of the bytes that were read is known of those that the source held
held : (source : Reading) (given : List ℕ) (P : List ℕ → Type 0) → GivesAll source.left given source.left_after
    → length given ≤ longest_input → P given
    → Held source.left (λ bytes. (length bytes ≤ longest_input) × P bytes)
held source given P all within is bytes e =
    let Q : List ℕ → Type 0 = λ bytes. (length bytes ≤ longest_input) × P bytes in
    subst Q (held_bytes source.left source.left_after given bytes all e) (within, is)

-- the fault of the text is one of the input
pub explained : (source : Reading) (given text : List ℕ) (f : ParseFault) (why : NoModule)
    → GivesAll source.left given source.left_after → length given ≤ longest_input → text ≡ given
    → (f ≡ parse.Memory) ⊎ HasParseFault text f → Tells (faults.Parse f) why → Explains source why
explained source given text f none.Memory all within same h t = tt
explained source given text f (none.Refused told) all within same (inl m) t = absurd (t.1 (inl m))
explained source given text f (none.Refused told) all within same (inr h) t =
    let Q : List ℕ → Type 0 = λ bytes. HasParseFault bytes f in
    let input : IsInputFault source.left (ReadRose source) (faults.Parse f) =
    (t.1, held source given Q all within (subst Q same h)) in (
      subst (IsInputFault source.left (ReadRose source)) (sym t.0) input,
      (λ of. read_out source given all),
    )

-- the fault of the layout is one of the module
pub layout_explained : (m : Module) (f : ShapeFault) (why : NoModule) → (f ≡ shape.Memory) ⊎ HasShapeFault m f
    → Tells (faults.Shape f) why → ExplainsModule m why
layout_explained m f none.Memory h t = tt
layout_explained m f (none.Refused told) (inl e) t = absurd (t.1 e)
layout_explained m f (none.Refused told) (inr h) t = subst (λ (g : Fault). HasModuleFault g m) (sym t.0) h

-- and so is that of the other rules
pub check_explained : (m : Module) (f : TypeFault) (why : NoModule) → HasLayout m
    → (f ≡ check.Memory) ⊎ HasTypeFault m f → Tells (faults.Check f (function_names m)) why → ExplainsModule m why
check_explained m f none.Memory layout h t = tt
check_explained m f (none.Refused told) layout (inl e) t = absurd (t.1 e)
check_explained m f (none.Refused told) layout (inr h) t =
    subst (λ (g : Fault). HasModuleFault g m) (sym t.0) (layout, h, refl)

-- want of memory is no fault of a module
shape_told : (m : Module) (f : ShapeFault) → HasShapeFault m f → f ≡ shape.Memory → ⊥
shape_told m f h e = subst (HasShapeFault m) e h

check_told : (m : Module) (f : TypeFault) → HasTypeFault m f → f ≡ check.Memory → ⊥
check_told m f h e = subst (HasTypeFault m) e h

-- the fault of the module that the bytes spell is one of the input
module_fault : (source : Reading) (given : List ℕ) (m : Module) (fault : Fault)
    → GivesAll source.left given source.left_after → Spells given m → HasModuleFault fault m
    → IsInputFault source.left (ReadRose source) fault
module_fault source given m faults.Usage all spells h = absurd h
module_fault source given m faults.Read all spells h = absurd h
module_fault source given m faults.TooLong all spells h = absurd h
module_fault source given m (faults.Parse f) all spells h = absurd h
module_fault source given m (faults.Shape f) all spells h = (
  shape_told m f h,
  λ bytes e. subst (SpellsFaulty (faults.Shape f))
      (held_bytes source.left source.left_after given bytes all e) (m, spells, h),
)
module_fault source given m (faults.Check f names) all spells h = (
  check_told m f h.1,
  λ bytes e. subst (SpellsFaulty (faults.Check f names))
      (held_bytes source.left source.left_after given bytes all e) (m, spells, h),
)

-- why the module that was read is not accepted
pub module_explained : (source : Reading) (m : Module) (why : NoModule) → IsSpelledBy source m → ExplainsModule m why
    → Explains source why
module_explained source m none.Memory input h = tt
module_explained source m (none.Refused fault) input h =
    (module_fault source input.0 m fault input.1 input.2 h, λ of. read_out source input.0 input.1)
