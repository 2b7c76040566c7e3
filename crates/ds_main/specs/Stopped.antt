-- Helpers: why an input gives no accepted module. No clause of a public call speaks of them.
use Rattle.std.specs.Prelude.{◌≡◌}
use Rattle.ds_ast.specs.declared.module.Module.{Module}
use Rattle.ds_core.specs.declared.record.Ended.{Ended}
use Rattle.ds_report.specs.declared.fault.Fault.{Fault}
use Rattle.ds_main.specs.declared.no_module.NoModule.{NoModule}
use Rattle.ds_main.specs.declared.no_module.NoModule.TheVariants.{Refused, Memory}
use Rattle.ds_main.specs.Refusal.{HasModuleFault}
use Rattle.ds_main.specs.Due.{IsWantOfMemory, IsInputFault, IsOfModule}
use Rattle.ds_main.specs.Ending.{Reading, Writing, ReadRose, IsReadOut, MemoryEnds, FaultEnds}

-- the fault is passed on, where it is not want of memory
abbrev pub Tells : Fault → NoModule → Type 0
Tells fault (Refused told) = (told ≡ fault) × (IsWantOfMemory fault → ⊥)
Tells fault Memory = Unit {0}

-- the module has the fault; want of memory needs no cause
abbrev pub ExplainsModule : Module → NoModule → Type 0
ExplainsModule m (Refused fault) = HasModuleFault fault m
ExplainsModule m Memory = Unit {0}

-- the input has the fault, and was read to its end before one of the module was looked for; want
-- of memory needs no cause
abbrev pub Explains : Reading → NoModule → Type 0
Explains source (Refused fault) =
    IsInputFault source.left (ReadRose source) fault × (IsOfModule fault → IsReadOut source)
Explains source Memory = Unit {0}

-- the line of the fault was delivered, or memory ran out
abbrev pub StoppedBy : NoModule → Writing → Ended → Type 0
StoppedBy (Refused fault) sink ended = FaultEnds fault sink ended
StoppedBy Memory sink ended = MemoryEnds sink ended
