-- Why names mean nothing.
use Rattle.std.specs.Prelude.{List}
use Rattle.ds_ast.specs.declared.name.Name.{Name}
use Rattle.ds_names.specs.Names.{IsFirstTwice}
use Rattle.ds_check_names.specs.declared.fault.ScopeFault.{ScopeFault}
use Rattle.ds_check_names.specs.declared.fault.ScopeFault.TheVariants.{Twice, Memory}

-- the fault is that of these names: the first one that stands there a second time, or that there is not enough memory
abbrev pub IsFaultOf : List Name → ScopeFault → Type 0
IsFaultOf names (Twice name) = IsFirstTwice names name.now
IsFaultOf names Memory = Unit {0}
