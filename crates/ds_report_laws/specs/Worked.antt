-- The reports of worked runs of small modules, whole.
use Rattle.std.specs.Prelude.{◌≡◌, ℕ, false, List, [], ◌++◌, map, codes}
use Rattle.ds_ast.specs.declared.name.Name.{Name}
use Rattle.ds_tried.specs.Modules.{Example, setting_in}
use Rattle.ds_report_laws.specs.Told.{IsReportOfRun}

-- the names of the functions of the module
abbrev pub names_in : Example → List Name
names_in e = map (λ f. f.name) e.code.functions

-- the run that was worked is one of the plain machine on the module, and its report is this
abbrev pub Reports : Example → List ℕ → Type 0
Reports e text = IsReportOfRun (names_in e) false (setting_in e) e.made text

-- main trapped here, behind so many events of each kind, and nothing was printed
abbrev pub main_trapped : (trap counts : List ℕ) → List ℕ
main_trapped trap counts =
    codes "trap thread 0 in @main instruction " ++ trap ++ codes "\nmain trapped; prints 0 " ++ counts
    ++ codes " traps 1\n"

-- no event was counted
abbrev pub none_counted : List ℕ
none_counted = codes "mallocs 0 frees 0 notes 0 marks 0"
