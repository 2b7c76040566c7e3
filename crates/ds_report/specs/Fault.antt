-- The line of each fault.
use Rattle.std.specs.Prelude.{ℕ, Bool, true, false, ◌==◌, ◌&&◌, if◌then◌else◌, List, [], ◌∷◌, ◌++◌, codes, decimal}
use Rattle.ds_ast.specs.declared.name.Name.{Name}
use Rattle.ds_check.specs.declared.fault.CountKind.{CountKind}
use Rattle.ds_check.specs.declared.fault.CountKind.TheVariants.{Functions, Instructions, Params, GlobalWords}
use Rattle.ds_check.specs.declared.fault.TypeFault.{TypeFault}
use Rattle.ds_check.specs.declared.fault.TypeFault.TheVariants.{Twice, TooMany, BadExternal, TwiceLocal, BadBlock}
use Rattle.ds_check.specs.declared.fault.TypeFault.TheVariants.{Undefined, WrongType, BadPhi, NotDominating, NoMain}
use Rattle.ds_check.specs.declared.fault.TypeFault.TheVariants as check
use Rattle.ds_lex.specs.declared.fault.LexFault.{LexFault}
use Rattle.ds_lex.specs.declared.fault.LexFault.TheVariants.{BadByte, BadName, BadNumber, OpenText}
use Rattle.ds_lex.specs.declared.fault.LexFault.TheVariants as lex
use Rattle.ds_grammar.specs.declared.fault.ParseFault.{ParseFault}
use Rattle.ds_grammar.specs.declared.fault.ParseFault.TheVariants.{Lex, Expected, Unsupported, Range, DeepType, Memory}
use Rattle.ds_lex.specs.Written.{written}
use Rattle.ds_print.specs.Names.{local, global}
use Rattle.ds_shape.specs.declared.fault.ShapeFault.{ShapeFault}
use Rattle.ds_shape.specs.declared.fault.ShapeFault.TheVariants.{TwiceType, Unknown, RecursiveType, TooLarge}
use Rattle.ds_shape.specs.declared.fault.ShapeFault.TheVariants as shape
use Rattle.ds_report.specs.Function.{function_text}
use Rattle.ds_report.specs.declared.fault.Fault.{Fault}
use Rattle.ds_report.specs.declared.fault.Fault.TheVariants.{Usage, Read, TooLong, Parse, Shape, Check}

-- what stands at a place, which is how many bytes of the text stand before it
abbrev pub place_text : List ℕ → ℕ → List ℕ
place_text what at = codes "error: " ++ what ++ codes " at " ++ decimal at ++ codes "\n"

-- the line that tells a lexical fault; want of memory has none
abbrev pub lexical_text : LexFault → List ℕ
lexical_text (BadByte at) = place_text (codes "bad byte") at
lexical_text (BadName at) = place_text (codes "bad name") at
lexical_text (BadNumber at) = place_text (codes "bad number") at
lexical_text (OpenText at) = place_text (codes "open text") at
lexical_text lex.Memory = []

-- the line that tells why a text gives no module; want of memory has none
abbrev pub parse_text : ParseFault → List ℕ
parse_text (Lex fault) = lexical_text fault
parse_text (Expected at) = place_text (codes "syntax") at
parse_text (Unsupported at) = place_text (codes "unsupported") at
parse_text (Range at) = place_text (codes "out of range") at
parse_text (DeepType at) = place_text (codes "type too deep") at
parse_text Memory = []

-- what is wrong with the struct type of this name
abbrev pub local_line : List ℕ → Name → List ℕ
local_line what name = codes "error: " ++ what ++ codes " " ++ written (local name ∷ []) ++ codes "\n"

-- what is wrong with the global or function of this name
abbrev pub global_line : List ℕ → Name → List ℕ
global_line what name = codes "error: " ++ what ++ codes " " ++ written (global name ∷ []) ++ codes "\n"

-- a struct type, or else a global or function, writes a type that is too large
abbrev pub large_line : Bool → Name → List ℕ
large_line true name = local_line (codes "too large") name
large_line false name = global_line (codes "too large") name

-- the line that tells why a module has no layout; want of memory has none
abbrev pub shape_text : ShapeFault → List ℕ
shape_text (TwiceType name) = local_line (codes "twice") name
shape_text (Unknown name) = local_line (codes "unknown type") name
shape_text (RecursiveType name) = local_line (codes "recursive type") name
shape_text (TooLarge name is_struct) = large_line is_struct name
shape_text shape.Memory = []

-- what is wrong with an instruction of a function
abbrev pub instruction_line : List Name → List ℕ → ℕ → ℕ → List ℕ
instruction_line names what f i =
    codes "error: " ++ what ++ function_text names f ++ codes " instruction " ++ decimal i ++ codes "\n"

-- what is wrong with the parameter, label or result of this name of a function
abbrev pub inner_line : List Name → List ℕ → ℕ → Name → List ℕ
inner_line names what f name =
    codes "error: " ++ what ++ codes " " ++ written (local name ∷ []) ++ function_text names f ++ codes "\n"

-- a wrong type stands in a global where both numbers are 2^32 - 1, and else in an instruction
abbrev pub wrong_type_line : List Name → ℕ → ℕ → List ℕ
wrong_type_line names f i =
    if f == 4294967295 && i == 4294967295 then codes "error: wrong type in a global\n"
    else instruction_line names (codes "wrong type") f i

-- what there are too many of
abbrev pub kind_text : CountKind → List ℕ
kind_text Functions = codes "functions"
kind_text Instructions = codes "instructions"
kind_text Params = codes "parameters"
kind_text GlobalWords = codes "global words"

-- there are more than the limit
abbrev pub count_line : CountKind → ℕ → List ℕ
count_line what limit = codes "error: too many " ++ kind_text what ++ codes ", limit " ++ decimal limit ++ codes "\n"

-- the line that tells why a module with a layout is not accepted, by the names of its functions in the order of the
-- text; want of memory has none
abbrev pub check_text : List Name → TypeFault → List ℕ
check_text names (Twice name) = global_line (codes "twice") name
check_text names (TooMany what limit) = count_line what limit
check_text names (BadExternal name) = global_line (codes "bad external") name
check_text names (TwiceLocal f name) = inner_line names (codes "twice") f name
check_text names (BadBlock f i) = instruction_line names (codes "bad block") f i
check_text names (Undefined f i) = instruction_line names (codes "undefined") f i
check_text names (WrongType f i) = wrong_type_line names f i
check_text names (BadPhi f i) = instruction_line names (codes "bad phi") f i
check_text names (NotDominating f i) = instruction_line names (codes "not defined on every path") f i
check_text names NoMain = codes "error: no main\n"
check_text names check.Memory = []

-- the line that tells a fault, with its line feed; want of memory has none
abbrev pub fault_text : Fault → List ℕ
fault_text Usage = codes "error: usage\n"
fault_text Read = codes "error: read failed\n"
fault_text TooLong = codes "error: input longer than 8388608 bytes\n"
fault_text (Parse fault) = parse_text fault
fault_text (Shape fault) = shape_text fault
fault_text (Check fault names) = check_text names fault
