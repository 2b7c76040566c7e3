-- Parts of the forms of functions that are read one behind the other, each by a name. The forms themselves are
-- ds_grammar's Functions.
use Rattle.std.specs.Prelude.{ℕ, not, true, false, List, [], ◌∷◌, Some, is_some}
use Rattle.ds_ast.specs.declared.name.Name.{Name}
use Rattle.ds_ast.specs.declared.module.Param.{Param}
use Rattle.ds_grammar.specs.declared.fault.Mark.{Mark}
use Rattle.ds_grammar.specs.declared.item.Head.{Head}
use Rattle.ds_grammar.specs.Sort.{Body, Params, a_number, a_name, a_scalar, a_param, a_begin, a_head, a_body}
use Rattle.ds_grammar.specs.Sort.{some_params, both_of, list_of, maybe}
use Rattle.ds_grammar.specs.Grammar.{Grammar, Done, One, Loop, ◌>>=◌, optional}
use Rattle.ds_grammar.specs.Rows.{punct, local_name}
use Rattle.ds_grammar.specs.Instructions.{head_of, row_of}
use Rattle.ds_grammar.specs.Functions.{counted, next_parameter, placed_name, parameters_more, declared_more}
use Rattle.ds_grammar.specs.Functions.{line_begin, line_rest, with_instruction, unnamed, unnamed_counter}

-- the name of a parameter of a declaration, which need not be written
unfoldable pub optional_name : Grammar (maybe a_name)
optional_name = optional {b = a_name} a_name (λ t. local_name t.kind t.bytes) (λ n. Done n)

-- the name of a parameter and its place; it need not be written
unfoldable pub optional_placed : Grammar (maybe (both_of a_name a_number))
optional_placed = optional {b = both_of a_name a_number} (both_of a_name a_number)
    (λ t. placed_name t.kind t.bytes t.at) (λ n. Done n)

-- more parameters of a declaration behind these
unfoldable pub declared_from : List Param → Grammar (list_of a_param)
declared_from ps =
    Loop (maybe (both_of a_scalar a_number)) (λ ps t. next_parameter ps t.kind t.bytes t.at) declared_more ps

-- more parameters behind these
unfoldable pub parameters_from : Params → Grammar some_params
parameters_from ps =
    Loop (maybe (both_of a_scalar a_number)) (λ ps t. next_parameter ps.params t.kind t.bytes t.at) parameters_more ps

-- = and a row behind the name of a result, where names are counted from this number on
unfoldable pub named_rest : Body → Name → ℕ → Grammar a_body
named_rest b n counter = do
  _ ← punct "="
  h ← One {a = a_head} (λ t. head_of true t.kind t.bytes)
  o ← row_of true [] h
  Done (with_instruction b (counted n counter) (record { result = Some n; op = o }))

-- the rest of a row whose result is not named, which takes this number with this mark where there is one
unfoldable pub unnamed_rest : Body → Head → Mark → ℕ → Grammar a_body
unnamed_rest b h mark counter = do
  o ← row_of false (mark ∷ []) h
  Done (with_instruction b (unnamed_counter counter o) (unnamed counter o))

-- more lines of a body behind these
unfoldable pub lines_from : Body → Grammar a_body
lines_from b =
    Loop (both_of a_begin a_number) (λ b t. line_begin (not (is_some b.open_block)) t.kind t.bytes t.at) line_rest b
