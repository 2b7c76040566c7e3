-- What a job that runs nothing writes of an accepted module.
use Rattle.std.specs.Prelude.{◌≡◌, ℕ, Bool, true, false, List, [], ◌∷◌, ◌++◌, length, filter, flat_map, codes, decimal}
use Rattle.ds_ast.specs.declared.module.Module.{Module}
use Rattle.ds_ast.specs.declared.module.Function.{Function}
use Rattle.ds_ast.specs.declared.module.Block.{Block}
use Rattle.ds_shape.specs.Types.{instructions_of}
use Rattle.ds_pass.specs.Noted.{noted}
use Rattle.ds_print.specs.Canonical.{canon}
use Rattle.ds_main.specs.declared.job.Job.{Job}
use Rattle.ds_main.specs.declared.job.Job.TheVariants.{Replay, Check, Instrument}

-- there is a block
abbrev pub has_blocks : List Block → Bool
has_blocks [] = false
has_blocks (b ∷ bs) = true

-- the function is defined, not only declared
abbrev pub is_defined : Function → Bool
is_defined f = has_blocks f.blocks

-- how many functions the module defines, and how many instructions these have; those that are declared have none
abbrev pub accepted_text : Module → List ℕ
accepted_text m =
    codes "accepted: functions " ++ decimal (length (filter is_defined m.functions)) ++ codes " instructions "
    ++ decimal (length (flat_map instructions_of m.functions))
    ++ codes "\n"

-- the module with its notes, in canonical form
abbrev pub instrumented_text : Module → List ℕ
instrumented_text m = canon (noted m)

-- the text that the job writes of the module, where it runs none
abbrev pub IsTextOf : Job → Module → List ℕ → Type 0
IsTextOf (Replay seed lim) m text = ⊥
IsTextOf Check m text = text ≡ accepted_text m
IsTextOf Instrument m text = text ≡ instrumented_text m
