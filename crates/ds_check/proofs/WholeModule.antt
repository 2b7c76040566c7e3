-- A module is accepted exactly if no step of the search finds a fault.
use Rattle.std.proofs.Common.{[], ◌∷◌}
use Rattle.std.specs.Prelude.{All}
use Rattle.std.proofs.lemmas.List.Elements.{All-nil, All-cons, All-head, All-tail}
use Rattle.ds_ast.specs.declared.module.Module.{Module}
use Rattle.ds_ast.specs.Bounds.{Bounds}
use Rattle.ds_shape.specs.Accepted.{HasLayout, HasMain, Accepted, IsGood}
use Rattle.ds_check.specs.declared.fault.CountKind.TheVariants.{Functions, Instructions, Params, GlobalWords}
use Rattle.ds_check.specs.Fault.{HasFew, HasCounts, HasExternals, HasGlobals}

-- where no step finds a fault, the module is accepted
pub accepted : (m : Module) → Bounds m → HasLayout m → HasGlobals m → All (IsGood m) m.functions → HasMain m
    → Accepted m
accepted m bounds layout globals good main =
    let few = globals.externals.counts.few in
    let behind = All-tail (HasFew m) Functions (Instructions ∷ Params ∷ GlobalWords ∷ []) few in
    let further = All-tail (HasFew m) Instructions (Params ∷ GlobalWords ∷ []) behind in
    let last = All-tail (HasFew m) Params (GlobalWords ∷ []) further in
    record {
      well_formed = record {
        bounds = bounds;
        layout = layout;
        no_twice = globals.externals.counts.no_twice;
        no_wrong_global = globals.initial;
        functions = good;
        main = main;
      };
      few_functions = All-head (HasFew m) Functions (Instructions ∷ Params ∷ GlobalWords ∷ []) few;
      few_instructions = All-head (HasFew m) Instructions (Params ∷ GlobalWords ∷ []) behind;
      few_parameters = All-head (HasFew m) Params (GlobalWords ∷ []) further;
      few_global_words = All-head (HasFew m) GlobalWords [] last;
      free_globals = globals.externals.globals;
      no_bad_external = globals.externals.functions;
    }

-- and in an accepted module none does
pub accepted_counts : (m : Module) → Accepted m → HasCounts m
accepted_counts m is =
    record {
      no_twice = is.well_formed.no_twice;
      few =
          All-cons (HasFew m) Functions (Instructions ∷ Params ∷ GlobalWords ∷ []) is.few_functions
          (All-cons (HasFew m) Instructions (Params ∷ GlobalWords ∷ []) is.few_instructions
          (All-cons (HasFew m) Params (GlobalWords ∷ []) is.few_parameters
          (All-cons (HasFew m) GlobalWords [] is.few_global_words (All-nil (HasFew m)))));
    }

pub accepted_externals : (m : Module) → Accepted m → HasExternals m
accepted_externals m is =
    record { counts = accepted_counts m is; globals = is.free_globals; functions = is.no_bad_external }

pub accepted_globals : (m : Module) → Accepted m → HasGlobals m
accepted_globals m is = record { externals = accepted_externals m is; initial = is.well_formed.no_wrong_global }
