-- What was recorded is a run of the module.
use Rattle.std.proofs.Common.{◌≡◌, ℕ, ◌<◌, ◌≤◌, true, List, length, Option, Some, None, ap, sym, ◌∙◌, subst, refl}
use Rattle.std.proofs.Common.{arith}
use Rattle.std.specs.Prelude.{IsSomeAnd}
use Rattle.ds_ast.specs.declared.module.Module.{Module}
use Rattle.ds_ast.specs.declared.module.StructDef.{StructDef}
use Rattle.ds_step.specs.declared.FullWhat.TheVariants.{Logs, Hash}
use Rattle.ds_step.specs.declared.Step.{Step}
use Rattle.ds_shape.specs.Accepted.{HasLayout, Accepted}
use Rattle.ds_shape.specs.Laws.{WordsAreCounted}
use Rattle.ds_shape.specs.Image.{image_of}
use Rattle.ds_map.specs.Bounds.{Bounds, IsInRange}
use Rattle.ds_plain.specs.declared.Cue.{Cue}
use Rattle.ds_plain.specs.declared.Place.{Place}
use Rattle.ds_plain.specs.declared.Stop.{Stop}
use Rattle.ds_plain.specs.declared.Stop.TheVariants.{Full}
use Rattle.ds_plain.specs.Asking.{HasRows}
use Rattle.ds_plain.specs.Behaviour.{Program}
use Rattle.ds_plain.specs.Explained.{HasEnded, stop_in, trace_of, IsRecord, HasLegalOrder}
use Rattle.ds_plain.specs.Turns.{IsScheduledOrder}
use Rattle.ds_plain_laws.specs.Laws.{LegalRunsArePlain}
use Rattle.ds_log_laws.specs.Full.{FullLogs, FullHash}
use Rattle.ds_log_laws.specs.Laws.{FullLogsAreDrawn, FullEntriesAreUsed}
use Rattle.ds_fuel_laws.specs.Laws.{FuelIsExact}
use Rattle.ds_meaning.specs.Values.{global_address}
use Rattle.ds_row_laws.specs.Laws.{AcceptedModulesAskRows}
use Rattle.ds_safe_laws.specs.Laws.{HasMeaning, AcceptedMeans}
use Rattle.ds_code.specs.declared.functions.CodeParts.{CodeParts}
use Rattle.ds_code.specs.CodeProgram.{program_of}
use Rattle.ds_code.specs.Lowering.{IsLowered}
use Rattle.ds_pass.specs.Noted.{noted}
use Rattle.ds_pass_laws.specs.Laws.{NotedCodeMeans, NotesKeepLayout}
use Rattle.ds_core.specs.declared.record.RunRecord.{RunRecord}
use Rattle.ds_main.specs.Run.{IsRunOfModule, read_program}
use Rattle.ds_main.specs.Ending.{Writing, Delivers}

-- a recorded order of a schedule is some legal order
has_legal_order : (program : Program) (lim : Bounds) (cues : List Cue) (seed : ℕ) (traces : List (List Step))
    (order : Option (List ℕ)) → IsSomeAnd order (IsScheduledOrder program lim cues seed traces)
    → HasLegalOrder program lim traces
has_legal_order program lim cues seed traces None legal = absurd legal
has_legal_order program lim cues seed traces (Some order) legal = ∣ (legal.0, legal.2, legal.3) ∣₁

-- why a thread found no log left, and no entry left in its log
full_logs_in : FullLogsAreDrawn → (program : Program) (lim : Bounds) (cues : List Cue) (seed : ℕ) (stops : List Stop)
    (traces : List (List Step)) (order : Option (List ℕ)) → IsInRange lim → IsRecord program lim stops traces
    → IsSomeAnd order (IsScheduledOrder program lim cues seed traces)
    → (t : ℕ) (place : Place) → t < 16 → stop_in stops t ≡ Full place Logs → FullLogs lim traces
full_logs_in law program lim cues seed stops traces None range known legal t place lt is = absurd legal
full_logs_in law program lim cues seed stops traces (Some order) range known legal t place lt is =
    law program lim stops traces range known legal.0 legal.2 legal.3 t place lt is

full_hash_in : FullEntriesAreUsed → (program : Program) (lim : Bounds) (cues : List Cue) (seed : ℕ) (stops : List Stop)
    (traces : List (List Step)) (order : Option (List ℕ)) → IsInRange lim → IsRecord program lim stops traces
    → IsSomeAnd order (IsScheduledOrder program lim cues seed traces)
    → (t : ℕ) (place : Place) → t < 16 → stop_in stops t ≡ Full place Hash → FullHash (trace_of traces t)
full_hash_in law program lim cues seed stops traces None range known legal t place lt is = absurd legal
full_hash_in law program lim cues seed stops traces (Some order) range known legal t place lt is =
    law program lim stops traces range known legal.0 legal.2 legal.3 t place lt is

-- with its notes an accepted module has the layout that it has without them
pub lays_out : NotesKeepLayout → (m with_notes : Module) → Accepted m → with_notes ≡ noted m → HasLayout with_notes
lays_out law m with_notes accepted is = subst HasLayout (sym is) (law m accepted.well_formed.layout)

-- its code asks what the module asks whose stores note by themselves
pub code_reads : NotedCodeMeans → (m with_notes : Module) (lim : Bounds) (code : CodeParts) → Accepted m
    → with_notes ≡ noted m → IsLowered with_notes code → program_of lim code ≡ read_program lim m
code_reads law m with_notes lim code accepted is lowered =
    law m lim code accepted (subst (λ (n : Module). IsLowered n code) is lowered)

-- all that this code asks has a row
pub code_asks_rows : AcceptedModulesAskRows → (m : Module) (lim : Bounds) (code : CodeParts) → Accepted m
    → program_of lim code ≡ read_program lim m → HasRows lim (program_of lim code)
code_asks_rows law m lim code accepted same = subst (HasRows lim) (sym same) (law true m lim accepted)

-- the image of an accepted module has at most 4,096 words, and notes change no word of it
pub few_words : WordsAreCounted → (m with_notes : Module) (code : CodeParts) → Accepted m → with_notes ≡ noted m
    → IsLowered with_notes code → length code.image ≤ 4096
few_words law m with_notes code accepted is lowered =
    let counted = law global_address m (length (image_of global_address m)) accepted.well_formed.layout in
    let few = accepted.few_global_words (length (image_of global_address m)) (counted.1 refl) in
    let noted_is : IsLowered (noted m) code = subst (λ (n : Module). IsLowered n code) is lowered in
    let same : length code.image ≡ length (image_of global_address m) = ap length noted_is.image in
    omega (arith, few, same)

-- an accepted module has a meaning all along
has_meaning : AcceptedMeans → (m : Module) → Accepted m → HasMeaning m
has_meaning safe m accepted = λ noting lim thread function argument f answers at defined.
    safe m noting lim accepted thread function argument f answers at defined

module _ (law : LegalRunsArePlain) (logs : FullLogsAreDrawn) (entries : FullEntriesAreUsed) (fuel : FuelIsExact)
    (m : Module) (means : HasMeaning m) (cues : List Cue) (seed : ℕ) (lim : Bounds)
    (range : IsInRange lim) (run : RunRecord)
    (recorded : IsRecord (read_program lim m) lim run.stops run.traces)
    (order : IsSomeAnd run.order (IsScheduledOrder (read_program lim m) lim cues seed run.traces))
    (sixteen : length run.stops ≡ 16) (ended : HasEnded (stop_in run.stops 0)) where
  run_of_read : IsRunOfModule cues seed lim m run
  run_of_read = record {
    sixteen_stops = sixteen;
    main_ended = ended;
    means = means;
    explained = record {
      recorded = recorded;
      some_order = has_legal_order (read_program lim m) lim cues seed run.traces run.order order;
      every_order = law (read_program lim m) lim run.stops run.traces range recorded;
    };
    order = order;
    fuel = λ t lt ended. fuel (read_program lim m) lim t (trace_of run.traces t) (stop_in run.stops t)
        (recorded.follows t lt) (sym (recorded.ends t lt)) ended;
    full_logs = full_logs_in logs (read_program lim m) lim cues seed run.stops run.traces run.order range recorded
        order;
    full_hash = full_hash_in entries (read_program lim m) lim cues seed run.stops run.traces run.order range recorded
        order;
  }

-- what was recorded of the code of a module is a run of the module
pub run_of_module : LegalRunsArePlain → FullLogsAreDrawn → FullEntriesAreUsed → FuelIsExact → AcceptedMeans
    → (m : Module) (lim : Bounds) (code : CodeParts) (cues : List Cue) (seed : ℕ) (run : RunRecord)
    → Accepted m → program_of lim code ≡ read_program lim m → IsInRange lim
    → IsRecord (program_of lim code) lim run.stops run.traces
    → IsSomeAnd run.order (IsScheduledOrder (program_of lim code) lim cues seed run.traces)
    → length run.stops ≡ 16 → HasEnded (stop_in run.stops 0) → IsRunOfModule cues seed lim m run
run_of_module law logs entries fuel safe m lim code cues seed run accepted same range recorded order sixteen ended =
    run_of_read law logs entries fuel m (has_meaning safe m accepted) cues seed lim range run
    (subst (λ (p : Program). IsRecord p lim run.stops run.traces) same recorded)
    (subst (λ (p : Program). IsSomeAnd run.order (IsScheduledOrder p lim cues seed run.traces)) same order)
    sixteen ended

-- the same status under another name
pub delivers_as : (text : List ℕ) (done same : ℕ) (sink : Writing) (status : ℕ) → done ≡ same
    → Delivers text done sink status → Delivers text same sink status
delivers_as text done same sink status is told = subst (λ (n : ℕ). Delivers text n sink status) is told
