-- An input that is accepted is not refused.
use Rattle.std.proofs.Common.{ℕ, inl, inr, List, sym, subst, arith}
use Rattle.ds_ast.specs.declared.module.Module.{Module}
use Rattle.ds_grammar.specs.declared.fault.ParseFault.{ParseFault}
use Rattle.ds_parse.specs.Laws.{TextsSpellOneModule, TextsAreNotRefused}
use Rattle.ds_shape.specs.Accepted.{Accepted}
use Rattle.ds_shape.specs.Laws.{LayoutsAreNotRefused}
use Rattle.ds_check.specs.Laws.{AcceptedAreNotRefused}
use Rattle.ds_report.specs.declared.fault.Fault.{Fault}
use Rattle.ds_report.specs.declared.fault.Fault.TheVariants.{Usage, Read, TooLong, Parse, Shape, Check}
use Rattle.ds_main.specs.Input.{SpellsAccepted}
use Rattle.ds_main.specs.Refusal.{IsTooLong, HasTextFault, HasModuleFault, SpellsFaulty}
use Rattle.ds_main.specs.Refusal.{AcceptedInputsAreNotRefused}

-- an accepted module has no fault
no_fault : LayoutsAreNotRefused → AcceptedAreNotRefused → (m : Module) (fault : Fault) → Accepted m
    → HasModuleFault fault m → ⊥
no_fault layouts checks m Usage accepted h = absurd h
no_fault layouts checks m Read accepted h = absurd h
no_fault layouts checks m TooLong accepted h = absurd h
no_fault layouts checks m (Parse f) accepted h = absurd h
no_fault layouts checks m (Shape f) accepted h = layouts m f accepted.well_formed.layout h
no_fault layouts checks m (Check f names) accepted h = checks m f accepted h.1

module _ (one : TextsSpellOneModule) (texts : TextsAreNotRefused) (layouts : LayoutsAreNotRefused)
    (checks : AcceptedAreNotRefused) where
  -- nor has the text of one another module that has a fault
  no_other : (bytes : List ℕ) (m : Module) (fault : Fault) → SpellsAccepted bytes m → SpellsFaulty fault bytes → ⊥
  no_other bytes m fault (spells, accepted) (n, other, h) =
      no_fault layouts checks m fault accepted (subst (HasModuleFault fault) (sym (one bytes m n spells.1 other.1)) h)

  too_long : (bytes : List ℕ) (m : Module) → SpellsAccepted bytes m → IsTooLong bytes → ⊥
  too_long bytes m (spells, accepted) long = absurd (omega (arith, spells.0, long))

  no_text_fault : (bytes : List ℕ) (m : Module) (fault : ParseFault) → SpellsAccepted bytes m
      → HasTextFault fault bytes → ⊥
  no_text_fault bytes m fault (spells, accepted) h = texts bytes m fault spells.1 h.1

  pub accepted_inputs_are_not_refused : AcceptedInputsAreNotRefused
  accepted_inputs_are_not_refused bytes (m, spells) (inl long) = too_long bytes m spells long
  accepted_inputs_are_not_refused bytes (m, spells) (inr (inl x)) = no_text_fault bytes m x.0 spells x.1
  accepted_inputs_are_not_refused bytes (m, spells) (inr (inr x)) = no_other bytes m x.0 spells x.1
