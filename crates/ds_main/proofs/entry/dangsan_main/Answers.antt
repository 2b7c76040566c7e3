-- Each clause follows from how the call ended.
use Rattle.ds_main.proofs.Clauses as clauses
use Rattle.ds_main.proofs.entry.dangsan_main.Goals as goal

pub returns-clause-headline : goal.returns-clause-headline
returns-clause-headline g c = clauses.headline _ c.answer.ensures

pub returns-clause-ran : goal.returns-clause-ran
returns-clause-ran g c = clauses.ran _ c.answer.ensures

pub returns-clause-reported : goal.returns-clause-reported
returns-clause-reported g c = clauses.reported _ c.reports_of_runs.ensures c.answer.ensures

pub returns-clause-read_out : goal.returns-clause-read_out
returns-clause-read_out g c = clauses.read_out _ c.answer.ensures

pub returns-clause-usage : goal.returns-clause-usage
returns-clause-usage g c = clauses.usage _ c.answer.ensures

pub returns-clause-usage_is_told : goal.returns-clause-usage_is_told
returns-clause-usage_is_told g c = clauses.usage_is_told _ c.answer.ensures

pub returns-clause-read_failed : goal.returns-clause-read_failed
returns-clause-read_failed g c = clauses.read_failed _ c.answer.ensures

pub returns-clause-refused : goal.returns-clause-refused
returns-clause-refused g c = clauses.refused _ c.answer.ensures

pub returns-clause-refusal_is_told : goal.returns-clause-refusal_is_told
returns-clause-refusal_is_told g c =
    clauses.refusal_is_told _ c.accepted_inputs_are_not_refused.ensures c.answer.ensures

pub returns-clause-fault_line : goal.returns-clause-fault_line
returns-clause-fault_line g c = clauses.fault_line _ c.answer.ensures

pub returns-clause-nothing_run : goal.returns-clause-nothing_run
returns-clause-nothing_run g c = clauses.nothing_run _ c.answer.ensures

pub returns-clause-write_failed : goal.returns-clause-write_failed
returns-clause-write_failed g c = clauses.write_failed _ c.answer.ensures

pub returns-clause-out_of_memory : goal.returns-clause-out_of_memory
returns-clause-out_of_memory g c = clauses.out_of_memory _ c.answer.ensures

pub returns-clause-statuses : goal.returns-clause-statuses
returns-clause-statuses g c = clauses.statuses _ c.answer.ensures

pub returns-clause-run_is_made : goal.returns-clause-run_is_made
returns-clause-run_is_made g c = clauses.run_is_made _ c.accepted_inputs_are_not_refused.ensures c.answer.ensures

pub returns-clause-complete : goal.returns-clause-complete
returns-clause-complete g c = clauses.complete _ c.accepted_inputs_are_not_refused.ensures c.answer.ensures

pub returns-clause-run_status : goal.returns-clause-run_status
returns-clause-run_status g c = clauses.run_status_is _ c.answer.ensures

pub returns-clause-instrumented : goal.returns-clause-instrumented
returns-clause-instrumented g c = clauses.instrumented _ c.answer.ensures

pub returns-clause-checked : goal.returns-clause-checked
returns-clause-checked g c = clauses.checked _ c.answer.ensures

pub returns-clause-of_replay : goal.returns-clause-of_replay
returns-clause-of_replay g c = clauses.of_replay _ c.answer.ensures
