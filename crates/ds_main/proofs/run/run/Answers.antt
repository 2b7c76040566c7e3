use Rattle.ds_main.proofs.Runs.{lays_out, code_reads, code_asks_rows, few_words, run_of_module}
use Rattle.ds_main.proofs.run.run.Goals as goal

pub layout_of-requires : goal.layout_of-requires
layout_of-requires c =
    lays_out c.notes_keep_layout.ensures c.args.module.now c.in_ok-noted.noted c.requires c.in_ok-noted.ensures

pub lower-requires-clause-layout : goal.lower-requires-clause-layout
lower-requires-clause-layout c =
    lays_out c.notes_keep_layout.ensures c.args.module.now c.in_ok-noted.noted c.requires c.in_ok-noted.ensures

pub replay-requires-clause-rows : goal.replay-requires-clause-rows
replay-requires-clause-rows c =
    code_asks_rows c.accepted_modules_ask_rows.ensures c.args.module.now c.args.limits.now c.in_ok-code.code
    c.requires
    (code_reads c.noted_code_means.ensures c.args.module.now c.in_ok-noted.noted c.args.limits.now c.in_ok-code.code
    c.requires c.in_ok-noted.ensures c.in_ok-code.ensures.lowered)

pub replay-requires-clause-image : goal.replay-requires-clause-image
replay-requires-clause-image c =
    few_words c.words_are_counted.ensures c.args.module.now c.in_ok-noted.noted c.in_ok-code.code c.requires
    c.in_ok-noted.ensures c.in_ok-code.ensures.lowered

pub returns : goal.returns
returns c =
    let made = c.in_ok-record.ensures in
    let reads = code_reads c.noted_code_means.ensures c.args.module.now c.in_ok-noted.noted c.args.limits.now
    c.in_ok-code.code c.requires c.in_ok-noted.ensures c.in_ok-code.ensures.lowered in
    run_of_module c.legal_runs_are_plain.ensures c.full_logs_are_drawn.ensures c.full_entries_are_used.ensures
    c.fuel_is_exact.ensures c.accepted_means.ensures c.args.module.now
    c.args.limits.now c.in_ok-code.code c.args.schedule.now.cues c.args.schedule.now.seed c.in_ok-record.record
    c.requires reads c.fuel-fuel.ensures.in_range made.record made.order made.sixteen_stops made.main_ended
