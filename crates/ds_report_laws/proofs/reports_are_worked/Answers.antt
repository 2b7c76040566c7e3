use Rattle.std.proofs.Common.{refl}
use Rattle.std.specs.Fmt.{digits}
use Rattle.ds_lex.specs.Bytes.{class_of}
use Rattle.ds_report_laws.proofs.Worked.{worked}
use Rattle.ds_report_laws.proofs.reports_are_worked.Goals as goal

pub returns-clause-use_after_free_traps : goal.returns-clause-use_after_free_traps
unfolding digits class_of
returns-clause-use_after_free_traps c = worked _ _ c.uses_after_free.ensures.use_after_free_traps refl

pub returns-clause-free_of_marked_pointer_traps : goal.returns-clause-free_of_marked_pointer_traps
unfolding digits class_of
returns-clause-free_of_marked_pointer_traps c = worked _ _ c.uses_after_free.ensures.free_of_marked_pointer_traps refl

pub returns-clause-pointer_in_register_is_not_found : goal.returns-clause-pointer_in_register_is_not_found
unfolding digits class_of
returns-clause-pointer_in_register_is_not_found c = worked _ _ c.uses_after_free.ensures.pointer_in_register_is_not_found refl

pub returns-clause-free_of_null_does_nothing : goal.returns-clause-free_of_null_does_nothing
unfolding digits class_of
returns-clause-free_of_null_does_nothing c = worked _ _ c.frees_of_modules.ensures.free_of_null_does_nothing refl

pub returns-clause-double_free_traps : goal.returns-clause-double_free_traps
unfolding digits class_of
returns-clause-double_free_traps c = worked _ _ c.frees_of_modules.ensures.double_free_traps refl

pub returns-clause-free_inside_block_traps : goal.returns-clause-free_inside_block_traps
unfolding digits class_of
returns-clause-free_inside_block_traps c = worked _ _ c.frees_of_modules.ensures.free_inside_block_traps refl

pub returns-clause-free_of_stack_traps : goal.returns-clause-free_of_stack_traps
unfolding digits class_of
returns-clause-free_of_stack_traps c = worked _ _ c.frees_of_modules.ensures.free_of_stack_traps refl

pub returns-clause-store_to_null_traps : goal.returns-clause-store_to_null_traps
unfolding digits class_of
returns-clause-store_to_null_traps c = worked _ _ c.bad_addresses.ensures.store_to_null_traps refl

pub returns-clause-store_off_its_width_traps : goal.returns-clause-store_off_its_width_traps
unfolding digits class_of
returns-clause-store_off_its_width_traps c = worked _ _ c.bad_addresses.ensures.store_off_its_width_traps refl

pub returns-clause-load_behind_heap_traps : goal.returns-clause-load_behind_heap_traps
unfolding digits class_of
returns-clause-load_behind_heap_traps c = worked _ _ c.bad_addresses.ensures.load_behind_heap_traps refl

pub returns-clause-endless_loop_ends_by_fuel : goal.returns-clause-endless_loop_ends_by_fuel
unfolding digits class_of
returns-clause-endless_loop_ends_by_fuel c = worked _ _ c.endless_loops.ensures.endless_loop_ends_by_fuel refl

pub returns-clause-newer_pointer_is_not_marked : goal.returns-clause-newer_pointer_is_not_marked
unfolding digits class_of
returns-clause-newer_pointer_is_not_marked c = worked _ _ c.newer_pointers.ensures.newer_pointer_is_not_marked refl

pub returns-clause-newer_pointer_into_block_is_left : goal.returns-clause-newer_pointer_into_block_is_left
unfolding digits class_of
returns-clause-newer_pointer_into_block_is_left c = worked _ _ c.newer_pointers.ensures.newer_pointer_into_block_is_left refl

pub returns-clause-sixteenth_thread_is_refused : goal.returns-clause-sixteenth_thread_is_refused
unfolding digits class_of
returns-clause-sixteenth_thread_is_refused c = worked _ _ c.threads_of_modules.ensures.sixteenth_thread_is_refused refl

pub returns-clause-join_of_itself_traps : goal.returns-clause-join_of_itself_traps
unfolding digits class_of
returns-clause-join_of_itself_traps c = worked _ _ c.threads_of_modules.ensures.join_of_itself_traps refl

pub returns-clause-join_of_no_thread_traps : goal.returns-clause-join_of_no_thread_traps
unfolding digits class_of
returns-clause-join_of_no_thread_traps c = worked _ _ c.threads_of_modules.ensures.join_of_no_thread_traps refl

pub returns-clause-full_logs_stop : goal.returns-clause-full_logs_stop
unfolding digits class_of
returns-clause-full_logs_stop c = worked _ _ c.full_tables_stop.ensures.full_logs_stop refl
