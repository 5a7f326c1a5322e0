use Rattle.program_run.proofs.Told.{small, told}
use Rattle.program_run.proofs.laws.the_record_tells_the_run.Goals as goal

pub returns-clause-record : goal.returns-clause-record
returns-clause-record c = λ s p r closed is few ran of copy. told
    c.fronts_of_logs_follow_the_code.ensures c.logs_that_follow_the_code_are_legal.ensures c.the_machine_is_what_the_logs_make_it.ensures.objects
    c.machines_stay_reached.ensures.first c.machines_stay_reached.ensures.each c.each_entry_uses_up_work.ensures
    c.threads_stay_theirs.ensures.first c.threads_stay_theirs.ensures.work
    c.the_end_of_a_heap_tells_its_run.ensures.cut c.the_end_of_a_heap_tells_its_prototypes.ensures.biased c.the_end_of_a_heap_tells_its_prototypes.ensures.plain
    s p r closed is few ran of copy

pub returns-clause-small : goal.returns-clause-small
returns-clause-small c = small
