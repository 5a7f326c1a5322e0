use Rattle.sync_source.proofs.WrongCode.{held_at_end, not_ended_inside}
use Rattle.sync_source.proofs.refused.a_thread_holds_what_it_entered_where_it_ends_in_a_block.Goals as goal

pub returns-clause-holds : goal.returns-clause-holds
returns-clause-holds c = held_at_end

pub returns-clause-barred : goal.returns-clause-barred
returns-clause-barred c = not_ended_inside
