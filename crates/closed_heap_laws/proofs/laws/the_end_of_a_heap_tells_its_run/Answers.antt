use Rattle.heap_table.proofs.Legal.{exact_at_last}
use Rattle.closed_heap_laws.proofs.Draws.{has_draws}
use Rattle.closed_heap_laws.proofs.Made.{cut_in_time, made_in_time}
use Rattle.closed_heap_laws.proofs.Shots.{has_shots}
use Rattle.closed_heap_laws.proofs.Stuck.{is_stuck, no_hash_open}
use Rattle.closed_heap_laws.proofs.laws.the_end_of_a_heap_tells_its_run.Goals as goal

pub returns-clause-draws : goal.returns-clause-draws
returns-clause-draws c = has_draws

pub returns-clause-shots : goal.returns-clause-shots
returns-clause-shots c = has_shots

pub returns-clause-stamps : goal.returns-clause-stamps
returns-clause-stamps c = λ heap words ks e. exact_at_last heap words ks e.law e.last e.order e.all

pub returns-clause-made : goal.returns-clause-made
returns-clause-made c = made_in_time

pub returns-clause-cut : goal.returns-clause-cut
returns-clause-cut c = λ heap words ks t i s e h. cut_in_time heap words ks e t i s h

pub returns-clause-stuck : goal.returns-clause-stuck
returns-clause-stuck c = is_stuck

pub returns-clause-unfinished : goal.returns-clause-unfinished
returns-clause-unfinished c = λ heap words ks t o e halted h. no_hash_open heap words ks e halted t o h
