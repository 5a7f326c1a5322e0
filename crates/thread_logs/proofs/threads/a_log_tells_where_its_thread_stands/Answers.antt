use Rattle.thread_logs.proofs.Standing.{holds_told, waits_told, ends_told, dumps_told}
use Rattle.thread_logs.proofs.References.{made_told}
use Rattle.thread_logs.proofs.threads.a_log_tells_where_its_thread_stands.Goals as goal

pub returns-clause-holds : goal.returns-clause-holds
returns-clause-holds c = holds_told

pub returns-clause-waits : goal.returns-clause-waits
returns-clause-waits c = waits_told

pub returns-clause-ends : goal.returns-clause-ends
returns-clause-ends c = λ p fuel t log s h. ends_told p fuel t 0 log s h

pub returns-clause-dumps : goal.returns-clause-dumps
returns-clause-dumps c = λ p fuel t log s h. dumps_told p fuel t 0 log s h

pub returns-clause-made : goal.returns-clause-made
returns-clause-made c = λ p fuel t log s valid h. made_told p fuel t log s valid h
