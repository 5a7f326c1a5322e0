use Rattle.std.proofs.Common.{arith}
use Rattle.thread_logs.proofs.ExampleLogs.{printers_is_program, begins, log_follows, takes_next, asks_print}
use Rattle.thread_logs.proofs.witnesses.a_thread_can_follow_its_code.Goals as goal

pub returns-clause-program : goal.returns-clause-program
returns-clause-program c = (printers_is_program, omega arith)

pub returns-clause-begins : goal.returns-clause-begins
returns-clause-begins c = begins

pub returns-clause-log : goal.returns-clause-log
returns-clause-log c = log_follows

pub returns-clause-next : goal.returns-clause-next
returns-clause-next c = takes_next

pub returns-clause-asks : goal.returns-clause-asks
returns-clause-asks c = asks_print
