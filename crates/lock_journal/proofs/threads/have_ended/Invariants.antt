use Rattle.std.proofs.Common.{drop}
use Rattle.machine_laws.specs.LogEnds.{HaveEnded}
use Rattle.lock_journal.proofs.threads.have_ended.Given as goal

abbrev pub invariant-loop-log : goal.invariant-loop-log
invariant-loop-log l = (HaveEnded (drop l.log-index l.run.logs) → HaveEnded l.run.logs) × (HaveEnded l.run.logs → HaveEnded (drop l.log-index l.run.logs))
