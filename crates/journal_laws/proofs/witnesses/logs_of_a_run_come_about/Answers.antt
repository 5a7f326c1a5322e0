use Rattle.std.proofs.Common.{refl}
use Rattle.journal_laws.proofs.HashJournal.{rises, run}
use Rattle.journal_laws.proofs.witnesses.logs_of_a_run_come_about.Goals as goal

pub returns-clause-rises : goal.returns-clause-rises
returns-clause-rises c = rises

pub returns-clause-run : goal.returns-clause-run
returns-clause-run c = run

pub returns-clause-ended : goal.returns-clause-ended
returns-clause-ended c = refl
