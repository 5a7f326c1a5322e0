use Rattle.journal_laws.proofs.HashJournal.{stuck}
use Rattle.journal_laws.proofs.witnesses.a_stuck_machine_comes_about.Goals as goal

pub returns : goal.returns
returns c = stuck
