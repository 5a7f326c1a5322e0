use Rattle.plain_monitor.proofs.Appending.{comes_last, rises_on}
use Rattle.plain_monitor.proofs.laws.an_entry_above_all_comes_last.Goals as goal

pub returns-clause-last : goal.returns-clause-last
returns-clause-last c = comes_last

pub returns-clause-rises : goal.returns-clause-rises
returns-clause-rises c = rises_on
