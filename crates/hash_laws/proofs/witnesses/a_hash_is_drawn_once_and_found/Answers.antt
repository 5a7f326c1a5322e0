use Rattle.hash_laws.proofs.HashExample.{draws, first, fit, legal, program, stamps, under}
use Rattle.hash_laws.proofs.witnesses.a_hash_is_drawn_once_and_found.Goals as goal

pub returns-clause-program : goal.returns-clause-program
returns-clause-program c = program

pub returns-clause-legal : goal.returns-clause-legal
returns-clause-legal c = legal

pub returns-clause-under : goal.returns-clause-under
returns-clause-under c = under

pub returns-clause-draws : goal.returns-clause-draws
returns-clause-draws c = draws

pub returns-clause-fit : goal.returns-clause-fit
returns-clause-fit c = fit

pub returns-clause-first : goal.returns-clause-first
returns-clause-first c = first

pub returns-clause-stamps : goal.returns-clause-stamps
returns-clause-stamps c = stamps
