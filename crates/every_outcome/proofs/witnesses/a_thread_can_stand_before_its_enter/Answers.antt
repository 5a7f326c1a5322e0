use Rattle.every_outcome.proofs.Printers.{runs, stands, told, asks}
use Rattle.every_outcome.proofs.witnesses.a_thread_can_stand_before_its_enter.Goals as goal

pub returns-clause-runs : goal.returns-clause-runs
returns-clause-runs c = runs

pub returns-clause-stands : goal.returns-clause-stands
returns-clause-stands c = stands

pub returns-clause-told : goal.returns-clause-told
returns-clause-told c = told

pub returns-clause-asks : goal.returns-clause-asks
returns-clause-asks c = asks
