use Rattle.step_history.proofs.Exemplified.{contended, waiting, beside, halted, revoking}
use Rattle.step_history.proofs.witnesses.heaps_come_to_such_worlds.Goals as goal

pub returns-clause-owned : goal.returns-clause-owned
returns-clause-owned c = contended

pub returns-clause-waits : goal.returns-clause-waits
returns-clause-waits c = waiting

pub returns-clause-beside : goal.returns-clause-beside
returns-clause-beside c = beside

pub returns-clause-halted : goal.returns-clause-halted
returns-clause-halted c = halted

pub returns-clause-revoking : goal.returns-clause-revoking
returns-clause-revoking c = revoking
