use Rattle.std.proofs.Common.{[], ◌∷◌, Some, None, refl, arith, lit<}
use Rattle.plain_monitor.specs.Monitor.{PlainMonitor}
use Rattle.plain_monitor.specs.Objects.{PlainObject}
use Rattle.wait_history.proofs.witnesses.a_thread_can_wait_in_a_legal_history.Goals as goal

abbrev waited : PlainObject
waited = record { monitor = record { owner = None; count = 0; waits = (0, 1) ∷ []; called = [] }; slots = []; hash = None }

abbrev notified : PlainObject
notified = record { monitor = record { owner = Some 1; count = 1; waits = []; called = (0, 1) ∷ [] }; slots = []; hash = None }

pub returns-clause-waits : goal.returns-clause-waits
returns-clause-waits c = (waited ∷ [], waited, record { rises = search (arith, lit<); taken = refl }, refl, refl, refl)

pub returns-clause-called : goal.returns-clause-called
returns-clause-called c = (notified ∷ [], notified, record { rises = search (arith, lit<); taken = refl }, refl, refl, refl)
