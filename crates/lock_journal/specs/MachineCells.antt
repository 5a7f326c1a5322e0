-- The cells of a dump, by the monitors of a machine.
use Rattle.std.specs.Prelude.{List, map}
use Rattle.lock_journal.specs.declared.record.Cell.{Cell}
use Rattle.plain_machine.specs.Machine.{PlainMachine}
use Rattle.plain_monitor.specs.Monitor.{PlainMonitor}

-- the owner of a monitor, and its count
abbrev pub cell_in : PlainMonitor → Cell
cell_in m = record { owner = m.owner; count = m.count }

abbrev pub cells_in : PlainMachine → List Cell
cells_in m = map (λ x. cell_in x.monitor) m.objects
