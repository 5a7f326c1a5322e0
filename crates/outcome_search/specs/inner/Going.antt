-- Where a machine comes to after an entry.
use Rattle.std.specs.Prelude.{Option, Some, None}
use Rattle.plain_machine.specs.Machine.{PlainMachine}

-- what becomes of it after the entry; where there is none, nothing changes
abbrev pub gone_on : (PlainMachine → PlainMachine) → PlainMachine → Option PlainMachine → PlainMachine
gone_on after m None = m
gone_on after m (Some a) = after a
