-- What the machine makes of an instruction.
use Rattle.std.specs.Prelude.{◌<◌}
use Rattle.object_program.specs.Limits.{most_code}
use Rattle.plain_machine.specs.declared.step.Next.{Next}
use Rattle.plain_machine.specs.declared.step.Next.TheVariants as next
use Rattle.plain_machine.specs.Thread.{ThreadState, Step, Goes, Calls, Stops, sets}
use Rattle.plain_machine.specs.Ready.{IsReadyToCall}

-- the step of the thread that it stands for
abbrev pub meant : ThreadState → Next → Step
meant s (next.Sets local value) = sets s local value
meant s (next.Jumps place) = Goes (record s { place = place })
meant s (next.Calls call) = Calls call
meant s (next.Stops ending) = Stops ending

-- a thread that sets a local or calls stands at an instruction, and a call has room
abbrev pub IsReadyNext : ThreadState → Next → Type 0
IsReadyNext s (next.Sets local value) = s.place < most_code
IsReadyNext s (next.Jumps place) = Unit {0}
IsReadyNext s (next.Calls call) = IsReadyToCall s call
IsReadyNext s (next.Stops ending) = Unit {0}
