-- What a machine in memory has beside what holds of each reached machine: its numbers have 32 bits.
use Rattle.std.specs.Prelude.{ℕ, ◌<◌, ◌^◌}
use Rattle.std.specs.List.{AllByRecursion}
use Rattle.plain_machine.specs.Thread.{ThreadState}
use Rattle.plain_machine.specs.Machine.{PlainMachine}
use Rattle.machine_words.specs.ModeWords.{mode_rest}

-- the thread's place, and the object or the instruction that its mode names
abbrev pub HasSmall : ThreadState → Type 0
HasSmall s = (s.place < 2 ^ 32) × (mode_rest s.mode < 2 ^ 32)

abbrev pub HasNumbers : PlainMachine → Type 0
HasNumbers m = AllByRecursion HasSmall m.threads
