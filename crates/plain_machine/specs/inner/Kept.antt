-- What an entry that a thread asked for does to its holds and its mode.
use Rattle.std.specs.Prelude.{ℕ, ◌+◌, ◌-◌, Bool, false, ◌==◌, List, slice_set}
use Rattle.plain_machine.specs.declared.monitor_call.MonitorCall.TheVariants as call
use Rattle.plain_machine.specs.declared.monitor_call.NextEntry.{NextEntry}
use Rattle.plain_machine.specs.declared.monitor_call.NextEntry.TheVariants.{Calls, Leaves}
use Rattle.plain_machine.specs.Thread.{ThreadState, holds_of}
pub use Rattle.plain_machine.specs.Sound.{unrun}

-- its holds after the entry that it asked for
abbrev pub holds_after : ThreadState → NextEntry → List ℕ
holds_after s (Calls (call.Enter o)) = slice_set s.holds o (holds_of s o + 1)
holds_after s (Calls (call.Exit o)) = slice_set s.holds o (holds_of s o - 1)
holds_after s (Leaves o) = slice_set s.holds o (holds_of s o - 1)
holds_after s a = s.holds

-- a thread after the entry that it asked for waits on object o
abbrev pub waits_after : NextEntry → ℕ → Bool
waits_after (Calls (call.Wait p)) o = p == o
waits_after a o = false
