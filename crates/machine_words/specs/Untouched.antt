-- What holds of the objects that aren't there: each is as at first, until a thread has made it.
use Rattle.std.specs.Prelude.{◌≡◌, ℕ, true, false, slice_get, Some}
use Rattle.plain_monitor.specs.Made.{is_there}
use Rattle.plain_monitor.specs.Objects.{PlainObject}
use Rattle.object_program.specs.Program.{numbering_of}
use Rattle.plain_machine.specs.Machine.{PlainMachine}
use Rattle.machine_words.specs.ObjectWords.{is_new}

abbrev pub IsUntouched : PlainMachine → Type 0
IsUntouched m =
    (o : ℕ) (x : PlainObject) → slice_get m.objects o ≡ Some x → is_there (numbering_of m.program) m.made o ≡ false → is_new x ≡ true
