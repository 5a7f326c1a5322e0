-- The words of what a thread waits for.
use Rattle.std.specs.Prelude.{◌≡◌, ℕ, ◌+◌, ◌*◌, ◌/◌, ◌%◌, ◌^◌, ◌<◌, ◌==◌, ◌&&◌, nat_lt, if◌then◌else◌, Option, Some, None}
use Rattle.mark_word.specs.declared.wait.WaitForm.{WaitForm}
use Rattle.mark_word.specs.declared.wait.WaitForm.TheVariants.{Ready, Entering, Waiting, Notified, Ended}

-- the ranges of a form's fields
abbrev pub IsWaitInRange : WaitForm → Type 0
IsWaitInRange Ready = Unit {0}
IsWaitInRange (Entering object) = object < 2 ^ 15
IsWaitInRange (Waiting object stamp) = (object < 2 ^ 15) × (stamp < 2 ^ 46)
IsWaitInRange (Notified object) = object < 2 ^ 15
IsWaitInRange Ended = Unit {0}

-- the word of a form
abbrev pub wait_of : WaitForm → ℕ
wait_of Ready = 0
wait_of (Entering object) = object * 8 + 1
wait_of (Waiting object stamp) = stamp * 2 ^ 18 + object * 8 + 2
wait_of (Notified object) = object * 8 + 3
wait_of Ended = 4

-- the word spells the form, whose fields are in their ranges
abbrev pub SpellsWait : WaitForm → ℕ → Type 0
SpellsWait form word = IsWaitInRange form × (word ≡ wait_of form)

-- the form that a word spells, where it spells one
unfoldable pub read_wait : ℕ → Option WaitForm
read_wait word =
    if word == 0 then Some Ready
    else if word == 4 then Some Ended
    else if (word % 8 == 1) && nat_lt (word / 8) (2 ^ 15) then Some (Entering (word / 8))
    else if (word % 8 == 2) && nat_lt (word / 2 ^ 18) (2 ^ 46) then Some (Waiting (word / 8 % 2 ^ 15) (word / 2 ^ 18))
    else if (word % 8 == 3) && nat_lt (word / 8) (2 ^ 15) then Some (Notified (word / 8))
    else None
