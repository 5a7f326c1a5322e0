-- The words of a monitor's owner: nobody, a thread, or a thread's lock record from before the monitor was inflated.
use Rattle.std.specs.Prelude.{◌≡◌, ℕ, ◌+◌, ◌-◌, ◌*◌, ◌/◌, ◌%◌, ◌<◌, ◌==◌, ◌&&◌, nat_lt, if◌then◌else◌, Option, Some, None}
use Rattle.mark_word.specs.Record.{IsRecord, record_of, is_record_word, thread_of_record, place_of_record}
use Rattle.mark_word.specs.declared.owner.OwnerForm.{OwnerForm}
use Rattle.mark_word.specs.declared.owner.OwnerForm.TheVariants.{Free, ByThread, ByRecord}

-- the ranges of a form's fields
abbrev pub IsOwnerInRange : OwnerForm → Type 0
IsOwnerInRange Free = Unit {0}
IsOwnerInRange (ByThread thread) = thread < 32
IsOwnerInRange (ByRecord thread place) = IsRecord thread place

-- the word of a form
abbrev pub owner_of : OwnerForm → ℕ
owner_of Free = 0
owner_of (ByThread thread) = (thread + 1) * 8 + 1
owner_of (ByRecord thread place) = record_of thread place

-- the word spells the form, whose fields are in their ranges
abbrev pub SpellsOwner : OwnerForm → ℕ → Type 0
SpellsOwner form word = IsOwnerInRange form × (word ≡ owner_of form)

-- the form that a word spells, where it spells one
unfoldable pub read_owner : ℕ → Option OwnerForm
read_owner word =
    if word == 0 then Some Free
    else if is_record_word word then Some (ByRecord (thread_of_record word) (place_of_record word))
    else if (word % 8 == 1) && nat_lt 0 (word / 8) && nat_lt (word / 8) 33 then Some (ByThread (word / 8 - 1))
    else None
