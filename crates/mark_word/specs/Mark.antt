-- The mark words of OpenJDK 8's markOop.hpp for 64 bits: lock bits at 0, bias bit at 2, age at 3, epoch and hash at 8, thread at 10.
use Rattle.std.specs.Prelude.{◌≡◌, ℕ, ◌+◌, ◌-◌, ◌*◌, ◌/◌, ◌%◌, ◌^◌, ◌<◌, ◌==◌, ◌&&◌, nat_lt, if◌then◌else◌, Option, Some, None}
use Rattle.mark_word.specs.Record.{IsRecord, record_of, is_record_word, thread_of_record, place_of_record}
use Rattle.mark_word.specs.declared.mark.MarkForm.{MarkForm}
use Rattle.mark_word.specs.declared.mark.MarkForm.TheVariants.{Inflating, Neutral, Anonymous, Biased, Locked, Inflated, Marked}

-- the ranges of a form's fields
abbrev pub IsMarkInRange : MarkForm → Type 0
IsMarkInRange Inflating = Unit {0}
IsMarkInRange (Neutral hash age) = (hash < 2 ^ 31) × (age < 16)
IsMarkInRange (Anonymous epoch age) = (epoch < 4) × (age < 16)
IsMarkInRange (Biased thread epoch age) = (thread < 32) × (epoch < 4) × (age < 16)
IsMarkInRange (Locked thread place) = IsRecord thread place
IsMarkInRange (Inflated monitor) = monitor < 2 ^ 20
IsMarkInRange Marked = Unit {0}

-- the word of a form
abbrev pub mark_of : MarkForm → ℕ
mark_of Inflating = 0
mark_of (Neutral hash age) = hash * 256 + age * 8 + 1
mark_of (Anonymous epoch age) = epoch * 256 + age * 8 + 5
mark_of (Biased thread epoch age) = (thread + 1) * 1024 + epoch * 256 + age * 8 + 5
mark_of (Locked thread place) = record_of thread place
mark_of (Inflated monitor) = (monitor + 1) * 8 + 2
mark_of Marked = 3

-- the word spells the form, whose fields are in their ranges
abbrev pub SpellsMark : MarkForm → ℕ → Type 0
SpellsMark form word = IsMarkInRange form × (word ≡ mark_of form)

-- the form that a word with the low bits 001, 010 or 101 spells, where it spells one
abbrev pub read_neutral : ℕ → Option MarkForm
read_neutral word =
    if nat_lt (word / 8 % 32) 16 && nat_lt (word / 256) (2 ^ 31)
    then Some (Neutral (word / 256) (word / 8 % 32)) else None

abbrev pub read_inflated : ℕ → Option MarkForm
read_inflated word =
    if nat_lt 0 (word / 8) && nat_lt (word / 8) (2 ^ 20 + 1) then Some (Inflated (word / 8 - 1)) else None

abbrev pub biased_in : ℕ → MarkForm
biased_in word =
    if word / 1024 == 0 then Anonymous (word / 256 % 4) (word / 8 % 32)
    else Biased (word / 1024 - 1) (word / 256 % 4) (word / 8 % 32)

abbrev pub read_biased : ℕ → Option MarkForm
read_biased word = if nat_lt (word / 8 % 32) 16 && nat_lt (word / 1024) 33 then Some (biased_in word) else None

-- the form that a word spells, where it spells one
unfoldable pub read_mark : ℕ → Option MarkForm
read_mark word =
    if word == 0 then Some Inflating
    else if word == 3 then Some Marked
    else if is_record_word word then Some (Locked (thread_of_record word) (place_of_record word))
    else if word % 8 == 1 then read_neutral word
    else if word % 8 == 2 then read_inflated word
    else if word % 8 == 5 then read_biased word
    else None

-- the form is biased, to a thread or to none
abbrev pub IsBiasForm : MarkForm → Type 0
IsBiasForm (Anonymous epoch age) = Unit {0}
IsBiasForm (Biased thread epoch age) = Unit {0}
IsBiasForm _ = ⊥
