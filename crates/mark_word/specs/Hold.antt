-- The words of a thread's holds on an object: none, or how many.
use Rattle.std.specs.Prelude.{◌≡◌, ℕ, ◌+◌, ◌-◌, ◌*◌, ◌/◌, ◌%◌, ◌^◌, ◌<◌, ◌≤◌, ◌==◌, ◌&&◌, nat_lt, if◌then◌else◌, Option, Some, None}
use Rattle.mark_word.specs.declared.hold.HoldForm.{HoldForm}
use Rattle.mark_word.specs.declared.hold.HoldForm.TheVariants.{Empty, Holds}

-- the ranges of a form's fields
abbrev pub IsHoldInRange : HoldForm → Type 0
IsHoldInRange Empty = Unit {0}
IsHoldInRange (Holds object depth) = (object < 2 ^ 15) × (1 ≤ depth) × (depth ≤ 64)

-- the word of a form
abbrev pub hold_of : HoldForm → ℕ
hold_of Empty = 0
hold_of (Holds object depth) = (object + 1) * 128 + depth

-- the word spells the form, whose fields are in their ranges
abbrev pub SpellsHold : HoldForm → ℕ → Type 0
SpellsHold form word = IsHoldInRange form × (word ≡ hold_of form)

-- the form that a word spells, where it spells one
unfoldable pub read_hold : ℕ → Option HoldForm
read_hold word =
    if word == 0 then Some Empty
    else if nat_lt 0 (word / 128) && nat_lt (word / 128) (2 ^ 15 + 1) && nat_lt 0 (word % 128)
    && nat_lt (word % 128) 65 then Some (Holds (word / 128 - 1) (word % 128))
    else None
