-- The words that a heap's slots hold for values. The words are this project's own.
use Rattle.std.specs.Prelude.{◌≡◌, ℕ, ◌+◌, ◌*◌, ◌/◌, ◌%◌, ◌^◌, ◌<◌, ◌==◌, ◌&&◌, nat_lt, nat_abs, if◌then◌else◌, pos, ◌+ℤ◌, ◌-ℤ◌, ◌*ℤ◌, Option, Some, None}
use Rattle.plain_monitor.specs.Numbers.{IsInRange}
use Rattle.plain_monitor.specs.declared.entry.Value.{Value}
use Rattle.plain_monitor.specs.declared.entry.Value.TheVariants.{Nil, Int, Ref}

-- the value is in its range: a number from -2^61 to 2^61 - 1, or an object below 2^15
abbrev pub IsSpellable : Value → Type 0
IsSpellable Nil = Unit {0}
IsSpellable (Int i) = IsInRange i
IsSpellable (Ref o) = o < 2 ^ 15

-- the word is that of the value
abbrev pub IsWordOf : Value → ℕ → Type 0
IsWordOf Nil word = word ≡ 0
IsWordOf (Int i) word = pos word ≡ (i +ℤ pos (2 ^ 61)) *ℤ pos 4 +ℤ pos 1
IsWordOf (Ref o) word = word ≡ o * 4 + 2

-- the word spells the value, which is in its range
abbrev pub SpellsValue : Value → ℕ → Type 0
SpellsValue value word = IsSpellable value × IsWordOf value word

-- the word of a value in its range
abbrev pub word_of : Value → ℕ
word_of Nil = 0
word_of (Int i) = nat_abs (i +ℤ pos (2 ^ 61)) * 4 + 1
word_of (Ref o) = o * 4 + 2

-- the value that a word spells, where it spells one
unfoldable pub read_value : ℕ → Option Value
read_value word =
    if word == 0 then Some Nil
    else if (word % 4 == 1) && nat_lt word (2 ^ 64) then Some (Int (pos (word / 4) -ℤ pos (2 ^ 61)))
    else if (word % 4 == 2) && nat_lt (word / 4) (2 ^ 15) then Some (Ref (word / 4))
    else None
