-- The word of a lock record, which stands for its address: the same in the mark of a locked object and in a monitor's owner.
use Rattle.std.specs.Prelude.{ℕ, ◌+◌, ◌-◌, ◌*◌, ◌/◌, ◌%◌, ◌<◌, ◌==◌, ◌&&◌, nat_lt, Bool}

-- the ranges of a record's thread and of its place there
abbrev pub IsRecord : ℕ → ℕ → Type 0
IsRecord thread place = (thread < 32) × (place < 64)

-- the word of a record
abbrev pub record_of : ℕ → ℕ → ℕ
record_of thread place = (thread + 1) * 4096 + place * 8

-- the word is that of a record, and that record's thread and place
abbrev pub is_record_word : ℕ → Bool
is_record_word word = (word % 8 == 0) && nat_lt (word / 8 % 512) 64 && nat_lt 0 (word / 4096) && nat_lt (word / 4096) 33

abbrev pub thread_of_record : ℕ → ℕ
thread_of_record word = word / 4096 - 1

abbrev pub place_of_record : ℕ → ℕ
place_of_record word = word / 8 % 512
