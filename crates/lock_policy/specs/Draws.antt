-- The identity hashes that a thread draws: hash mode 5 of OpenJDK 8's synchronizer.cpp, Marsaglia's xor-shift, on
-- words of 32 bits.
use Rattle.std.specs.Prelude.{ℕ, zero, suc, ◌*◌, ◌/◌, ◌%◌, ◌^◌, ◌==◌, bit_xor, if◌then◌else◌}

-- the four words of a generator
pub record State : Type 0 where
  pub x : ℕ
  pub y : ℕ
  pub z : ℕ
  pub w : ℕ

-- the generator with the first word given
abbrev pub start_state : ℕ → State
start_state first = record { x = first; y = 842502087; z = 0x8767; w = 273326509 }

-- the first word mixed with itself shifted up by 11 bits
abbrev pub mixed : State → ℕ
mixed s = bit_xor s.x (s.x * 2048 % 2 ^ 32)

-- the words move up by one, and a new last word comes
abbrev pub next_state : State → State
next_state s =
    let last = bit_xor (bit_xor s.w (s.w / 2 ^ 19)) (bit_xor (mixed s) (mixed s / 2 ^ 8)) in
    record { x = s.y; y = s.z; z = s.w; w = last }

-- the hash that a word gives: its low 31 bits, or 0xBAD where they are 0
abbrev pub hash_of : ℕ → ℕ
hash_of word = if word % 2 ^ 31 == 0 then 0xBAD else word % 2 ^ 31

-- the value that a state gives
abbrev pub value_of : State → ℕ
value_of s = hash_of s.w

-- the state after a number of draws
abbrev pub state_after : ℕ → ℕ → State
state_after first zero = start_state first
state_after first (suc n) = next_state (state_after first n)

-- the value of the n-th draw from a start, for n from 1
abbrev pub nth_value : ℕ → ℕ → ℕ
nth_value first n = value_of (state_after first n)
