-- The numbers that values may be: -2^61 to 2^61 - 1. They are this project's own.
use Rattle.std.specs.Prelude.{ℤ, pos, negsuc, ◌≤ℤ◌, int_le, Bool, ◌&&◌}

abbrev pub least_number : ℤ
least_number = negsuc 2305843009213693951

abbrev pub greatest_number : ℤ
greatest_number = pos 2305843009213693951

abbrev pub IsInRange : ℤ → Type 0
IsInRange z = (least_number ≤ℤ z) × (z ≤ℤ greatest_number)

-- the same as a test
abbrev pub is_in_range : ℤ → Bool
is_in_range z = int_le least_number z && int_le z greatest_number
