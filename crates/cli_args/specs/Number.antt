-- Numbers of the command line.
use Rattle.std.specs.Prelude.{ℕ, Bool, ◌&&◌, List, length, nat_le, if◌then◌else◌, Option, Some, None}
use Rattle.std.specs.Char.{is_ascii_digit}
use Rattle.std.specs.List.{list_all}
use Rattle.std.specs.Str.Parse.{digits_value}

-- one to ten digits
abbrev pub is_number : List ℕ → Bool
is_number text = nat_le 1 (length text) && nat_le (length text) 10 && list_all is_ascii_digit text

abbrev pub within : ℕ → ℕ → ℕ → Option ℕ
within least most value = if nat_le least value && nat_le value most then Some value else None

-- the number from `least` to `most` that the text says in decimal digits, leading zeros allowed
abbrev pub number : ℕ → ℕ → List ℕ → Option ℕ
number least most text = if is_number text then within least most (digits_value 10 text) else None
