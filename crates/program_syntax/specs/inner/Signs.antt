-- Numbers by their sign and size, and counts.
use Rattle.std.specs.Prelude.{ℕ, ℤ, pos, neg_ℤ, nat_abs, Bool, true, false, List, unwrap_or}
use Rattle.object_program.specs.Limits.{most_objects}
use Rattle.program_syntax.specs.Number.{number_of, is_within}

abbrev pub signed : Bool → ℕ → ℤ
signed true n = neg_ℤ (pos n)
signed false n = pos n

abbrev pub has_size : Bool × ℕ → ℤ
has_size p = signed p.0 p.1

-- the word is a number that something in a text may count to
abbrev pub is_count : List ℕ → Bool
is_count word = is_within (pos 0) (pos most_objects) (number_of word)

-- the number that the word is, or 0
abbrev pub count_in : List ℕ → ℕ
count_in word = nat_abs (unwrap_or (number_of word) (pos 0))
