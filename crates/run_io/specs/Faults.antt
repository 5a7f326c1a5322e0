-- Counts of calls and faults, which the code keeps as u64.
use Rattle.std.specs.Prelude.{ℕ, ◌+◌, ◌-◌, ◌^◌, min, Bool, ◌||◌, ◌==◌, nat_lt, List}
use Rattle.std.specs.List.{list_any}

-- the greatest u64, at which a count stays
abbrev pub last_count : ℕ
last_count = 2 ^ 64 - 1

-- one more, at most the last count
abbrev pub count_on : ℕ → ℕ
count_on n = min (n + 1) last_count

-- the count rose from old to new, or stands at the last count, where it can rise no more
abbrev pub rose : ℕ → ℕ → Bool
rose old new = nat_lt old new || (new == last_count)

-- this number is among them
abbrev pub is_listed : List ℕ → ℕ → Bool
is_listed numbers n = list_any (λ m. m == n) numbers
