-- Where the hashes of a history fit the generators of its threads. Each object that has hash entries has one value in all of them,
-- and exactly one of them has a draw. This draw has the number of its place among the draws of its thread, from 1, and its value is
-- the one with this number that the thread's generator gives.
use Rattle.std.specs.Prelude.{ℕ, ◌+◌, ◌%◌, ◌^◌, Bool, true, false, not, ◌&&◌, ◌||◌, ◌==◌, List, [], ◌∷◌, ◌++◌, count_by, Option, Some, None}
use Rattle.std.specs.List.{filter_map, list_all}
use Rattle.lock_policy.specs.Draws.{nth_value}
use Rattle.plain_monitor.specs.declared.entry.Entry.{Entry}
use Rattle.plain_monitor.specs.declared.entry.Entry.TheVariants.{Hash}
use Rattle.plain_monitor.specs.declared.entry.Logged.{Logged}
use Rattle.plain_monitor.specs.Monitor.{only_if}

-- the first word of thread t's generator
abbrev pub first_word : ℕ → ℕ → ℕ
first_word start t = (start + t) % 2 ^ 32

-- the value of a hash entry of object o
abbrev pub hash_in : ℕ → Entry → Option ℕ
hash_in o (Hash object value drawn) = only_if (object == o) value
hash_in o e = None

-- the values of the hash entries of object o
abbrev pub hashes_of : ℕ → List (ℕ × Logged) → List ℕ
hashes_of o xs = filter_map (λ x. hash_in o x.1.entry) xs

abbrev pub has_none : List ℕ → Bool
has_none [] = true
has_none (v ∷ vs) = false

abbrev pub all_same : List ℕ → Bool
all_same [] = true
all_same (v ∷ vs) = list_all (λ w. v == w) vs

-- a hash entry with a draw
abbrev pub is_draw : Entry → Bool
is_draw (Hash object value (Some number)) = true
is_draw e = false

-- a hash entry of object o with a draw
abbrev pub is_draw_of : ℕ → Entry → Bool
is_draw_of o (Hash object value (Some number)) = object == o
is_draw_of o e = false

-- how often thread t drew
abbrev pub draws_by : ℕ → List (ℕ × Logged) → ℕ
draws_by t xs = count_by (λ x. (x.0 == t) && is_draw x.1.entry) xs

-- what an entry of thread t drew, after n draws of the thread, is right
abbrev pub is_right : ℕ → ℕ → ℕ → Entry → Bool
is_right start t n (Hash object value (Some number)) =
    (number == n + 1) && (value == nth_value (first_word start t) number)
is_right start t n e = true

-- each draw of object o among these is right, where `done` stands before them
abbrev pub are_right : ℕ → ℕ → List (ℕ × Logged) → List (ℕ × Logged) → Bool
are_right start o done [] = true
are_right start o done (x ∷ xs) =
    (not (is_draw_of o x.1.entry) || is_right start x.0 (draws_by x.0 done) x.1.entry)
    && are_right start o (done ++ x ∷ []) xs

-- the hashes of object o fit
abbrev pub hash_fits : ℕ → List (ℕ × Logged) → ℕ → Bool
hash_fits start xs o =
    has_none (hashes_of o xs)
    || (all_same (hashes_of o xs) && (count_by (λ x. is_draw_of o x.1.entry) xs == 1) && are_right start o [] xs)
