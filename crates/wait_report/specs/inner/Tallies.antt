-- What is counted of each object while the entries are gone through once.
use Rattle.std.specs.Prelude.{ℕ, ◌+◌, ◌-◌, ◌<◌, ◌^◌, Bool, nat_le, if◌then◌else◌, List, [], ◌∷◌, ◌++◌}
use Rattle.std.specs.Prelude.{length, replicate, slice_index, slice_index_or, slice_set, Some, None}
use Rattle.std.specs.List.{AllByRecursion, list_any}
use Rattle.plain_monitor.specs.declared.entry.Path.{Path}
use Rattle.plain_monitor.specs.declared.entry.Entry.{Entry}
use Rattle.plain_monitor.specs.declared.entry.Entry.TheVariants.{Enter, Resume}
use Rattle.plain_monitor.specs.declared.entry.Logged.{Logged}
use Rattle.lock_journal.specs.RunText.{path_number}
use Rattle.wait_report.specs.declared.tallies.Tally.{Tally}
use Rattle.wait_report.specs.declared.counts.ObjectCount.{ObjectCount}
use Rattle.wait_report.specs.Handovers.{is_handover}

-- before the first entry
abbrev pub new_tally : Tally
new_tally = record { paths = 0 ∷ 0 ∷ 0 ∷ 0 ∷ 0 ∷ 0 ∷ []; handovers = 0; taker = None }

-- the count of this path
abbrev pub count_at : List ℕ → Path → ℕ
count_at counts path = slice_index counts (path_number path)

-- after an enter or a resume by thread t
abbrev pub had_by : Tally → ℕ → Tally
had_by y t = record y { handovers = y.handovers + (if is_handover y.taker t then 1 else 0); taker = Some t }

abbrev pub entered_by : Tally → Path → Tally
entered_by y path = record y { paths = slice_set y.paths (path_number path) (count_at y.paths path + 1) }

-- an object after the last that has a tally has a new one
abbrev pub tally_at : List Tally → ℕ → Tally
tally_at ys o = slice_index_or ys o new_tally

-- the same tallies, where new ones are added until object o has one
abbrev pub reaching : List Tally → ℕ → List Tally
reaching ys o = ys ++ replicate ((o + 1) - length ys) new_tally

-- an enter of object o by thread t
abbrev pub with_enter : List Tally → ℕ → ℕ → Path → List Tally
with_enter ys t o path = slice_set ys o (entered_by (had_by (tally_at ys o) t) path)

-- a resume of object o by thread t
abbrev pub with_resume : List Tally → ℕ → ℕ → List Tally
with_resume ys t o = slice_set ys o (had_by (tally_at ys o) t)

-- the tallies after an entry of thread t: of the objects up to the greatest that was entered or resumed
abbrev pub after_entry : List Tally → ℕ → Entry → List Tally
after_entry ys t (Enter o path) = with_enter (reaching ys o) t o path
after_entry ys t (Resume o) = with_resume (reaching ys o) t o
after_entry ys t e = ys

-- after these entries, one after the other
abbrev pub after_entries : List Tally → List (ℕ × Logged) → List Tally
after_entries ys [] = ys
after_entries ys (x ∷ xs) = after_entries (after_entry ys x.0 x.1.entry) xs

-- no count passes a number of 64 bits, if n are added to it
pub record TallyHasRoom (n : ℕ) (y : Tally) : Type 0 where
  pub paths : (path : Path) → count_at y.paths path + n < 2 ^ 64
  pub handovers : y.handovers + n < 2 ^ 64

abbrev pub HaveRoom : ℕ → List Tally → Type 0
HaveRoom n ys = AllByRecursion (TallyHasRoom n) ys

-- the object was entered
abbrev pub is_counted : Tally → Bool
is_counted y = list_any (λ n. nat_le 1 n) y.paths

abbrev pub count_in : ℕ → Tally → ObjectCount
count_in o y = record { object = o; paths = y.paths; handovers = y.handovers }

-- the counts of these objects, from number o on
abbrev pub counts_from : ℕ → List Tally → List ObjectCount
counts_from o [] = []
counts_from o (y ∷ ys) = if is_counted y then count_in o y ∷ counts_from (o + 1) ys else counts_from (o + 1) ys
