-- What a merge of the logs has left.
use Rattle.std.specs.Prelude.{◌≡◌, ℕ, List, [], ◌∷◌, drop}
use Rattle.std.specs.List.{AllByRecursion}
use Rattle.plain_monitor.specs.Limits.{most_threads}
use Rattle.plain_monitor.specs.declared.entry.Logged.{Logged}

-- the logs without the entries that were given: of thread t's log the first, as many as its place says
abbrev pub left_of : List (List Logged) → List ℕ → List (List Logged)
left_of [] places = []
left_of (log ∷ logs) [] = log ∷ logs
left_of (log ∷ logs) (place ∷ places) = drop place log ∷ left_of logs places

-- The logs after the sixteenth are empty: a program has 16 threads at most. Legal logs are such, however many they are.
abbrev pub AreOfSixteen : List (List Logged) → Type 0
AreOfSixteen logs = AllByRecursion (λ log. log ≡ []) (drop most_threads logs)
