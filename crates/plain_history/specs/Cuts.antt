-- Logs that are cut: what stands before the cut, what stands after it, and when a cut goes by the order of tied entries.
use Rattle.std.specs.Prelude.{ℕ, List, [], ◌∷◌, take, drop, IsTrue}
use Rattle.std.specs.List.{AllByRecursion}
use Rattle.plain_monitor.specs.declared.entry.Logged.{Logged}
use Rattle.plain_monitor.specs.Order.{is_before, order}
use Rattle.plain_history.specs.Tied.{is_tied}

-- the front of each log, of the length that stands in its place
abbrev pub cut_logs : List ℕ → List (List Logged) → List (List Logged)
cut_logs [] logs = logs
cut_logs (n ∷ ns) [] = []
cut_logs (n ∷ ns) (log ∷ logs) = take n log ∷ cut_logs ns logs

-- the rest of each log, after that front
abbrev pub logs_since : List ℕ → List (List Logged) → List (List Logged)
logs_since [] logs = []
logs_since (n ∷ ns) [] = []
logs_since (n ∷ ns) (log ∷ logs) = drop n log ∷ logs_since ns logs

-- of two tied entries, one before the cut and one after it, that before the cut stands before the other in the order, too
abbrev pub IsCutInOrder : List ℕ → List (List Logged) → Type 0
IsCutInOrder cut logs =
    AllByRecursion
    (λ x. AllByRecursion (λ y. IsTrue (is_tied x.1.entry y.1.entry) → IsTrue (is_before x y)) (order (logs_since cut logs)))
    (order (cut_logs cut logs))
