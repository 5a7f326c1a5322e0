-- An empty log more.
use Rattle.std.proofs.Common.{◌≡◌, ℕ, zero, suc, List, [], ◌∷◌, ◌++◌, drop, refl}
use Rattle.std.proofs.Math.Seq.{drop-nil}
use Rattle.std.specs.List.{AllByRecursion}
use Rattle.plain_monitor.specs.declared.entry.Logged.{Logged}
use Rattle.plain_monitor.specs.History.{RisesAbove}
use Rattle.lock_journal.specs.Merging.{AreOfSixteen}

pub rises_pushed : (logs : List (List Logged)) → AllByRecursion (RisesAbove 0) logs → AllByRecursion (RisesAbove 0) (logs ++ [] ∷ [])
rises_pushed [] r = (tt, tt)
rises_pushed (log ∷ logs) r = (r.0, rises_pushed logs r.1)

empty_pushed : (n : ℕ) (logs : List (List Logged)) → AllByRecursion (λ log. log ≡ []) (drop n logs)
    → AllByRecursion (λ log. log ≡ []) (drop n (logs ++ [] ∷ []))
empty_pushed zero [] h = (refl, tt)
empty_pushed zero (log ∷ logs) h = (h.0, empty_pushed zero logs h.1)
empty_pushed (suc n) [] h = rw (drop-nil {A = List Logged} n) tt
empty_pushed (suc n) (log ∷ logs) h = empty_pushed n logs h

pub few_pushed : (logs : List (List Logged)) → AreOfSixteen logs → AreOfSixteen (logs ++ [] ∷ [])
few_pushed logs h = empty_pushed 16 logs h
