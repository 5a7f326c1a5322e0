-- What a thread knows by its log it knows by a longer one.
use Rattle.core_locks.proofs.Prelude.{◌≡◌, ℕ, ◌||◌, nat_lt, Bool, true, false, List, [], ◌∷◌, ◌++◌, refl, ap, ◌∙◌, Logged}
use Rattle.std.proofs.lemmas.List.Folds.{list_any-append}
use Rattle.plain_monitor.specs.Made.{Numbering, first_made}
use Rattle.core_world.specs.Threads.References.{tells_of, is_told, knows_by_log}

pub knows_more : (n : Numbering) (log : List Logged) (y : Logged) (o : ℕ) → knows_by_log n log o ≡ true → knows_by_log n (log ++ y ∷ []) o ≡ true
knows_more n log y o h = by_test (nat_lt o (first_made n)) h
  where
    by_test : (b : Bool) → (b || is_told log o) ≡ true → (b || is_told (log ++ y ∷ []) o) ≡ true
    by_test true g = refl
    by_test false g = list_any-append (λ l. tells_of o l.entry) log (y ∷ []) ∙ ap (λ (told : Bool). told || is_told (y ∷ []) o) g
