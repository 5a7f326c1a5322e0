-- Objects and threads together: each thread has a state of type S, which its own entries alone change.
use Rattle.std.specs.Prelude.{◌≡◌, ℕ, List, [], ◌∷◌, length, slice_get, slice_set, Option, Some, None, option_map, option_and_then}
use Rattle.plain_monitor.specs.declared.entry.Entry.{Entry}
use Rattle.plain_monitor.specs.declared.entry.Logged.{Logged}
use Rattle.plain_monitor.specs.Objects.{PlainObject, take_entry}
use Rattle.plain_monitor.specs.Order.{of_thread}
use Rattle.plain_monitor.specs.History.{log_of, run_all}

-- the state of a thread after these entries, one after the other, where it takes each
abbrev pub run_log : {S : Type 0} → (S → Entry → Option S) → S → List Logged → Option S
run_log step s [] = Some s
run_log step s (l ∷ log) = option_and_then (λ after. run_log step after log) (step s l.entry)

-- the states of the threads after an entry of t, where its state takes it
abbrev pub take_state : {S : Type 0} → (S → Entry → Option S) → List S → ℕ → Entry → Option (List S)
take_state step states t e =
    option_and_then (λ s. option_map (λ after. slice_set states t after) (step s e)) (slice_get states t)

-- both, where both are there
abbrev pub both : {A B : Type 0} → Option A → Option B → Option (A × B)
both None b = None
both (Some a) None = None
both (Some a) (Some b) = Some (a, b)

-- objects and threads after an entry of t, where both take it
abbrev pub take_joined : {S : Type 0} → (S → Entry → Option S) → List PlainObject → List S → ℕ → Entry
    → Option (List PlainObject × List S)
take_joined step objects states t e = both (take_entry objects t e) (take_state step states t e)

-- objects and threads after these entries, one after the other, where both take each
abbrev pub take_all_joined : {S : Type 0} → (S → Entry → Option S) → List PlainObject → List S
    → List (ℕ × Logged) → Option (List PlainObject × List S)
take_all_joined step objects states xs = run_all (λ p t e. take_joined step p.0 p.1 t e) (objects, states) xs

-- each thread's state takes all of the thread's own entries among these, and is then its final one
pub record EachTakesItsOwn {S : Type 0} (step : S → Entry → Option S) (states finals : List S)
    (xs : List (ℕ × Logged)) : Type 0 where
  pub threads : length finals ≡ length states
  pub own : (t : ℕ) (s final : S) → slice_get states t ≡ Some s → slice_get finals t ≡ Some final
      → run_log step s (of_thread t xs) ≡ Some final

-- each thread's state takes all of the thread's log, and is then its final one
pub record EachTakesItsLog {S : Type 0} (step : S → Entry → Option S) (states finals : List S)
    (logs : List (List Logged)) : Type 0 where
  pub threads : length finals ≡ length states
  pub own : (t : ℕ) (s final : S) → slice_get states t ≡ Some s → slice_get finals t ≡ Some final
      → run_log step s (log_of logs t) ≡ Some final
