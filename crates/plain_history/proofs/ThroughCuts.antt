-- Where a cut is in order, what takes all entries takes those before the cut first, and then those after it.
use Rattle.std.proofs.Common.{◌≡◌, ◌≢◌, ℕ, Bool, true, false, not, List, [], ◌∷◌, Option, Some, None, refl, ap, sym, subst, ◌∙◌, arith}
use Rattle.std.proofs.lemmas.Bool.Decides.{nat_tests}
use Rattle.std.specs.List.{AllByRecursion}
use Rattle.plain_monitor.specs.declared.entry.Entry.{Entry}
use Rattle.plain_monitor.specs.declared.entry.Logged.{Logged}
use Rattle.plain_monitor.specs.Objects.{PlainObject, new_objects, take_entry}
use Rattle.plain_monitor.specs.Order.{is_before, with_threads, order}
use Rattle.plain_monitor.specs.History.{RisesAbove, run_all, take_all, objects_after}
use Rattle.plain_history.specs.Cuts.{cut_logs, logs_since, IsCutInOrder}
use Rattle.plain_history.specs.Tied.{bound_to, is_same_object, is_tied}
use Rattle.plain_history.proofs.InOrder.{Stands, all_both}
use Rattle.plain_monitor.proofs.Ordering.{IsOrdered, NoneBefore, ordered_is_ordered}
use Rattle.plain_history.proofs.Joined.{first_some}
use Rattle.plain_history.proofs.Selected.{selected, all_selected, is_within, is_since, last_before, within_cut, since_cut, own_stand}
use Rattle.plain_history.proofs.Swaps.{take_swap}

-- what is tied is tied both ways
same_object_turned : (a b : Option ℕ) → is_same_object a b ≡ true → is_same_object b a ≡ true
same_object_turned None b h = absurd (cc h)
same_object_turned (Some o) None h = absurd (cc h)
same_object_turned (Some o) (Some p) h = grind (arith, nat_tests, h)

pub tied_turned : (e f : Entry) → is_tied e f ≡ true → is_tied f e ≡ true
tied_turned e f h = same_object_turned (bound_to e) (bound_to f) h

-- entries of two threads that are not tied can be taken the other way round
abbrev pub Swaps : {S : Type 0} → (S → ℕ → Entry → Option S) → Type 0
Swaps {S} step =
    (e f : Entry) (before middle after : S) (t u : ℕ) → t ≢ u → is_tied e f ≡ false → step before t e ≡ Some middle → step middle u f ≡ Some after
    → (other : S) × (step before u f ≡ Some other) × (step other t e ≡ Some after)

-- z is of another thread than x, and not tied to it
abbrev pub IsApart : ℕ × Logged → ℕ × Logged → Type 0
IsApart z x = (z.0 ≢ x.0) × (is_tied z.1.entry x.1.entry ≡ false)

-- it takes these, then those, and comes to this
abbrev pub TakesBoth : {S : Type 0} → (S → ℕ → Entry → Option S) → S → List (ℕ × Logged) → List (ℕ × Logged) → S → Type 0
TakesBoth {S} step s xs ys after = (middle : S) × (run_all step s xs ≡ Some middle) × (run_all step middle ys ≡ Some after)

module _ {S : Type 0} (step : S → ℕ → Entry → Option S) (swaps : Swaps step) where
  -- an entry that stands apart from these may be taken after them
  to_end : (z : ℕ × Logged) (xs : List (ℕ × Logged)) (s n after : S) → AllByRecursion (IsApart z) xs → step s z.0 z.1.entry ≡ Some n
      → run_all step n xs ≡ Some after
      → (middle : S) × (run_all step s xs ≡ Some middle) × (step middle z.0 z.1.entry ≡ Some after)
  to_end z [] s n after apart h k = (s, refl, h ∙ k)
  to_end z (x ∷ xs) s n after apart h k =
      let a = first_some (λ m. run_all step m xs) (step n x.0 x.1.entry) after k in
      let b = swaps z.1.entry x.1.entry s n a.0 z.0 x.0 apart.0.0 apart.0.1 h a.1 in
      let c = to_end z xs b.0 a.0 after apart.1 b.2 a.2 in
      (c.0, rw b.1 c.1, c.2)

module _ {S : Type 0} (step : S → ℕ → Entry → Option S) (swaps : Swaps step) (last : ℕ → ℕ) where
  abbrev before : List (ℕ × Logged) → List (ℕ × Logged)
  before = selected (is_within last)

  abbrev since : List (ℕ × Logged) → List (ℕ × Logged)
  since = selected (is_since last)

  abbrev AllStand : List (ℕ × Logged) → List (ℕ × Logged) → Type 0
  AllStand xs ys = AllByRecursion (λ x. AllByRecursion (Stands x) ys) xs

  -- an entry since the cut stands apart from each one before the cut that comes later in the order
  stands_apart : (z x : ℕ × Logged) → is_since last z ≡ true → Stands x z → (is_before x z ≡ false) × (is_within last x ≡ true) → IsApart z x
  stands_apart z x h stands late = (
    λ e. let first = own_stand last x z (sym e) late.1 h in let not_first = late.0 in absurd (cc (first, not_first)),
    by_tie (is_tied z.1.entry x.1.entry) refl,
  )
    where
      by_tie : (b : Bool) → is_tied z.1.entry x.1.entry ≡ b → is_tied z.1.entry x.1.entry ≡ false
      by_tie false e = e
      by_tie true e = let first = stands (tied_turned z.1.entry x.1.entry e) in let not_first = late.0 in absurd (cc (first, not_first))

  all_apart : (z : ℕ × Logged) (zs : List (ℕ × Logged)) → is_since last z ≡ true → NoneBefore z zs → AllByRecursion (λ x. Stands x z) (before zs)
      → AllByRecursion (IsApart z) (before zs)
  all_apart z zs h none a =
      all_both (λ x. Stands x z) (λ x. (is_before x z ≡ false) × (is_within last x ≡ true)) (IsApart z)
      (λ x p q. stands_apart z x h p q) (before zs) a
      (all_selected (λ x. is_before x z ≡ false) (is_within last) zs none)

  heads : (z : ℕ × Logged) (xs zs : List (ℕ × Logged)) → AllStand xs (z ∷ zs) → AllByRecursion (λ x. Stands x z) xs × AllStand xs zs
  heads z [] zs a = (tt, tt)
  heads z (x ∷ xs) zs a = let b = heads z xs zs a.1 in ((a.0.0, b.0), (a.0.1, b.1))

  part : (zs : List (ℕ × Logged)) (s after : S) → IsOrdered zs → AllStand (before zs) (since zs) → run_all step s zs ≡ Some after
      → TakesBoth step s (before zs) (since zs) after
  part [] s after up stand h = (s, refl, h)
  part (z ∷ zs) s after up stand h =
      let first = first_some (λ n. run_all step n zs) (step s z.0 z.1.entry) after h in
      by_test (is_within last z) refl first.0 first.1 (λ others. part zs first.0 after up.1 others first.2)
    where
      by_test : (b : Bool) → is_within last z ≡ b → (n : S) → step s z.0 z.1.entry ≡ Some n
          → (AllStand (before zs) (since zs) → TakesBoth step n (before zs) (since zs) after)
          → TakesBoth step s (before (z ∷ zs)) (since (z ∷ zs)) after
      by_test true e n first ih =
          let others : AllStand (z ∷ before zs) (since zs) = rw e at stand in
          let rest = ih others.1 in
          rw e (rest.0, rw first rest.1, rest.2)
      by_test false e n first ih =
          let others : AllStand (before zs) (z ∷ since zs) = rw e at stand in
          let parts = heads z (before zs) (since zs) others in
          let rest = ih parts.1 in
          let moved = to_end step swaps z (before zs) s n rest.0 (all_apart z zs (ap not e) up.0 parts.0) first rest.1 in
          rw e (moved.0, moved.1, rw moved.2 rest.2)

-- what takes the order of the logs takes that of the fronts, and then that of the rest
pub passes_cut : {S : Type 0} (step : S → ℕ → Entry → Option S) → Swaps step → (cut : List ℕ) (logs : List (List Logged)) (s after : S)
    → AllByRecursion (RisesAbove 0) logs → IsCutInOrder cut logs
    → run_all step s (order logs) ≡ Some after → TakesBoth step s (order (cut_logs cut logs)) (order (logs_since cut logs)) after
passes_cut step swaps cut logs s after rises cuts h =
    let last : ℕ → ℕ = last_before cut logs in
    let fronts = within_cut cut logs rises in
    let rest = since_cut cut logs rises in
    let stand = subst (λ (z : List (ℕ × Logged) × List (ℕ × Logged)). AllStand step swaps last z.0 z.1) (λ i. (sym fronts i, sym rest i)) cuts in
    subst (λ (z : List (ℕ × Logged) × List (ℕ × Logged)). TakesBoth step s z.0 z.1 after) (λ i. (fronts i, rest i))
    (part step swaps last (order logs) s after (ordered_is_ordered (with_threads 0 logs)) stand h)

-- THE OBJECTS take entries so
objects_swap : Swaps take_entry
objects_swap e f before middle after t u apart free p q = take_swap e f free before middle after t u p q

pub objects_pass : (shape : List (ℕ × ℕ)) (cut : List ℕ) (logs : List (List Logged)) (after : List PlainObject)
    → AllByRecursion (RisesAbove 0) logs → IsCutInOrder cut logs
    → objects_after shape logs ≡ Some after
    → (middle : List PlainObject) × (objects_after shape (cut_logs cut logs) ≡ Some middle)
    × (take_all middle (order (logs_since cut logs)) ≡ Some after)
objects_pass shape cut logs after rises cuts h =
    let first : List PlainObject = new_objects shape in
    passes_cut take_entry objects_swap cut logs first after rises cuts h
