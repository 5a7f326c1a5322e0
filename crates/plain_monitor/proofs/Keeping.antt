-- The order of what passes a test.
use Rattle.std.proofs.Common.{◌≡◌, ℕ, ◌+◌, Bool, true, false, List, [], ◌∷◌, ◌++◌, map, refl, ap, sym, ◌∙◌, arith}
use Rattle.std.proofs.lemmas.Bool.Decides.{nat_tests}
use Rattle.std.proofs.lemmas.List.Elements.{filter-append}
use Rattle.std.specs.List.{AllByRecursion}
use Rattle.plain_monitor.specs.declared.entry.Entry.{Entry}
use Rattle.plain_monitor.specs.declared.entry.Logged.{Logged}
use Rattle.plain_monitor.specs.Order.{is_before, insert_ordered, ordered, with_threads, order}
use Rattle.plain_monitor.proofs.Orders.{insert_front}
use Rattle.plain_monitor.proofs.Ordering.{NoneBefore, IsOrdered, ordered_is_ordered}
use Rattle.plain_monitor.specs.Kept.{kept_of, kept_logs, kept_entries}

-- what stands before an entry stands before all that don't stand before that
before_later : (x y z : ℕ × Logged) → is_before x y ≡ true → is_before z y ≡ false → is_before x z ≡ true
before_later x y z h k = grind (arith, nat_tests)

-- a test of entries with their threads
abbrev test_of : (Entry → Bool) → ℕ × Logged → Bool
test_of keeps x = keeps x.1.entry

-- what stands before all goes in front of what passes of them
kept_front : (keeps : Entry → Bool) (x y : ℕ × Logged) (ys : List (ℕ × Logged)) → is_before x y ≡ true → NoneBefore y ys
    → AllByRecursion (λ z. is_before x z ≡ true) (kept_entries keeps ys)
kept_front keeps x y [] h none = tt
kept_front keeps x y (z ∷ zs) h none = by_test (keeps z.1.entry) refl (kept_front keeps x y zs h none.1)
  where
    by_test : (b : Bool) → keeps z.1.entry ≡ b → AllByRecursion (λ w. is_before x w ≡ true) (kept_entries keeps zs)
        → AllByRecursion (λ w. is_before x w ≡ true) (kept_entries keeps (z ∷ zs))
    by_test true e rest = rw e (before_later x y z h none.0, rest)
    by_test false e rest = rw e rest

-- an entry that passes goes into what passes of a sorted list, by the tests at the head
kept_in_at_head : (keeps : Entry → Bool) (x y : ℕ × Logged) (ys : List (ℕ × Logged)) (b c : Bool) → is_before x y ≡ b → keeps y.1.entry ≡ c
    → keeps x.1.entry ≡ true → NoneBefore y ys
    → kept_entries keeps (insert_ordered x ys) ≡ insert_ordered x (kept_entries keeps ys)
    → kept_entries keeps (insert_ordered x (y ∷ ys)) ≡ insert_ordered x (kept_entries keeps (y ∷ ys))
kept_in_at_head keeps x y ys true true h k p none ih = rw (h, p, k, h) refl
kept_in_at_head keeps x y ys true false h k p none ih = rw (h, p, k) (sym (insert_front x (kept_entries keeps ys) (kept_front keeps x y ys h none)))
kept_in_at_head keeps x y ys false true h k p none ih = rw (h, k, h) (ap (λ zs. y ∷ zs) ih)
kept_in_at_head keeps x y ys false false h k p none ih = rw (h, k) ih

kept_in : (keeps : Entry → Bool) (x : ℕ × Logged) (ys : List (ℕ × Logged)) → keeps x.1.entry ≡ true → IsOrdered ys
    → kept_entries keeps (insert_ordered x ys) ≡ insert_ordered x (kept_entries keeps ys)
kept_in keeps x [] p s = rw p refl
kept_in keeps x (y ∷ ys) p s = kept_in_at_head keeps x y ys (is_before x y) (keeps y.1.entry) refl refl p s.0 (kept_in keeps x ys p s.1)

-- an entry that doesn't pass adds nothing
left_out_at_head : (keeps : Entry → Bool) (x y : ℕ × Logged) (ys : List (ℕ × Logged)) (b c : Bool) → is_before x y ≡ b → keeps y.1.entry ≡ c
    → keeps x.1.entry ≡ false
    → kept_entries keeps (insert_ordered x ys) ≡ kept_entries keeps ys
    → kept_entries keeps (insert_ordered x (y ∷ ys)) ≡ kept_entries keeps (y ∷ ys)
left_out_at_head keeps x y ys true c h k p ih = rw (h, p) refl
left_out_at_head keeps x y ys false true h k p ih = rw (h, k) (ap (λ zs. y ∷ zs) ih)
left_out_at_head keeps x y ys false false h k p ih = rw (h, k) ih

left_out : (keeps : Entry → Bool) (x : ℕ × Logged) (ys : List (ℕ × Logged)) → keeps x.1.entry ≡ false
    → kept_entries keeps (insert_ordered x ys) ≡ kept_entries keeps ys
left_out keeps x [] p = rw p refl
left_out keeps x (y ∷ ys) p = left_out_at_head keeps x y ys (is_before x y) (keeps y.1.entry) refl refl p (left_out keeps x ys p)

-- what passes of an order is the order of what passes
kept_ordered : (keeps : Entry → Bool) (xs : List (ℕ × Logged)) → kept_entries keeps (ordered xs) ≡ ordered (kept_entries keeps xs)
kept_ordered keeps [] = refl
kept_ordered keeps (x ∷ xs) = by_test (keeps x.1.entry) refl (kept_ordered keeps xs)
  where
    by_test : (b : Bool) → keeps x.1.entry ≡ b → kept_entries keeps (ordered xs) ≡ ordered (kept_entries keeps xs)
        → kept_entries keeps (ordered (x ∷ xs)) ≡ ordered (kept_entries keeps (x ∷ xs))
    by_test true e ih = rw e (kept_in keeps x (ordered xs) e (ordered_is_ordered xs) ∙ ap (insert_ordered x) ih)
    by_test false e ih = rw e (left_out keeps x (ordered xs) e ∙ ih)

-- of one log
kept_log : (keeps : Entry → Bool) (t : ℕ) (log : List Logged) → kept_entries keeps (map (λ l. (t, l)) log) ≡ map (λ l. (t, l)) (kept_of keeps log)
kept_log keeps t [] = refl
kept_log keeps t (l ∷ log) = by_test (keeps l.entry) refl (kept_log keeps t log)
  where
    by_test : (b : Bool) → keeps l.entry ≡ b → kept_entries keeps (map (λ k. (t, k)) log) ≡ map (λ k. (t, k)) (kept_of keeps log)
        → kept_entries keeps (map (λ k. (t, k)) (l ∷ log)) ≡ map (λ k. (t, k)) (kept_of keeps (l ∷ log))
    by_test true e ih = rw e (ap (λ xs. (t, l) ∷ xs) ih)
    by_test false e ih = rw e ih

kept_threads : (keeps : Entry → Bool) (t : ℕ) (logs : List (List Logged)) → kept_entries keeps (with_threads t logs) ≡ with_threads t (kept_logs keeps logs)
kept_threads keeps t [] = refl
kept_threads keeps t (log ∷ logs) =
    filter-append (test_of keeps) (map (λ l. (t, l)) log) (with_threads (t + 1) logs)
    ∙ ap (λ xs. xs ++ kept_entries keeps (with_threads (t + 1) logs)) (kept_log keeps t log)
    ∙ ap (λ xs. map (λ l. (t, l)) (kept_of keeps log) ++ xs) (kept_threads keeps (t + 1) logs)

pub kept_order : (keeps : Entry → Bool) (logs : List (List Logged)) → kept_entries keeps (order logs) ≡ order (kept_logs keeps logs)
kept_order keeps logs = kept_ordered keeps (with_threads 0 logs) ∙ ap ordered (kept_threads keeps 0 logs)
