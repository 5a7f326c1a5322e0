-- A cut at the end of all logs is in order, and stays so where an entry is appended; and what a cut in order says of two entries.
use Rattle.std.proofs.Common.{◌≡◌, ℕ, zero, suc, ◌+◌, ◌<◌, ◌≤◌, true, List, [], ◌∷◌, ◌++◌, length, map, take, drop}
use Rattle.std.proofs.Common.{Some, slice_get, slice_index, refl, ap, sym, subst, ◌∙◌, arith, Bool, false}
use Rattle.std.proofs.lemmas.List.{drop_all}
use Rattle.std.proofs.lemmas.Option.{none-some, same_Some}
use Rattle.std.specs.List.{AllByRecursion}
use Rattle.plain_monitor.specs.declared.entry.Logged.{Logged}
use Rattle.plain_monitor.specs.Order.{is_before, insert_ordered, ordered, with_threads, order}
use Rattle.plain_monitor.specs.History.{log_of, appended}
use Rattle.plain_monitor.proofs.Lists.{all_append, all_each}
use Rattle.plain_monitor.proofs.Orders.{all_ordered}
use Rattle.plain_history.specs.Appending.{MayAppend}
use Rattle.plain_history.specs.Cuts.{cut_logs, logs_since, IsCutInOrder}
use Rattle.plain_history.specs.Tied.{is_tied}

-- FACTS OF ALL ENTRIES. Of two lists in a row each has what both have.
pub all_first : {A : Type 0} (P : A → Type 0) (xs ys : List A) → AllByRecursion P (xs ++ ys) → AllByRecursion P xs
all_first P [] ys a = tt
all_first P (x ∷ xs) ys a = (a.0, all_first P xs ys a.1)

pub all_second : {A : Type 0} (P : A → Type 0) (xs ys : List A) → AllByRecursion P (xs ++ ys) → AllByRecursion P ys
all_second P [] ys a = a
all_second P (x ∷ xs) ys a = all_second P xs ys a.1

-- two facts give a third
pub all_both : {A : Type 0} (P Q R : A → Type 0) → ((x : A) → P x → Q x → R x) → (xs : List A) → AllByRecursion P xs → AllByRecursion Q xs
    → AllByRecursion R xs
all_both P Q R f [] a b = tt
all_both P Q R f (x ∷ xs) a b = (f x a.0 b.0, all_both P Q R f xs a.1 b.1)

-- what holds of all of an order holds of all that was put in order
taken_out : (P : ℕ × Logged → Type 0) (x : ℕ × Logged) (ys : List (ℕ × Logged)) → AllByRecursion P (insert_ordered x ys) → P x × AllByRecursion P ys
taken_out P x [] a = a
taken_out P x (y ∷ ys) a = by_test (is_before x y) refl (taken_out P x ys)
  where
    by_test : (b : Bool) → is_before x y ≡ b → (AllByRecursion P (insert_ordered x ys) → P x × AllByRecursion P ys) → P x × AllByRecursion P (y ∷ ys)
    by_test true e ih = rw e at a
    by_test false e ih =
        let c : P y × AllByRecursion P (insert_ordered x ys) = rw e at a in
        let d = ih c.1 in
        (d.0, (c.0, d.1))

pub all_unordered : (P : ℕ × Logged → Type 0) (xs : List (ℕ × Logged)) → AllByRecursion P (ordered xs) → AllByRecursion P xs
all_unordered P [] a = tt
all_unordered P (x ∷ xs) a = let b = taken_out P x (ordered xs) a in (b.0, all_unordered P xs b.1)

first_log : (P : ℕ × Logged → Type 0) (t : ℕ) (log : List Logged) (logs : List (List Logged)) → AllByRecursion P (with_threads t (log ∷ logs))
    → AllByRecursion P (map (λ l. (t, l)) log)
first_log P t log logs a = all_first P (map (λ l. (t, l)) log) (with_threads (t + 1) logs) a

other_logs : (P : ℕ × Logged → Type 0) (t : ℕ) (log : List Logged) (logs : List (List Logged)) → AllByRecursion P (with_threads t (log ∷ logs))
    → AllByRecursion P (with_threads (t + 1) logs)
other_logs P t log logs a = all_second P (map (λ l. (t, l)) log) (with_threads (t + 1) logs) a

-- THE FRONTS have what all logs have
all_front : (P : ℕ × Logged → Type 0) (t n : ℕ) (log : List Logged) → AllByRecursion P (map (λ l. (t, l)) log)
    → AllByRecursion P (map (λ l. (t, l)) (take n log))
all_front P t zero log a = tt
all_front P t (suc n) [] a = tt
all_front P t (suc n) (l ∷ log) a = (a.0, all_front P t n log a.1)

all_fronts : (P : ℕ × Logged → Type 0) (t : ℕ) (cut : List ℕ) (logs : List (List Logged)) → AllByRecursion P (with_threads t logs)
    → AllByRecursion P (with_threads t (cut_logs cut logs))
all_fronts P t [] logs a = a
all_fronts P t (n ∷ ns) [] a = tt
all_fronts P t (n ∷ ns) (log ∷ logs) a =
    all_append P (map (λ l. (t, l)) (take n log)) (with_threads (t + 1) (cut_logs ns logs))
    (all_front P t n log (first_log P t log logs a))
    (all_fronts P (t + 1) ns logs (other_logs P t log logs a))

-- what stands after the fronts has one entry more
all_rest : (P : ℕ × Logged → Type 0) (t n : ℕ) (log : List Logged) (l : Logged) → P (t, l) → AllByRecursion P (map (λ m. (t, m)) (drop n log))
    → AllByRecursion P (map (λ m. (t, m)) (drop n (log ++ l ∷ [])))
all_rest P t zero [] l h a = (h, tt)
all_rest P t zero (m ∷ log) l h a = (a.0, all_rest P t zero log l h a.1)
all_rest P t (suc zero) [] l h a = tt
all_rest P t (suc (suc n)) [] l h a = tt
all_rest P t (suc n) (m ∷ log) l h a = all_rest P t n log l h a

all_since : (P : ℕ × Logged → Type 0) (s t u : ℕ) (cut : List ℕ) (logs : List (List Logged)) (l : Logged) → u ≡ s + t → P (u, l)
    → AllByRecursion P (with_threads s (logs_since cut logs)) → AllByRecursion P (with_threads s (logs_since cut (appended logs t l)))
all_since P s t u [] logs l e h a = tt
all_since P s t u (n ∷ ns) [] l e h a = tt
all_since P s zero u (n ∷ ns) (log ∷ logs) l e h a =
    let same : u ≡ s = omega (arith, e) in
    all_append P (map (λ m. (s, m)) (drop n (log ++ l ∷ []))) (with_threads (s + 1) (logs_since ns logs))
    (all_rest P s n log l (subst (λ i. P (i, l)) same h) (first_log P s (drop n log) (logs_since ns logs) a))
    (other_logs P s (drop n log) (logs_since ns logs) a)
all_since P s (suc t) u (n ∷ ns) (log ∷ logs) l e h a =
    all_append P (map (λ m. (s, m)) (drop n log)) (with_threads (s + 1) (logs_since ns (appended logs t l)))
    (first_log P s (drop n log) (logs_since ns logs) a)
    (all_since P (s + 1) t u ns logs l (omega (arith, e)) h (other_logs P s (drop n log) (logs_since ns logs) a))

-- x stands before y where the two are tied
abbrev pub Stands : ℕ × Logged → ℕ × Logged → Type 0
Stands x y = is_tied x.1.entry y.1.entry ≡ true → is_before x y ≡ true

-- x so stands before all of these logs
abbrev StandsBefore : List (List Logged) → ℕ × Logged → Type 0
StandsBefore logs x = AllByRecursion (Stands x) (order logs)

-- an entry that may be appended keeps the order of a cut that leaves the fronts as they are
pub in_order_with : (cut : List ℕ) (logs : List (List Logged)) (t : ℕ) (l : Logged) → MayAppend logs t l
    → cut_logs cut (appended logs t l) ≡ cut_logs cut logs → IsCutInOrder cut logs → IsCutInOrder cut (appended logs t l)
in_order_with cut logs t l may same h =
    let Last : ℕ × Logged → Type 0 = λ x. Stands x (t, l) in
    let last : AllByRecursion Last (order (cut_logs cut logs)) =
    all_ordered Last (with_threads 0 (cut_logs cut logs)) (all_fronts Last 0 cut logs (all_unordered Last (with_threads 0 logs) may.follows)) in
    let now : List (List Logged) = logs_since cut (appended logs t l) in
    let next : (x : ℕ × Logged) → StandsBefore (logs_since cut logs) x → Last x → StandsBefore now x =
    λ x a b. all_ordered (Stands x) (with_threads 0 now)
    (all_since (Stands x) 0 t t cut logs l (omega arith) b (all_unordered (Stands x) (with_threads 0 (logs_since cut logs)) a)) in
    subst (AllByRecursion (StandsBefore now)) (ap order (sym same))
    (all_both (StandsBefore (logs_since cut logs)) Last (StandsBefore now) next (order (cut_logs cut logs)) h last)

-- A CUT AT THE END of each log leaves nothing
none_since : (s : ℕ) (logs : List (List Logged)) → with_threads s (logs_since (map (λ log. length log) logs) logs) ≡ []
none_since s [] = refl
none_since s (log ∷ logs) =
    let others : List (ℕ × Logged) = with_threads (s + 1) (logs_since (map (λ k. length k) logs) logs) in
    ap (λ rest. map (λ m. (s, m)) rest ++ others) (drop_all (length log) log (omega arith)) ∙ none_since (s + 1) logs

pub whole_in_order : (logs : List (List Logged)) → IsCutInOrder (map (λ log. length log) logs) logs
whole_in_order logs =
    let cut : List ℕ = map (λ log. length log) logs in
    all_each (StandsBefore (logs_since cut logs)) (order (cut_logs cut logs))
    (λ x. subst (λ ys. AllByRecursion (Stands x) (ordered ys)) (sym (none_since 0 logs)) tt)

-- TWO ENTRIES. What holds of all entries of logs holds of each that a log has
in_log : (P : ℕ × Logged → Type 0) (t n i : ℕ) (log : List Logged) (l : Logged) → AllByRecursion P (map (λ m. (t, m)) (drop n log)) → n ≤ i
    → slice_get log i ≡ Some l → P (t, l)
in_log P t n i [] l a le e = absurd (none-some l e)
in_log P t zero zero (m ∷ log) l a le e = let same : m ≡ l = same_Some m l e in subst (λ z. P (t, z)) same a.0
in_log P t zero (suc i) (m ∷ log) l a le e = in_log P t zero i log l a.1 (omega arith) e
in_log P t (suc n) zero (m ∷ log) l a le e = absurd (omega (arith, le))
in_log P t (suc n) (suc i) (m ∷ log) l a le e = in_log P t n i log l a (omega (arith, le)) e

in_front : (P : ℕ × Logged → Type 0) (t n i : ℕ) (log : List Logged) (l : Logged) → AllByRecursion P (map (λ m. (t, m)) (take n log)) → i < n
    → slice_get log i ≡ Some l → P (t, l)
in_front P t n i [] l a lt e = absurd (none-some l e)
in_front P t zero i (m ∷ log) l a lt e = absurd (omega (arith, lt))
in_front P t (suc n) zero (m ∷ log) l a lt e = let same : m ≡ l = same_Some m l e in subst (λ z. P (t, z)) same a.0
in_front P t (suc n) (suc i) (m ∷ log) l a lt e = in_front P t n i log l a.1 (omega (arith, lt)) e

of_fronts : (P : ℕ × Logged → Type 0) (s t u i : ℕ) (cut : List ℕ) (logs : List (List Logged)) (l : Logged)
    → AllByRecursion P (with_threads s (cut_logs cut logs)) → u ≡ s + t
    → i < slice_index cut t → slice_get (log_of logs t) i ≡ Some l → P (u, l)
of_fronts P s t u i [] logs l a e lt g = absurd (omega (arith, lt))
of_fronts P s t u i (n ∷ ns) [] l a e lt g = absurd (none-some l g)
of_fronts P s zero u i (n ∷ ns) (log ∷ logs) l a e lt g =
    let same : s ≡ u = omega (arith, e) in
    subst (λ z. P (z, l)) same (in_front P s n i log l (first_log P s (take n log) (cut_logs ns logs) a) lt g)
of_fronts P s (suc t) u i (n ∷ ns) (log ∷ logs) l a e lt g =
    of_fronts P (s + 1) t u i ns logs l (other_logs P s (take n log) (cut_logs ns logs) a) (omega (arith, e)) lt g

of_since : (P : ℕ × Logged → Type 0) (s t u i : ℕ) (cut : List ℕ) (logs : List (List Logged)) (l : Logged)
    → AllByRecursion P (with_threads s (logs_since cut logs)) → u ≡ s + t
    → t < length cut → slice_index cut t ≤ i → slice_get (log_of logs t) i ≡ Some l → P (u, l)
of_since P s t u i [] logs l a e within le g = absurd (omega (arith, within))
of_since P s t u i (n ∷ ns) [] l a e within le g = absurd (none-some l g)
of_since P s zero u i (n ∷ ns) (log ∷ logs) l a e within le g =
    let same : s ≡ u = omega (arith, e) in
    subst (λ z. P (z, l)) same (in_log P s n i log l (first_log P s (drop n log) (logs_since ns logs) a) le g)
of_since P s (suc t) u i (n ∷ ns) (log ∷ logs) l a e within le g =
    of_since P (s + 1) t u i ns logs l (other_logs P s (drop n log) (logs_since ns logs) a) (omega (arith, e)) (omega (arith, within)) le g

-- an entry before the cut stands before each one after it that is tied to it
pub in_order_at : (cut : List ℕ) (logs : List (List Logged)) (u v i j : ℕ) (l m : Logged) → IsCutInOrder cut logs
    → slice_get (log_of logs u) i ≡ Some l → i < slice_index cut u
    → slice_get (log_of logs v) j ≡ Some m → slice_index cut v ≤ j → v < length cut → is_tied l.entry m.entry ≡ true → is_before (u, l) (v, m) ≡ true
in_order_at cut logs u v i j l m h at-l before at-m since within tied =
    let rest : List (List Logged) = logs_since cut logs in
    let later : StandsBefore rest (u, l) =
    of_fronts (StandsBefore rest) 0 u u i cut logs l (all_unordered (StandsBefore rest) (with_threads 0 (cut_logs cut logs)) h) (omega arith) before
    at-l in
    of_since (Stands (u, l)) 0 v v j cut logs m (all_unordered (Stands (u, l)) (with_threads 0 rest) later) (omega arith) within since at-m tied
