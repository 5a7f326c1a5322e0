-- The order of logs, parted by a cut: the entries before it are the order of the fronts, and those after it the order of the rest.
use Rattle.std.proofs.Common.{◌≡◌, ℕ, zero, suc, ◌+◌, ◌≤◌, Bool, true, false, not, nat_le, if◌then◌else◌}
use Rattle.std.proofs.Common.{List, [], ◌∷◌, ◌++◌, length, map, take, drop, refl, ap, sym, ◌∙◌, arith}
use Rattle.std.proofs.lemmas.Bool.Decides.{nat_tests}
use Rattle.std.proofs.lemmas.List.{drop_all, take_all}
use Rattle.std.specs.List.{AllByRecursion}
use Rattle.plain_monitor.specs.declared.entry.Logged.{Logged}
use Rattle.plain_monitor.specs.Order.{is_before, insert_ordered, ordered, with_threads, order}
use Rattle.plain_monitor.specs.History.{RisesAbove, last_above, last_stamp, log_of}
use Rattle.plain_monitor.proofs.Orders.{insert_front}
use Rattle.plain_history.specs.Cuts.{cut_logs, logs_since}
use Rattle.plain_monitor.proofs.Ordering.{IsOrdered, NoneBefore, ordered_is_ordered}

-- those that pass the test
abbrev pub selected : {A : Type 0} → (A → Bool) → List A → List A
selected p [] = []
selected p (x ∷ xs) = if p x then x ∷ selected p xs else selected p xs

abbrev pub Passes : {A : Type 0} → (A → Bool) → Bool → List A → Type 0
Passes p b xs = AllByRecursion (λ x. p x ≡ b) xs

pub all_selected : {A : Type 0} (P : A → Type 0) (p : A → Bool) (xs : List A) → AllByRecursion P xs
    → AllByRecursion (λ x. P x × (p x ≡ true)) (selected p xs)
all_selected P p [] a = tt
all_selected P p (x ∷ xs) a = by_test (p x) refl (all_selected P p xs a.1)
  where
    by_test : (b : Bool) → p x ≡ b → AllByRecursion (λ y. P y × (p y ≡ true)) (selected p xs)
        → AllByRecursion (λ y. P y × (p y ≡ true)) (selected p (x ∷ xs))
    by_test true e ih = rw e ((a.0, e), ih)
    by_test false e ih = rw e ih

pub select_append : {A : Type 0} (p : A → Bool) (xs ys : List A) → selected p (xs ++ ys) ≡ selected p xs ++ selected p ys
select_append p [] ys = refl
select_append p (x ∷ xs) ys = by_test (p x) refl (select_append p xs ys)
  where
    by_test : (b : Bool) → p x ≡ b → selected p (xs ++ ys) ≡ selected p xs ++ selected p ys
        → selected p (x ∷ xs ++ ys) ≡ selected p (x ∷ xs) ++ selected p ys
    by_test true e ih = rw e (ap (λ zs. x ∷ zs) ih)
    by_test false e ih = rw e ih

select_all : {A : Type 0} (p : A → Bool) (xs : List A) → Passes p true xs → selected p xs ≡ xs
select_all p [] a = refl
select_all p (x ∷ xs) a = rw (a.0) (ap (λ ys. x ∷ ys) (select_all p xs a.1))

select_none : {A : Type 0} (p : A → Bool) (xs : List A) → Passes p false xs → selected p xs ≡ []
select_none p [] a = refl
select_none p (x ∷ xs) a = rw (a.0) (select_none p xs a.1)

-- THE ORDER. What stands before y stands before all that y stands before.
before_all : (x y z : ℕ × Logged) → is_before x y ≡ true → is_before z y ≡ false → is_before x z ≡ true
before_all x y z h k = grind (arith, nat_tests)

selected_before : (p : ℕ × Logged → Bool) (x y : ℕ × Logged) (ys : List (ℕ × Logged)) → is_before x y ≡ true → NoneBefore y ys
    → AllByRecursion (λ z. is_before x z ≡ true) (selected p ys)
selected_before p x y [] h a = tt
selected_before p x y (z ∷ ys) h a = by_test (p z) refl (selected_before p x y ys h a.1)
  where
    by_test : (b : Bool) → p z ≡ b → AllByRecursion (λ w. is_before x w ≡ true) (selected p ys)
        → AllByRecursion (λ w. is_before x w ≡ true) (selected p (z ∷ ys))
    by_test true e ih = rw e (before_all x y z h a.0, ih)
    by_test false e ih = rw e ih

-- an entry that passes is put among those that pass, by the tests of the head
put_at_head : (p : ℕ × Logged → Bool) (x y : ℕ × Logged) (ys : List (ℕ × Logged)) (b c : Bool) → is_before x y ≡ b → p y ≡ c → p x ≡ true
    → NoneBefore y ys
    → selected p (insert_ordered x ys) ≡ insert_ordered x (selected p ys)
    → selected p (insert_ordered x (y ∷ ys)) ≡ insert_ordered x (selected p (y ∷ ys))
put_at_head p x y ys true true h k g a ih = rw (h, g, k, h) refl
put_at_head p x y ys true false h k g a ih = rw (h, g, k) (sym (insert_front x (selected p ys) (selected_before p x y ys h a)))
put_at_head p x y ys false true h k g a ih = rw (h, k, h) (ap (λ zs. y ∷ zs) ih)
put_at_head p x y ys false false h k g a ih = rw (h, k) ih

put_selected : (p : ℕ × Logged → Bool) (x : ℕ × Logged) (ys : List (ℕ × Logged)) → p x ≡ true → IsOrdered ys
    → selected p (insert_ordered x ys) ≡ insert_ordered x (selected p ys)
put_selected p x [] g a = rw g refl
put_selected p x (y ∷ ys) g a = put_at_head p x y ys (is_before x y) (p y) refl refl g a.0 (put_selected p x ys g a.1)

-- one that doesn't pass is put nowhere among them
pass_at_head : (p : ℕ × Logged → Bool) (x y : ℕ × Logged) (ys : List (ℕ × Logged)) (b c : Bool) → is_before x y ≡ b → p y ≡ c → p x ≡ false
    → selected p (insert_ordered x ys) ≡ selected p ys → selected p (insert_ordered x (y ∷ ys)) ≡ selected p (y ∷ ys)
pass_at_head p x y ys true c h k g ih = rw (h, g) refl
pass_at_head p x y ys false true h k g ih = rw (h, k) (ap (λ zs. y ∷ zs) ih)
pass_at_head p x y ys false false h k g ih = rw (h, k) ih

put_unselected : (p : ℕ × Logged → Bool) (x : ℕ × Logged) (ys : List (ℕ × Logged)) → p x ≡ false → selected p (insert_ordered x ys) ≡ selected p ys
put_unselected p x [] g = rw g refl
put_unselected p x (y ∷ ys) g = pass_at_head p x y ys (is_before x y) (p y) refl refl g (put_unselected p x ys g)

-- the entries of an order that pass are the order of those that do
select_ordered : (p : ℕ × Logged → Bool) (xs : List (ℕ × Logged)) → selected p (ordered xs) ≡ ordered (selected p xs)
select_ordered p [] = refl
select_ordered p (x ∷ xs) = by_test (p x) refl (select_ordered p xs)
  where
    by_test : (b : Bool) → p x ≡ b → selected p (ordered xs) ≡ ordered (selected p xs)
        → selected p (insert_ordered x (ordered xs)) ≡ ordered (selected p (x ∷ xs))
    by_test true e ih = rw e (put_selected p x (ordered xs) e (ordered_is_ordered xs) ∙ ap (insert_ordered x) ih)
    by_test false e ih = rw e (put_unselected p x (ordered xs) e ∙ ih)

-- THE CUT, as a test: the entry's stamp is at most the last one of its thread before the cut
abbrev pub is_within : (ℕ → ℕ) → ℕ × Logged → Bool
is_within last x = nat_le x.1.stamp (last x.0)

abbrev pub is_since : (ℕ → ℕ) → ℕ × Logged → Bool
is_since last x = not (is_within last x)

-- what rises above the last is not within
above_within : (last : ℕ → ℕ) (t n : ℕ) (log : List Logged) → last t ≤ n → RisesAbove n log
    → Passes (is_within last) false (map (λ l. (t, l)) log) × Passes (is_since last) true (map (λ l. (t, l)) log)
above_within last t n [] h r = (tt, tt)
above_within last t n (l ∷ log) h r =
    let up = r.0 in
    let out : nat_le l.stamp (last t) ≡ false = grind (arith, nat_tests) in
    let rest = above_within last t l.stamp log (omega (arith, h, up)) r.1 in
    ((out, rest.0), (ap not out, rest.1))

-- the last stamp of a front is no less than what the log rises from
last_up : (above n : ℕ) (log : List Logged) → RisesAbove above log → above ≤ last_above above (take n log)
last_up above zero log r = omega arith
last_up above (suc n) [] r = omega arith
last_up above (suc n) (l ∷ log) r = omega (arith, last_up l.stamp n log r.1, r.0)

-- a log, parted where its front ends
record Parted (last : ℕ → ℕ) (t n : ℕ) (log : List Logged) : Type 0 where
  pub within : selected (is_within last) (map (λ l. (t, l)) log) ≡ map (λ l. (t, l)) (take n log)
  pub since : selected (is_since last) (map (λ l. (t, l)) log) ≡ map (λ l. (t, l)) (drop n log)

part_log : (last : ℕ → ℕ) (t above n : ℕ) (log : List Logged) → last t ≡ last_above above (take n log) → RisesAbove above log → Parted last t n log
part_log last t above zero log e r =
    let a = above_within last t above log (omega (arith, e)) r in
    record { within = select_none (is_within last) (map (λ l. (t, l)) log) a.0; since = select_all (is_since last) (map (λ l. (t, l)) log) a.1 }
part_log last t above (suc n) [] e r = record { within = refl; since = refl }
part_log last t above (suc n) (l ∷ log) e r =
    let rest = part_log last t l.stamp n log e r.1 in
    let up = last_up l.stamp n log r.1 in
    let here : nat_le l.stamp (last t) ≡ true = grind (arith, nat_tests, e, up) in
    record { within = rw here (ap (λ xs. (t, l) ∷ xs) rest.within); since = rw here rest.since }

-- all logs, where the first is that of thread t
record PartedFrom (last : ℕ → ℕ) (t : ℕ) (cut : List ℕ) (logs : List (List Logged)) : Type 0 where
  pub within : selected (is_within last) (with_threads t logs) ≡ with_threads t (cut_logs cut logs)
  pub since : selected (is_since last) (with_threads t logs) ≡ with_threads t (logs_since cut logs)

part_first : (last : ℕ → ℕ) (t n : ℕ) (cut : List ℕ) (log : List Logged) (logs : List (List Logged)) → Parted last t n log
    → PartedFrom last (t + 1) cut logs → PartedFrom last t (n ∷ cut) (log ∷ logs)
part_first last t n cut log logs a b =
    let own : List (ℕ × Logged) = map (λ l. (t, l)) log in
    let others : List (ℕ × Logged) = with_threads (t + 1) logs in
    record {
      within = select_append (is_within last) own others ∙ ap (λ xs. xs ++ selected (is_within last) others) a.within
          ∙ ap (λ xs. map (λ l. (t, l)) (take n log) ++ xs) b.within;
      since = select_append (is_since last) own others ∙ ap (λ xs. xs ++ selected (is_since last) others) a.since
          ∙ ap (λ xs. map (λ l. (t, l)) (drop n log) ++ xs) b.since;
    }

-- without a cut all is within
part_whole : (last : ℕ → ℕ) (t : ℕ) (logs : List (List Logged)) → ((k u : ℕ) → u ≡ t + k → last u ≡ last_stamp (log_of logs k))
    → AllByRecursion (RisesAbove 0) logs → PartedFrom last t [] logs
part_whole last t [] e r = record { within = refl; since = refl }
part_whole last t (log ∷ logs) e r =
    let whole : take (length log) log ≡ log = take_all (length log) log (omega arith) in
    let nothing : drop (length log) log ≡ [] = drop_all (length log) log (omega arith) in
    let a = part_log last t 0 (length log) log (e 0 t (omega arith) ∙ ap last_stamp (sym whole)) r.0 in
    let b = part_whole last (t + 1) logs (λ k u s. e (suc k) u (omega (arith, s))) r.1 in
    let c = part_first last t (length log) [] log logs a b in
    record {
      within = c.within ∙ ap (λ xs. map (λ l. (t, l)) xs ++ with_threads (t + 1) logs) whole;
      since = c.since ∙ ap (λ xs. map (λ l. (t, l)) xs ++ []) nothing;
    }

part_all : (last : ℕ → ℕ) (t : ℕ) (cut : List ℕ) (logs : List (List Logged))
    → ((k u : ℕ) → u ≡ t + k → last u ≡ last_stamp (log_of (cut_logs cut logs) k)) → AllByRecursion (RisesAbove 0) logs
    → PartedFrom last t cut logs
part_all last t [] logs e r = part_whole last t logs e r
part_all last t (n ∷ ns) [] e r = record { within = refl; since = refl }
part_all last t (n ∷ ns) (log ∷ logs) e r =
    part_first last t n ns log logs (part_log last t 0 n log (e 0 t (omega arith)) r.0)
    (part_all last (t + 1) ns logs (λ k u s. e (suc k) u (omega (arith, s))) r.1)

-- the last stamp of each thread before the cut
abbrev pub last_before : List ℕ → List (List Logged) → ℕ → ℕ
last_before cut logs t = last_stamp (log_of (cut_logs cut logs) t)

module _ (cut : List ℕ) (logs : List (List Logged)) (rises : AllByRecursion (RisesAbove 0) logs) where
  parts : PartedFrom (last_before cut logs) 0 cut logs
  parts = part_all (last_before cut logs) 0 cut logs (λ k u e. let same : u ≡ k = omega (arith, e) in ap (last_before cut logs) same) rises

  pub within_cut : selected (is_within (last_before cut logs)) (order logs) ≡ order (cut_logs cut logs)
  within_cut = select_ordered (is_within (last_before cut logs)) (with_threads 0 logs) ∙ ap ordered parts.within

  pub since_cut : selected (is_since (last_before cut logs)) (order logs) ≡ order (logs_since cut logs)
  since_cut = select_ordered (is_since (last_before cut logs)) (with_threads 0 logs) ∙ ap ordered parts.since

-- of one thread's entries, those before the cut stand before those after it
pub own_stand : (last : ℕ → ℕ) (x y : ℕ × Logged) → x.0 ≡ y.0 → is_within last x ≡ true → is_since last y ≡ true → is_before x y ≡ true
own_stand last x y e h k = by_within (is_within last y) refl
  where
    by_within : (b : Bool) → is_within last y ≡ b → is_before x y ≡ true
    by_within true g = absurd (cc (ap not g, k))
    by_within false g = let same = ap last e in grind (arith, nat_tests, same, h, g)
