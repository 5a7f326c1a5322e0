-- Draws of generators are what a check asks of hashes.
use Rattle.std.proofs.Common.{◌≡◌, inl, inr, ℕ, ◌+◌, ◌==◌, ◌&&◌, ◌||◌, not, cond, Bool, true, false, List, [], ◌∷◌}
use Rattle.std.proofs.Common.{◌++◌, map, count_by, Option, Some, None, refl, sym, ap, ◌∙◌, subst, arith, eq-eqb}
use Rattle.std.specs.List.{AllByRecursion}
use Rattle.std.proofs.lemmas.Bool.{cases_eq}
use Rattle.std.proofs.lemmas.List.Sums.{sum_by-append, sum_by-cons, sum_by_push}
use Rattle.lock_policy.specs.Draws.{nth_value}
use Rattle.plain_monitor.specs.declared.entry.Entry.{Entry}
use Rattle.plain_monitor.specs.declared.entry.Entry.TheVariants as entry
use Rattle.plain_monitor.specs.declared.entry.Logged.{Logged}
use Rattle.plain_monitor.specs.History.{RisesAbove, log_of}
use Rattle.plain_monitor.specs.Order.{insert_ordered, is_before, of_thread, order, ordered, with_threads}
use Rattle.plain_monitor.proofs.Threads.{other_thread, thread_kept}
use Rattle.plain_history.specs.EnterPaths.{has_hash, is_hash}
use Rattle.plain_machine.specs.Legal.{after_all}
use Rattle.plain_machine.specs.Machine.{PlainMachine}
use Rattle.core_world.specs.Clauses.Draws.{AreDraws, IsNextDraw, all_draws, draw_in, drawn_by, drawn_for, draws_for, first_draw}
use Rattle.core_law.specs.Draws.{HasDraws}
use Rattle.lock_journal.specs.Hashes.{all_same, are_right, draws_by, first_word, has_none, hash_fits, hash_in, hashes_of, is_draw, is_draw_of, is_right}
use Rattle.hash_laws.proofs.Placed.{IsPlaced, all_placed}
use Rattle.hash_laws.proofs.HashValues.{hash_entry, one_value}

-- COUNTS
-- draws of object o among these
abbrev pub drawn_of : ℕ → List (ℕ × Logged) → ℕ
drawn_of o xs = count_by (λ (x : ℕ × Logged). is_draw_of o x.1.entry) xs

abbrev one_of : ℕ → ℕ × Logged → ℕ
one_of o x = cond (is_draw_of o x.1.entry) 1 0

drawn_more : (o : ℕ) (x : ℕ × Logged) (xs : List (ℕ × Logged)) → drawn_of o (x ∷ xs) ≡ one_of o x + drawn_of o xs
drawn_more o x xs = sum_by-cons (one_of o) x xs

drawn_insert : (o : ℕ) (x : ℕ × Logged) (ys : List (ℕ × Logged)) → drawn_of o (insert_ordered x ys) ≡ one_of o x + drawn_of o ys
drawn_insert o x [] = drawn_more o x []
drawn_insert o x (y ∷ ys) = by_test (is_before x y) (drawn_insert o x ys)
  where
    by_test : (b : Bool) → drawn_of o (insert_ordered x ys) ≡ one_of o x + drawn_of o ys
        → drawn_of o (cond b (x ∷ y ∷ ys) (y ∷ insert_ordered x ys)) ≡ one_of o x + drawn_of o (y ∷ ys)
    by_test true ih = drawn_more o x (y ∷ ys)
    by_test false ih =
        let front = drawn_more o y (insert_ordered x ys) in
        let back = drawn_more o y ys in
        omega (arith, front, back, ih)

drawn_ordered : (o : ℕ) (xs : List (ℕ × Logged)) → drawn_of o (ordered xs) ≡ drawn_of o xs
drawn_ordered o [] = refl
drawn_ordered o (x ∷ xs) =
    let put = drawn_insert o x (ordered xs) in
    let back = drawn_more o x xs in
    let ih = drawn_ordered o xs in
    omega (arith, put, back, ih)

one_for : (o t : ℕ) (stamp : ℕ) (e : Entry) → one_of o (t, record { stamp = stamp; entry = e }) ≡ drawn_for o (draw_in e)
one_for o t stamp (entry.Hash object value (Some number)) = refl
one_for o t stamp (entry.Hash object value None) = refl
one_for o t stamp e = refl

drawn_log : (o t : ℕ) (log : List Logged) → drawn_of o (map (λ l. (t, l)) log) ≡ draws_for o log
drawn_log o t [] = refl
drawn_log o t (l ∷ log) =
    let front = drawn_more o (t, l) (map (λ k. (t, k)) log) in
    let one = one_for o t l.stamp l.entry in
    let ih = drawn_log o t log in
    omega (arith, front, one, ih)

drawn_logs : (o t : ℕ) (logs : List (List Logged)) → drawn_of o (with_threads t logs) ≡ all_draws o logs
drawn_logs o t [] = refl
drawn_logs o t (log ∷ logs) =
    let both = sum_by-append (one_of o) (map (λ l. (t, l)) log) (with_threads (t + 1) logs) in
    let own = drawn_log o t log in
    let ih = drawn_logs o (t + 1) logs in
    omega (arith, both, own, ih)

pub drawn_in_all : (o : ℕ) (logs : List (List Logged)) → drawn_of o (order logs) ≡ all_draws o logs
drawn_in_all o logs = drawn_ordered o (with_threads 0 logs) ∙ drawn_logs o 0 logs

-- HASHES
-- some thread has logged a hash of o
abbrev IsSeen : List (List Logged) → ℕ → Type 0
IsSeen logs o = (t : ℕ) × (has_hash o (log_of logs t) ≡ true)

or_true : (b : Bool) → (b || true) ≡ true
or_true true = refl
or_true false = refl

has_here : (o : ℕ) (before : List Logged) (l : Logged) (later : List Logged) → is_hash o l.entry ≡ true → has_hash o (before ++ l ∷ later) ≡ true
has_here o [] l later h = rw h refl
has_here o (b ∷ before) l later h = rw (has_here o before l later h) (or_true (is_hash o b.entry))

seen_of : (o : ℕ) (logs : List (List Logged)) (xs : List (ℕ × Logged)) → AllByRecursion (IsPlaced logs) xs → has_none (hashes_of o xs) ≡ false → IsSeen logs o
seen_of o logs [] placed h = absurd (cc h)
seen_of o logs (x ∷ xs) placed h = by_entry (hash_in o x.1.entry) refl (seen_of o logs xs placed.1)
  where
    at_entry : (v : ℕ) → hash_in o x.1.entry ≡ Some v → is_hash o x.1.entry ≡ true
    at_entry v is = let k = hash_entry o v x.1.entry is in ap (is_hash o) k.is ∙ eq-eqb o o refl

    by_entry : (a : Option ℕ) → hash_in o x.1.entry ≡ a → (has_none (hashes_of o xs) ≡ false → IsSeen logs o) → IsSeen logs o
    by_entry None is others = others (rw is at h)
    by_entry (Some v) is others =
        let p = placed.0 in
        (x.0, ap (has_hash o) p.log_is ∙ has_here o p.before x.1 p.later (at_entry v is))

-- DRAWS
-- the draws of thread t that are left are its generator's, after those that are done
abbrev pub AreLeft : ℕ → ℕ → List (ℕ × Logged) → List (ℕ × Logged) → Type 0
AreLeft start t done left = AreDraws (first_draw start t) (draws_by t done) (of_thread t left)

is_next_right : (start t n : ℕ) (e : Entry) → IsNextDraw (first_draw start t) n (draw_in e) → is_right start t n e ≡ true
is_next_right start t n (entry.Hash o value (Some number)) h =
    let same : (number == n + 1) ≡ true = eq-eqb number (n + 1) h.0 in
    let right : value ≡ nth_value (first_word start t) number = h.1 ∙ ap (nth_value (first_word start t)) (sym h.0) in
    rw (same, eq-eqb value (nth_value (first_word start t) number) right) refl
is_next_right start t n (entry.Hash o value None) h = refl
is_next_right start t n e h = refl

one_by : (e : Entry) → cond (is_draw e) 1 0 ≡ drawn_by (draw_in e)
one_by (entry.Hash o value (Some number)) = refl
one_by (entry.Hash o value None) = refl
one_by e = refl

pub done_own : (t : ℕ) (done : List (ℕ × Logged)) (x : ℕ × Logged) → x.0 ≡ t → draws_by t (done ++ x ∷ []) ≡ drawn_by (draw_in x.1.entry) + draws_by t done
done_own t done x is =
    let more = sum_by_push (λ (y : ℕ × Logged). cond ((y.0 == t) && is_draw y.1.entry) 1 0) done x in
    let own : ◌≡◌ {A = ℕ} (cond ((x.0 == t) && is_draw x.1.entry) 1 0) (cond (is_draw x.1.entry) 1 0) = rw (eq-eqb x.0 t is) refl in
    let one = one_by x.1.entry in
    omega (arith, more, own, one)

pub done_other : (t : ℕ) (done : List (ℕ × Logged)) (x : ℕ × Logged) → (x.0 ≡ t → ⊥) → draws_by t (done ++ x ∷ []) ≡ draws_by t done
done_other t done x other =
    let more = sum_by_push (λ (y : ℕ × Logged). cond ((y.0 == t) && is_draw y.1.entry) 1 0) done x in
    let none : ◌≡◌ {A = ℕ} (cond ((x.0 == t) && is_draw x.1.entry) 1 0) 0 = rw (other_thread x.0 t other) refl in
    omega (arith, more, none)

-- the thread's next entry is its next draw, where it is one, and what is left after it is left
pub own_left : (t : ℕ) (x : ℕ × Logged) (xs : List (ℕ × Logged)) → x.0 ≡ t → of_thread t (x ∷ xs) ≡ x.1 ∷ of_thread t xs
own_left t x xs is = rw (eq-eqb x.0 t is) refl

pub other_left : (t : ℕ) (x : ℕ × Logged) (xs : List (ℕ × Logged)) → (x.0 ≡ t → ⊥) → of_thread t (x ∷ xs) ≡ of_thread t xs
other_left t x xs other = rw (other_thread x.0 t other) refl

left_after : (start t : ℕ) (done : List (ℕ × Logged)) (x : ℕ × Logged) (xs : List (ℕ × Logged))
    → AreLeft start t done (x ∷ xs) → AreLeft start t (done ++ x ∷ []) xs
left_after start t done x xs h = elim (cases_eq x.0 t) [
  | inl is ↦
      let k : AreDraws (first_draw start t) (draws_by t done) (x.1 ∷ of_thread t xs) =
      subst (AreDraws (first_draw start t) (draws_by t done)) (own_left t x xs is) h in
      subst (λ n. AreDraws (first_draw start t) n (of_thread t xs)) (sym (done_own t done x is)) k.1
  | inr other ↦
      let k : AreDraws (first_draw start t) (draws_by t done) (of_thread t xs) =
      subst (AreDraws (first_draw start t) (draws_by t done)) (other_left t x xs other) h in
      subst (λ n. AreDraws (first_draw start t) n (of_thread t xs)) (sym (done_other t done x other)) k
]

either_and : (a b c : Bool) → b ≡ true → c ≡ true → ((a || b) && c) ≡ true
either_and true b c p q = q
either_and false b c p q = rw (p, q) refl

all_true : (a b c : Bool) → a ≡ true → b ≡ true → c ≡ true → (a && b && c) ≡ true
all_true a b c p q r = rw (p, q, r) refl

all_right : (start o : ℕ) (done left : List (ℕ × Logged)) → ((t : ℕ) → AreLeft start t done left) → are_right start o done left ≡ true
all_right start o done [] h = refl
all_right start o done (x ∷ xs) h =
    let k : AreDraws (first_draw start x.0) (draws_by x.0 done) (x.1 ∷ of_thread x.0 xs) =
    subst (AreDraws (first_draw start x.0) (draws_by x.0 done)) (own_left x.0 x xs refl) (h x.0) in
    let right = is_next_right start x.0 (draws_by x.0 done) x.1.entry k.0 in
    either_and (not (is_draw_of o x.1.entry)) (is_right start x.0 (draws_by x.0 done) x.1.entry) (are_right start o (done ++ x ∷ []) xs) right
    (all_right start o (done ++ x ∷ []) xs (λ t. left_after start t done x xs (h t)))

pub hashes_fit : (start : ℕ) (logs : List (List Logged)) (first last : PlainMachine)
    → AllByRecursion (RisesAbove 0) logs → after_all first (order logs) ≡ Some last
    → HasDraws start logs → (o : ℕ) → hash_fits start (order logs) o ≡ true
hashes_fit start logs first last rises under h o = by_test (has_none (hashes_of o (order logs))) refl
  where
    left : (t : ℕ) → AreLeft start t [] (order logs)
    left t = subst (AreDraws (first_draw start t) 0) (sym (thread_kept logs t rises)) (h.drawn t)

    by_test : (b : Bool) → has_none (hashes_of o (order logs)) ≡ b
        → (b || (all_same (hashes_of o (order logs)) && (drawn_of o (order logs) == 1) && are_right start o [] (order logs))) ≡ true
    by_test true is = refl
    by_test false is =
        let seen = seen_of o logs (order logs) (all_placed logs) is in
        let one = drawn_in_all o logs ∙ h.one o seen.0 seen.1 in
        all_true (all_same (hashes_of o (order logs))) (drawn_of o (order logs) == 1)
        (are_right start o [] (order logs)) (one_value first (order logs) last o under)
        (eq-eqb (drawn_of o (order logs)) 1 one) (all_right start o [] (order logs) left)
