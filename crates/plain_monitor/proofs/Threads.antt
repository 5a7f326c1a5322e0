-- The order has each thread's entries as its log has them.
use Rattle.std.proofs.Common.{◌≡◌, ℕ, zero, suc, ◌+◌, ◌<◌, ◌≤◌, ◌≢◌, Bool, true, false, ◌==◌, List, [], ◌∷◌, ◌++◌, map, refl, ap, sym, ◌∙◌, arith}
use Rattle.std.proofs.Math.Nat.{zero-add, add-zero}
use Rattle.std.proofs.lemmas.Bool.Decides.{nat_tests}
use Rattle.std.specs.List.{AllByRecursion}
use Rattle.plain_monitor.specs.declared.entry.Logged.{Logged}
use Rattle.plain_monitor.specs.Order.{is_before, insert_ordered, ordered, with_threads, order, of_thread}
use Rattle.plain_monitor.specs.History.{RisesAbove, log_of}

-- the test of two threads that differ
pub other_thread : (u t : ℕ) → u ≢ t → (u == t) ≡ false
other_thread u t h = grind (arith, nat_tests, h)

-- the test of a thread against itself
pub same_thread : (t : ℕ) → (t == t) ≡ true
same_thread t = grind (arith, nat_tests)

-- another thread's entry adds nothing, by the tests against the head
skipped_at_head : (t : ℕ) (x y : ℕ × Logged) (ys : List (ℕ × Logged)) (b c : Bool) → is_before x y ≡ b → (y.0 == t) ≡ c → x.0 ≢ t
    → of_thread t (insert_ordered x ys) ≡ of_thread t ys → of_thread t (insert_ordered x (y ∷ ys)) ≡ of_thread t (y ∷ ys)
skipped_at_head t x y ys true c h k d ih = rw (h, other_thread x.0 t d) refl
skipped_at_head t x y ys false true h k d ih = rw (h, k) (ap (λ zs. y.1 ∷ zs) ih)
skipped_at_head t x y ys false false h k d ih = rw (h, k) ih

-- another thread's entry adds nothing
skipped : (t : ℕ) (x : ℕ × Logged) (ys : List (ℕ × Logged)) → x.0 ≢ t → of_thread t (insert_ordered x ys) ≡ of_thread t ys
skipped t x [] d = rw (other_thread x.0 t d) refl
skipped t x (y ∷ ys) d = skipped_at_head t x y ys (is_before x y) (y.0 == t) refl refl d (skipped t x ys d)

-- the thread's own entry goes before its others, where its stamp is below theirs, by the tests against the head
fronted_at_head : (t : ℕ) (l : Logged) (y : ℕ × Logged) (ys : List (ℕ × Logged)) (b c : Bool) → is_before (t, l) y ≡ b → (y.0 == t) ≡ c
    → AllByRecursion (λ m. l.stamp < m.stamp) (of_thread t (y ∷ ys))
    → (AllByRecursion (λ m. l.stamp < m.stamp) (of_thread t ys) → of_thread t (insert_ordered (t, l) ys) ≡ l ∷ of_thread t ys)
    → of_thread t (insert_ordered (t, l) (y ∷ ys)) ≡ l ∷ of_thread t (y ∷ ys)
fronted_at_head t l y ys true c h k a ih = rw (h, same_thread t) refl
fronted_at_head t l y ys false true h k a ih =
    let below = rw k at a in absurd (grind (arith, nat_tests, below.0, h))
fronted_at_head t l y ys false false h k a ih = rw (h, k) (ih (rw k at a))

-- the thread's own entry goes before its others, where its stamp is below theirs
fronted : (t : ℕ) (l : Logged) (ys : List (ℕ × Logged)) → AllByRecursion (λ m. l.stamp < m.stamp) (of_thread t ys)
    → of_thread t (insert_ordered (t, l) ys) ≡ l ∷ of_thread t ys
fronted t l [] a = rw (same_thread t) refl
fronted t l (y ∷ ys) a = fronted_at_head t l y ys (is_before (t, l) y) (y.0 == t) refl refl a (fronted t l ys)

-- another thread's log adds nothing
log_skipped : (t u : ℕ) (log : List Logged) (rest : List (ℕ × Logged)) → u ≢ t
    → of_thread t (ordered (map (λ m. (u, m)) log ++ rest)) ≡ of_thread t (ordered rest)
log_skipped t u [] rest d = refl
log_skipped t u (m ∷ log) rest d = skipped t (u, m) (ordered (map (λ k. (u, k)) log ++ rest)) d ∙ log_skipped t u log rest d

-- a log that rises above a stamp is all above what is no larger
all_above : (n s : ℕ) (log : List Logged) → n ≤ s → RisesAbove s log → AllByRecursion (λ m. n < m.stamp) log
all_above n s [] h r = tt
all_above n s (m ∷ log) h r = let k = r.0 in (omega arith, all_above n m.stamp log (omega arith) r.1)

-- the thread's own log is kept, where nothing else is the thread's
log_kept : (t n : ℕ) (log : List Logged) (rest : List (ℕ × Logged)) → RisesAbove n log
    → of_thread t (ordered rest) ≡ [] → of_thread t (ordered (map (λ m. (t, m)) log ++ rest)) ≡ log
log_kept t n [] rest r e = e
log_kept t n (m ∷ log) rest r e =
    let ih = log_kept t m.stamp log rest r.1 e in
    let a = all_above m.stamp m.stamp log (omega arith) r.1 in
    fronted t m (ordered (map (λ k. (t, k)) log ++ rest)) (rw ih a) ∙ ap (λ ms. m ∷ ms) ih

-- the logs of later threads have nothing of the thread
none_later : (t u : ℕ) (logs : List (List Logged)) → t < u → of_thread t (ordered (with_threads u logs)) ≡ []
none_later t u [] h = refl
none_later t u (log ∷ logs) h = log_skipped t u log (with_threads (u + 1) logs) (λ e. omega arith) ∙ none_later t (u + 1) logs (omega arith)

-- the k-th log is kept, where the first log is that of thread u
log_kept_from : (u k : ℕ) (logs : List (List Logged)) → AllByRecursion (RisesAbove 0) logs → of_thread (u + k) (ordered (with_threads u logs)) ≡ log_of logs k
log_kept_from u k [] r = refl
log_kept_from u zero (log ∷ logs) r =
    rw add-zero (log_kept u 0 log (with_threads (u + 1) logs) r.0 (none_later u (u + 1) logs (omega arith)))
log_kept_from u (suc k) (log ∷ logs) r =
    let e : u + suc k ≡ (u + 1) + k = omega arith in
    log_skipped (u + suc k) u log (with_threads (u + 1) logs) (λ s. omega arith)
    ∙ ap (λ t. of_thread t (ordered (with_threads (u + 1) logs))) e ∙ log_kept_from (u + 1) k logs r.1

-- each thread's log is kept
pub thread_kept : (logs : List (List Logged)) (t : ℕ) → AllByRecursion (RisesAbove 0) logs → of_thread t (order logs) ≡ log_of logs t
thread_kept logs t r = ap (λ u. of_thread u (order logs)) (sym (zero-add t)) ∙ log_kept_from 0 t logs r
