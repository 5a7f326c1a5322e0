-- The least head of the logs is the first of their order.
use Rattle.std.proofs.Common.{◌≡◌, ℕ, zero, suc, ◌+◌, ◌<◌, ◌≢◌, true, List, [], ◌∷◌, map, add-zero, refl, ap, sym, subst, ◌∙◌, arith, inr, slice_set}
use Rattle.std.proofs.Math.Nat.{zero-add}
use Rattle.std.proofs.lemmas.Bool.Decides.{nat_tests}
use Rattle.std.specs.List.{AllByRecursion}
use Rattle.plain_monitor.specs.declared.entry.Logged.{Logged}
use Rattle.plain_monitor.specs.Order.{is_before, insert_ordered, ordered, with_threads, order}
use Rattle.plain_monitor.specs.History.{RisesAbove, log_of}
use Rattle.plain_monitor.proofs.Lists.{all_append}
use Rattle.plain_monitor.proofs.Orders.{DiffersFromAll, ordered_append, all_ordered, insert_front}

-- the entry stands before all of these
abbrev pub IsFirst : ℕ × Logged → List (ℕ × Logged) → Type 0
IsFirst x ys = AllByRecursion (λ y. is_before x y ≡ true) ys

-- what stands before all differs from all
first_differs : (x : ℕ × Logged) (ys : List (ℕ × Logged)) → IsFirst x ys → DiffersFromAll x ys
first_differs x [] a = tt
first_differs x (y ∷ ys) a = (inr a.0, first_differs x ys a.1)

-- the entry stands before the heads of the logs of other threads, where the first log is that of thread u
abbrev pub IsLeastHead : ℕ × Logged → ℕ → List (List Logged) → Type 0
IsLeastHead x u [] = Unit {0}
IsLeastHead x u ([] ∷ logs) = IsLeastHead x (u + 1) logs
IsLeastHead x u ((m ∷ log) ∷ logs) = ((u ≢ x.0) → is_before x (u, m) ≡ true) × IsLeastHead x (u + 1) logs

-- what stands before an entry stands before all that rises above it
before_rising : (x : ℕ × Logged) (u : ℕ) (m : Logged) (log : List Logged)
    → is_before x (u, m) ≡ true → RisesAbove m.stamp log → IsFirst x (map (λ k. (u, k)) log)
before_rising x u m [] h r = tt
before_rising x u m (k ∷ log) h r =
    let up = r.0 in let b : is_before x (u, k) ≡ true = grind (arith, nat_tests) in (b, before_rising x u k log b r.1)

-- an entry stands before what rises above it in its own log
before_own : (t : ℕ) (l : Logged) (log : List Logged) → RisesAbove l.stamp log → IsFirst (t, l) (map (λ k. (t, k)) log)
before_own t l [] r = tt
before_own t l (k ∷ log) r =
    let up = r.0 in let b : is_before (t, l) (t, k) ≡ true = grind (arith, nat_tests) in (b, before_rising (t, l) t k log b r.1)

-- the least head stands before all of the logs of later threads
before_later_logs : (x : ℕ × Logged) (u : ℕ) (logs : List (List Logged)) → x.0 < u
    → IsLeastHead x u logs → AllByRecursion (RisesAbove 0) logs → IsFirst x (with_threads u logs)
before_later_logs x u [] h a r = tt
before_later_logs x u ([] ∷ logs) h a r = before_later_logs x (u + 1) logs (omega arith) a r.1
before_later_logs x u ((m ∷ log) ∷ logs) h a r =
    let b = a.0 (λ e. omega arith) in
    all_append (λ y. is_before x y ≡ true) (map (λ k. (u, k)) (m ∷ log)) (with_threads (u + 1) logs)
    (b, before_rising x u m log b r.0.1) (before_later_logs x (u + 1) logs (omega arith) a.1 r.1)

-- the least head stands before all of the first log, where that is another thread's
before_other_log : (x : ℕ × Logged) (u : ℕ) (log : List Logged) (logs : List (List Logged))
    → (u ≢ x.0) → AllByRecursion (RisesAbove 0) (log ∷ logs) → IsLeastHead x u (log ∷ logs)
    → IsFirst x (map (λ k. (u, k)) log) × IsLeastHead x (u + 1) logs
before_other_log x u [] logs d r a = (tt, a)
before_other_log x u (m ∷ log) logs d r a = let b = a.0 d in ((b, before_rising x u m log b r.0.1), a.1)

-- x stands before all but itself, and goes into the order of the others, where log k without x is this rest
record IsNext (u k : ℕ) (logs : List (List Logged)) (x : ℕ × Logged) (rest : List Logged) : Type 0 where
  pub first : IsFirst x (with_threads u (slice_set logs k rest))
  pub is : ordered (with_threads u logs) ≡ insert_ordered x (ordered (with_threads u (slice_set logs k rest)))

-- the head of the first log is next, where it is the least
first_log_next : (t : ℕ) (l : Logged) (rest : List Logged) (logs : List (List Logged))
    → AllByRecursion (RisesAbove 0) ((l ∷ rest) ∷ logs) → IsLeastHead (t, l) t ((l ∷ rest) ∷ logs)
    → IsNext t 0 ((l ∷ rest) ∷ logs) (t, l) rest
first_log_next t l rest logs r a =
    record {
      first = all_append (λ y. is_before (t, l) y ≡ true) (map (λ k. (t, k)) rest) (with_threads (t + 1) logs)
          (before_own t l rest r.0.1) (before_later_logs (t, l) (t + 1) logs (omega arith) a.1 r.1);
      is = refl;
    }

-- the head of log k is next, where it is the least
log_next : (t u k : ℕ) (logs : List (List Logged)) (l : Logged) (rest : List Logged) → t ≡ u + k
    → log_of logs k ≡ l ∷ rest → AllByRecursion (RisesAbove 0) logs → IsLeastHead (t, l) u logs
    → IsNext u k logs (t, l) rest
log_next t u k [] l rest s e r a = absurd (cc e)
log_next t u zero (log ∷ logs) l rest s e r a =
    let same : t ≡ u = omega arith in
    let P : ℕ → List Logged → Type 0 = λ v g. AllByRecursion (RisesAbove 0) (g ∷ logs) → IsLeastHead (t, l) v (g ∷ logs) → IsNext v 0 (g ∷ logs) (t, l) rest in
    subst (λ v. P v log) same (subst (P t) (sym e) (first_log_next t l rest logs)) r a
log_next t u (suc k) (log ∷ logs) l rest s e r a =
    let b = before_other_log (t, l) u log logs (λ q. omega arith) r a in
    let ih = log_next t (u + 1) k logs l rest (omega arith) e r.1 b.1 in
    record {
      first = all_append (λ y. is_before (t, l) y ≡ true) (map (λ m. (u, m)) log) (with_threads (u + 1) (slice_set logs k rest)) b.0 ih.first;
      is = ordered_append (t, l) (map (λ m. (u, m)) log) (with_threads (u + 1) (slice_set logs k rest))
          (with_threads (u + 1) logs) (first_differs (t, l) (map (λ m. (u, m)) log) b.0) ih.is;
    }

-- an entry that stands before the head of each other thread's log is the least head
least_by_thread : (x : ℕ × Logged) (base : ℕ) (logs : List (List Logged))
    → ((u : ℕ) (m : Logged) (log : List Logged) → log_of logs u ≡ m ∷ log → base + u ≢ x.0 → is_before x (base + u, m) ≡ true) → IsLeastHead x base logs
least_by_thread x base [] f = tt
least_by_thread x base ([] ∷ logs) f =
    least_by_thread x (base + 1) logs (λ u m log e d. let k : base + suc u ≡ base + 1 + u = omega arith in
    ap (λ v. is_before x (v, m)) (sym k) ∙ f (suc u) m log e (λ q. d (sym k ∙ q)))
least_by_thread x base ((m ∷ log) ∷ logs) f = (
  (λ d. ap (λ v. is_before x (v, m)) (sym (add-zero base)) ∙ f 0 m log refl (λ q. d (sym (add-zero base) ∙ q))),
  least_by_thread x (base + 1) logs (λ u k rest e d. let s : base + suc u ≡ base + 1 + u = omega arith in
      ap (λ v. is_before x (v, k)) (sym s) ∙ f (suc u) k rest e (λ q. d (sym s ∙ q))),
)

-- the head that stands before the head of each other thread's log is the first of the order, and the order of the rest follows
pub least_head_first : (logs : List (List Logged)) (t : ℕ) (l : Logged) (rest : List Logged) → log_of logs t ≡ l ∷ rest → AllByRecursion (RisesAbove 0) logs
    → ((u : ℕ) (m : Logged) (log : List Logged) → log_of logs u ≡ m ∷ log → u ≢ t → is_before (t, l) (u, m) ≡ true)
    → order logs ≡ (t, l) ∷ order (slice_set logs t rest)
least_head_first logs t l rest e r f =
    let least = least_by_thread (t, l) 0 logs (λ u m log h d. ap (λ v. is_before (t, l) (v, m)) (zero-add u) ∙ f u m log h (λ q. d (zero-add u ∙ q))) in
    let n = log_next t 0 t logs l rest (sym (zero-add t)) e r least in
    n.is ∙ insert_front (t, l) (order (slice_set logs t rest)) (all_ordered (λ y. is_before (t, l) y ≡ true) (with_threads 0 (slice_set logs t rest)) n.first)

-- empty logs have no entries
empty_logs : (base : ℕ) (logs : List (List Logged)) → ((u : ℕ) → log_of logs u ≡ []) → with_threads base logs ≡ []
empty_logs base [] f = refl
empty_logs base (log ∷ logs) f = rw (f 0) (empty_logs (base + 1) logs (λ u. f (suc u)))

-- the order of empty logs is empty
pub empty_order : (logs : List (List Logged)) → ((u : ℕ) → log_of logs u ≡ []) → order logs ≡ []
empty_order logs f = ap ordered (empty_logs 0 logs f)
