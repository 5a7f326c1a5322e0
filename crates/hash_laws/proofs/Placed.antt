-- Each entry of the order stands in its thread's log.
use Rattle.std.proofs.Common.{◌≡◌, ℕ, suc, ◌+◌, ◌≤◌, ◌==◌, cond, Bool, true, false, List, [], ◌∷◌, ◌++◌, length, map, sym, ap, ◌∙◌, subst, arith, append_assoc}
use Rattle.std.specs.List.{AllByRecursion}
use Rattle.plain_monitor.specs.declared.entry.Logged.{Logged}
use Rattle.plain_monitor.specs.Order.{with_threads, order, of_thread}
use Rattle.plain_monitor.specs.History.{RisesAbove, log_of}
use Rattle.plain_monitor.proofs.Lists.{all_append}
use Rattle.plain_monitor.proofs.Orders.{all_ordered}
use Rattle.plain_monitor.proofs.Threads.{thread_kept}

-- what stands before the entry and after it in its thread's log
pub record IsPlaced (logs : List (List Logged)) (x : ℕ × Logged) : Type 0 where
  pub before : List Logged
  pub later : List Logged
  pub log_is : log_of logs x.0 ≡ before ++ x.1 ∷ later

log_placed : (logs : List (List Logged)) (t : ℕ) (front log : List Logged) → log_of logs t ≡ front ++ log
    → AllByRecursion (IsPlaced logs) (map (λ l. (t, l)) log)
log_placed logs t front [] e = tt
log_placed logs t front (l ∷ log) e =
    (record { before = front; later = log; log_is = e }, log_placed logs t (front ++ l ∷ []) log (e ∙ sym (append_assoc front (l ∷ []) log)))

logs_placed : (all : List (List Logged)) (t : ℕ) (logs : List (List Logged)) → ((k : ℕ) → log_of all (t + k) ≡ log_of logs k)
    → AllByRecursion (IsPlaced all) (with_threads t logs)
logs_placed all t [] same = tt
logs_placed all t (log ∷ logs) same =
    let here : t + 0 ≡ t = omega arith in
    all_append (IsPlaced all) (map (λ l. (t, l)) log) (with_threads (t + 1) logs)
    (log_placed all t [] log (ap (log_of all) (sym here) ∙ same 0))
    (logs_placed all (t + 1) logs (λ k. let next : (t + 1) + k ≡ t + suc k = omega arith in ap (log_of all) next ∙ same (suc k)))

pub all_placed : (logs : List (List Logged)) → AllByRecursion (IsPlaced logs) (order logs)
all_placed logs =
    all_ordered (IsPlaced logs) (with_threads 0 logs)
    (logs_placed logs 0 logs (λ k. let same : 0 + k ≡ k = omega arith in ap (log_of logs) same))

-- a thread has no more entries than there are
own_few : (t : ℕ) (xs : List (ℕ × Logged)) → length (of_thread t xs) ≤ length xs
own_few t [] = omega arith
own_few t (x ∷ xs) = by_test (x.0 == t) (own_few t xs)
  where
    by_test : (b : Bool) → length (of_thread t xs) ≤ length xs → length (cond b (x.1 ∷ of_thread t xs) (of_thread t xs)) ≤ length (x ∷ xs)
    by_test true others = omega (arith, others)
    by_test false others = omega (arith, others)

pub log_within : (logs : List (List Logged)) (t : ℕ) → AllByRecursion (RisesAbove 0) logs → length (log_of logs t) ≤ length (order logs)
log_within logs t rises =
    subst (λ (log : List Logged). length log ≤ length (order logs)) (thread_kept logs t rises) (own_few t (order logs))
