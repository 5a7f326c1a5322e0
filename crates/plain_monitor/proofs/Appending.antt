-- The order of the logs where a thread logs one more entry.
use Rattle.std.proofs.Common.{◌≡◌, ℕ, zero, suc, ◌+◌, ◌<◌, ◌≤◌, false, List, [], ◌∷◌, ◌++◌, length, map, refl, ap, sym, ◌∙◌, arith, inl, slice_index_or}
use Rattle.std.proofs.Math.Nat.{add-zero, zero-add}
use Rattle.std.proofs.lemmas.Bool.Decides.{nat_tests}
use Rattle.std.specs.List.{AllByRecursion}
use Rattle.plain_monitor.specs.declared.entry.Logged.{Logged}
use Rattle.plain_monitor.specs.Order.{is_before, insert_ordered, ordered, with_threads, order}
use Rattle.plain_monitor.specs.History.{RisesAbove, last_above, last_stamp, log_of, appended}
use Rattle.plain_monitor.proofs.Lists.{all_set, all_append}
use Rattle.plain_monitor.proofs.Orders.{Differs, DiffersFromAll, ordered_append, all_ordered}

-- the last stamp is no less than what the stamps rise from
last_up : (n : ℕ) (log : List Logged) → RisesAbove n log → n ≤ last_above n log
last_up n [] r = omega arith
last_up n (m ∷ log) r = omega (arith, last_up m.stamp log r.1, r.0)

-- what is above the last stamp is above each
stamps_below : (n s : ℕ) (log : List Logged) → RisesAbove n log → last_above n log < s → AllByRecursion (λ m. m.stamp < s) log
stamps_below n s [] r h = tt
stamps_below n s (m ∷ log) r h = (omega (arith, last_up m.stamp log r.1), stamps_below m.stamp s log r.1 h)

-- a log still rises with an entry above its last
rises_more : (n : ℕ) (log : List Logged) (l : Logged) → RisesAbove n log → last_above n log < l.stamp → RisesAbove n (log ++ l ∷ [])
rises_more n [] l r h = (h, tt)
rises_more n (m ∷ log) l r h = (r.0, rises_more m.stamp log l r.1 h)

-- a fact of all lists of a list holds of each
all_within : {A : Type 0} (P : List A → Type 0) (xs : List (List A)) (i : ℕ) → i < length xs → AllByRecursion P xs → P (slice_index_or xs i [])
all_within P [] i h a = absurd (omega arith)
all_within P (x ∷ xs) zero h a = a.0
all_within P (x ∷ xs) (suc i) h a = all_within P xs i (omega arith) a.1

-- each of these has a smaller stamp than x
abbrev pub IsLast : ℕ × Logged → List (ℕ × Logged) → Type 0
IsLast x ys = AllByRecursion (λ y. y.1.stamp < x.1.stamp) ys

-- an entry with a larger stamp than all of these goes last
insert_last : (x : ℕ × Logged) (ys : List (ℕ × Logged)) → IsLast x ys → insert_ordered x ys ≡ ys ++ x ∷ []
insert_last x [] a = refl
insert_last x (y ∷ ys) a =
    let lower = a.0 in
    let after : is_before x y ≡ false = grind (arith, nat_tests) in
    rw after (ap (λ zs. y ∷ zs) (insert_last x ys a.1))

-- an entry above the entries of a log has a larger stamp than all of them
log_last : (t : ℕ) (x : ℕ × Logged) (log : List Logged) → AllByRecursion (λ m. m.stamp < x.1.stamp) log → IsLast x (map (λ m. (t, m)) log)
log_last t x [] a = tt
log_last t x (m ∷ log) a = (a.0, log_last t x log a.1)

-- an entry above the last stamp of each of these logs has a larger stamp than all their entries
all_last : (t : ℕ) (x : ℕ × Logged) (logs : List (List Logged)) → AllByRecursion (RisesAbove 0) logs → AllByRecursion (λ log. last_stamp log < x.1.stamp) logs
    → IsLast x (with_threads t logs)
all_last t x [] r a = tt
all_last t x (log ∷ logs) r a =
    all_append (λ y. y.1.stamp < x.1.stamp) (map (λ m. (t, m)) log) (with_threads (t + 1) logs)
    (log_last t x log (stamps_below 0 x.1.stamp log r.0 a.0)) (all_last (t + 1) x logs r.1 a.1)

-- an entry differs from those of an earlier thread
differs_by_thread : (t : ℕ) (x : ℕ × Logged) (log : List Logged) → t < x.0 → DiffersFromAll x (map (λ m. (t, m)) log)
differs_by_thread t x [] h = tt
differs_by_thread t x (m ∷ log) h = let d : Differs (t, m) x = grind (arith, nat_tests) in (d, differs_by_thread t x log h)

-- an entry differs from those with smaller stamps
differs_by_stamp : (x : ℕ × Logged) (ys : List (ℕ × Logged)) → IsLast x ys → DiffersFromAll x ys
differs_by_stamp x [] a = tt
differs_by_stamp x (y ∷ ys) a = let lower = a.0 in (inl (grind (arith, nat_tests)), differs_by_stamp x ys a.1)

-- an entry that is logged last stands between its thread's entries and those of later threads
map_end : (t : ℕ) (log : List Logged) (l : Logged) (ys : List (ℕ × Logged)) → map (λ m. (t, m)) (log ++ l ∷ []) ++ ys ≡ map (λ m. (t, m)) log ++ (t, l) ∷ ys
map_end t [] l ys = refl
map_end t (m ∷ log) l ys = ap (λ zs. (t, m) ∷ zs) (map_end t log l ys)

-- the order of the logs with one more entry is the order with it put in, where the first log is that of thread t
order_appended_from : (t : ℕ) (logs : List (List Logged)) (k : ℕ) (l : Logged)
    → AllByRecursion (RisesAbove 0) logs → k < length logs → last_stamp (log_of logs k) < l.stamp
    → ordered (with_threads t (appended logs k l)) ≡ insert_ordered (t + k, l) (ordered (with_threads t logs))
order_appended_from t [] k l r h s = absurd (omega arith)
order_appended_from t (log ∷ logs) zero l r h s =
    ap ordered (map_end t log l (with_threads (t + 1) logs))
    ∙ ordered_append (t, l) (map (λ m. (t, m)) log) (with_threads (t + 1) logs) ((t, l) ∷ with_threads (t + 1) logs)
    (differs_by_stamp (t, l) (map (λ m. (t, m)) log) (log_last t (t, l) log (stamps_below 0 l.stamp log r.0 s))) refl
    ∙ ap (λ u. insert_ordered (u, l) (ordered (with_threads t (log ∷ logs)))) (sym (add-zero t))
order_appended_from t (log ∷ logs) (suc k) l r h s =
    let e : (t + 1) + k ≡ t + suc k = omega arith in
    ordered_append (t + suc k, l) (map (λ m. (t, m)) log) (with_threads (t + 1) logs) (with_threads (t + 1) (appended logs k l))
    (differs_by_thread t (t + suc k, l) log (omega arith))
    (order_appended_from (t + 1) logs k l r.1 (omega arith) s ∙ ap (λ u. insert_ordered (u, l) (ordered (with_threads (t + 1) logs))) e)

-- the order of the logs with one more entry of a thread, above its last, is the order with it put in
pub order_appended : (logs : List (List Logged)) (t : ℕ) (l : Logged)
    → AllByRecursion (RisesAbove 0) logs → t < length logs → last_stamp (log_of logs t) < l.stamp
    → order (appended logs t l) ≡ insert_ordered (t, l) (order logs)
order_appended logs t l r h s = order_appended_from 0 logs t l r h s ∙ ap (λ u. insert_ordered (u, l) (order logs)) (zero-add t)

-- the stamps of the logs still rise with one more entry of a thread, above its last
pub rises_appended : (logs : List (List Logged)) (t : ℕ) (l : Logged)
    → AllByRecursion (RisesAbove 0) logs → t < length logs → last_stamp (log_of logs t) < l.stamp
    → AllByRecursion (RisesAbove 0) (appended logs t l)
rises_appended logs t l r h s =
    all_set (RisesAbove 0) logs t (log_of logs t ++ l ∷ []) (rises_more 0 (log_of logs t) l (all_within (RisesAbove 0) logs t h r) s) r

-- an entry above all others comes last in the order
pub comes_last : (logs : List (List Logged)) (t : ℕ) (l : Logged) → AllByRecursion (RisesAbove 0) logs → t < length logs
    → AllByRecursion (λ log. last_stamp log < l.stamp) logs → order (appended logs t l) ≡ order logs ++ (t, l) ∷ []
comes_last logs t l r h a =
    order_appended logs t l r h (all_within (λ log. last_stamp log < l.stamp) logs t h a)
    ∙ insert_last (t, l) (order logs) (all_ordered (λ y. y.1.stamp < l.stamp) (with_threads 0 logs) (all_last 0 (t, l) logs r a))

-- the stamps of the logs still rise with an entry above all others
pub rises_on : (logs : List (List Logged)) (t : ℕ) (l : Logged) → AllByRecursion (RisesAbove 0) logs → t < length logs
    → AllByRecursion (λ log. last_stamp log < l.stamp) logs → AllByRecursion (RisesAbove 0) (appended logs t l)
rises_on logs t l r h a = rises_appended logs t l r h (all_within (λ log. last_stamp log < l.stamp) logs t h a)

-- the last stamp of a log is that of its last entry
pub last_more : (n : ℕ) (log : List Logged) (l : Logged) → last_above n (log ++ l ∷ []) ≡ l.stamp
last_more n [] l = refl
last_more n (m ∷ log) l = last_more m.stamp log l
