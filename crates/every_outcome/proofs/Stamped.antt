-- Entries that are taken one after the other are the order of legal logs: entry n gets the stamp n.
use Rattle.std.proofs.Common.{◌≡◌, ℕ, zero, suc, ◌+◌, ◌<◌, ◌≤◌, ◌==◌, Bool, true, false, List, [], ◌∷◌, ◌++◌, length}
use Rattle.std.proofs.Common.{replicate, refl, sym, subst, ◌∙◌, ap, arith, append_assoc, append-nil, Some}
use Rattle.std.specs.List.{AllByRecursion}
use Rattle.std.proofs.lemmas.Bool.Decides.{nat_tests}
use Rattle.std.proofs.lemmas.List.{length-set, length-replicate}
use Rattle.std.proofs.lemmas.Option.{slice_get_within}
use Rattle.plain_monitor.specs.declared.entry.Logged.{Logged}
use Rattle.plain_monitor.specs.Order.{is_before, insert_ordered, order, of_thread}
use Rattle.plain_monitor.specs.History.{RisesAbove, last_above, last_stamp, log_of, appended}
use Rattle.plain_monitor.proofs.Appending.{order_appended, rises_appended}
use Rattle.plain_monitor.proofs.Lists.{all_push, all_weaker, all_replicate}
use Rattle.plain_monitor.proofs.Merging.{empty_order}
use Rattle.plain_monitor.proofs.Threads.{thread_kept}
use Rattle.object_program.specs.Program.{ProgramText}
use Rattle.object_program.specs.Valid.{IsProgram}
use Rattle.plain_machine.specs.Machine.{PlainMachine, new_machine}
use Rattle.plain_machine.specs.Legal.{after_all, machine_after}
use Rattle.machine_laws.specs.Reached.{IsReached}
use Rattle.machine_laws.proofs.ReachedEntries.{progress}
use Rattle.machine_laws.proofs.ReachedFirst.{first_is_reached}
use Rattle.machine_laws.proofs.ReachedAsked.{taken}
use Rattle.every_outcome.specs.Led.{LeadsTo, IsAfterLogs}
use Rattle.every_outcome.proofs.Reduced.{first_of}

-- stamped from k on
abbrev pub stamped : ℕ → List (ℕ × Logged) → List (ℕ × Logged)
stamped k [] = []
stamped k (x ∷ xs) = (x.0, record { stamp = k; entry = x.1.entry }) ∷ stamped (k + 1) xs

-- all have smaller stamps
abbrev AllBelow : ℕ → List (ℕ × Logged) → Type 0
AllBelow k ys = AllByRecursion (λ y. y.1.stamp < k) ys

not_after : (x y : ℕ × Logged) → y.1.stamp < x.1.stamp → is_before x y ≡ false
not_after x y h = grind (arith, nat_tests)

insert_last : (x : ℕ × Logged) (ys : List (ℕ × Logged)) → AllBelow x.1.stamp ys → insert_ordered x ys ≡ ys ++ x ∷ []
insert_last x [] h = refl
insert_last x (y ∷ ys) h = rw (not_after x y h.0) (ap (λ (zs : List (ℕ × Logged)). y ∷ zs) (insert_last x ys h.1))

last_lower : (k t : ℕ) (ys : List (ℕ × Logged)) (n : ℕ) → AllBelow k ys → n < k → last_above n (of_thread t ys) < k
last_lower k t [] n h lt = lt
last_lower k t (y ∷ ys) n h lt = go (y.0 == t) refl (last_lower k t ys y.1.stamp h.1 h.0) (last_lower k t ys n h.1 lt)
  where
    go : (b : Bool) → (y.0 == t) ≡ b → last_above y.1.stamp (of_thread t ys) < k → last_above n (of_thread t ys) < k → last_above n (of_thread t (y ∷ ys)) < k
    go true e here skip = rw e here
    go false e here skip = rw e skip

abbrev pub logs_after : List (List Logged) → List (ℕ × Logged) → List (List Logged)
logs_after logs [] = logs
logs_after logs (x ∷ xs) = logs_after (appended logs x.0 x.1) xs

pub record AreLogsOf (threads : ℕ) (entries : List (ℕ × Logged)) (logs : List (List Logged)) : Type 0 where
  pub counted : length logs ≡ threads
  pub rises : AllByRecursion (RisesAbove 0) logs
  pub ordered : order logs ≡ entries

one_more : (n k : ℕ) (done : List (ℕ × Logged)) (logs : List (List Logged)) (x : ℕ × Logged) → AreLogsOf n done logs → x.0 < n → 1 ≤ k → x.1.stamp ≡ k
    → AllBelow k done
    → AreLogsOf n (done ++ x ∷ []) (appended logs x.0 x.1)
one_more n k done logs x a within some is below =
    let in_order : AllBelow k (order logs) = subst (AllBelow k) (sym a.ordered) below in
    let lower : last_above 0 (of_thread x.0 (order logs)) < k = last_lower k x.0 (order logs) 0 in_order (omega (arith, some)) in
    let last : last_stamp (log_of logs x.0) < x.1.stamp =
    subst (λ (j : ℕ). last_stamp (log_of logs x.0) < j) (sym is)
    (subst (λ (log : List Logged). last_above 0 log < k) (thread_kept logs x.0 a.rises) lower) in
    let there : x.0 < length logs = omega (arith, a.counted, within) in
    let lowest : AllBelow x.1.stamp (order logs) = subst (λ (j : ℕ). AllBelow j (order logs)) (sym is) in_order in
    record {
      counted = length-set logs x.0 (log_of logs x.0 ++ x.1 ∷ []) ∙ a.counted;
      rises = rises_appended logs x.0 x.1 a.rises there last;
      ordered = order_appended logs x.0 x.1 a.rises there last ∙ insert_last x (order logs) lowest ∙ ap (λ (ys : List (ℕ × Logged)). ys ++ x ∷ []) a.ordered;
    }

below_more : (k : ℕ) (done : List (ℕ × Logged)) (x : ℕ × Logged) → x.1.stamp ≡ k → AllBelow k done → AllBelow (k + 1) (done ++ x ∷ [])
below_more k done x is h =
    all_push (λ y. y.1.stamp < k + 1) done x (all_weaker (λ y. y.1.stamp < k) (λ y. y.1.stamp < k + 1) (λ y lt. omega (arith, lt)) done h) (omega (arith, is))

logs_from : (xs : List (ℕ × Logged)) (k : ℕ) (m n : PlainMachine) (count : ℕ) (done : List (ℕ × Logged)) (logs : List (List Logged)) → IsReached m
    → length m.threads ≡ count → after_all m xs ≡ Some n → 1 ≤ k
    → AreLogsOf count done logs → AllBelow k done → AreLogsOf count (done ++ stamped k xs) (logs_after logs (stamped k xs))
logs_from [] k m n count done logs r c h some a below = rw append-nil a
logs_from (x ∷ xs) k m n count done logs r c h some a below =
    let f = first_of m n x xs h in
    let t = taken m x.0 x.1.entry f.machine f.takes in
    let y : ℕ × Logged = (x.0, record { stamp = k; entry = x.1.entry }) in
    let more = one_more count k done logs y a (omega (arith, c, slice_get_within m.threads x.0 t.s t.at)) some refl below in
    let next = (progress m f.machine x.0 x.1.entry r f.takes).reached in
    let same : length f.machine.threads ≡ count = subst (λ (z : PlainMachine). length z.threads ≡ count) t.is (length-set m.threads x.0 _ ∙ c) in
    let rest =
    logs_from xs (k + 1) f.machine n count (done ++ y ∷ []) (appended logs y.0 y.1) next same f.rest (omega (arith, some)) more
    (below_more k done y refl below) in
    subst (λ (ys : List (ℕ × Logged)). AreLogsOf count ys (logs_after (appended logs y.0 y.1) (stamped (k + 1) xs)))
    (append_assoc done (y ∷ []) (stamped (k + 1) xs)) rest

stamped_taken : (xs : List (ℕ × Logged)) (k : ℕ) (m n : PlainMachine) → after_all m xs ≡ Some n → after_all m (stamped k xs) ≡ Some n
stamped_taken [] k m n h = h
stamped_taken (x ∷ xs) k m n h = let f = first_of m n x xs h in rw f.takes (stamped_taken xs (k + 1) f.machine n f.rest)

empty_logs : (n : ℕ) (t : ℕ) → log_of (replicate n []) t ≡ []
empty_logs zero t = refl
empty_logs (suc n) zero = refl
empty_logs (suc n) (suc t) = empty_logs n t

pub led_is_after_logs : (p : ProgramText) (fuel : ℕ) (n : PlainMachine) → IsProgram p → LeadsTo (new_machine p fuel) n → IsAfterLogs p fuel n
led_is_after_logs p fuel n valid led =
    let m = new_machine p fuel in
    let none : List (List Logged) = replicate (length m.threads) [] in
    let first : AreLogsOf (length m.threads) [] none = record {
      counted = length-replicate (length m.threads) [];
      rises = all_replicate (RisesAbove 0) (length m.threads) [] tt;
      ordered = empty_order none (empty_logs (length m.threads));
    } in
    let a = logs_from led.entries 1 m n (length m.threads) [] none (first_is_reached p fuel valid) refl led.taken (omega arith) first tt in
    let under : machine_after p fuel (logs_after none (stamped 1 led.entries)) ≡ Some n =
    ap (after_all m) a.ordered ∙ stamped_taken led.entries 1 m n led.taken in
    record {
      logs = logs_after none (stamped 1 led.entries);
      legal = record { rises = a.rises; taken = rw under refl };
      under = under;
    }
