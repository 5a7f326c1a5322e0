-- A run's entries split into legal logs.
use Rattle.std.proofs.Common.{◌≡◌, ℕ, zero, suc, ◌<◌, ◌≤◌, ◌==◌, Bool, true, false, List, [], ◌∷◌, ◌++◌, length, replicate}
use Rattle.std.proofs.Common.{refl, sym, subst, ◌∙◌, ap, arith, append_assoc, append-nil, Option, Some, None}
use Rattle.std.specs.List.{AllByRecursion}
use Rattle.std.proofs.lemmas.Bool.Decides.{nat_tests}
use Rattle.std.proofs.lemmas.List.{length-set, length-replicate}
use Rattle.plain_monitor.specs.declared.entry.Logged.{Logged}
use Rattle.plain_monitor.specs.Order.{is_before, insert_ordered, order, of_thread}
use Rattle.plain_monitor.specs.History.{RisesAbove, last_above, last_stamp, log_of, appended}
use Rattle.plain_monitor.proofs.Appending.{order_appended, rises_appended}
use Rattle.plain_monitor.proofs.Lists.{all_push, all_weaker, all_replicate}
use Rattle.plain_monitor.proofs.Merging.{empty_order}
use Rattle.plain_monitor.proofs.Threads.{thread_kept}
use Rattle.object_program.specs.Program.{ProgramText}
use Rattle.plain_machine.specs.Machine.{PlainMachine, new_machine}
use Rattle.plain_machine.specs.Legal.{after_all, machine_after}
use Rattle.bias_check.specs.Steps.{IsAbove, IsRun}
use Rattle.bias_check.specs.Logs.{SplitsIntoLegalLogs}

-- each of these stands before x
abbrev pub AllBefore : ℕ × Logged → List (ℕ × Logged) → Type 0
AllBefore x ys = AllByRecursion (λ y. is_before y x ≡ true) ys

-- each of these stands before x or is x
abbrev pub AllUpTo : ℕ × Logged → List (ℕ × Logged) → Type 0
AllUpTo x ys = AllByRecursion (λ y. is_before x y ≡ false) ys

before_through : (b x y : ℕ × Logged) → is_before b x ≡ true → is_before b y ≡ false → is_before y x ≡ true
before_through b x y h k = grind (arith, nat_tests)

not_after : (x y : ℕ × Logged) → is_before y x ≡ true → is_before x y ≡ false
not_after x y h = grind (arith, nat_tests)

not_before_itself : (x : ℕ × Logged) → is_before x x ≡ false
not_before_itself x = grind (arith, nat_tests)

-- an entry after all others goes last
insert_last : (x : ℕ × Logged) (ys : List (ℕ × Logged)) → AllBefore x ys → insert_ordered x ys ≡ ys ++ x ∷ []
insert_last x [] h = refl
insert_last x (y ∷ ys) h = rw (not_after x y h.0) (ap (λ (zs : List (ℕ × Logged)). y ∷ zs) (insert_last x ys h.1))

-- of one thread the entries before x have smaller stamps
stamps_by : (x y : ℕ × Logged) (ys : List (ℕ × Logged)) (n : ℕ) (b : Bool) → (y.0 == x.0) ≡ b → AllBefore x (y ∷ ys) → n < x.1.stamp
    → ((k : ℕ) → k < x.1.stamp → last_above k (of_thread x.0 ys) < x.1.stamp) → last_above n (of_thread x.0 (y ∷ ys)) < x.1.stamp
stamps_by x y ys n true e h lt ih =
    let before = h.0 in
    let lower : y.1.stamp < x.1.stamp = grind (arith, nat_tests) in
    rw e (ih y.1.stamp lower)
stamps_by x y ys n false e h lt ih = rw e (ih n lt)

last_lower : (x : ℕ × Logged) (ys : List (ℕ × Logged)) (n : ℕ) → AllBefore x ys → n < x.1.stamp → last_above n (of_thread x.0 ys) < x.1.stamp
last_lower x [] n h lt = lt
last_lower x (y ∷ ys) n h lt = stamps_by x y ys n (y.0 == x.0) refl h lt (λ k g. last_lower x ys k h.1 g)

-- logs with one more entry, after all others
pub record GoesOn (logs : List (List Logged)) (x : ℕ × Logged) : Type 0 where
  pub rises : AllByRecursion (RisesAbove 0) (appended logs x.0 x.1)
  pub ordered : order (appended logs x.0 x.1) ≡ order logs ++ x ∷ []

goes_last : (logs : List (List Logged)) (x : ℕ × Logged) → AllByRecursion (RisesAbove 0) logs
    → x.0 < length logs → 1 ≤ x.1.stamp → AllBefore x (order logs) → GoesOn logs x
goes_last logs x rises within above before =
    let lower : last_above 0 (of_thread x.0 (order logs)) < x.1.stamp = last_lower x (order logs) 0 before (omega (arith, above)) in
    let last : last_stamp (log_of logs x.0) < x.1.stamp = subst (λ (log : List Logged). last_above 0 log < x.1.stamp) (thread_kept logs x.0 rises) lower in
    record {
      rises = rises_appended logs x.0 x.1 rises within last;
      ordered = order_appended logs x.0 x.1 rises within last ∙ insert_last x (order logs) before;
    }

-- the entry before, if there is one, stands after all of these
abbrev pub IsEnd : Option (ℕ × Logged) → List (ℕ × Logged) → Type 0
IsEnd None ys = ys ≡ []
IsEnd (Some b) ys = AllUpTo b ys

all_before : (before : Option (ℕ × Logged)) (x : ℕ × Logged) (ys : List (ℕ × Logged)) → IsEnd before ys → IsAbove before x → AllBefore x ys
all_before None x ys end above = rw end tt
all_before (Some b) x ys end above =
    all_weaker (λ y. is_before b y ≡ false) (λ y. is_before y x ≡ true) (λ y h. before_through b x y above h) ys end

-- the entry before, if there is one, has a stamp from 1 on
abbrev pub IsFromOne : Option (ℕ × Logged) → Type 0
IsFromOne None = Unit {0}
IsFromOne (Some b) = 1 ≤ b.1.stamp

-- and so has the next one
from_one : (before : Option (ℕ × Logged)) (x : ℕ × Logged) → IsFromOne before → IsAbove before x → 1 ≤ x.1.stamp
from_one None x low above = above
from_one (Some b) x low above = grind (arith, nat_tests)

up_to : (x : ℕ × Logged) (ys : List (ℕ × Logged)) → AllBefore x ys → AllUpTo x (ys ++ x ∷ [])
up_to x ys h =
    all_push (λ y. is_before x y ≡ false) ys x
    (all_weaker (λ y. is_before y x ≡ true) (λ y. is_before x y ≡ false) (λ y k. not_after x y k) ys h) (not_before_itself x)

-- the logs after all entries
abbrev pub logs_after : List (List Logged) → List (ℕ × Logged) → List (List Logged)
logs_after logs [] = logs
logs_after logs (x ∷ xs) = logs_after (appended logs x.0 x.1) xs

pub record AreLogsOf (threads : ℕ) (entries : List (ℕ × Logged)) (logs : List (List Logged)) : Type 0 where
  pub counted : length logs ≡ threads
  pub rises : AllByRecursion (RisesAbove 0) logs
  pub ordered : order logs ≡ entries

logs_of_run : (p : ProgramText) (before : Option (ℕ × Logged)) (m n : PlainMachine) (lines : List (List ℕ))
    (xs done : List (ℕ × Logged)) (logs : List (List Logged)) → IsRun p before m lines xs n
    → AreLogsOf (length p.threads) done logs → IsEnd before done → IsFromOne before → AreLogsOf (length p.threads) (done ++ xs) (logs_after logs xs)
logs_of_run p before m n [] [] done logs run a end low = rw append-nil a
logs_of_run p before m n [] (x ∷ xs) done logs run a end low = absurd run
logs_of_run p before m n (line ∷ lines) [] done logs run a end low = absurd run
logs_of_run p before m n (line ∷ lines) (x ∷ xs) done logs run a end low =
    let s = run.1 in
    let positive = from_one before x low s.above in
    let first : AllBefore x done = all_before before x done end s.above in
    let on = goes_last logs x a.rises (omega (arith, a.counted, s.tells.thread)) positive (rw a.ordered first) in
    let next : AreLogsOf (length p.threads) (done ++ x ∷ []) (appended logs x.0 x.1) = record {
      counted = length-set logs x.0 (log_of logs x.0 ++ x.1 ∷ []) ∙ a.counted;
      rises = on.rises;
      ordered = on.ordered ∙ ap (λ (ys : List (ℕ × Logged)). ys ++ x ∷ []) a.ordered;
    } in
    let rest = logs_of_run p (Some x) run.0 n lines xs (done ++ x ∷ []) (appended logs x.0 x.1) run.2 next (up_to x done first) positive in
    subst (λ (ys : List (ℕ × Logged)). AreLogsOf (length p.threads) ys (logs_after (appended logs x.0 x.1) xs)) (append_assoc done (x ∷ []) xs) rest

-- the machine takes the entries of a run
run_taken : (p : ProgramText) (before : Option (ℕ × Logged)) (m n : PlainMachine) (lines : List (List ℕ)) (xs : List (ℕ × Logged))
    → IsRun p before m lines xs n → after_all m xs ≡ Some n
run_taken p before m n [] [] run = ap Some (sym run)
run_taken p before m n [] (x ∷ xs) run = absurd run
run_taken p before m n (line ∷ lines) [] run = absurd run
run_taken p before m n (line ∷ lines) (x ∷ xs) run = rw run.1.taken (run_taken p (Some x) run.0 n lines xs run.2)

empty_logs : (n : ℕ) (t : ℕ) → log_of (replicate n []) t ≡ []
empty_logs zero t = refl
empty_logs (suc n) zero = refl
empty_logs (suc n) (suc t) = empty_logs n t

first_logs : (n : ℕ) → AreLogsOf n [] (replicate n [])
first_logs n = record {
  counted = length-replicate n [];
  rises = all_replicate (RisesAbove 0) n [] tt;
  ordered = empty_order (replicate n []) (empty_logs n);
}

pub run_splits : (p : ProgramText) (fuel : ℕ) (lines : List (List ℕ)) (entries : List (ℕ × Logged)) (machine : PlainMachine)
    → IsRun p None (new_machine p fuel) lines entries machine
    → SplitsIntoLegalLogs p fuel entries machine
run_splits p fuel lines entries machine run =
    let logs = logs_after (replicate (length p.threads) []) entries in
    let a : AreLogsOf (length p.threads) entries logs = logs_of_run p None (new_machine p fuel) machine lines entries []
    (replicate (length p.threads) []) run (first_logs (length p.threads)) refl tt in
    let under : machine_after p fuel logs ≡ Some machine =
    ap (after_all (new_machine p fuel)) a.ordered ∙ run_taken p None (new_machine p fuel) machine lines entries run in
    record {
      logs = logs;
      threads = a.counted;
      split = λ t. sym (thread_kept logs t a.rises) ∙ ap (of_thread t) a.ordered;
      ordered = a.ordered;
      legal = record { rises = a.rises; taken = rw under refl };
      under = under;
    }
