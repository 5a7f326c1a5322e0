-- The journal of legal logs is a run.
use Rattle.std.proofs.Common.{◌≡◌, ℕ, ◌+◌, ◌<◌, ◌≤◌, ◌⊎◌, Bool, true, false, List, [], ◌∷◌, ◌++◌, map}
use Rattle.std.proofs.Common.{refl, sym, ◌∙◌, ap, arith, inl, inr, append_assoc, Option, Some, None}
use Rattle.std.specs.List.{AllByRecursion, join_with_byte}
use Rattle.std.proofs.lemmas.Bool.Decides.{nat_tests}
use Rattle.plain_monitor.specs.declared.entry.Logged.{Logged}
use Rattle.plain_monitor.specs.Order.{is_before, insert_ordered, ordered, with_threads, order}
use Rattle.plain_monitor.specs.History.{RisesAbove}
use Rattle.plain_monitor.proofs.Orders.{all_insert, all_ordered}
use Rattle.plain_monitor.proofs.Lists.{all_weaker, all_append}
use Rattle.object_program.specs.Program.{ProgramText}
use Rattle.object_program.specs.Valid.{IsProgram}
use Rattle.plain_machine.specs.Machine.{PlainMachine, new_machine, take}
use Rattle.plain_machine.specs.Legal.{after_all, machine_after}
use Rattle.lock_journal.specs.RunText.{journal_line, text_of_lines}
use Rattle.bias_check.specs.Lines.{lines_of, Tells}
use Rattle.bias_check.specs.Steps.{IsAbove, IsRun}
use Rattle.bias_check.specs.Printed.{IsTellable, journal_of}
use Rattle.bias_check.proofs.Options.{and_then}
use Rattle.bias_check.proofs.LineWords.{line_words, line_is, line_spaceless, Feedless, feedless_words}

-- x stands before each of these
abbrev pub BeforeAll : ℕ × Logged → List (ℕ × Logged) → Type 0
BeforeAll x ys = AllByRecursion (λ y. is_before x y ≡ true) ys

abbrev pub IsSorted : List (ℕ × Logged) → Type 0
IsSorted [] = Unit {0}
IsSorted (x ∷ xs) = BeforeAll x xs × IsSorted xs

-- one of the two stands before the other
abbrev pub AreApart : ℕ × Logged → ℕ × Logged → Type 0
AreApart x y = (is_before x y ≡ true) ⊎ (is_before y x ≡ true)

abbrev pub ApartFromAll : ℕ × Logged → List (ℕ × Logged) → Type 0
ApartFromAll x ys = AllByRecursion (AreApart x) ys

abbrev pub AllApart : List (ℕ × Logged) → Type 0
AllApart [] = Unit {0}
AllApart (x ∷ xs) = ApartFromAll x xs × AllApart xs

through : (x y z : ℕ × Logged) → is_before x y ≡ true → is_before y z ≡ true → is_before x z ≡ true
through x y z h k = grind (arith, nat_tests)

other_way : (x y : ℕ × Logged) → is_before x y ≡ false → AreApart x y → is_before y x ≡ true
other_way x y h (inl k) = absurd (cc (sym h ∙ k))
other_way x y h (inr k) = k

insert_by : (x y : ℕ × Logged) (ys : List (ℕ × Logged)) (b : Bool) → is_before x y ≡ b → IsSorted (y ∷ ys)
    → AreApart x y → (IsSorted (insert_ordered x ys)) → IsSorted (insert_ordered x (y ∷ ys))
insert_by x y ys true e h apart ih =
    rw e ((e, all_weaker (λ z. is_before y z ≡ true) (λ z. is_before x z ≡ true) (λ z k. through x y z e k) ys h.0), h)
insert_by x y ys false e h apart ih =
    rw e (all_insert (λ z. is_before y z ≡ true) x ys (other_way x y e apart) h.0, ih)

sorted_insert : (x : ℕ × Logged) (ys : List (ℕ × Logged)) → IsSorted ys → ApartFromAll x ys → IsSorted (insert_ordered x ys)
sorted_insert x [] h apart = (tt, tt)
sorted_insert x (y ∷ ys) h apart = insert_by x y ys (is_before x y) refl h apart.0 (sorted_insert x ys h.1 apart.1)

sorted_ordered : (xs : List (ℕ × Logged)) → AllApart xs → IsSorted (ordered xs)
sorted_ordered [] h = tt
sorted_ordered (x ∷ xs) h = sorted_insert x (ordered xs) (sorted_ordered xs h.1) (all_ordered (AreApart x) xs h.0)

-- the entries of later threads
later_log : (t u : ℕ) (log : List Logged) → t < u → AllByRecursion (λ (y : ℕ × Logged). t < y.0) (map (λ l. (u, l)) log)
later_log t u [] h = tt
later_log t u (l ∷ log) h = (h, later_log t u log h)

later_threads : (t u : ℕ) (logs : List (List Logged)) → t < u → AllByRecursion (λ (y : ℕ × Logged). t < y.0) (with_threads u logs)
later_threads t u [] h = tt
later_threads t u (log ∷ logs) h =
    all_append (λ (y : ℕ × Logged). t < y.0) (map (λ l. (u, l)) log) (with_threads (u + 1) logs)
    (later_log t u log h) (later_threads t (u + 1) logs (omega (arith, h)))

by_thread : (x y : ℕ × Logged) (b : Bool) → is_before x y ≡ b → x.0 < y.0 → AreApart x y
by_thread x y true e h = inl e
by_thread x y false e h = inr (grind (arith, nat_tests))

by_stamp : (x y : ℕ × Logged) → x.1.stamp < y.1.stamp → AreApart x y
by_stamp x y h = inl (grind (arith, nat_tests))

same_log : (t : ℕ) (l : Logged) (log : List Logged) (n : ℕ) → l.stamp ≤ n → RisesAbove n log → ApartFromAll (t, l) (map (λ m. (t, m)) log)
same_log t l [] n h r = tt
same_log t l (m ∷ log) n h r =
    let up = r.0 in (by_stamp (t, l) (t, m) (omega (arith, h, up)), same_log t l log m.stamp (omega (arith, h, up)) r.1)

log_apart : (t : ℕ) (log : List Logged) (more : List (ℕ × Logged)) (n : ℕ) → RisesAbove n log
    → AllByRecursion (λ (y : ℕ × Logged). t < y.0) more → AllApart more → AllApart (map (λ l. (t, l)) log ++ more)
log_apart t [] more n r later apart = apart
log_apart t (l ∷ log) more n r later apart =
    let up = r.0 in (
      all_append (AreApart (t, l)) (map (λ m. (t, m)) log) more (same_log t l log l.stamp (omega arith) r.1)
          (all_weaker (λ (y : ℕ × Logged). t < y.0) (AreApart (t, l)) (λ y h. by_thread (t, l) y (is_before (t, l) y) refl h) more later),
      log_apart t log more l.stamp r.1 later apart,
    )

logs_apart : (t : ℕ) (logs : List (List Logged)) → AllByRecursion (RisesAbove 0) logs → AllApart (with_threads t logs)
logs_apart t [] r = tt
logs_apart t (log ∷ logs) r =
    log_apart t log (with_threads (t + 1) logs) 0 r.0 (later_threads t (t + 1) logs (omega arith)) (logs_apart (t + 1) logs r.1)

-- the entry stands above the one before, if there is one
abbrev pub AboveAll : Option (ℕ × Logged) → List (ℕ × Logged) → Type 0
AboveAll None xs = Unit {0}
AboveAll (Some b) xs = BeforeAll b xs

above_first : (before : Option (ℕ × Logged)) (x : ℕ × Logged) (xs : List (ℕ × Logged)) → 1 ≤ x.1.stamp → AboveAll before (x ∷ xs) → IsAbove before x
above_first None x xs low h = low
above_first (Some b) x xs low h = h.0

sorted_run : (p : ProgramText) (before : Option (ℕ × Logged)) (m n : PlainMachine) (xs : List (ℕ × Logged))
    → AboveAll before xs → IsSorted xs → AllByRecursion (IsTellable p) xs → after_all m xs ≡ Some n
    → IsRun p before m (map (journal_line p) xs) xs n
sorted_run p before m n [] above sorted tellable h = cc h
sorted_run p before m n (x ∷ xs) above sorted tellable h =
    and_then (λ next. after_all next xs) (take m x.0 x.1.entry) n h (λ next took rest.
    let t = tellable.0 in (
      next,
      record {
        tells = record { thread = t.thread; below = t.below; entry = t.entry; text = refl };
        above = above_first before x xs t.above_zero above;
        taken = took;
      },
      sorted_run p (Some x) next n xs sorted.0 sorted.1 tellable.1 rest,
    ))

pub journal_run : (p : ProgramText) (fuel : ℕ) (logs : List (List Logged)) (machine : PlainMachine)
    → AllByRecursion (RisesAbove 0) logs → machine_after p fuel logs ≡ Some machine
    → AllByRecursion (IsTellable p) (order logs) → IsRun p None (new_machine p fuel) (journal_of p logs) (order logs) machine
journal_run p fuel logs machine rises under tellable =
    sorted_run p None (new_machine p fuel) machine (order logs) tt (sorted_ordered (with_threads 0 logs) (logs_apart 0 logs rises)) tellable under

-- the lines of a text that is written are those that were written
line_first : (w rest : List ℕ) → Feedless w → lines_of (w ++ 10 ∷ rest) ≡ (w ++ 10 ∷ []) ∷ lines_of rest
line_first [] rest h = refl
line_first (b ∷ bs) rest h = rw (h.0, line_first bs rest h.1) refl

line_ahead : (p : ProgramText) (x : ℕ × Logged) (rest : List ℕ) → IsProgram p
    → IsTellable p x → lines_of (journal_line p x ++ rest) ≡ journal_line p x ∷ lines_of rest
line_ahead p x rest h t =
    let tells : Tells p (journal_line p x) x = record { thread = t.thread; below = t.below; entry = t.entry; text = refl } in
    let words = join_with_byte 32 (line_words p x) in
    let feedless : Feedless words = feedless_words (line_words p x) (line_spaceless p (journal_line p x) x h tells) in
    let whole : journal_line p x ++ rest ≡ words ++ 10 ∷ rest = ap (λ (bs : List ℕ). bs ++ rest) (line_is p x) ∙ append_assoc words (10 ∷ []) rest in
    ap lines_of whole ∙ line_first words rest feedless ∙ ap (λ (line : List ℕ). line ∷ lines_of rest) (sym (line_is p x))

lines_again : (p : ProgramText) (xs : List (ℕ × Logged)) → IsProgram p → AllByRecursion (IsTellable p) xs
    → lines_of (text_of_lines (map (journal_line p) xs)) ≡ map (journal_line p) xs
lines_again p [] h t = refl
lines_again p (x ∷ xs) h t =
    line_ahead p x (text_of_lines (map (journal_line p) xs)) h t.0 ∙ ap (λ (ls : List (List ℕ)). journal_line p x ∷ ls) (lines_again p xs h t.1)

pub journal_lines : (p : ProgramText) (logs : List (List Logged)) → IsProgram p
    → AllByRecursion (IsTellable p) (order logs) → lines_of (text_of_lines (journal_of p logs)) ≡ journal_of p logs
journal_lines p logs h t = lines_again p (order logs) h t
