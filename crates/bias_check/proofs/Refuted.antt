-- What is refused of lines, logs and texts that are wrong in one way.
use Rattle.std.proofs.Common.{◌≡◌, ◌≢◌, ℕ, zero, suc, ◌≤◌, ◌^◌, false, List, [], ◌∷◌, ◌++◌, codes, length, slice_get}
use Rattle.std.proofs.Common.{Option, Some, None, refl, ap, sym, ◌∙◌, subst, arith, true≢false}
use Rattle.std.proofs.lemmas.Option.{none-some, same_Some}
use Rattle.std.proofs.lemmas.Fmt.{decimal_digit}
use Rattle.std.specs.List.{AllByRecursion}
use Rattle.plain_monitor.specs.declared.entry.Entry.TheVariants.{Print}
use Rattle.plain_monitor.specs.declared.entry.Logged.{Logged}
use Rattle.plain_monitor.specs.declared.entry.Value.TheVariants.{Nil, Ref}
use Rattle.plain_monitor.specs.History.{RisesAbove, log_of}
use Rattle.plain_monitor.specs.Order.{of_thread, order}
use Rattle.plain_monitor.proofs.Threads.{same_thread}
use Rattle.object_program.specs.Program.{ProgramText}
use Rattle.plain_machine.specs.Legal.{after_all}
use Rattle.plain_machine.specs.Machine.{PlainMachine, new_machine}
use Rattle.plain_machine.specs.Running.{run_on}
use Rattle.lock_journal.specs.RunText.{journal_line, newline, text_of_lines}
use Rattle.bias_check.specs.Example.{done_logs, example_lines, example_program, later_logs, nil_program, split_program}
use Rattle.bias_check.specs.Lines.{lines_of, Tells}
use Rattle.bias_check.specs.Logs.{SplitsIntoLegalLogs}
use Rattle.bias_check.specs.Parts.{ArePartsOf, has_journal, marker}
use Rattle.bias_check.specs.Printed.{journal_of}
use Rattle.bias_check.specs.Steps.{IsRun}

-- ENTRIES
module _ (p : ProgramText) (fuel : ℕ) (m : PlainMachine) where
  rises_at : (logs : List (List Logged)) (t : ℕ) → AllByRecursion (RisesAbove 0) logs → RisesAbove 0 (log_of logs t)
  rises_at [] t rises = tt
  rises_at (log ∷ logs) zero rises = rises.0
  rises_at (log ∷ logs) (suc t) rises = rises_at logs t rises.1

  pub out_of_order : (t : ℕ) (x y : Logged) → y.stamp ≤ x.stamp → SplitsIntoLegalLogs p fuel ((t, x) ∷ (t, y) ∷ []) m → ⊥
  out_of_order t x y falls s =
      let both : of_thread t ((t, x) ∷ (t, y) ∷ []) ≡ x ∷ y ∷ [] =
      rw (same_thread t) refl in
      let rises : RisesAbove 0 (x ∷ y ∷ []) = subst (RisesAbove 0) (s.split t ∙ both) (rises_at s.logs t s.legal.rises) in
      omega (arith, falls, rises.1.0)

  -- the machine under the logs is the one after the entries
  pub after : (xs : List (ℕ × Logged)) → SplitsIntoLegalLogs p fuel xs m → after_all (new_machine p fuel) xs ≡ Some m
  after xs s = ap (after_all (new_machine p fuel)) (sym s.ordered) ∙ s.under

  pub another_machine : m ≢ new_machine p fuel → SplitsIntoLegalLogs p fuel [] m → ⊥
  another_machine other s = other (sym (same_Some (new_machine p fuel) m (after [] s)))

-- the thread asks for its enter
pub not_asked : (m : PlainMachine) → SplitsIntoLegalLogs example_program 8 ((0, record { stamp = 1; entry = Print Nil }) ∷ []) m → ⊥
unfolding run_on
not_asked m s = none-some m (after example_program 8 m ((0, record { stamp = 1; entry = Print Nil }) ∷ []) s)

-- LINES
-- the line tells that the thread prints nothing, and that it prints the object
pub two_told : (x y : ℕ × Logged) × Tells nil_program (journal_line nil_program x) x × Tells nil_program (journal_line nil_program x) y × (x ≢ y)
two_told = (
  (0, record { stamp = 1; entry = Print Nil }),
  (0, record { stamp = 1; entry = Print (Ref 0) }),
  record { thread = omega arith; below = omega arith; entry = (tt, tt); text = refl },
  record { thread = omega arith; below = omega arith; entry = (omega arith, tt); text = refl },
  λ e. other (ap (λ (z : ℕ × Logged). z.1.entry) e),
)
  where
    other : Print Nil ≡ Print (Ref 0) → ⊥
    other e = cc e

pub too_high : (p : ProgramText) (before : Option (ℕ × Logged)) (m n : PlainMachine) (x : ℕ × Logged) (xs : List (ℕ × Logged))
    (line : List ℕ) (lines : List (List ℕ)) → 2 ^ 46 ≤ x.1.stamp → IsRun p before m (line ∷ lines) (x ∷ xs) n → ⊥
too_high p before m n x xs line lines high run = omega (arith, high, run.1.tells.below)

pub without_enter : (m : PlainMachine)
    → IsRun example_program None (new_machine example_program 8) (journal_of example_program later_logs) (order later_logs) m → ⊥
unfolding run_on
without_enter m run = none-some run.0 run.1.taken

-- the one line is read as two
pub not_read_again : lines_of (text_of_lines (journal_of split_program done_logs)) ≡ journal_of split_program done_logs → ⊥
not_read_again e =
    let lengths : length (lines_of (text_of_lines (journal_of split_program done_logs))) ≡ 1 = ap length e in
    let two : 2 ≡ 1 = rw (decimal_digit 1 (omega arith)) at lengths in
    absurd (cc two)

-- PARTS
-- the marker is the end of the last line
pub unterminated : (journal : List ℕ) → ArePartsOf (example_lines ++ (marker ++ journal)) example_lines journal → ⊥
unterminated journal parts = none-some 37 (ap (λ (text : List ℕ). slice_get text (length example_lines)) parts.program_is)

pub too_short : ArePartsOf (example_lines ++ (newline ++ (marker ++ codes "@1 t done\n"))) (example_lines ++ newline) [] → ⊥
too_short parts = absurd (cc parts.journal_is)

pub marked : (journal : List ℕ) → has_journal (example_lines ++ (newline ++ (marker ++ journal))) ≡ false → ⊥
marked journal none = true≢false none
