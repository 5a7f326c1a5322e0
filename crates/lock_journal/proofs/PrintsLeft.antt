-- Steps of the lines that entries print.
use Rattle.std.proofs.Common.{◌≡◌, ℕ, zero, suc, ◌+◌, List, [], ◌∷◌, ◌++◌, drop, get_or, set, Option, Some, None, refl, ap, sym, ◌∙◌}
use Rattle.plain_monitor.specs.declared.entry.Entry.{Entry}
use Rattle.plain_monitor.specs.declared.entry.Entry.TheVariants as entry
use Rattle.plain_monitor.specs.declared.entry.Logged.{Logged}
use Rattle.plain_monitor.specs.Order.{order}
use Rattle.object_program.specs.Program.{ProgramText}
use Rattle.lock_journal.specs.declared.record.RunRecord.{RunRecord}
use Rattle.lock_journal.specs.declared.record.Shot.{Shot}
use Rattle.lock_journal.specs.Merging.{left_of}
use Rattle.lock_journal.specs.RunText.{printed}
use Rattle.lock_journal.specs.LinesLeft.{prints_of, prints_left}
use Rattle.plain_monitor.specs.Kept.{kept_of, kept_logs, kept_entries}
use Rattle.lock_journal.specs.declared.prints.Printed.{Printed}
use Rattle.plain_monitor.proofs.Keeping.{kept_order}
use Rattle.plain_monitor.specs.History.{log_of}
use Rattle.lock_journal.specs.inner.LineTexts.{prints, printed_in}

printed-none : (p : ProgramText) (shots : List (List Shot)) (t : ℕ) (e : Entry) → printed_in e ≡ None → printed p shots t e ≡ []
printed-none p shots t (entry.Print w) h = absurd cc
printed-none p shots t (entry.Dump n) h = absurd cc
printed-none p shots t e h = refl

-- an entry that neither prints nor dumps adds no line
pub prints_left-none : (run : RunRecord) (old new : List ℕ) (t : ℕ) (l : Logged)
    → order (left_of run.logs old) ≡ (t, l) ∷ order (left_of run.logs new) → printed_in l.entry ≡ None → prints_left run old ≡ prints_left run new
prints_left-none run old new t l e h = rw (e, printed-none run.program run.shots t l.entry h) refl

-- what prints is what is kept of the entries that print
prints_kept : (run : RunRecord) (xs : List (ℕ × Logged)) → prints_of run xs ≡ prints_of run (kept_entries prints xs)
prints_kept run [] = refl
prints_kept run (x ∷ xs) = by_printed (printed_in x.1.entry) refl (prints_kept run xs)
  where
    by_printed : (r : Option Printed) → printed_in x.1.entry ≡ r → prints_of run xs ≡ prints_of run (kept_entries prints xs)
        → prints_of run (x ∷ xs) ≡ prints_of run (kept_entries prints (x ∷ xs))
    by_printed None e ih = rw (printed-none run.program run.shots x.0 x.1.entry e, e) ih
    by_printed (Some p) e ih = rw e (ap (λ ys. printed run.program run.shots x.0 x.1.entry ++ ys) ih)

-- what is printed of what is left goes by what is kept of each log
pub prints_left-kept : (run : RunRecord) (old new : List ℕ)
    → kept_logs prints (left_of run.logs new) ≡ kept_logs prints (left_of run.logs old) → prints_left run new ≡ prints_left run old
prints_left-kept run old new e =
    prints_kept run (order (left_of run.logs new))
    ∙ ap (prints_of run) (kept_order prints (left_of run.logs new) ∙ ap order e ∙ sym (kept_order prints (left_of run.logs old)))
    ∙ sym (prints_kept run (order (left_of run.logs old)))

-- passing over what doesn't print in one log
pub skipped_kept : (logs : List (List Logged)) (places : List ℕ) (t p : ℕ)
    → kept_of prints (drop p (log_of logs t)) ≡ kept_of prints (drop (get_or places t 0) (log_of logs t))
    → kept_logs prints (left_of logs (set places t p)) ≡ kept_logs prints (left_of logs places)
skipped_kept [] places t p h = refl
skipped_kept (log ∷ logs) [] t p h = refl
skipped_kept (log ∷ logs) (q ∷ places) zero p h = ap (λ l. l ∷ kept_logs prints (left_of logs places)) h
skipped_kept (log ∷ logs) (q ∷ places) (suc t) p h = ap (λ ls. kept_of prints (drop q log) ∷ ls) (skipped_kept logs places t p h)
