-- Steps of the lines on classes.
use Rattle.std.proofs.Common.{◌≡◌, ℕ, ◌+◌, [], ◌∷◌, slice_get, Some, None, refl}
use Rattle.plain_monitor.specs.Order.{order}
use Rattle.plain_machine.specs.Machine.{PlainMachine}
use Rattle.lock_journal.specs.declared.record.RunRecord.{RunRecord}
use Rattle.lock_journal.specs.declared.record.ClassLine.{ClassLine}
use Rattle.lock_journal.specs.RunText.{class_line}
use Rattle.lock_journal.specs.LinesLeft.{classes_left}
use Rattle.lock_journal.proofs.Lists.{left_from, none_from}

pub classes_left-line : (run : RunRecord) (m : PlainMachine) (c : ℕ) (l : ClassLine) → slice_get run.classes c ≡ Some l
    → classes_left run m c ≡ class_line run.program m c l (order run.logs) ∷ classes_left run m (c + 1)
classes_left-line run m c l h = rw (left_from run.classes c l h) refl

pub classes_left-end : (run : RunRecord) (m : PlainMachine) (c : ℕ) → slice_get run.classes c ≡ None → classes_left run m c ≡ []
classes_left-end run m c h = rw (none_from run.classes c h) refl
