use Rattle.std.proofs.Common.{◌≡◌, sym, ◌∙◌, ap, Some, None, slice_get, refl}
use Rattle.lock_journal.proofs.ClassesLeft.{classes_left-line, classes_left-end}
use Rattle.lock_journal.proofs.classes.next_class.Goals as goal

pub returns-in-None : goal.returns-in-None
returns-in-None c =
    let run = c.args.run.now in
    let n = c.args.class.now in
    let past : slice_get run.classes n ≡ None = ap (λ ls. slice_get ls n) (sym c.items.ensures) ∙ sym c.line_at.ensures.at ∙ c.in-None.is in
    (classes_left-end run c.args.machine.now n past, refl, c.requires.clear)

pub returns-in-Some : goal.returns-in-Some
returns-in-Some c =
    let run = c.args.run.now in
    let n = c.args.class.now in
    let at : slice_get run.classes n ≡ Some c.in-Some.line = ap (λ ls. slice_get ls n) (sym c.items.ensures) ∙ sym c.line_at.ensures.at ∙ c.in-Some.is in
    let line = rw c.enters_of.ensures at c.push_class_line.ensures in
    rw line (classes_left-line run c.args.machine.now n c.in-Some.line at)
