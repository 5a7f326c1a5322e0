-- A line is at most one step.
use Rattle.std.proofs.Common.{◌≡◌, ℕ, refl, sym, ◌∙◌, ap, List, Option}
use Rattle.std.proofs.lemmas.Option.{same_Some}
use Rattle.plain_monitor.specs.declared.entry.Entry.{Entry}
use Rattle.plain_monitor.specs.declared.entry.Logged.{Logged}
use Rattle.object_program.specs.Program.{ProgramText}
use Rattle.object_program.specs.Valid.{IsProgram}
use Rattle.plain_machine.specs.Machine.{PlainMachine}
use Rattle.bias_check.specs.Steps.{IsStep}
use Rattle.bias_check.proofs.TellsRead.{line_read}
use Rattle.bias_check.proofs.RunsChecked.{step_goes}

pub step_same : (p : ProgramText) (before : Option (ℕ × Logged)) (m : PlainMachine) (line : List ℕ) (x y : ℕ × Logged) (n k : PlainMachine)
    → IsProgram p → IsStep p before m line x n → IsStep p before m line y k
    → (x ≡ y) × (n ≡ k)
step_same p before m line x y n k h s t =
    let a = line_read p line x h s.tells in
    let g = step_goes p before m line x n a.read h s a.is in
    let f = step_goes p before m line y k a.read h t a.is in
    let same = same_Some (x.1.entry, n) (y.1.entry, k) (sym g.taken_at ∙ f.taken_at) in
    let entry : x.1.entry ≡ y.1.entry = ap (λ (q : Entry × PlainMachine). q.0) same in
    let stamp : x.1.stamp ≡ y.1.stamp = sym g.stamp ∙ f.stamp in
    let thread : x.0 ≡ y.0 = sym g.thread ∙ f.thread in
    let whole : ◌≡◌ {A = ℕ × Logged} (x.0, record { stamp = x.1.stamp; entry = x.1.entry }) (y.0, record { stamp = y.1.stamp; entry = y.1.entry }) =
    rw (thread, stamp, entry) refl in
    (whole, ap (λ (q : Entry × PlainMachine). q.1) same)
