use Rattle.std.proofs.Common.{◌≡◌, [], length, refl, ap, ◌∙◌, inr, arith, Ok}
use Rattle.std.proofs.lemmas.Grind.{common_steps}
use Rattle.bias_check.specs.Lines.{lines_of}
use Rattle.bias_check.proofs.Cuts.{no_lines}
use Rattle.bias_check.proofs.Lengths.{length-machine, length-drawers}
use Rattle.bias_check.proofs.check.answer.Goals as goal

pub loop-left-init : goal.loop-left-init
loop-left-init c =
    let p = c.args.program.now in
    record {
      same = rw c.in-Ok-new.ensures refl;
      counted = omega arith;
      bound = omega arith;
      machine = ap (λ k. length k.machine.threads) c.in-Ok-new.ensures ∙ length-machine p c.args.fuel;
      hashes = ap (λ k. length k.hashes.drawers) c.in-Ok-new.ensures ∙ length-drawers c.args.start (length p.threads);
    }

pub returns : goal.returns
returns c =
    let empty : length c.loop-left.left.now ≡ 0 = grind (arith, common_steps) in
    let none : lines_of c.loop-left.left.now ≡ [] = no_lines c.loop-left.left.now empty in
    let same = rw none at c.loop-left.invariant.same in
    let left : length (lines_of c.loop-left.left.now) ≡ 0 = rw none refl in
    let counted : c.loop-left.number ≡ length (lines_of c.args.lines.now) = omega (arith, left, c.loop-left.invariant.counted) in
    inr (rw (← same, ← counted) (ap Ok c.verdict.ensures))
