use Rattle.std.proofs.Common.{ℕ, ◌+◌, ap, ◌∙◌, arith}
use Rattle.safepoint.proofs.Forms.{fits, added}
use Rattle.safepoint.proofs.words.running_too.Goals as goal

pub overflow_add-result : goal.overflow_add-result
overflow_add-result c =
    let sum = fits _ _ c.requires.form _ c.in-Some.is _ c.requires.thread in
    omega (arith, sum, c.bit.ensures)

pub returns-in-Some : goal.returns-in-Some
returns-in-Some c = ap (λ (n : ℕ). c.args.word + n) c.bit.ensures ∙ added _ _ c.requires.form _ c.in-Some.is _ c.requires.thread
