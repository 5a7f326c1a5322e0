use Rattle.std.proofs.Common.{ap, ◌∙◌}
use Rattle.lock_runtime_c.specs.Numbers.{answered}
use Rattle.lock_runtime_c.proofs.QuickCalls.{exit_answers}
use Rattle.lock_runtime_c.proofs.exits.exit_from_owner.Goals as goal

pub exit_from_owner-progress-requires : goal.exit_from_owner-progress-requires
exit_from_owner-progress-requires c = (c.requires.0, c.requires.1.begun)

pub returns-clause-answer : goal.returns-clause-answer
returns-clause-answer c = λ p opened.
    let a = c.args in
    let on = c.exit_from_owner-progress in
    exit_answers a.heap.now p on.new.pass on.ensures.rests a.object on.result c.answered.result opened.may opened.begun.may
    (on.ensures.whole p opened.begun) (c.answered.ensures ∙ ap answered c.owned.ensures)
