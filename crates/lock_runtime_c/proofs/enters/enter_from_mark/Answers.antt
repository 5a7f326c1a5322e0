use Rattle.std.proofs.Common.{ap, ◌∙◌}
use Rattle.lock_runtime_c.specs.Numbers.{answered}
use Rattle.lock_runtime_c.proofs.QuickCalls.{enter_answers}
use Rattle.lock_runtime_c.proofs.enters.enter_from_mark.Goals as goal

pub enter_from_mark-progress-requires : goal.enter_from_mark-progress-requires
enter_from_mark-progress-requires c = (c.requires.0, c.requires.1.begun)

pub returns-clause-answer : goal.returns-clause-answer
returns-clause-answer c = λ p opened.
    let a = c.args in
    let on = c.enter_from_mark-progress in
    enter_answers a.heap.now p on.new.pass on.ensures.rests a.object a.now on.result c.answered.result opened.may opened.begun.may
    (on.ensures.whole p opened.begun) (c.answered.ensures ∙ ap answered c.entered.ensures)
