use Rattle.std.proofs.Common.{ap, refl, subst}
use Rattle.core_world.specs.declared.heap_call.HeapCall.TheVariants.{Enter}
use Rattle.lock_runtime_c.specs.declared.inner.Inner.{Inner}
use Rattle.lock_runtime_c.specs.declared.inner.Room.{Room}
use Rattle.lock_runtime_c.specs.inner.QuickCalls.{AnswersWithin}
use Rattle.lock_runtime_c.proofs.Seated.{amid, answers_on, nothing_on, other_within, rests_on}
use Rattle.lock_runtime_c.proofs.enters.enter_on_within.Goals as goal

pub enter_on-answer-requires : goal.enter_on-answer-requires
enter_on-answer-requires c = amid _ _ c.requires.0 _ c.in-Seat.seat c.in-Seat.is _ (ap (λ (r : Room). r.heap) c.deref.ensures) c.requires.1

pub returns-in-Seat-clause-rests : goal.returns-in-Seat-clause-rests
returns-in-Seat-clause-rests c =
    rests_on _ _ c.requires.0 _ c.in-Seat.seat c.in-Seat.is _ _ (Enter c.args.object c.args.now) c.enter_on-answer.result
    (ap (λ (r : Room). r.heap) c.deref.ensures) refl refl refl c.enter_on-answer.ensures.answer c.enter_on-answer.ensures.rests c.is_free-seat.ensures
    c.requires.1

pub returns-in-Seat-clause-answer : goal.returns-in-Seat-clause-answer
returns-in-Seat-clause-answer c = λ x came.
    answers_on _ _ x _ c.in-Seat.seat c.in-Seat.is _ _ (Enter c.args.object c.args.now) c.enter_on-answer.result
    (ap (λ (r : Room). r.heap) c.deref.ensures) refl refl refl c.enter_on-answer.ensures.answer came

pub returns-in_default : goal.returns-in_default
returns-in_default c = record {
  rests = (nothing_on _ _ c.requires.0 _ c.in_default.not-Seat c.requires.1).1;
  answer = λ x came.
      subst (λ (i : Inner). AnswersWithin i c.args.held.now (Enter c.args.object c.args.now) c.answered.result)
      (nothing_on _ _ x _ c.in_default.not-Seat came).0
      (other_within c.args.held.now (Enter c.args.object c.args.now) c.answered.result c.in_default.not-Seat c.answered.ensures);
}
