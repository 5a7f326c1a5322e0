use Rattle.std.proofs.Common.{ap, ◌∙◌, subst, refl}
use Rattle.heap_table.specs.Resting.{Rests}
use Rattle.lock_runtime_c.specs.Rest.{IsAtRest, RestsWithin}
use Rattle.lock_runtime_c.specs.Told.{Told}
use Rattle.lock_runtime_c.specs.declared.inner.Room.{Room}
use Rattle.lock_runtime_c.proofs.Seated.{told_within}
use Rattle.lock_runtime_c.proofs.Threads.{told_thread}
use Rattle.lock_runtime_c.proofs.access.make_within.Goals as goal

pub returns-in-Seat-clause-rests : goal.returns-in-Seat-clause-rests
returns-in-Seat-clause-rests g c =
    let s = c.in-Seat.seat in
    let rested : IsAtRest s = subst RestsWithin c.in-Seat.is c.requires in
    let seated = rested.seated in
    let heap = ap (λ (r : Room). r.heap) c.deref.ensures in
    let told = subst (λ h. Told h (g.C.PassCall.task c.args.call) s.lent.thing c.make-outcome.new.pass c.make-outcome.result) heap c.make-outcome.ensures.told in
    record {
      seated = record {
        kept = record { rests = subst (λ h. Rests h c.make-outcome.new.pass) heap c.make-outcome.ensures.rests; room = c.make-outcome.ensures.room seated.kept.room };
        thread = told_thread s.room.value.heap s.lent.thing c.make-outcome.new.pass c.make-outcome.result (g.C.PassCall.task c.args.call) told ∙ seated.thread;
      };
      free = c.is_free-seat.ensures;
    }

pub returns-in-Seat-clause-told : goal.returns-in-Seat-clause-told
returns-in-Seat-clause-told g c =
    let s = c.in-Seat.seat in
    let rested : IsAtRest s = subst RestsWithin c.in-Seat.is c.requires in
    let heap = ap (λ (r : Room). r.heap) c.deref.ensures in
    let told = subst (λ h. Told h (g.C.PassCall.task c.args.call) s.lent.thing c.make-outcome.new.pass c.make-outcome.result) heap c.make-outcome.ensures.told in
    told_within _ s _ _ _ c.in-Seat.is refl refl rested.seated.kept.room told
