use Rattle.std.proofs.Common.{ap, inl, refl, subst, sym, ◌∙◌}
use Rattle.core_world.specs.declared.heap_call.HeapCall.TheVariants.{Poll}
use Rattle.heap_table.specs.Resting.{Rests}
use Rattle.heap_table.specs.Seen.{HeapSeen}
use Rattle.lock_runtime_c.specs.Rest.{IsAtRest, RestsWithin}
use Rattle.lock_runtime_c.specs.declared.inner.Room.{Room}
use Rattle.lock_runtime_c.proofs.QuickCalls.{HasPolled, may_poll, polled}
use Rattle.lock_runtime_c.proofs.Seated.{whole_within}
use Rattle.lock_runtime_c.proofs.polls.poll_within.Goals as goal

pub poll-requires : goal.poll-requires
poll-requires c =
    let s = c.in-Seat.seat in
    let rested : IsAtRest s = subst RestsWithin c.in-Seat.is c.requires in
    may_poll _ s.lent.thing (subst (λ (h : HeapSeen). Rests h s.lent.thing) (sym (ap (λ (r : Room). r.heap) c.deref.ensures)) rested.seated.kept.rests)
    (sym c.running.ensures ∙ c.if-not-running.false)

pub returns : goal.returns
returns c =
    let s = c.in-Seat.seat in
    let rested : IsAtRest s = subst RestsWithin c.in-Seat.is c.requires in
    let says = c.poll.ensures in
    let heap = ap (λ (r : Room). r.heap) c.deref.ensures in
    let before = subst (λ (h : HeapSeen). Rests h s.lent.thing) (sym heap) rested.seated.kept.rests in
    let came = polled _ s.lent.thing c.poll.new.pass c.poll.result before (sym c.running.ensures ∙ c.if-not-running.false) says.rests
    (record { run = says.run; says = says.says; stands = says.stands; others = says.others }) in
    whole_within (λ h p q. HasPolled h p q c.poll.result) ⊥ _ _ Poll _ (λ none. none) (λ h p q over. (over.rests, over.free, over.answer))
    (inl (
      s,
      _,
      c.in-Seat.is,
      refl,
      record {
        rested = rested;
        room = refl;
        place = refl;
        page = refl;
        flag = refl;
        came = subst (λ (h : HeapSeen). HasPolled h s.lent.thing c.poll.new.pass c.poll.result) heap came;
      },
    ))
