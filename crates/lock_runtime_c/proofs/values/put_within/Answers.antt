use Rattle.std.proofs.Common.{◌+◌, ◌≤◌, arith, ap, refl, subst, sym, ◌∙◌}
use Rattle.core_world.specs.declared.heap_call.HeapCall.TheVariants.{Put}
use Rattle.heap_table.specs.Kept.{all_holds}
use Rattle.heap_table.specs.Resting.{Rests}
use Rattle.heap_table.specs.Seen.{HeapSeen}
use Rattle.lock_runtime_c.specs.ByHandle.{Within}
use Rattle.lock_runtime_c.specs.Rest.{IsAtRest, RestsWithin}
use Rattle.lock_runtime_c.specs.declared.inner.Inner.{Inner}
use Rattle.lock_runtime_c.specs.declared.inner.Room.{Room}
use Rattle.lock_runtime_c.proofs.QuickCalls.{IsOver, few_holds, put_open, put_over, may_put}
use Rattle.lock_runtime_c.proofs.Seated.{told_whole}
use Rattle.lock_runtime_c.proofs.values.put_within.Goals as goal

pub put-requires : goal.put-requires
put-requires c =
    let s = c.in-Seat.seat in
    let rested : IsAtRest s = subst RestsWithin c.in-Seat.is c.requires in
    let rests = subst (λ (h : HeapSeen). Rests h s.lent.thing) (sym (ap (λ (r : Room). r.heap) c.deref.ensures)) rested.seated.kept.rests in
    let opens = c.is_open.ensures c.if-not-is_open.false in
    let few = few_holds _ s.lent.thing rests in
    let roomy : all_holds s.lent.thing.known.holds + 2 ≤ 66 = omega (arith, few) in
    let there = sym c.of_put.ensures ∙ c.in-None.is in
    may_put _ s.lent.thing c.args.object 66 opens rests c.args.slot c.args.value roomy there

pub returns : goal.returns
returns c =
    let s = c.in-Seat.seat in
    let rested : IsAtRest s = subst RestsWithin c.in-Seat.is c.requires in
    let heap = ap (λ (r : Room). r.heap) c.deref.ensures in
    let rests = subst (λ (h : HeapSeen). Rests h s.lent.thing) (sym heap) rested.seated.kept.rests in
    let opens = c.is_open.ensures c.if-not-is_open.false in
    let few = few_holds _ s.lent.thing rests in
    let roomy : all_holds s.lent.thing.known.holds + 2 ≤ 66 = omega (arith, few) in
    let there = sym c.of_put.ensures ∙ c.in-None.is in
    let says = c.put.ensures in
    let over = put_over _ s.lent.thing c.put.new.pass c.args.object c.args.slot c.args.value c.put.result
    (may_put _ s.lent.thing c.args.object 66 opens rests c.args.slot c.args.value roomy there)
    (put_open _ s.lent.thing c.args.object 66 opens rests c.args.slot c.args.value roomy there) says.rests says.limit says.made in
    let here = subst (λ (h : HeapSeen). IsOver h (Put c.args.object c.args.slot c.args.value) s.lent.thing c.put.new.pass c.put.result) heap over in
    told_whole _ _ s _ (Put c.args.object c.args.slot c.args.value) c.put.result c.in-Seat.is refl rested refl refl refl refl
    (subst (λ (h : HeapSeen). Rests h c.put.new.pass) heap says.rests) here.free here.told here.room

-- or it hasn't begun
pub returns-then-not-is_open : goal.returns-then-not-is_open
returns-then-not-is_open c =
    let rested : IsAtRest c.in-Seat.seat = subst RestsWithin c.in-Seat.is c.requires in (
      record { seated = rested.seated; free = rested.free },
      λ z out became. subst (λ (x : Inner). Within x z (Put c.args.object c.args.slot c.args.value) out) (sym c.in-Seat.is) became,
    )

pub returns-in_default-of_put : goal.returns-in_default-of_put
returns-in_default-of_put c =
    let rested : IsAtRest c.in-Seat.seat = subst RestsWithin c.in-Seat.is c.requires in (
      record { seated = rested.seated; free = rested.free },
      λ z out became. subst (λ (x : Inner). Within x z (Put c.args.object c.args.slot c.args.value) out) (sym c.in-Seat.is) became,
    )
