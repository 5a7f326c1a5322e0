use Rattle.std.proofs.Common.{◌≡◌, ◌∷◌, [], ◌++◌, map, length, vec_len, Some, sym, ap, ◌∙◌, append_assoc, length-append, arith, rules}
use Rattle.std.proofs.lemmas.List.{length_push}
use mathlib.Core.List.{map-append}
use Rattle.std.proofs.lemmas.Grind.{common_steps}
use Rattle.lending.proofs.Laws.{no_none, same_things}
use Rattle.lending.proofs.slots.out_of_slots.Goals as goal

pub loop-slot-init : goal.loop-slot-init
loop-slot-init g c =
    let counted : vec_len c.args.things ≡ length c.args.things.items = c.args.things.ok.0 in
    let empty = ap length c.requires.empty in
    let slots : vec_len c.args.slots ≡ length c.args.slots.items = c.args.slots.ok.0 in
    let room = c.requires.room in
    record {
      whole = c.into_iter-slot-iterator.ensures.into_iter_gives.0;
      items = λ xs e. ap (map Some) c.requires.empty;
      len = omega (arith, counted, empty);
      room = omega (arith, slots, room);
    }

pub push_reserved-requires : goal.push_reserved-requires
push_reserved-requires g c =
    let inv = c.loop-slot.invariant in
    let before = c.loop-slot.yielded in
    let left = c.in-Some.slot ∷ c.next.new.self.rest.items in
    let all = ap length (ap (λ l. before ++ l) (sym c.in-Some.ensures.steps.0) ∙ inv.whole) in
    let parts = length-append before left in
    omega (arith, all, parts, inv.len, inv.room)

pub loop-slot-preserved-in-Some-slot : goal.loop-slot-preserved-in-Some-slot
loop-slot-preserved-in-Some-slot g c =
    let inv = c.loop-slot.invariant in
    let before = c.loop-slot.yielded in
    let slot = c.in-Some.slot in
    let pushed = c.push_reserved.ensures in
    let len = inv.len in
    let room = inv.room in
    let more = length_push before slot in
    record {
      whole = append_assoc before (slot ∷ []) c.next.new.self.rest.items ∙ ap (λ l. before ++ l) (sym c.in-Some.ensures.steps.0) ∙ inv.whole;
      items = λ xs e. ap (map Some) pushed.items ∙ map-append Some c.loop-slot.things.items (c.in-Some-slot.thing ∷ [])
          ∙ λ i. inv.items xs e i ++ sym c.in-Some-slot.is i ∷ [];
      len = omega (arith, pushed.len, len, more);
      room = omega (arith, room, pushed.capacity);
    }

pub loop-slot-preserved : goal.loop-slot-preserved
loop-slot-preserved g c =
    let inv = c.loop-slot.invariant in
    let before = c.loop-slot.yielded in
    let after = c.next.new.self.rest.items in
    let was : c.loop-slot.slot-iterator.rest.items ≡ c.in-Some.slot ∷ after = search rules in
    record {
      whole = grind (arith, common_steps);
      items = λ xs e. absurd (no_none before after xs (ap (λ x. before ++ x ∷ after) (sym c.in_default.is) ∙ ap (λ l. before ++ l) (sym was) ∙ inv.whole ∙ e));
      len = grind (arith, common_steps);
      room = inv.room;
    }

pub returns : goal.returns
returns g c = λ xs e.
    let all : c.loop-slot.yielded ≡ c.args.slots.items = grind (arith, common_steps) in
    same_things _ xs (c.loop-slot.invariant.items xs e ∙ all ∙ e)
