use Rattle.std.proofs.Common.{◌≡◌, ◌∷◌, [], ◌++◌, length, vec_len, Some, sym, ap, ◌∙◌, append_assoc, length-append, arith}
use Rattle.std.proofs.lemmas.List.{length_push}
use mathlib.Core.List.{map-append}
use Rattle.lending.proofs.slots.into_slots.Goals as goal

pub loop-thing-init : goal.loop-thing-init
loop-thing-init g c =
    let counted : vec_len c.args.slots ≡ length c.args.slots.items = c.args.slots.ok.0 in
    let empty = ap length c.requires.empty in
    let things : vec_len c.args.things ≡ length c.args.things.items = c.args.things.ok.0 in
    let room = c.requires.room in
    record {
      whole = c.into_iter-thing-iterator.ensures.into_iter_gives.0;
      items = c.requires.empty;
      len = omega (arith, counted, empty);
      room = omega (arith, things, room);
    }

pub push_reserved-requires : goal.push_reserved-requires
push_reserved-requires g c =
    let inv = c.loop-thing.invariant in
    let before = c.loop-thing.yielded in
    let left = c.in-Some.thing ∷ c.next.new.self.rest.items in
    let all = ap length (ap (λ l. before ++ l) (sym c.in-Some.ensures.steps.0) ∙ inv.whole) in
    let parts = length-append before left in
    omega (arith, all, parts, inv.len, inv.room)

pub loop-thing-preserved : goal.loop-thing-preserved
loop-thing-preserved g c =
    let inv = c.loop-thing.invariant in
    let before = c.loop-thing.yielded in
    let thing = c.in-Some.thing in
    let pushed = c.push_reserved.ensures in
    let len = inv.len in
    let room = inv.room in
    let more = length_push before thing in
    record {
      whole = append_assoc before (thing ∷ []) c.next.new.self.rest.items ∙ ap (λ l. before ++ l) (sym c.in-Some.ensures.steps.0) ∙ inv.whole;
      items = pushed.items ∙ ap (λ l. l ++ Some thing ∷ []) inv.items ∙ sym (map-append Some before (thing ∷ []));
      len = omega (arith, pushed.len, len, more);
      room = omega (arith, room, pushed.capacity);
    }
