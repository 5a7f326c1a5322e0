use Rattle.std.proofs.Common.{◌+◌, sym, ap, ◌∙◌, arith, take, List}
use Rattle.std.specs.Slots.{slots_items, slots_filled, slots_counts}
use Rattle.turn_pool.proofs.Laws.{copies, emptied, still_full}
use Rattle.turn_pool.proofs.pool.unload.Goals as goal

pub loop-i-preserved : goal.loop-i-preserved
loop-i-preserved g c =
    let inv = c.loop-i.invariant in
    let t = c.take.ensures in
    let p = c.push_reserved.ensures in
    let f = slots_filled c.loop-i.closed.slots in
    let inside = slots_counts c.loop-i.closed.slots in
    record {
      items = t.others.0 ∙ inv.items;
      len = t.others.2 ∙ inv.len;
      so_far = p.items ∙ copies (slots_items c.loop-i.closed.slots) _ c.loop-i.i c.take.result t.value inv.so_far
          ∙ ap (λ (l : List g.row.T.Denot). take (c.loop-i.i + 1) l) (sym t.others.0);
      taken = emptied f _ c.loop-i.i (let a = inside.1 in let b = inv.len in let e = c.loop-i.auto.i-end in let d = c.loop-i-test.true in
          omega (arith, a, b, e, d)) t.others.1 inv.taken;
      full = still_full f _ c.loop-i.i c.slot_count-count.result t.others.1 inv.full;
      room = (let l = p.len in let r = inv.room.0 in omega (arith, l, r), let a = p.capacity in let b = inv.room.1 in omega (arith, a, b));
    }
