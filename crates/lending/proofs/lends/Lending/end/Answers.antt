use Rattle.std.proofs.Common.{◌≡◌, ℕ, ◌+◌, ◌<◌, length, refl, sym, ap, ◌∙◌, subst, vec_len, arith}
use Rattle.std.specs.Slots.{slots_items, slots_filled, slots_counts, slots_len, IsFull}
use Rattle.lending.proofs.Laws.{emptied, none_yet, still_full, at_last, Goes, goes_on, goes_on_with}
use Rattle.lending.proofs.lends.Lending.end.Goals.{in-Some, in_default}
use Rattle.lending.proofs.lends.Lending.end.Goals as goal

pub loop-i-init : goal.loop-i-init
loop-i-init g c =
    let n = c.slot_count-count.ensures in
    let counted : vec_len c.args.things ≡ length c.args.things.items = c.args.things.ok.0 in
    let empty = ap length c.requires.empty in
    let room = c.requires.room in
    record {
      words = refl;
      items = refl;
      len = sym n;
      taken = λ k lt. absurd (omega (arith, lt));
      full = λ k low lt. c.close-closed.ensures.values.1 k low (subst (λ (m : ℕ). k < m) n lt);
      room = (omega (arith, counted, empty), omega (arith, room, n, c.close-closed.ensures.counts.1));
      so_far = none_yet (g.P.LendRule.may_lie c.args.self.table.shared.key) c.args.things.items c.requires.empty;
    }

pub take_home-requires-clause-word : goal.take_home-requires-clause-word
take_home-requires-clause-word g c =
    let words = c.close-closed.ensures.counts.0 in
    let slots = c.close-closed.ensures.counts.1 in
    let sized = c.args.self.sized in
    let more = c.loop-i-test.true in
    let inside : c.loop-i.i < slots_len c.close-closed.result.words = omega (arith, c.slot_count-count.ensures, words, slots, sized, more) in
    subst (λ ws. (c.loop-i.i < slots_len ws) × IsFull ws) (sym c.loop-i.invariant.words) (inside, c.close-closed.ensures.values.0)

pub take_home-requires-clause-slot : goal.take_home-requires-clause-slot
take_home-requires-clause-slot g c =
    let more = c.loop-i-test.true in
    (omega (arith, more, c.loop-i.invariant.len), c.loop-i.invariant.full c.loop-i.i (omega arith) more)

pub loop-i-preserved : goal.loop-i-preserved
loop-i-preserved g c =
    let inv = c.loop-i.invariant in
    let others = c.take_home.ensures.others in
    let f = slots_filled c.loop-i.closed.slots in
    let inside = slots_counts c.loop-i.closed.slots in
    let is = g.P.LendRule.may_lie c.args.self.table.shared.key in
    let i = c.loop-i.i in
    let n = c.slot_count-count.result in
    let so : Goes is i n c.loop-i.things = (inv.room, inv.so_far) in
    let goes : Goes is (i + 1) n c.match-take_home.things = elim c.match-take_home.branch [
      | in-Some w ↦
          let pushed = w.push_reserved.ensures in
          let here = at_last is _ _ _ _ i w.in-Some.thing c.close-closed.ensures.values.2 (ap slots_items inv.words) inv.items
          w.in-Some.ensures.home in
          goes_on_with is i n c.loop-i.things w.push_reserved.new.self _ w.in-Some.thing w.things-is so here pushed.items pushed.len pushed.capacity
      | in_default w ↦ goes_on is i n c.loop-i.things _ w.things-is so
    ] in
    record {
      words = others.3 ∙ inv.words;
      items = others.0 ∙ inv.items;
      len = others.2 ∙ inv.len;
      taken = emptied f _ i (let a = inside.1 in let b = inv.len in let e = c.loop-i.auto.i-end in let d = c.loop-i-test.true in
          omega (arith, a, b, e, d)) others.1 inv.taken;
      full = still_full f _ i n others.1 inv.full;
      room = goes.0;
      so_far = goes.1;
    }

pub free-requires : goal.free-requires
free-requires g c = λ k lt.
    c.loop-i.invariant.taken k (omega (arith, lt, c.loop-i.invariant.len, c.loop-i-test.false))

pub returns-then-len-count-clause-all : goal.returns-then-len-count-clause-all
returns-then-len-count-clause-all g c =
    let here : vec_len c.loop-i.things ≡ c.slot_count-count.result = sym c.len.ensures ∙ c.if-len-count.true in
    let counted : vec_len c.loop-i.things ≡ length c.loop-i.things.items = c.loop-i.things.ok.0 in
    let over = c.loop-i-test.false in
    let within = c.loop-i.auto.i-end in
    (here ∙ c.slot_count-count.ensures ∙ c.close-closed.ensures.counts.1, c.loop-i.invariant.so_far.all (omega (arith, here, counted, over, within)))

pub returns-else-len-count-clause-some : goal.returns-else-len-count-clause-some
returns-else-len-count-clause-some g c =
    let n = c.slot_count-count.ensures in
    let slots = c.close-closed.ensures.counts.1 in
    let within = c.loop-i.auto.i-end in (
      omega (arith, n, slots, c.len.ensures, c.if-len-count.false, c.loop-i.invariant.room.0, within),
      λ j y e.
          let k = c.loop-i.invariant.so_far.some j y e in
          (k.0, omega (arith, k.1, within, n, slots), k.2),
    )
