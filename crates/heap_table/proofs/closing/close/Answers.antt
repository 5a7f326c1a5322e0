use Rattle.std.proofs.Common.{◌≡◌, ℕ, List, [], ◌∷◌, ◌++◌, refl, sym, ap, ◌∙◌, subst, arith, rules, take, length}
use Rattle.std.specs.Slots.{slots_items}
use Rattle.core_world.specs.Threads.ThreadView.{ThreadView}
use Rattle.core_law.specs.Logic.{Heap}
use Rattle.atomic_table.specs.Table.{Me}
use Rattle.heap_table.specs.Layout.{word_count}
use mathlib.Core.List.{map-append}
use Rattle.std.proofs.lemmas.Grind.{common_steps}
use Rattle.heap_table.specs.Kept.{limit_by}
use Rattle.heap_table.specs.Cells.{cells_shown}
use Rattle.heap_table.specs.Ruled.{heap_in, only}
use Rattle.heap_table.specs.Seen.{HeapSeen, PassSeen, LastWorld, knowns, page_of, pages_of}
use Rattle.heap_table.specs.inner.Seen.{AllOf}
use Rattle.heap_table.proofs.AtLast.{copies, final_as, law_as, all_yielded, all_of, page_is, all_left}
use Rattle.heap_table.proofs.BiasesAtEnd.{biases_ended, biases_stuck}
use Rattle.heap_table.proofs.Legal.{logs_legal_at_last, stamps_exact_at_last, still_at_last}
use Rattle.heap_table.proofs.Seats.{comes, joins}
use Rattle.heap_table.proofs.closing.close.Goals as goal

pub load_new_seat-requires : goal.load_new_seat-requires
load_new_seat-requires c = (omega (arith, c.heap.invariant.1), comes _ _ _)

pub loop-pass-init : goal.loop-pass-init
loop-pass-init c =
    let mine = subst (λ (h : HeapSeen). AllOf h.table c.args.passes) (sym c.heap.view_is) (all_of c.args.heap c.args.passes c.requires.passes) in
    record {
      seat = search rules;
      whole = search rules;
      mine = subst (AllOf c.heap.inside.words.shared.table_id) (sym (c.into_iter-pass-iterator.ensures.into_iter_gives.0 ∙ c.into_vec-pass-items.ensures)) mine;
      logs = search rules;
      shots = search rules;
      counts = search rules;
      len = (let e = c.heap.inside.spare.empty in let l = c.heap.inside.spare.logs.ok in let s = c.heap.inside.spare.shots.ok in let k =
          c.heap.inside.spare.counts.ok in (omega (arith, l, ap length e.1), omega (arith, s, ap length e.2), omega (arith, k, ap length e.3)));
      room = search rules;
    }

pub join_seat-requires : goal.join_seat-requires
join_seat-requires c =
    let inv = c.loop-pass.invariant in
    let step = c.in-Some.ensures.steps.0 in
    let mine = subst (AllOf c.heap.inside.words.shared.table_id) step inv.mine in (
      inv.seat.0,
      ap (λ (p : PassSeen). p.table) c.pass.view_is ∙ mine.0,
      ap (λ (m : Me (Unit {0}) (List ThreadView)). m.1) c.pass.invariant.0,
      omega (arith, c.heap.invariant.1),
      joins _ _ _ _ _,
    )

pub loop-pass-preserved : goal.loop-pass-preserved
loop-pass-preserved c =
    let inv = c.loop-pass.invariant in
    let view = c.pass.view_is in
    let m = c.pass.inside.mirror in
    let page : page_of c.in-Some.pass ≡ m.log.items =
    ap page_of (sym view) ∙ page_is m (record {
      table = c.pass.inside.seat.table_id;
      known = only c.pass.inside.seat.me.0;
      limit = limit_by m.keeps m.given m.room;
      room = m.room;
      home = m.home;
      classes = m.classes;
      first = m.first;
      threads = m.shots.threads;
      objects = m.shots.objects;
      cut = m.shots.draft.cut.items;
      cells = cells_shown m.shots.draft.cells.items;
    }) c.pass.invariant.1 refl refl in
    record {
      seat = grind (arith, common_steps);
      whole = grind (arith, common_steps);
      mine = search rules;
      logs = c.push_reserved.ensures.items ∙ (λ i. inv.logs i ++ (c.of.ensures ∙ sym page) i ∷ [])
          ∙ sym (map-append page_of c.loop-pass.yielded (c.in-Some.pass ∷ []));
      shots = grind (arith, common_steps);
      counts = grind (arith, common_steps);
      len = grind (arith, common_steps);
      room = search rules;
    }

pub loop-i-preserved : goal.loop-i-preserved
loop-i-preserved c =
    let p = c.push_reserved-in-loop-i.ensures in
    record {
      copied = p.items ∙ copies _ _ c.loop-i.i c.word.result c.word.ensures c.loop-i.invariant.copied;
      room = omega (arith, p.capacity, c.loop-i.invariant.room);
    }

pub returns-clause-world : goal.returns-clause-world
returns-clause-world c =
    let inv = c.loop-pass.invariant in
    let y : c.loop-pass.yielded ≡ c.args.passes = (let ok = c.loop-pass.pass-iterator.rest.ok in
    let none = c.in-None.ensures.steps.0 in all_yielded _ _ _ inv.whole (omega (arith, ok, none))) in
    let setting : heap_in c.heap.inside.setting ≡ c.args.heap.heap = ap (λ (h : HeapSeen). h.heap) c.heap.view_is in
    let i : c.loop-i.i ≡ c.word_count-count.result = omega (arith, c.loop-i.auto.i-end, c.loop-i-test.false) in
    subst (λ (l : List ℕ). LastWorld c.args.heap.heap l (knowns c.args.passes)) (sym c.of-2.ensures)
    (final_as c.args.heap.heap _ _ _ (knowns c.args.passes) _ _ _ c.word_count-count.result
    (ap heap_in c.heap.invariant.0 ∙ setting)
    (ap (λ (m : Me (Unit {0}) (List ThreadView)). m.0) inv.seat.1 ∙ ap knowns y)
    c.close_with-closed.ensures.values.2
    (c.word_count-count.ensures ∙ c.heap.invariant.1 ∙ ap (λ (b : Heap). word_count b.shape) setting)
    (c.loop-i.invariant.copied ∙ ap (λ (n : ℕ). take n (slots_items c.close_with-closed.result.words)) i))

pub returns-clause-logs : goal.returns-clause-logs
returns-clause-logs c =
    let inv = c.loop-pass.invariant in
    let y : c.loop-pass.yielded ≡ c.args.passes = (let ok = c.loop-pass.pass-iterator.rest.ok in
    let none = c.in-None.ensures.steps.0 in all_yielded _ _ _ inv.whole (omega (arith, ok, none))) in
    c.of-3.ensures ∙ inv.logs ∙ ap pages_of y

pub returns-clause-whole : goal.returns-clause-whole
returns-clause-whole c = λ none. returns-clause-logs c ∙ all_left c.args.heap c.args.passes c.requires.passes none

pub returns-clause-legal : goal.returns-clause-legal
returns-clause-legal c = logs_legal_at_last c.args.heap.heap _ c.args.passes (returns-clause-world c) c.requires.order.0 c.requires.order.1

pub returns-clause-law : goal.returns-clause-law
returns-clause-law c = law_as c.args.heap.heap _ _ _ _ _
    (ap heap_in c.heap.invariant.0 ∙ ap (λ (h : HeapSeen). h.heap) c.heap.view_is) c.close_with-closed.ensures.values.2

pub returns-clause-stamps : goal.returns-clause-stamps
returns-clause-stamps c =
    stamps_exact_at_last c.args.heap.heap _ c.args.passes (returns-clause-world c) c.requires.order.0 c.requires.order.1 (returns-clause-law c)

pub returns-clause-still : goal.returns-clause-still
returns-clause-still c = still_at_last c.args.heap.heap _ c.args.passes
    (returns-clause-world c) c.requires.order.0 c.requires.order.1 c.requires.stopped c.requires.quiet

pub returns-clause-biases : goal.returns-clause-biases
returns-clause-biases c = λ nothing.
    biases_ended c.args.heap.heap _ c.args.passes (returns-clause-world c) c.requires.order.0 c.requires.order.1 c.requires.quiet nothing

pub returns-clause-biases_stuck : goal.returns-clause-biases_stuck
returns-clause-biases_stuck c = λ nothing.
    biases_stuck c.args.heap.heap _ c.args.passes (returns-clause-world c) c.requires.order.0 c.requires.order.1 c.requires.quiet nothing
