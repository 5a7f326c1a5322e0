use Rattle.std.proofs.Common.{◌≡◌, ◌+◌, ◌%◌, ◌^◌, ◌<◌, ℕ, List, length, ap, sym, ◌∙◌, subst, ◌≤◌}
use Rattle.atomic_table.specs.Table.{Me}
use Rattle.core_world.specs.Threads.ThreadView.{ThreadView}
use Rattle.core_world.specs.declared.word_id.WordId.TheVariants.{Hold}
use Rattle.core_world.specs.Clauses.Lengths.{log_limit}
use Rattle.core_world.specs.Steps.{known_after}
use Rattle.core_world.specs.There.{HasPlace}
use Rattle.core_law.specs.Logic.{Heap}
use Rattle.heap_table.specs.Cells.{cells_shown}
use Rattle.heap_table.specs.Drafts.{IsLeft}
use Rattle.heap_table.specs.Kept.{LogHasRoom}
use Rattle.heap_table.specs.Layout.{place_of}
use Rattle.heap_table.specs.Ruled.{only, Stepped}
use Rattle.heap_table.specs.inner.Ruled.{MayStep}
use Rattle.heap_table.specs.Seen.{HeapSeen, PassSeen}
use Rattle.heap_table.proofs.Follow.{few_given, few_made, few_installed, room_in_page}
use Rattle.heap_table.proofs.Knows.{same_thread, goes_on, is_there, real_after}
use Rattle.heap_table.proofs.Places.{placed}
use Rattle.heap_table.proofs.Stamps.{short, stamp_fits}
use Rattle.heap_table.proofs.heap.Heap.step.Goals as goal

pub step_in_table-found-requires-clause-may : goal.step_in_table-found-requires-clause-may
step_in_table-found-requires-clause-may c =
    let b = ap (λ (h : HeapSeen). h.heap) c.self.view_is in
    let k = ap (λ (p : PassSeen). p.known) c.pass.view_is in
    let r = c.requires in
    subst (λ (x : Heap × ThreadView). MayStep x.0 x.1 c.args.plan) (λ i. (sym b i, sym k i)) (record {
      within = r.heap.within;
      next = r.next;
      at = (is_there _ _ _ r.next r.heap.within r.heap.real).0;
    })

pub follow-requires-clause-at : goal.follow-requires-clause-at
follow-requires-clause-at c = let r = c.requires in placed _ _ (is_there _ _ _ r.next r.heap.within r.heap.real).0

pub follow-requires-clause-shots : goal.follow-requires-clause-shots
follow-requires-clause-shots c =
    let r = c.requires in
    let knew = ap (λ (p : PassSeen). p.known) c.pass.view_is in
    subst (λ xs. HasPlace c.args.plan.own (length xs)) (ap (λ (k : ThreadView). k.shots) (sym knew) ∙ c.pass.invariant.1.shots)
    (is_there _ _ _ r.next r.heap.within r.heap.real).1

pub follow-requires-clause-stamp : goal.follow-requires-clause-stamp
follow-requires-clause-stamp c = stamp_fits _ _ _ _ _ c.step_in_table-found.ensures.stepped c.pass.invariant.1.last

pub follow-requires-clause-made : goal.follow-requires-clause-made
follow-requires-clause-made c = few_made _ _ c.pass.invariant.1

pub follow-requires-clause-draws : goal.follow-requires-clause-draws
follow-requires-clause-draws c = few_installed _ _ c.pass.invariant.1

pub follow-requires-clause-room : goal.follow-requires-clause-room
follow-requires-clause-room c =
    room_in_page _ _ _ _ _ _ c.pass.invariant.1.log
    (subst (λ (p : PassSeen). LogHasRoom c.args.plan.note p.known.log p.limit) (sym c.pass.view_is) c.requires.room)

pub returns : goal.returns
returns c =
    let h : Heap = c.args.self.now.heap in
    let k : ThreadView = c.args.pass.now.known in
    let view = c.pass.view_is in
    let fixed = c.follow.ensures.fixed in
    let heap = ap (λ (x : HeapSeen). x.heap) c.self.view_is in
    let knew = ap (λ (p : PassSeen). p.known) view in
    let known : only c.step_in_table-found.new.seat.me.0 ≡ known_after h.shape h.start c.args.plan c.step_in_table-found.result k =
    ap (λ (x : Me (Unit {0}) (List ThreadView)). only x.0) c.step_in_table-found.ensures.seat.1
    ∙ λ i. known_after (heap i).shape (heap i).start c.args.plan c.step_in_table-found.result (knew i) in
    let stepped = subst (λ (x : Heap × ThreadView). Stepped x.0 x.1 c.args.plan c.step_in_table-found.result)
    (λ i. (heap i, knew i)) c.step_in_table-found.ensures.stepped in
    let t = ap (λ (x : ThreadView). x.thread) known ∙ same_thread h.shape h.start c.args.plan c.step_in_table-found.result k in record {
      heap = record {
        table = c.step_in_table-found.ensures.seat.0 ∙ ap (λ (p : PassSeen). p.table) view ∙ c.requires.heap.table;
        room = fixed.0 ∙ ap (λ (p : PassSeen). p.room) view ∙ c.requires.heap.room;
        within = subst (λ (n : ℕ). n < h.shape.threads) (sym t) c.requires.heap.within;
        home = c.follow.ensures.home ∙ ap (λ (p : PassSeen). p.home) view ∙ c.requires.heap.home ∙ ap (λ (n : ℕ). place_of h.shape (Hold n 0)) (sym t);
        classes = fixed.2 ∙ ap (λ (p : PassSeen). p.classes) view ∙ c.requires.heap.classes;
        first = fixed.3 ∙ ap (λ (p : PassSeen). p.first) view ∙ c.requires.heap.first ∙ ap (λ (n : ℕ). (h.start + n) % 2 ^ 32) (sym t);
        threads = fixed.4 ∙ ap (λ (p : PassSeen). p.threads) view ∙ c.requires.heap.threads;
        objects = fixed.5 ∙ ap (λ (p : PassSeen). p.objects) view ∙ c.requires.heap.objects;
        real = real_after h k c.args.plan c.step_in_table-found.result _ c.requires.heap.real stepped known;
      };
      limit = fixed.1 ∙ ap (λ (p : PassSeen). p.limit) view;
      draft = subst (λ (p : PassSeen). IsLeft c.args.plan.own p.cut p.cells c.follow.new.self.shots.draft.cut.items
          (cells_shown c.follow.new.self.shots.draft.cells.items)) view c.follow.ensures.draft;
      known = known;
      stepped = stepped;
      comes = goes_on h k c.args.plan c.step_in_table-found.result _ stepped c.requires.heap.within known;
    }

pub follow-requires-clause-few : goal.follow-requires-clause-few
follow-requires-clause-few c = few_given _ _ c.pass.invariant.1
    (subst (λ (p : PassSeen). length p.known.log ≤ log_limit) (sym c.pass.view_is) (short c.args.self.now c.args.pass.now c.requires.heap))
