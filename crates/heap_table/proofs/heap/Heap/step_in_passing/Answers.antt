use Rattle.std.proofs.Common.{◌≡◌, ◌+◌, ◌%◌, ◌^◌, ◌<◌, ℕ, List, ap, sym, ◌∙◌, subst}
use Rattle.atomic_table.specs.Table.{Me}
use Rattle.core_world.specs.Threads.ThreadView.{ThreadView}
use Rattle.core_world.specs.declared.word_id.WordId.TheVariants.{Hold}
use Rattle.core_world.specs.Steps.{known_after}
use Rattle.core_law.specs.Logic.{Heap}
use Rattle.heap_table.specs.Cells.{cells_shown}
use Rattle.heap_table.specs.Drafts.{IsLeft}
use Rattle.heap_table.specs.Layout.{place_of}
use Rattle.heap_table.specs.Ruled.{only, Stepped}
use Rattle.heap_table.specs.inner.Ruled.{MayStep}
use Rattle.heap_table.specs.Seen.{HeapSeen, PassSeen}
use Rattle.heap_table.proofs.Knows.{same_thread, goes_on, is_there, real_after}
use Rattle.heap_table.proofs.heap.Heap.step_in_passing.Goals as goal

pub step_in_table-found-requires-clause-may : goal.step_in_table-found-requires-clause-may
step_in_table-found-requires-clause-may c =
    let b = ap (λ (h : HeapSeen). h.heap) c.self.view_is in
    let k = ap (λ (p : PassSeen). p.known) c.pass.view_is in
    let r = c.requires.can in
    subst (λ (x : Heap × ThreadView). MayStep x.0 x.1 c.args.plan) (λ i. (sym b i, sym k i)) (record {
      within = r.heap.within;
      next = r.next;
      at = (is_there _ _ _ r.next r.heap.within r.heap.real).0;
    })

pub returns : goal.returns
returns c =
    let h : Heap = c.args.self.now.heap in
    let k : ThreadView = c.args.pass.now.known in
    let view = c.pass.view_is in
    let fixed = c.follow_in_passing.ensures.fixed in
    let heap = ap (λ (x : HeapSeen). x.heap) c.self.view_is in
    let knew = ap (λ (p : PassSeen). p.known) view in
    let known : only c.step_in_table-found.new.seat.me.0 ≡ known_after h.shape h.start c.args.plan c.step_in_table-found.result k =
    ap (λ (x : Me (Unit {0}) (List ThreadView)). only x.0) c.step_in_table-found.ensures.seat.1
    ∙ λ i. known_after (heap i).shape (heap i).start c.args.plan c.step_in_table-found.result (knew i) in
    let stepped = subst (λ (x : Heap × ThreadView). Stepped x.0 x.1 c.args.plan c.step_in_table-found.result)
    (λ i. (heap i, knew i)) c.step_in_table-found.ensures.stepped in
    let t = ap (λ (x : ThreadView). x.thread) known ∙ same_thread h.shape h.start c.args.plan c.step_in_table-found.result k in record {
      heap = record {
        table = c.step_in_table-found.ensures.seat.0 ∙ ap (λ (p : PassSeen). p.table) view ∙ c.requires.can.heap.table;
        room = fixed.0 ∙ ap (λ (p : PassSeen). p.room) view ∙ c.requires.can.heap.room;
        within = subst (λ (n : ℕ). n < h.shape.threads) (sym t) c.requires.can.heap.within;
        home = c.follow_in_passing.ensures.home ∙ ap (λ (p : PassSeen). p.home) view ∙ c.requires.can.heap.home ∙ ap (λ (n : ℕ). place_of h.shape (Hold n 0)) (sym t);
        classes = fixed.2 ∙ ap (λ (p : PassSeen). p.classes) view ∙ c.requires.can.heap.classes;
        first = fixed.3 ∙ ap (λ (p : PassSeen). p.first) view ∙ c.requires.can.heap.first ∙ ap (λ (n : ℕ). (h.start + n) % 2 ^ 32) (sym t);
        threads = fixed.4 ∙ ap (λ (p : PassSeen). p.threads) view ∙ c.requires.can.heap.threads;
        objects = fixed.5 ∙ ap (λ (p : PassSeen). p.objects) view ∙ c.requires.can.heap.objects;
        real = real_after h k c.args.plan c.step_in_table-found.result _ c.requires.can.heap.real stepped known;
      };
      limit = fixed.1 ∙ ap (λ (p : PassSeen). p.limit) view;
      draft = subst (λ (p : PassSeen). IsLeft c.args.plan.own p.cut p.cells c.follow_in_passing.new.self.shots.draft.cut.items
          (cells_shown c.follow_in_passing.new.self.shots.draft.cells.items)) view c.follow_in_passing.ensures.draft;
      known = known;
      stepped = stepped;
      comes = goes_on h k c.args.plan c.step_in_table-found.result _ stepped c.requires.can.heap.within known;
    }
