use Rattle.std.proofs.Common.{◌≡◌, ◌<◌, List, [], All, None, true, false, length, vec_len, sym, ap, ◌∙◌, subst, arith}
use Rattle.std.proofs.lemmas.List.{with_items_is}
use Rattle.thread_interp.specs.Runners.{RunnerSeen}
use Rattle.turn_pool.specs.declared.rule.SeatView.{SeatView}
use Rattle.turn_pool.specs.declared.word.Word.TheVariants.{Ready}
use Rattle.turn_pool.specs.Pool.{seat_view}
use Rattle.turn_pool.specs.Table.{Me}
use Rattle.run_rounds.specs.declared.workers.Worker.{Worker}
use Rattle.run_rounds.proofs.Slotted.{as_called, as_course, over_as_called, all_lie, are_done}
use Rattle.run_rounds.proofs.workers.serve_all.Goals as goal

pub new-requires-clause-are : goal.new-requires-clause-are
new-requires-clause-are g c = λ i r e.
    let h = c.args.heap.now in
    let terms = c.args.terms.now in
    let p = terms.program.now in
    as_course g.C.Course.heap g.C.Course.program g.C.Course.fuel g.C.Course.tick h p terms.fuel terms.tick Ready i r c.requires.course
    (all_lie h p terms.fuel terms.tick c.args.runners.items c.requires.runners c.requires.timed i r e)

-- each worker comes back with its part, and knows that all is over
pub dismiss-requires-clause-workers : goal.dismiss-requires-clause-workers
dismiss-requires-clause-workers g c =
    let after : List Worker = c.for_each_mut.new.s in
    let len : length after ≡ vec_len c.hire-seats.result = c.for_each_mut.auto.s ∙ c.as_mut_slice.ensures.len in
    let table = c.in-Ok.pool.slots.shared.table_id in
    subst (λ (l : List Worker). All (λ w. (w.seat.table_id ≡ table) × (w.seat.me ≡ (seat_view 1 None true, []))) l)
    (sym (with_items_is c.hire-seats.result after len))
    (λ k d lt.
    let inside : k < length c.as_mut_slice.result.now = (let a = c.for_each_mut.auto.s in omega (arith, lt, a)) in
    let at = (c.for_each_mut.ensures k d inside).1 in
    let was = subst (λ (l : List Worker). All (λ w. (w.seat.table_id ≡ table) × (w.seat.me ≡ (seat_view 1 None false, []))) l)
    (sym c.as_mut_slice.ensures.value) c.hire-seats.ensures.workers k d inside in (
      ap (λ (w : Worker). w.seat.table_id) (sym at.left) ∙ at.call.0 ∙ ap (λ (w : Worker). w.seat.table_id) at.argument_is ∙ was.0,
      ap (λ (w : Worker). w.seat.me) (sym at.left) ∙ at.call.1,
    ))

pub returns : goal.returns
returns g c =
    let h = c.args.heap.now in
    let terms = c.args.terms.now in
    let p = terms.program.now in
    let rs = c.end.result.items in
    let over = c.end.ensures.over (ap (λ (m : Me RunnerSeen SeatView). m.0.over) c.dismiss.ensures.over) in
    are_done h p terms.fuel terms.tick rs (length c.args.runners.items)
    (sym c.end.result.ok.0 ∙ c.end.ensures.count ∙ c.in-Ok.ensures.ok.0 ∙ c.args.runners.ok.0)
    (λ i r e.
    let x = c.end.ensures.are i r e in
    (x.0, as_called g.C.Course.heap g.C.Course.program g.C.Course.fuel g.C.Course.tick h p terms.fuel terms.tick x.0 i r c.requires.course x.1))
    (over_as_called g.C.Course.heap g.C.Course.program g.C.Course.fuel g.C.Course.tick h p terms.fuel terms.tick rs c.requires.course over)

pub new-requires-clause-few : goal.new-requires-clause-few
new-requires-clause-few g c = c.requires.few

pub hire-seats-requires-clause-few : goal.hire-seats-requires-clause-few
hire-seats-requires-clause-few g c = c.requires.workers.1

pub hire-seats-requires-clause-table : goal.hire-seats-requires-clause-table
hire-seats-requires-clause-table g c = c.in-Ok.ensures.ok.1

pub hire-seats-requires-clause-free : goal.hire-seats-requires-clause-free
hire-seats-requires-clause-free g c = c.in-Ok.ensures.ok.2

pub dismiss-requires-clause-table : goal.dismiss-requires-clause-table
dismiss-requires-clause-table g c = c.hire-seats.ensures.table ∙ c.in-Ok.ensures.ok.1

pub end-requires-clause-table : goal.end-requires-clause-table
end-requires-clause-table g c = c.dismiss.ensures.table ∙ c.hire-seats.ensures.table ∙ c.in-Ok.ensures.ok.1

pub end-requires-clause-whole : goal.end-requires-clause-whole
end-requires-clause-whole g c = (true, c.dismiss.ensures.over)

pub end-requires-clause-empty : goal.end-requires-clause-empty
end-requires-clause-empty g c = c.requires.room.0

pub end-requires-clause-room : goal.end-requires-clause-room
end-requires-clause-room g c =
    omega (arith, c.in-Ok.ensures.ok.0, c.requires.room.1)
