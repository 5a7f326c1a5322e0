use Rattle.std.proofs.Common.{◌≡◌, ◌+◌, ◌-◌, ◌||◌, suc, List, [], None, All, Bool, true, false, length, vec_len, refl, ap, ◌∙◌, subst, arith, inl, ⊎_elim}
use Rattle.turn_pool.specs.Table.{Me}
use Rattle.turn_pool.specs.declared.rule.SeatView.{SeatView}
use Rattle.turn_pool.specs.Pool.{seat_view, all_parts}
use Rattle.thread_interp.specs.Runners.{RunnerSeen}
use Rattle.run_rounds.specs.declared.workers.Worker.{Worker}
use Rattle.run_rounds.proofs.workers.dismiss.Goals as goal

pub dismiss-requires-clause-table : goal.dismiss-requires-clause-table
dismiss-requires-clause-table g c =
    let inv = c.loop-worker.invariant in
    let all = subst (λ (l : List Worker). All (λ w. (w.seat.table_id ≡ c.args.pool.now.slots.shared.table_id) ×
    (w.seat.me ≡ (seat_view 1 None true, []))) l) c.in-Some.ensures.steps.0 inv.rest in
    (inv.table, (all 0 c.in-Some.worker (omega arith)).0)

pub dismiss-requires-clause-knows : goal.dismiss-requires-clause-knows
dismiss-requires-clause-knows g c =
    let before = length c.loop-worker.worker-iterator.rest.items in
    let own = c.loop-worker.own.me in
    ⊎_elim
    (λ (x : own ≡ (seat_view (all_parts - before) None true, [])). (all_parts - before, true, x))
    (λ (x : (before ≡ vec_len c.args.workers) × (own ≡ (seat_view (all_parts - before) None false, []))). (all_parts - before, false, x.1))
    c.loop-worker.invariant.known

pub dismiss-requires-clause-worker : goal.dismiss-requires-clause-worker
dismiss-requires-clause-worker g c =
    let all = subst (λ (l : List Worker). All (λ w. (w.seat.table_id ≡ c.args.pool.now.slots.shared.table_id) ×
    (w.seat.me ≡ (seat_view 1 None true, []))) l) c.in-Some.ensures.steps.0 c.loop-worker.invariant.rest in
    (true, (all 0 c.in-Some.worker (omega arith)).1)

pub loop-worker-preserved : goal.loop-worker-preserved
loop-worker-preserved g c =
    let inv = c.loop-worker.invariant in
    let step = c.in-Some.ensures.steps.0 in
    let before = length c.loop-worker.worker-iterator.rest.items in
    let left : List Worker = c.next.new.self.rest.items in
    let own = c.loop-worker.own.me in
    let lens : before ≡ suc (length left) = ap length step in
    let all = subst (λ (l : List Worker). All (λ w. (w.seat.table_id ≡ c.args.pool.now.slots.shared.table_id) ×
    (w.seat.me ≡ (seat_view 1 None true, []))) l) step inv.rest in
    let theirs : c.in-Some.worker.seat.me.0.over ≡ true = ap (λ (m : Me RunnerSeen SeatView). m.0.over) (all 0 c.in-Some.worker (omega arith)).1 in
    let e = c.dismiss.ensures.seat in
    let after : (o : Bool) → own.0.parts ≡ all_parts - before → own.0.over ≡ o → (o || c.in-Some.worker.seat.me.0.over) ≡ true
    → c.dismiss.new.seat.me ≡ (seat_view (all_parts - length left) None true, []) = λ o p is or.
    let more : own.0.parts + 1 ≡ all_parts - length left = (let f = inv.few in omega (arith, p, lens, f)) in
    let over = ap (λ (b : Bool). b || c.in-Some.worker.seat.me.0.over) is ∙ or in
    e.1 ∙ (λ i. (seat_view (more i) None (over i), [])) in
    record {
      table = e.0 ∙ inv.table;
      rest = λ k d lt. all (suc k) d (omega (arith, lt));
      few = (let f = inv.few in omega (arith, lens, f));
      known = inl (⊎_elim
          (λ (x : own ≡ (seat_view (all_parts - before) None true, [])).
          after true (ap (λ (m : Me RunnerSeen SeatView). m.0.parts) x) (ap (λ (m : Me RunnerSeen SeatView). m.0.over) x) refl)
          (λ (x : (before ≡ vec_len c.args.workers) × (own ≡ (seat_view (all_parts - before) None false, []))).
          after false (ap (λ (m : Me RunnerSeen SeatView). m.0.parts) x.1) (ap (λ (m : Me RunnerSeen SeatView). m.0.over) x.1) theirs)
          inv.known);
    }
