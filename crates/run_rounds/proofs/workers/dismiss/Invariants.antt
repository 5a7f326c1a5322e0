use Rattle.std.proofs.Common.{◌≡◌, ◌⊎◌, ◌<◌, ◌-◌, All, None, [], true, false, length, vec_len}
use Rattle.turn_pool.specs.Pool.{seat_view, all_parts}
use Rattle.run_rounds.proofs.workers.dismiss.Given as goal

abbrev pub invariant-loop-worker : goal.invariant-loop-worker
invariant-loop-worker g l =
    record {
      table : l.own.table_id ≡ l.pool.slots.shared.table_id;
      rest : All (λ w. (w.seat.table_id ≡ l.pool.slots.shared.table_id) × (w.seat.me ≡ (seat_view 1 None true, []))) l.worker-iterator.rest.items;
      few : length l.worker-iterator.rest.items < 33;
      -- since the first came back the seat knows that all is over
      known : (l.own.me ≡ (seat_view (all_parts - length l.worker-iterator.rest.items) None true, []))
          ⊎ ((length l.worker-iterator.rest.items ≡ vec_len l.fn.workers)
          × (l.own.me ≡ (seat_view (all_parts - length l.worker-iterator.rest.items) None false, [])));
    }
