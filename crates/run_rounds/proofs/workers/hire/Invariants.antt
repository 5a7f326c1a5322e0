use Rattle.std.proofs.Common.{◌≡◌, ◌≤◌, ◌-◌, All, None, [], false, vec_len, vec_capacity}
use Rattle.turn_pool.specs.Pool.{seat_view, all_parts}
use Rattle.run_rounds.proofs.workers.hire.Given as goal

abbrev pub invariant-loop-i : goal.invariant-loop-i
invariant-loop-i g l =
    record {
      table : l.own.table_id ≡ l.initial.own.table_id;
      len : vec_len l.workers ≡ l.i;
      room : l.count ≤ vec_capacity l.workers;
      free : l.own.me ≡ (seat_view (all_parts - l.i) None false, []);
      all : All (λ w. (w.seat.table_id ≡ l.pool.slots.shared.table_id) × (w.seat.me ≡ (seat_view 1 None false, []))) l.workers.items;
    }
