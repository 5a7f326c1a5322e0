use Rattle.std.proofs.Common.{◌≡◌, ◌<◌, None, [], false}
use Rattle.turn_pool.specs.Pool.{seat_view}
use Rattle.run_rounds.proofs.workers.serve.Given as goal

abbrev pub invariant-loop : goal.invariant-loop
invariant-loop g l =
    record {
      table : l.mine.table_id ≡ l.initial.mine.table_id;
      free : l.mine.me ≡ (seat_view 1 None false, []);
      next : l.next < 64;
    }
