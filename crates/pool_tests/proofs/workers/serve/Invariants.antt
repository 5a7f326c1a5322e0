use Rattle.std.proofs.Common.{◌≡◌}
use Rattle.pool_tests.proofs.workers.serve.Given as goal

abbrev pub invariant-loop : goal.invariant-loop
invariant-loop g l = (l.seat.table_id ≡ l.initial.seat.table_id) × (l.seat.me ≡ l.initial.seat.me)

abbrev pub invariant-loop-place : goal.invariant-loop-place
invariant-loop-place g l = (l.seat.table_id ≡ l.initial.seat.table_id) × (l.seat.me ≡ l.initial.seat.me)
