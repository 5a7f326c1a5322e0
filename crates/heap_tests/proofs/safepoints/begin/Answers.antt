use Rattle.heap_table.proofs.Resting.{fresh_rests, if_ok}
use Rattle.heap_tests.proofs.safepoints.begin.Goals as goal

pub returns : goal.returns
returns c = if_ok c.begin.result (λ r h. (fresh_rests r.0.value 0 r.1.value h.0, fresh_rests r.0.value 1 r.2.value h.1)) c.begin.ensures.fresh
