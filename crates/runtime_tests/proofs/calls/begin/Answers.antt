use Rattle.heap_table.proofs.Resting.{fresh_rests, if_ok}
use Rattle.runtime_tests.proofs.calls.begin.Goals as goal

pub returns : goal.returns
returns c = if_ok c.fresh.result (λ r h. (fresh_rests r.0 0 r.1 h.0, fresh_rests r.0 1 r.2 h.1)) c.fresh.ensures
