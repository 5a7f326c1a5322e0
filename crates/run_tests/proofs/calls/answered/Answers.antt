use Rattle.std.proofs.Common.{ap, sym, ◌∙◌}
use Rattle.run_io.specs.contracts.memory_sink.MemorySinkSink.TheImpl.{ghosts}
use Rattle.bias_cli.specs.Seen.{sink_seen}
use Rattle.bias_cli.proofs.Statuses.{either_of}
use Rattle.run_tests.proofs.calls.answered.Goals as goal

pub replay-requires : goal.replay-requires
replay-requires g c =
    let f = c.biasrun-finish.result in
    c.records_can_be_replayed.ensures.legal _ _ _ _ _ f c.in-Some.run'
    (either_of _ _ _ _ _ f (λ is.
    let up = c.biasrun-finish.ensures.given_up is in
    record { status = up.status; left = up.left; unwritten = ap (sink_seen ghosts) up.unwritten })
    c.biasrun-finish.ensures.finished)
    (sym (ap (λ h. h.run) (c.deref.ensures ∙ c.in_ok-finish.ensures)) ∙ c.in-Some.is)
