use Rattle.std.proofs.Common.{◌≡◌, sym, ◌∙◌}
use Rattle.biasrun.proofs.Seen.{nothing_pending, finish_seen}
use Rattle.biasrun.proofs.flushed.biasrun_flushed.Goals as goal

pub returns-clause-finished : goal.returns-clause-finished
returns-clause-finished g c = λ another unfailed.
    let called = c.biasrun-finish.result in
    let same : c.flushed.result ≡ called.status = c.flushed.ensures.kept unfailed in
    let from = sym (nothing_pending _ _ c.requires) in
    let to = sym (nothing_pending _ _ (c.flushed.ensures.passed unfailed)) ∙ c.flushed.ensures.held in
    let finished = c.biasrun-finish.ensures.finished (λ seven. another (same ∙ seven)) in
    rw same (finish_seen _ _ _ _ from to _ _ _ called (λ six. unfailed (same ∙ six)) finished)
