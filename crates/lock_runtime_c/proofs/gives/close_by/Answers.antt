use Rattle.std.proofs.Common.{subst}
use Rattle.lock_runtime_c.specs.Closing.{Closes}
use Rattle.lock_runtime_c.specs.declared.inner.Inner.{Inner}
use Rattle.lock_runtime_c.proofs.ByHandle.{put_back}
use Rattle.lock_runtime_c.proofs.gives.close_by.Goals as goal

pub returns : goal.returns
returns c =
    let call = c.close_within-outcome in
    put_back Closes _ _ _ _ call.new.held call.result c.in-Some.ensures.held c.put.ensures.live c.put.ensures.held
    (subst (λ (i : Inner). Closes i call.new.held call.result) c.deref_mut.ensures.value call.ensures.closed)
