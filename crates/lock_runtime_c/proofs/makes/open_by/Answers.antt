use Rattle.std.proofs.Common.{subst}
use Rattle.lock_runtime_c.specs.Opening.{Opens}
use Rattle.lock_runtime_c.specs.declared.inner.Inner.{Inner}
use Rattle.lock_runtime_c.proofs.ByHandle.{put_back}
use Rattle.lock_runtime_c.proofs.makes.open_by.Goals as goal

pub returns : goal.returns
returns c =
    let call = c.open_within-outcome in
    put_back Opens _ _ _ _ call.new.held call.result c.in-Some.ensures.held c.put.ensures.live c.put.ensures.held
    (subst (λ (i : Inner). Opens i call.new.held call.result) c.deref_mut.ensures.value call.ensures.opens)
