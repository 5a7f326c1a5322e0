use Rattle.std.proofs.Common.{subst}
use Rattle.lock_runtime_c.specs.ByHandle.{Within}
use Rattle.lock_runtime_c.specs.declared.inner.Inner.{Inner}
use Rattle.lock_runtime_c.proofs.ByHandle.{put_back}
use Rattle.lock_runtime_c.proofs.access.make_by.Goals as goal

pub returns : goal.returns
returns g c =
    let call = c.make_within-outcome in
    let task = g.C.PassCall.task c.args.call in
    put_back (λ x y o. Within x y task o) _ _ _ _ call.new.held call.result c.in-Some.ensures.held c.put.ensures.live c.put.ensures.held
    (subst (λ (i : Inner). Within i call.new.held task call.result) c.deref_mut.ensures.value call.ensures.told)
