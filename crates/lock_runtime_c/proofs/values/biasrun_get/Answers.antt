use Rattle.std.proofs.Common.{subst}
use Rattle.core_world.specs.declared.heap_call.HeapCall.TheVariants.{Get}
use Rattle.lock_runtime_c.specs.ByHandle.{Within}
use Rattle.lock_runtime_c.specs.declared.inner.Inner.{Inner}
use Rattle.lock_runtime_c.specs.declared.outcome.Outcome.{Outcome}
use Rattle.lock_runtime_c.proofs.ByHandle.{put_back_first}
use Rattle.lock_runtime_c.proofs.values.biasrun_get.Goals as goal

pub returns-in-None : goal.returns-in-None
returns-in-None c =
    let t = Get c.args.object c.args.slot in
    let slowly = c.get_slowly-in-None.ensures in
    let same = subst (λ (x : Inner). (z : Inner) (out : Outcome) → Within c.get_within-told.new.held z t out → Within x z t out)
    c.deref_mut.ensures.value c.in-None.ensures.1 in
    record {
      outcome = slowly.outcome;
      is = slowly.is;
      by_handle = put_back_first t _ _ _ _ c.get_within-told.new.held slowly.outcome (c.if-at-ne1.false, c.lend-held.ensures.held)
          c.if-at-ne1.false c.fill.ensures same slowly.by_handle;
      finds = slowly.finds;
    }
