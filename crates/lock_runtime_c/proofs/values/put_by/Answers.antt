use Rattle.std.proofs.Common.{subst}
use Rattle.core_world.specs.declared.heap_call.HeapCall.TheVariants.{Put}
use Rattle.lock_runtime_c.specs.ByHandle.{Within}
use Rattle.lock_runtime_c.specs.declared.inner.Inner.{Inner}
use Rattle.lock_runtime_c.specs.declared.outcome.Outcome.{Outcome}
use Rattle.lock_runtime_c.proofs.ByHandle.{answers_first}
use Rattle.lock_runtime_c.proofs.values.put_by.Goals as goal

pub returns-in-None : goal.returns-in-None
returns-in-None c =
    let t = Put c.args.object c.args.slot c.args.value in
    let same = subst (λ (x : Inner). (z : Inner) (out : Outcome) → Within c.put_within-told.new.held z t out → Within x z t out)
    c.deref_mut.ensures.value c.in-None.ensures.1 in
    answers_first t _ _ _ _ c.put_within-told.new.held _ (c.if-at-ne1.false, c.lend-held.ensures.held) c.if-at-ne1.false c.fill.ensures same
    c.put_slowly-in-None.ensures
