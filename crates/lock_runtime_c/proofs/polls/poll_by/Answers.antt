use Rattle.std.proofs.Common.{subst, ◌∙◌}
use Rattle.core_world.specs.declared.heap_call.HeapCall.TheVariants.{Poll}
use Rattle.lock_runtime_c.specs.ByHandle.{Within}
use Rattle.lock_runtime_c.specs.declared.inner.Inner.{Inner}
use Rattle.lock_runtime_c.proofs.ByHandle.{answers_first}
use Rattle.lock_runtime_c.proofs.polls.poll_by.Goals as goal

pub returns-in-None : goal.returns-in-None
returns-in-None c =
    answers_first Poll _ _ _ _ c.poll_within-told.new.held _ (c.if-at-ne1.false, c.lend-held.ensures.held) c.if-at-ne1.false c.fill.ensures
    (λ z out became. subst (λ (x : Inner). Within x z Poll out) (c.in-None.ensures.0 ∙ c.deref_mut.ensures.value) became) c.poll_slowly-in-None.ensures
