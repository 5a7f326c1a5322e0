-- Where the thread has entered, it may read and write a slot; and where it asked for a safepoint, it may look again and release it. What is found by
-- computing stands in lemmas of its own, so that nothing is computed where they are put together.
use Rattle.std.proofs.Common.{[], ◌∷◌, refl}
use Rattle.mark_word.specs.Mark.{read_mark}
use Rattle.mark_word.specs.Safe.{read_safe}
use Rattle.mark_word.specs.Owner.{read_owner}
use Rattle.mark_word.specs.Wait.{read_wait}
use Rattle.mark_word.specs.Hold.{read_hold}
use Rattle.plain_monitor.specs.declared.entry.Value.TheVariants.{Nil}
use Rattle.core_world.specs.declared.heap_call.HeapCall.TheVariants as task
use Rattle.core_world.specs.Due.{steps_due}
use Rattle.core_world.specs.Steps.{is_idle}
use Rattle.core_world.specs.Trees.Calls.{steps_of}
use Rattle.core_world.specs.Words.Shape.{ring_bits}
use Rattle.step_history.specs.Examples.{lone, world_of, enters}
use Rattle.solo_progress.specs.LeftAlone.{MayCall, MayCallAlone}
use Rattle.solo_progress.specs.Witnesses.{slotted, held, reaches}
use Rattle.solo_progress.proofs.LoneWorlds.{Stands, May, called, ready}

-- WHERE IT HAS ENTERED
enters_stand : Stands (enters 0) held
unfolding steps_due is_idle steps_of read_safe read_mark read_hold read_wait read_owner ring_bits
enters_stand = record { steps = refl; idle = refl; calm = refl; runs = refl; leave = refl }

enters_may_get : May (enters 0) (task.Get 0 0)
unfolding steps_due is_idle steps_of read_safe read_mark read_hold read_wait read_owner ring_bits
enters_may_get = refl

enters_may_put : May (enters 0) (task.Put 0 0 Nil)
unfolding steps_due is_idle steps_of read_safe read_mark read_hold read_wait read_owner ring_bits
enters_may_put = refl

pub get_ready : MayCallAlone lone (world_of lone (enters 0)) (held ∷ []) 0 (task.Get 0 0)
get_ready = ready (enters 0) (task.Get 0 0) enters_stand enters_may_get refl

pub put_ready : MayCallAlone lone (world_of lone (enters 0)) (held ∷ []) 0 (task.Put 0 0 Nil)
put_ready = ready (enters 0) (task.Put 0 0 Nil) enters_stand enters_may_put refl

-- WHERE IT ASKED FOR A SAFEPOINT
reaches_stand : Stands (reaches 0) slotted
unfolding steps_due is_idle steps_of read_safe read_mark read_hold read_wait read_owner ring_bits
reaches_stand = record { steps = refl; idle = refl; calm = refl; runs = refl; leave = refl }

reaches_may_look : May (reaches 0) task.Reached
unfolding steps_due is_idle steps_of read_safe read_mark read_hold read_wait read_owner ring_bits
reaches_may_look = refl

reaches_may_release : May (reaches 0) task.Release
unfolding steps_due is_idle steps_of read_safe read_mark read_hold read_wait read_owner ring_bits
reaches_may_release = refl

pub reached_ready : MayCallAlone lone (world_of lone (reaches 0)) (slotted ∷ []) 0 task.Reached
reached_ready = ready (reaches 0) task.Reached reaches_stand reaches_may_look refl

pub release_may : MayCall lone (world_of lone (reaches 0)) 0 task.Release
release_may = called (reaches 0) task.Release reaches_stand reaches_may_release
