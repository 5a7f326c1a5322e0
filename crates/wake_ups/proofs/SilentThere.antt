-- There is a world in which such a notify could be made: thread 0 waits, and thread 1 runs and owns the object.
use Rattle.std.proofs.Common.{◌≡◌, true, refl, arith}
use Rattle.mark_word.specs.Mark.{read_mark}
use Rattle.mark_word.specs.Safe.{read_safe}
use Rattle.mark_word.specs.Owner.{read_owner}
use Rattle.mark_word.specs.Wait.{read_wait}
use Rattle.mark_word.specs.Hold.{read_hold}
use Rattle.plain_monitor.specs.declared.entry.Entry.TheVariants.{Notify}
use Rattle.std.specs.Prelude.{Some}
use Rattle.core_world.specs.declared.word_id.WordId.TheVariants.{Waiting}
use Rattle.core_world.specs.Due.{steps_due}
use Rattle.core_world.specs.Steps.{is_idle}
use Rattle.core_world.specs.Threads.ThreadView.{local_of}
use Rattle.core_world.specs.Trees.Calls.{steps_of}
use Rattle.core_world.specs.Trees.Plans.{CallContext}
use Rattle.core_world.specs.Trees.WaitSteps.{publish_steps}
use Rattle.core_world.specs.Words.Forms.{waits_on}
use Rattle.core_world.specs.Words.Shape.{IsInLimits, ring_bits}
use Rattle.core_world.specs.World.{World}
use Rattle.core_law.specs.Logic.{SoundWorldWith, DoesSteps}
use Rattle.core_law.specs.Reached.{IsReachable}
use Rattle.core_law.proofs.NextSteps.{stands_here}
use Rattle.core_steps.proofs.ReachedWorlds.{reached_worlds_valid}
use Rattle.step_history.specs.Examples.{world_of, owns_beside}
use Rattle.step_history.specs.Race.{rivals}
use Rattle.step_history.proofs.Exemplified.{by_turns}
use Rattle.wake_ups.proofs.Silent.{no_silent_steps}

abbrev w : World
w = world_of rivals owns_beside

comes_beside : IsReachable rivals w
unfolding steps_due is_idle steps_of read_safe read_mark read_hold read_wait read_owner ring_bits
comes_beside = by_turns rivals owns_beside refl

limits : IsInLimits rivals.shape
limits =
    record { threads = omega arith; classes = omega arith; declared = omega arith; objects = omega arith; each = ((omega arith, omega arith), tt) }

stands : SoundWorldWith rivals (w.known 1)
unfolding steps_due is_idle steps_of read_safe read_mark read_hold read_wait read_owner ring_bits
stands = stands_here w 1 (omega arith) (reached_worlds_valid rivals w limits comes_beside)

pub silent_there : (e : CallContext)
    → IsReachable rivals w × (waits_on (w.words (Waiting 0)) 0 ≡ true) × ((w.known 1).running ≡ true)
    × (DoesSteps rivals true (publish_steps (Notify 0 (Some 0)) e (local_of (w.known 1))) (w.known 1) → ⊥)
unfolding steps_due is_idle steps_of read_safe read_mark read_hold read_wait read_owner ring_bits stands
silent_there e = (comes_beside, refl, refl, no_silent_steps rivals (w.known 1) true stands e 0 0 refl refl refl)
