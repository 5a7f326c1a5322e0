-- Where the thread has let go to wait, it may go on with its wait.
use Rattle.std.proofs.Common.{◌≡◌, ℕ, not, true, false, [], ◌∷◌, refl, sym, ap, ◌∙◌}
use Rattle.mark_word.specs.Mark.{read_mark}
use Rattle.mark_word.specs.Safe.{read_safe}
use Rattle.mark_word.specs.Owner.{read_owner}
use Rattle.mark_word.specs.Wait.{read_wait}
use Rattle.mark_word.specs.Hold.{read_hold}
use Rattle.core_world.specs.declared.heap_call.HeapCall.TheVariants as task
use Rattle.core_world.specs.Due.{steps_due}
use Rattle.core_world.specs.Steps.{is_idle}
use Rattle.core_world.specs.Trees.Calls.{steps_of}
use Rattle.core_world.specs.Words.Forms.{waits_on}
use Rattle.core_world.specs.Words.Shape.{ring_bits}
use Rattle.step_history.specs.Examples.{lone, world_of, waits}
use Rattle.solo_progress.specs.LeftAlone.{MayCallAlone}
use Rattle.solo_progress.specs.Witnesses.{waiting}
use Rattle.solo_progress.proofs.LoneWorlds.{knows, RunsOrAsks, Stands, May, ready}

runs_still : (knows (waits 0)).running ≡ true
unfolding steps_due is_idle steps_of read_safe read_mark read_hold read_wait read_owner ring_bits
runs_still = refl

asks_nothing : (knows (waits 0)).requesting ≡ false
unfolding steps_due is_idle steps_of read_safe read_mark read_hold read_wait read_owner ring_bits
asks_nothing = refl

-- the two are not compared with one another, which would take long
waits_runs : RunsOrAsks (waits 0)
waits_runs = runs_still ∙ ap not (sym asks_nothing)

waits_stand : Stands (waits 0) waiting
unfolding steps_due is_idle steps_of read_safe read_mark read_hold read_wait read_owner ring_bits
waits_stand = record { steps = refl; idle = refl; calm = refl; runs = waits_runs; leave = refl }

waits_may : (now : ℕ) → May (waits 0) (task.Wait 0 now)
unfolding steps_due is_idle steps_of read_safe read_mark read_hold read_wait read_owner ring_bits
waits_may now = refl

pub still_waits : waits_on (knows (waits 0)).wait 0 ≡ true
unfolding steps_due is_idle steps_of read_safe read_mark read_hold read_wait read_owner ring_bits
still_waits = refl

pub wait_ready : (now : ℕ) → MayCallAlone lone (world_of lone (waits 0)) (waiting ∷ []) 0 (task.Wait 0 now)
wait_ready now = ready (waits 0) (task.Wait 0 now) waits_stand (waits_may now) refl
