use Rattle.std.proofs.Common.{[], ◌∷◌, Some, refl}
use Rattle.mark_word.specs.Hold.{read_hold}
use Rattle.mark_word.specs.Mark.{read_mark, mark_of}
use Rattle.mark_word.specs.Owner.{read_owner}
use Rattle.mark_word.specs.Safe.{read_safe}
use Rattle.mark_word.specs.Wait.{read_wait}
use Rattle.mark_word.specs.declared.mark.MarkForm.TheVariants.{Anonymous, Biased, Locked}
use Rattle.core_world.specs.Threads.ThreadView.{start_of}
use Rattle.core_world.specs.Trees.Calls.{steps_of}
use Rattle.core_calls.proofs.Followed.{leads_ran}
use Rattle.core_calls.proofs.Walkers.{running, underway, neutral, hashed}
use Rattle.core_world.specs.declared.heap_call.HeapCall.TheVariants as task
use Rattle.core_calls.proofs.witnesses.bounded_calls_are_met.Goals as goal

pub returns-clause-run : goal.returns-clause-run
unfolding steps_of read_mark read_wait read_owner read_hold read_safe
returns-clause-run z s start =
    let found = leads_ran s start (steps_of s (task.Enter 0 0) (start_of 0 running)) (0 ∷ 0 ∷ neutral ∷ 0 ∷ neutral ∷ []) running tt refl in
    (start_of 0 running, running, found.0, found.1)

pub returns-clause-next : goal.returns-clause-next
unfolding steps_of read_mark read_wait
returns-clause-next z s = (record running { call = Some underway }, underway, _, refl, refl, refl)

pub returns-clause-free : goal.returns-clause-free
unfolding read_mark read_wait read_owner read_hold read_safe
returns-clause-free z = (start_of 0 running, hashed, refl, refl)

pub returns-clause-unbiased : goal.returns-clause-unbiased
unfolding read_mark read_wait read_owner read_hold read_safe
returns-clause-unbiased z = (start_of 0 running, mark_of (Locked 1 0), refl, refl, refl)

pub returns-clause-own : goal.returns-clause-own
unfolding read_mark read_wait read_owner read_hold read_safe
returns-clause-own z = (start_of 0 running, mark_of (Biased 0 1 0), mark_of (Anonymous 1 0), refl, refl, refl)
