-- The words of a small heap are quiet, and its thread can move.
use Rattle.std.proofs.Common.{◌≡◌, ◌≢◌, ℕ, ◌<◌, true, false, [], ◌∷◌, refl, arith, subst}
use Rattle.mark_word.specs.Hold.{read_hold}
use Rattle.mark_word.specs.Mark.{read_mark}
use Rattle.mark_word.specs.Owner.{read_owner}
use Rattle.mark_word.specs.Safe.{read_safe}
use Rattle.mark_word.specs.Wait.{read_wait}
use Rattle.core_world.specs.declared.heap_call.HeapCall.TheVariants as task
use Rattle.core_world.specs.declared.word_id.WordId.TheVariants.{Safepoint, Prototype}
use Rattle.core_world.specs.Due.{IsNext, steps_due}
use Rattle.core_world.specs.Opening.{opening}
use Rattle.core_world.specs.Steps.{is_idle}
use Rattle.core_world.specs.Threads.ThreadView.{StepMade}
use Rattle.core_world.specs.Trees.Calls.{steps_of}
use Rattle.core_world.specs.Trees.Plans.{load}
use Rattle.core_world.specs.Trees.SafepointSteps.{released_word}
use Rattle.core_world.specs.Valid.{Fits}
use Rattle.core_world.specs.Words.Forms.{waits_on}
use Rattle.core_world.specs.Words.Shape.{ring_bits}
use Rattle.core_world.specs.World.{World}
use Rattle.core_calls.specs.Paths.{made}
use Rattle.core_steps.specs.SmallWorlds.{small, resuming, looked, running}
use Rattle.step_history.specs.Examples.{lone, world_of, waits}
use Rattle.solo_progress.specs.Alone.{Quiet, word_of_one}
use Rattle.solo_progress.specs.Answers.{is_others_bias}
use Rattle.solo_progress.specs.LeftAlone.{IsLeftAlone, MayCallAlone, start_in}
use Rattle.solo_progress.specs.Moves.{Moves, stays, goes}
use Rattle.solo_progress.specs.Witnesses.{unowned}
use Rattle.solo_progress.proofs.Laws.{fits, quiet_words}
use Rattle.solo_progress.proofs.LoneWaits.{still_waits}
use Rattle.solo_progress.proofs.SmallReady.{running_ready, may_enter}
use Rattle.solo_progress.proofs.Worlds.{prototype_some}

ready : MayCallAlone small running (unowned ∷ []) 0 (task.Enter 0 0)
ready = running_ready (task.Enter 0 0) (may_enter 0)

clauses : Fits running (unowned ∷ [])
clauses = fits small running (unowned ∷ []) 0 (task.Enter 0 0) ready

low : (start_in running 0).local.thread < 32
unfolding read_safe
low = omega arith

unasked : (start_in running 0).requesting ≡ false
unfolding read_safe
unasked = refl

number : (start_in running 0).local.thread ≡ 0
unfolding read_safe
number = refl

words_quiet : Quiet (released_word 0) running.words
words_quiet =
    subst (λ (x : ℕ). Quiet (released_word x) running.words) number
    (subst (λ b. Quiet (word_of_one b (start_in running 0).local.thread) running.words) unasked
    (quiet_words small running (unowned ∷ []) 0 (task.Enter 0 0) ready))

unbiased : is_others_bias small.shape running.words 0 0 ≡ false
unfolding read_safe read_mark
unbiased = refl

awake : waits_on (start_in running 0).local.wait 0 ≡ false
unfolding read_safe read_wait
awake = refl

pub quiet_there : ((start_in running 0).local.thread < 32) × ((start_in running 0).requesting ≡ false)
    × Quiet (released_word 0) running.words × (running.words (Prototype 0) ≢ 0)
    × (is_others_bias small.shape running.words 0 0 ≡ false) × (waits_on (start_in running 0).local.wait 0 ≡ false)
quiet_there = (low, unasked, words_quiet, prototype_some running (unowned ∷ []) 0 ready.alone clauses 0, unbiased, awake)

pub alone_there : IsLeftAlone running 0 × Fits running (unowned ∷ [])
alone_there = (ready.alone, clauses)

waits_low : (start_in (world_of lone (waits 0)) 0).local.thread < 32
unfolding steps_due is_idle steps_of read_safe read_mark read_hold read_wait read_owner ring_bits
waits_low = omega arith

pub waiting_there : ((start_in (world_of lone (waits 0)) 0).local.thread < 32)
    × (waits_on (start_in (world_of lone (waits 0)) 0).local.wait 0 ≡ true)
waiting_there = (waits_low, still_waits)

-- THE STEP
abbrev first : World
first = opening small.shape small.start small.biasing

is_first : IsNext first.shape first.start first.biasing (first.known 0) (load resuming Safepoint)
unfolding steps_due is_idle steps_of
is_first = refl

pub moves_alone : (m : StepMade) × Moves first 0 (m ∷ []) looked
moves_alone = (made (load resuming Safepoint) (first.words Safepoint), goes [] first (load resuming Safepoint) stays is_first)
