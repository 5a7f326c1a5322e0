-- The runner of a thread stays it.
use Rattle.std.proofs.Common.{◌≡◌, ℕ, Bool, true, ◌∙◌, refl, false}
use Rattle.core_world.specs.Threads.ThreadView.{ThreadView}
use Rattle.core_world.specs.declared.answer.PendingCause.{PendingCause}
use Rattle.core_world.specs.declared.answer.PendingCause.TheVariants as why
use Rattle.core_world.specs.declared.answer.Progress.{Progress}
use Rattle.core_world.specs.declared.answer.Progress.TheVariants.{Done, Pending}
use Rattle.heap_table.specs.Seen.{HeapSeen}
use Rattle.object_program.specs.Program.{ProgramText}
use Rattle.thread_interp.specs.Checks.{StandsAfterCheck}
use Rattle.thread_interp.specs.Runners.{RunnerSeen, IsRunner, IsSame}
use Rattle.run_rounds.specs.Rounds.{IsRunnerAt}

pub stays_at : (h : HeapSeen) (p : ProgramText) (fuel t : ℕ) (r q : RunnerSeen) → IsRunnerAt h p fuel t r
    → IsRunner h p q → IsSame r q → q.pass.known.checking ≡ false → IsRunnerAt h p fuel t q
stays_at h p fuel t r q at runner same unchecked =
    record { runner = runner; thread = same.thread ∙ at.thread; fuel_is = same.fuel ∙ at.fuel_is; unchecked = unchecked }

-- one after the other
pub same_on : (r q s : RunnerSeen) → IsSame r q → IsSame q s → IsSame r s
same_on r q s first then = record { thread = then.thread ∙ first.thread; fuel = then.fuel ∙ first.fuel }

-- a check that is unfinished after a pending call asks
pub still_asks : (k : ThreadView) (w : PendingCause) → StandsAfterCheck k (Pending w) → k.checking ≡ true → k.requesting ≡ true
still_asks k (why.Stopping word) s unfinished = s.asking.asks
still_asks k _ s unfinished = absurd (cc (s.over, unfinished))

pub asks_where_pending : (k : ThreadView) (a : Progress Bool) → ((stuck : Bool) → a ≡ Done stuck → ⊥) → StandsAfterCheck k a
    → k.checking ≡ true → k.requesting ≡ true
asks_where_pending k (Done stuck) not s unfinished = absurd (not stuck refl)
asks_where_pending k (Pending w) not s unfinished = still_asks k w s unfinished

-- a check that is done is over, and where it found the run stuck, it halted it
pub over_where_done : (k : ThreadView) (stuck : Bool) → StandsAfterCheck k (Done stuck) → k.checking ≡ false
over_where_done k true s = s.1.over
over_where_done k false s = s.over

pub halted_where_stuck : (k : ThreadView) (stuck : Bool) → StandsAfterCheck k (Done stuck) → stuck ≡ true → k.halted ≡ true
halted_where_stuck k true s is = s.0.halted
halted_where_stuck k false s is = absurd (cc is)
