-- Whether any thread can go on, by the words that a check loads.
use Rattle.std.specs.Prelude.{◌≡◌, ℕ, ◌+◌, ◌&&◌, Bool, true, false, List, [], ◌∷◌, length, Option, Some, None}
use Rattle.mark_word.specs.declared.mark.MarkForm.TheVariants.{Inflated}
use Rattle.mark_word.specs.declared.wait.WaitForm.{WaitForm}
use Rattle.mark_word.specs.declared.wait.WaitForm.TheVariants as wait
use Rattle.mark_word.specs.Mark.{read_mark}
use Rattle.mark_word.specs.Owner.{read_owner}
use Rattle.mark_word.specs.Wait.{read_wait}
use Rattle.core_world.specs.declared.word_id.WordId.TheVariants.{Mark, Waiting, Owner}
use Rattle.core_world.specs.declared.answer.Progress.{Progress}
use Rattle.core_world.specs.declared.answer.Progress.TheVariants.{Done, Pending}
use Rattle.core_world.specs.Threads.ThreadView.{StepMade}
use Rattle.core_world.specs.Trees.LookSteps.{can_acquire, some_live, none_goes_on}
use Rattle.core_world.specs.Words.Shape.{Shape}
use Rattle.core_calls.specs.Causes.{Loaded}

-- the object's mark and its monitor's owner were loaded: thread t goes on where the monitor is free or its own
pub record GoesByOwner (o t : ℕ) (ms : List StepMade) (on : Option Bool) : Type 0 where
  pub mark : ℕ
  pub monitor : ℕ
  pub owner : ℕ
  pub names : read_mark mark ≡ Some (Inflated monitor)
  pub mark_loaded : Loaded (Mark o) mark ms
  pub owner_loaded : Loaded (Owner monitor) owner ms
  pub so : on ≡ Some (can_acquire (read_owner owner) t)

-- By its waiting word a thread has ended (None), or goes on (true), or doesn't (false): a ready one goes on, one that waits doesn't, and one that
-- enters, or that was notified, does by the owner.
abbrev pub GoesByWait : Option WaitForm → ℕ → List StepMade → Option Bool → Type 0
GoesByWait (Some wait.Ready) t ms on = on ≡ Some true
GoesByWait (Some (wait.Entering object)) t ms on = GoesByOwner object t ms on
GoesByWait (Some (wait.Waiting object stamp)) t ms on = on ≡ Some false
GoesByWait (Some (wait.Notified object)) t ms on = GoesByOwner object t ms on
GoesByWait (Some wait.Ended) t ms on = on ≡ None
GoesByWait None t ms on = ⊥

abbrev pub Goes : ℕ → List StepMade → Option Bool → Type 0
Goes t ms on = (word : ℕ) × Loaded (Waiting t) word ms × GoesByWait (read_wait word) t ms on

-- so it is of the threads from t on
abbrev pub AllGo : ℕ → List (Option Bool) → List StepMade → Type 0
AllGo t [] ms = Unit {0}
AllGo t (on ∷ ons) ms = Goes t ms on × AllGo (t + 1) ons ms

-- A check that is done answers true exactly where some thread is live and none goes on, by the words that it loaded.
abbrev pub Finds : Shape → List StepMade → Bool → Type 0
Finds s ms stuck =
    (ons : List (Option Bool)) × (length ons ≡ s.threads) × AllGo 0 ons ms
    × (stuck ≡ some_live ons && none_goes_on ons)

abbrev pub CheckFinds : Shape → List StepMade → Progress Bool → Type 0
CheckFinds s ms (Done stuck) = Finds s ms stuck
CheckFinds s ms (Pending why) = Unit {0}
