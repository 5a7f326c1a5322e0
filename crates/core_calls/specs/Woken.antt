-- Whom a notify wakes, by the words that it loads.
use Rattle.std.specs.Prelude.{◌≡◌, ◌⊎◌, ℕ, ◌+◌, List, [], ◌∷◌, length, Option, Some, None, Result, Ok, Err}
use Rattle.mark_word.specs.declared.mark.MarkForm.TheVariants.{Locked, Inflated}
use Rattle.mark_word.specs.Mark.{read_mark}
use Rattle.core_world.specs.declared.word_id.WordId.TheVariants.{Mark, Waiting}
use Rattle.core_world.specs.declared.answer.IllegalMonitorState.{IllegalMonitorState}
use Rattle.core_world.specs.declared.answer.Progress.{Progress}
use Rattle.core_world.specs.declared.answer.Progress.TheVariants.{Done, Pending}
use Rattle.core_world.specs.Threads.ThreadView.{StepMade}
use Rattle.core_world.specs.Words.Shape.{Shape}
use Rattle.core_world.specs.Trees.WaitSteps.{waiters, by_age}
use Rattle.core_calls.specs.Causes.{Loaded}

-- these are waiting words that were loaded, the first of thread t, the next of the thread after it
abbrev pub AllLoaded : ℕ → List ℕ → List StepMade → Type 0
AllLoaded t [] ms = Unit {0}
AllLoaded t (word ∷ words) ms = Loaded (Waiting t) word ms × AllLoaded (t + 1) words ms

-- o's mark was loaded, and says that a lock record has the lock
pub record IsRecordLocked (o : ℕ) (ms : List StepMade) : Type 0 where
  pub mark : ℕ
  pub thread : ℕ
  pub place : ℕ
  pub says : read_mark mark ≡ Some (Locked thread place)
  pub loaded : Loaded (Mark o) mark ms

-- o's mark was loaded, and names a monitor; and so were the waiting words of all threads
pub record IsLookedOver (s : Shape) (o : ℕ) (ms : List StepMade) : Type 0 where
  pub mark : ℕ
  pub monitor : ℕ
  pub says : read_mark mark ≡ Some (Inflated monitor)
  pub loaded : Loaded (Mark o) mark ms
  pub words : List ℕ
  pub all : length words ≡ s.threads
  pub each : AllLoaded 0 words ms

-- the oldest of the waiters
abbrev pub oldest : List (ℕ × ℕ) → Option ℕ
oldest [] = None
oldest (p ∷ ps) = Some p.0

-- The threads that wait on o are told by the words loaded: notify wakes the oldest of them, notifyall as many as there are.
abbrev pub WakesOldest : Shape → ℕ → List StepMade → Option ℕ → Type 0
WakesOldest s o ms woken = (l : IsLookedOver s o ms) × (woken ≡ oldest (by_age (waiters o 0 l.words)))

abbrev pub WakesEach : Shape → ℕ → List StepMade → ℕ → Type 0
WakesEach s o ms woken = (l : IsLookedOver s o ms) × (woken ≡ length (waiters o 0 l.words))

-- nobody waits where a record has the lock
abbrev pub Wakes : Shape → ℕ → List StepMade → Option ℕ → Type 0
Wakes s o ms woken = (IsRecordLocked o ms × (woken ≡ None)) ⊎ WakesOldest s o ms woken

abbrev pub WakesAll : Shape → ℕ → List StepMade → ℕ → Type 0
WakesAll s o ms woken = (IsRecordLocked o ms × (woken ≡ 0)) ⊎ WakesEach s o ms woken

-- so it is of a call that is done
abbrev pub IfDone : {A : Type 0} → (List StepMade → A → Type 0) → List StepMade
    → Result (Progress A) IllegalMonitorState → Type 0
IfDone P ms (Ok (Done a)) = P ms a
IfDone P ms (Ok (Pending why)) = Unit {0}
IfDone P ms (Err e) = Unit {0}
