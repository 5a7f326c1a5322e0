-- How a thread stands along the steps of a call: whether it runs, and whether its request for a safepoint stands. That goes by the safepoint word, where
-- the words that its steps find there are true of it.
use Rattle.std.specs.Prelude.{◌≡◌, ◌≢◌, ℕ, not, cond, Bool, true, false, List, [], ◌∷◌, Some, Result, Ok, Err}
use Rattle.mark_word.specs.declared.safe.SafeForm.{SafeForm}
use Rattle.mark_word.specs.Safe.{read_safe}
use Rattle.core_world.specs.declared.act.Act.{Act}
use Rattle.core_world.specs.declared.act.Act.TheVariants.{Load}
use Rattle.core_world.specs.declared.word_id.WordId.{WordId}
use Rattle.core_world.specs.declared.word_id.WordId.TheVariants.{Safepoint}
use Rattle.core_world.specs.declared.answer.Progress.{Progress}
use Rattle.core_world.specs.declared.answer.Progress.TheVariants.{Done, Pending}
use Rattle.core_world.specs.declared.answer.PendingCause.{PendingCause}
use Rattle.core_world.specs.declared.answer.PendingCause.TheVariants.{Stopping, Requested}
use Rattle.core_world.specs.Words.Acts.{hits}
use Rattle.core_world.specs.Words.Forms.{runs_in, asks_in}
use Rattle.core_world.specs.Threads.ThreadView.{ThreadView, StepMade, Start, left_by}
use Rattle.core_world.specs.Trees.StepTree.{StepTree}
use Rattle.core_calls.specs.Paths.{Says}

pub record Stand : Type 0 where
  pub running : Bool
  pub asking : Bool

-- the thread runs, it is stopped, or it is stopped and its request stands
pub record IsGoing (b : Stand) : Type 0 where
  pub runs : b.running ≡ true
  pub asks : b.asking ≡ false

pub record IsOff (b : Stand) : Type 0 where
  pub runs : b.running ≡ false
  pub asks : b.asking ≡ false

pub record IsHeld (b : Stand) : Type 0 where
  pub runs : b.running ≡ false
  pub asks : b.asking ≡ true

-- how thread t stands after a step that hit and left this word: a change of the safepoint word tells it
abbrev pub stand_by : ℕ → WordId → Act → ℕ → Stand → Stand
stand_by t Safepoint Load word b = b
stand_by t Safepoint _ word b = record { running = runs_in word t; asking = asks_in word t }
stand_by t _ act word b = b

-- and after these steps, the newest first, where it stood so before; an exchange that misses changes nothing
abbrev pub stand_after_steps : ℕ → List StepMade → Stand → Stand
stand_after_steps t [] b = b
stand_after_steps t (m ∷ ms) b =
    cond (hits m.plan.act m.found) (stand_by t m.plan.at m.plan.act (left_by m) (stand_after_steps t ms b))
    (stand_after_steps t ms b)

-- The safepoint word is true of thread t: it spells a form, and has the thread's bit and its request exactly where it runs and asks.
pub record IsTrueOf (t : ℕ) (b : Stand) (word : ℕ) : Type 0 where
  pub form : SafeForm
  pub spells : read_safe word ≡ Some form
  pub runs : runs_in word t ≡ b.running
  pub asks : asks_in word t ≡ b.asking

-- each of these steps that was on the safepoint word found one that was true of the thread then
abbrev pub FoundTrue : ℕ → Stand → List StepMade → Type 0
FoundTrue t b [] = Unit {0}
FoundTrue t b (m ∷ ms) = (m.plan.at ≡ Safepoint → IsTrueOf t (stand_after_steps t ms b) m.found) × FoundTrue t b ms

-- P holds of how the thread stands after all steps, and of the answer, along each path whose steps find such words
abbrev pub ThreadStandsAlong : {A : Type 0} → ℕ → Stand → StepTree A → (Stand → A → Type 0) → Type 0
ThreadStandsAlong t b d P = Says d (λ ms a. FoundTrue t b ms → P (stand_after_steps t ms b) a)

-- By the safepoint word another thread runs, or has a request.
abbrev pub IsOfAnother : ℕ → PendingCause → Type 0
IsOfAnother t (Stopping word) = (u : ℕ) × (u ≢ t) × (runs_in word u ≡ true)
IsOfAnother t (Requested word) = (u : ℕ) × (u ≢ t) × (asks_in word u ≡ true)
IsOfAnother t _ = Unit {0}

-- AFTER A TURN its thread runs, unless it is pending for running threads: then its request stands. For those, and for a request, it is pending by
-- another thread.
abbrev pub PendingThreadStands : ℕ → Stand → PendingCause → Type 0
PendingThreadStands t b (Stopping word) = IsHeld b × IsOfAnother t (Stopping word)
PendingThreadStands t b why = IsGoing b × IsOfAnother t why

abbrev pub ProgressStands : {A : Type 0} → ℕ → Stand → Progress A → Type 0
ProgressStands t b (Done a) = IsGoing b
ProgressStands t b (Pending why) = PendingThreadStands t b why

-- the same of an operation that may be refused
abbrev pub ResultStands : {A E : Type 0} → ℕ → Stand → Result (Progress A) E → Type 0
ResultStands t b (Ok progress) = ProgressStands t b progress
ResultStands t b (Err e) = Unit {0}

-- after an answer that is no refusal its thread runs
abbrev pub RunsAfter : {A E : Type 0} → Stand → Result A E → Type 0
RunsAfter b (Ok a) = IsGoing b
RunsAfter b (Err e) = Unit {0}

-- a poll leaves the thread running
abbrev pub PollStands : ℕ → Stand → Progress (Unit {0}) → Type 0
PollStands t b (Done x) = IsGoing b
PollStands t b (Pending why) = IsGoing b × IsOfAnother t why

-- a resume sets the thread running, or leaves it stopped
abbrev pub ResumeStands : ℕ → Stand → Progress (Unit {0}) → Type 0
ResumeStands t b (Done x) = IsGoing b
ResumeStands t b (Pending why) = IsOff b × IsOfAnother t why

-- a check that finds the run stuck leaves its thread stopped
abbrev pub CheckStands : ℕ → Stand → Progress Bool → Type 0
CheckStands t b (Done stuck) = cond stuck (IsOff b) (IsGoing b)
CheckStands t b (Pending why) = PendingThreadStands t b why

-- as an operation begins its thread asks, or it runs
abbrev pub begun : Start → Stand
begun k = record { running = not k.requesting; asking = k.requesting }

-- before a resume it is stopped
abbrev pub stopped : Stand
stopped = record { running = false; asking = false }

-- how a thread stands by what it knows of itself
abbrev pub stand_of : ThreadView → Stand
stand_of k = record { running = k.running; asking = k.requesting }
