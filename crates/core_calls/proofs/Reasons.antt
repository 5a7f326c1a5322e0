-- What an operation on an object may be pending for, in its parts.
use Rattle.std.proofs.Common.{◌≡◌, ◌⊎◌, ℕ, Bool, true, false, List, refl, ap, inl}
use Rattle.std.proofs.Common.{Option, Result, Ok, Err}
use Rattle.plain_monitor.specs.declared.entry.Entry.{Entry}
use Rattle.core_world.specs.declared.word_id.WordId.TheVariants.{Safepoint, Mark}
use Rattle.core_world.specs.declared.answer.PendingCause.{PendingCause}
use Rattle.core_world.specs.declared.answer.PendingCause.TheVariants as why
use Rattle.core_world.specs.Words.Forms.{is_still}
use Rattle.core_world.specs.Threads.ThreadView.{StepMade}
use Rattle.core_world.specs.Trees.SafepointSteps.{has_requester}
use Rattle.core_world.specs.declared.answer.Progress.{Progress}
use Rattle.core_world.specs.declared.answer.Progress.TheVariants.{Done, Pending}
use Rattle.core_world.specs.declared.heap_call.Unfinished.{Unfinished}
use Rattle.core_calls.specs.Causes.{Found, Loaded, Missed, Requests, CausedUnder}
use Rattle.core_calls.specs.CallsSay.{of_notifies, of_enters, EnterCause, IsPendingBy, ResultSays}
use Rattle.core_calls.proofs.Paths.{Saw, LastSeen, missed_loaded, missed_seen}

-- These are reasons for the call of thread t on o to be pending: an exchange, an inflation, and a safepoint.
pub record Reasons (requesting : Bool) (t o : ℕ) (For : PendingCause → List StepMade → Type 0) : Type 0 where
  pub races : (expected found : ℕ) (ms : List StepMade) → Missed Saw expected found ms → For (why.Raced expected found) ms
  pub inflates : (ms : List StepMade) → Loaded (Mark o) 0 ms → For why.Inflating ms
  pub stops : (word : ℕ) (ms : List StepMade) → is_still word ≡ false
      → Loaded Safepoint word ms → (requesting ≡ true) ⊎ Requests t ms → For (why.Stopping word) ms
  pub asks : requesting ≡ false → (word : ℕ) (ms : List StepMade) → has_requester word ≡ true → Found Safepoint word ms → For (why.Requested word) ms

-- those of a notify, of a hash, and of a wait that hasn't let go
pub notify_reasons : (requesting : Bool) (t o : ℕ) → Reasons requesting t o (CausedUnder of_notifies requesting t o)
notify_reasons requesting t o = record {
  races = λ expected found ms missed. (record { among = refl; cause = missed_loaded ms missed }, tt);
  inflates = λ ms zero. (record { among = refl; cause = zero }, tt);
  stops = λ word ms moves loaded stands. (record { among = refl; cause = (moves, loaded) }, stands);
  asks = λ none word ms other there. (record { among = ap (λ (b : Bool). of_notifies b (why.Requested word)) none; cause = (other, there) }, tt);
}

pub enter_reasons : (requesting : Bool) (t o : ℕ) → Reasons requesting t o (EnterCause requesting t o)
enter_reasons requesting t o = record {
  races = λ expected found ms missed. inl (record { among = refl; cause = missed_loaded ms missed }, tt);
  inflates = λ ms zero. inl (record { among = refl; cause = zero }, tt);
  stops = λ word ms moves loaded stands. inl (record { among = refl; cause = (moves, loaded) }, stands);
  asks = λ none word ms other there. inl (record { among = ap (λ (b : Bool). of_enters b (why.Requested word)) none; cause = (other, there) }, tt);
}

-- What a missed exchange expects was seen last. Each reason may be told with this.
abbrev pub Sees : PendingCause → List StepMade → Type 0
Sees (why.Raced expected found) ms = Missed LastSeen expected found ms
Sees _ ms = Unit {0}

abbrev pub Seeing : (PendingCause → List StepMade → Type 0) → PendingCause → List StepMade → Type 0
Seeing For why ms = For why ms × Sees why ms

pub seeing : {requesting : Bool} {t o : ℕ} {For : PendingCause → List StepMade → Type 0} → Reasons requesting t o For
    → Reasons requesting t o (Seeing For)
seeing by = record {
  races = λ expected found ms missed. (by.races expected found ms missed, missed_seen ms missed);
  inflates = λ ms zero. (by.inflates ms zero, tt);
  stops = λ word ms moves loaded stands. (by.stops word ms moves loaded stands, tt);
  asks = λ none word ms other there. (by.asks none word ms other there, tt);
}

abbrev pub ProgressSees : {A : Type 0} → List StepMade → Progress A → Type 0
ProgressSees ms (Done a) = Unit {0}
ProgressSees ms (Pending why) = Sees why ms

abbrev pub ResultSees : {A E : Type 0} → List StepMade → Result (Progress A) E → Type 0
ResultSees ms (Ok progress) = ProgressSees ms progress
ResultSees ms (Err e) = Unit {0}

-- what is pending by a reason that was told so is pending by the reason alone, and what it expects was seen last
module _ {A : Type 0} (own : A → List Entry) (For : PendingCause → List StepMade → Type 0) (u : Option Unfinished) (check : Bool) where
  pub pending_said : (ms : List StepMade) (progress : Progress A) → IsPendingBy own (Seeing For) u check ms progress
      → IsPendingBy own For u check ms progress
  pending_said ms (Done a) h = h
  pending_said ms (Pending why) h = (h.0, h.1.0)

  pub pending_seen : (ms : List StepMade) (progress : Progress A) → IsPendingBy own (Seeing For) u check ms progress → ProgressSees ms progress
  pending_seen ms (Done a) h = tt
  pending_seen ms (Pending why) h = h.1.1

-- and so of a call that may be refused
pub result_said : {A E : Type 0} (refuses : Bool) (P Q : List StepMade → A → Type 0) → ((ms : List StepMade) (a : A) → P ms a → Q ms a)
    → (ms : List StepMade) (r : Result A E) → ResultSays {E = E} refuses P ms r → ResultSays {E = E} refuses Q ms r
result_said refuses P Q so ms (Ok a) h = (h.0, so ms a h.1)
result_said refuses P Q so ms (Err e) h = h

pub result_seen : {A E : Type 0} (refuses : Bool) (P : List StepMade → Progress A → Type 0)
    → ((ms : List StepMade) (a : Progress A) → P ms a → ProgressSees ms a)
    → (ms : List StepMade) (r : Result (Progress A) E) → ResultSays {E = E} refuses P ms r → ResultSees {E = E} ms r
result_seen refuses P so ms (Ok a) h = so ms a h.1
result_seen refuses P so ms (Err e) h = tt
