-- Why a call is pending, in its own steps.
use Rattle.std.specs.Prelude.{◌≡◌, ◌≢◌, ◌⊎◌, ℕ, ◌==◌, ◌&&◌, not, Bool, true, false, List, [], ◌∷◌, Option, Some}
use Rattle.mark_word.specs.declared.owner.OwnerForm.{OwnerForm}
use Rattle.mark_word.specs.declared.owner.OwnerForm.TheVariants.{ByThread, ByRecord}
use Rattle.mark_word.specs.declared.wait.WaitForm.{WaitForm}
use Rattle.mark_word.specs.declared.wait.WaitForm.TheVariants as wait
use Rattle.mark_word.specs.Owner.{read_owner}
use Rattle.mark_word.specs.Safe.{read_safe}
use Rattle.mark_word.specs.Wait.{read_wait}
use Rattle.core_world.specs.declared.act.Act.TheVariants.{Load, CompareExchange}
use Rattle.core_world.specs.declared.word_id.WordId.{WordId}
use Rattle.core_world.specs.declared.word_id.WordId.TheVariants.{Safepoint, Mark, Waiting, Owner}
use Rattle.core_world.specs.declared.answer.PendingCause.{PendingCause}
use Rattle.core_world.specs.declared.answer.PendingCause.TheVariants.{Owned, NotNotified, Raced, Inflating, Stopping, Requested, Halted}
use Rattle.core_world.specs.Words.Forms.{is_halted, is_still}
use Rattle.core_world.specs.Threads.ThreadView.{StepMade}
use Rattle.core_world.specs.Trees.SafepointSteps.{has_requester, requested_by}

-- one of these steps is such
abbrev pub AmongSteps : (StepMade → Type 0) → List StepMade → Type 0
AmongSteps P [] = ⊥
AmongSteps P (m ∷ ms) = P m ⊎ AmongSteps P ms

-- a step on the word of this name found this; and one that loaded it did
abbrev pub Found : WordId → ℕ → List StepMade → Type 0
Found at word ms = AmongSteps (λ m. (m.plan.at ≡ at) × (m.found ≡ word)) ms

abbrev pub Loaded : WordId → ℕ → List StepMade → Type 0
Loaded at word ms = AmongSteps (λ m. (m.plan.at ≡ at) × (m.plan.act ≡ Load) × (m.found ≡ word)) ms

-- an exchange on the word of this name found what it expected, and so put this there
abbrev pub Put : WordId → ℕ → List StepMade → Type 0
Put at word ms = AmongSteps (λ m. (m.plan.at ≡ at) × (m.plan.act ≡ CompareExchange m.found word)) ms

-- one of these steps is such, seen with those that were made before it
abbrev pub AmongAfter : (StepMade → List StepMade → Type 0) → List StepMade → Type 0
AmongAfter P [] = ⊥
AmongAfter P (m ∷ ms) = P m ms ⊎ AmongAfter P ms

-- An exchange that expected the one word found the other. That it expected this word came of earlier steps: they had it under the same name.
pub record Missed (Had : WordId → ℕ → List StepMade → Type 0) (expected found : ℕ) (ms : List StepMade) : Type 0 where
  pub differ : found ≢ expected
  pub at : WordId
  pub among : AmongAfter (λ m before. (word : ℕ) × (m.plan.at ≡ at) × (m.plan.act ≡ CompareExchange expected word)
      × (m.found ≡ found) × Had at expected before) ms

-- The request of thread t was made: an exchange put it into a safepoint word that it found without a requester.
abbrev pub Requests : ℕ → List StepMade → Type 0
Requests t ms =
    AmongSteps (λ m. (m.plan.at ≡ Safepoint) × (m.plan.act ≡ CompareExchange m.found (requested_by (read_safe m.found) t))
    × (has_requester m.found ≡ false)) ms

-- the waiting word says Waiting
abbrev pub is_waiting_form : Option WaitForm → Bool
is_waiting_form (Some (wait.Waiting object stamp)) = true
is_waiting_form _ = false

abbrev pub says_waiting : ℕ → Bool
says_waiting word = is_waiting_form (read_wait word)

-- the owner word names a thread other than t, or a lock record of one
abbrev pub is_other_form : Option OwnerForm → ℕ → Bool
is_other_form (Some (ByThread thread)) t = not (thread == t)
is_other_form (Some (ByRecord thread place)) t = not (thread == t)
is_other_form _ t = false

abbrev pub names_other : ℕ → ℕ → Bool
names_other word t = is_other_form (read_owner word) t

-- Why a call of thread t on object o is pending: what its steps found. The word that a missed exchange expected had been loaded by an earlier step of the
-- same call. A step that looks for running threads, or for a requester, doesn't ask which thread it is: that it is another follows in a valid world, where
-- the thread's own bit isn't set while its request stands, and where the call makes a request only while none of its own stands.
abbrev pub Cause : ℕ → ℕ → PendingCause → List StepMade → Type 0
Cause t o (Owned word) ms = (m : ℕ) × (names_other word t ≡ true) × Found (Owner m) word ms
Cause t o (NotNotified word) ms = (says_waiting word ≡ true) × Loaded (Waiting t) word ms
Cause t o (Raced expected found) ms = Missed Loaded expected found ms
Cause t o Inflating ms = Loaded (Mark o) 0 ms
Cause t o (Stopping word) ms = (is_still word ≡ false) × Loaded Safepoint word ms
Cause t o (Requested word) ms = (has_requester word ≡ true) × Found Safepoint word ms
Cause t o Halted ms = (word : ℕ) × (is_halted word ≡ true) × Found Safepoint word ms

-- WHAT CALLS ARE PENDING FOR. Another thread's exchange or another's inflation.
abbrev pub of_exchanges : PendingCause → Bool
of_exchanges (Raced expected found) = true
of_exchanges Inflating = true
of_exchanges _ = false

-- a safepoint that is requested and not reached; a request, by a load alone, at a request, and at a resume
abbrev pub is_stopping : PendingCause → Bool
is_stopping (Stopping word) = true
is_stopping _ = false

abbrev pub of_polls : PendingCause → Bool
of_polls (Requested word) = true
of_polls _ = false

abbrev pub of_requests : PendingCause → Bool
of_requests (Raced expected found) = true
of_requests (Requested word) = true
of_requests _ = false

abbrev pub of_resumes : PendingCause → Bool
of_resumes Halted = true
of_resumes why = of_requests why

-- a whole safepoint, by whether the thread's own request stands when the call begins: then there is none to be made
abbrev pub of_safepoints : Bool → PendingCause → Bool
of_safepoints requesting (Stopping word) = true
of_safepoints requesting why = of_requests why && not requesting

-- a monitor's owner; a notify, or after it the owner
abbrev pub of_owners : PendingCause → Bool
of_owners (Owned word) = true
of_owners _ = false

abbrev pub of_waits : PendingCause → Bool
of_waits (NotNotified word) = true
of_waits why = of_owners why

-- a call that is pending only for these reasons is so for this one, with its cause
pub record Caused (may_be : PendingCause → Bool) (t o : ℕ) (why : PendingCause) (ms : List StepMade) : Type 0 where
  pub among : may_be why ≡ true
  pub cause : Cause t o why ms

-- A call that is pending for running threads has the thread's own request: it stood when the call began, or the call made it.
abbrev pub RequestStands : Bool → ℕ → PendingCause → List StepMade → Type 0
RequestStands requesting t (Stopping word) ms = (requesting ≡ true) ⊎ Requests t ms
RequestStands requesting t _ ms = Unit {0}

-- why a call with a safepoint in it is pending, by whether the thread's own request stands when the call begins
abbrev pub CausedUnder : (Bool → PendingCause → Bool) → Bool → ℕ → ℕ → PendingCause → List StepMade → Type 0
CausedUnder may_be requesting t o why ms = Caused (may_be requesting) t o why ms × RequestStands requesting t why ms

-- A call is pending for an exchange that missed, and it had the word that this expected in another way.
abbrev pub Overtaken : (WordId → ℕ → List StepMade → Type 0) → PendingCause → List StepMade → Type 0
Overtaken Had (Raced expected found) ms = Missed Had expected found ms
Overtaken Had _ ms = ⊥
