-- When a thread may make the steps on the safepoint word. Each leaves what is unfinished, by its plan. That it has nothing in hand of the ring
-- (`still`) is so between calls (`AtRest`); and in a call a claim is followed by its load, and a deflation ends with its last monitor in the ring.
use Rattle.std.specs.Prelude.{◌≡◌, ◌⊎◌, ℕ, ◌<◌, true, false, length, Some, None}
use Rattle.mark_word.specs.Owner.{read_owner}
use Rattle.core_world.specs.declared.word_id.WordId.TheVariants.{Mark, Waiting, Owner}
use Rattle.core_world.specs.declared.stage.Stage.TheVariants.{Settled, BiasAcquired}
use Rattle.core_world.specs.Words.Forms.{enters_on, says_notified, waits_on, says_ended, monitor_in, requester_in, is_halted}
use Rattle.core_world.specs.Threads.ThreadView.{Still, ThreadView, last_seen}
use Rattle.core_world.specs.Trees.LookSteps.{can_acquire}
use Rattle.core_world.specs.Trees.Plans.{CallContext}
use Rattle.core_world.specs.Clauses.Safepoints.{ends}
use Rattle.core_locks.specs.Knowing.{GoesOn}

-- Clearing its bit: the thread has published its whole log, and says so where that has its ending entry. Both stand in what it last stored in
-- its own words.
pub record MayStop (k : ThreadView) (e : CallContext) : Type 0 where
  pub runs : k.running ≡ true
  pub calm : k.stage ≡ Settled
  pub published : k.published ≡ length k.log
  pub ended : ends k.log ≡ true → says_ended k.wait ≡ true
  pub still : k.moving ≡ Still
  pub goes_on : e.unfinished ≡ k.unfinished

-- Setting its bit: the thread is stopped, and the word that it expects has no requester and no halt.
pub record MayResume (k : ThreadView) (e : CallContext) (word : ℕ) : Type 0 where
  pub stopped : k.running ≡ false
  pub unasking : k.requesting ≡ false
  pub unasked : requester_in word ≡ None
  pub unhalted : is_halted word ≡ false
  pub goes_on : e.unfinished ≡ k.unfinished

-- Requesting: the thread runs, says so where it has ended, and the word that it expects has no requester. It may begin an operation.
pub record MayRequest (k : ThreadView) (e : CallContext) (word : ℕ) : Type 0 where
  pub runs : k.running ≡ true
  pub calm : k.stage ≡ Settled
  pub ended : ends k.log ≡ true → says_ended k.wait ≡ true
  pub unasked : requester_in word ≡ None
  pub still : k.moving ≡ Still
  pub goes_on : GoesOn k e

-- Releasing: its safepoint is reached, and it is in the middle of nothing.
pub record MayRelease (k : ThreadView) (e : CallContext) : Type 0 where
  pub reached : k.reached ≡ true
  pub calm : k.stage ≡ Settled
  pub still : k.moving ≡ Still
  pub goes_on : e.unfinished ≡ k.unfinished

-- Releasing, where it has given itself a bias at its safepoint: it stands before taking the object then.
pub record MayReleaseTaking (k : ThreadView) (e : CallContext) (o : ℕ) : Type 0 where
  pub reached : k.reached ≡ true
  pub takes : k.stage ≡ BiasAcquired o
  pub still : k.moving ≡ Still
  pub goes_on : e.unfinished ≡ k.unfinished

-- By what this thread has seen since its safepoint was reached, thread t waits, or was notified of or enters an object that isn't open to it. Some
-- words are loaded more than once; at a reached safepoint they are as they were.
abbrev pub SeesHeldUp : ThreadView → ℕ → Type 0
SeesHeldUp k t =
    (o v : ℕ) × (last_seen (Waiting t) k.seen_at_safepoint ≡ Some v)
    × ((waits_on v o ≡ true)
    ⊎ (((says_notified v o ≡ true) ⊎ (enters_on v o ≡ true))
    × ((mark m owner : ℕ) × (last_seen (Mark o) k.seen_at_safepoint ≡ Some mark) × (monitor_in mark ≡ Some m)
    × (last_seen (Owner m) k.seen_at_safepoint ≡ Some owner) × (can_acquire (read_owner owner) t ≡ false))))

-- By what it has seen, thread t has ended.
abbrev pub SeesEnded : ThreadView → ℕ → Type 0
SeesEnded k t = (v : ℕ) × (last_seen (Waiting t) k.seen_at_safepoint ≡ Some v) × (says_ended v ≡ true)

-- Halting: its safepoint is reached, it hasn't ended itself, and by what it has seen since, each of the n threads has ended or is held up. Marks and
-- owners count that were seen there, which is why a thread at its reached safepoint may load too, and not a running one alone.
pub record MayHalt (n : ℕ) (k : ThreadView) (e : CallContext) : Type 0 where
  pub reached : k.reached ≡ true
  pub calm : k.stage ≡ Settled
  pub live : ends k.log ≡ false
  pub stuck : (t : ℕ) → t < n → SeesEnded k t ⊎ SeesHeldUp k t
  pub still : k.moving ≡ Still
  pub goes_on : e.unfinished ≡ k.unfinished
