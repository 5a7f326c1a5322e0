-- What each thread knows between its calls, whatever its last call was. A call may begin from there where its own conditions hold.
use Rattle.std.specs.Prelude.{◌≡◌, ◌⊎◌, ℕ, ◌+◌, nat_lt, ◌<◌, Bool, true, false, List, length, Option, Some, None}
use Rattle.plain_monitor.specs.Limits.{most_holds}
use Rattle.mark_word.specs.Mark.{read_mark}
use Rattle.core_world.specs.declared.word_id.WordId.{WordId}
use Rattle.core_world.specs.declared.word_id.WordId.TheVariants.{Safepoint, Mark, Prototype, Class}
use Rattle.core_world.specs.declared.stage.Stage.TheVariants.{Settled}
use Rattle.core_world.specs.declared.heap_call.Operation.{Operation}
use Rattle.core_world.specs.declared.heap_call.Operation.TheVariants as op
use Rattle.core_world.specs.declared.heap_call.Unfinished.{Unfinished}
use Rattle.core_world.specs.Words.Forms.{waits_on, says_notified, says_ended}
use Rattle.core_world.specs.Words.Shape.{Shape, class_in_shape}
use Rattle.core_world.specs.Threads.ThreadView.{ThreadView, Still, StepMade, last_seen}
use Rattle.core_world.specs.Locks.{is_valid_bias}
use Rattle.core_world.specs.Trees.Plans.{free_place}
use Rattle.core_world.specs.Clauses.Safepoints.{ends, IsUnfinished}
use Rattle.core_world.specs.Shots.{dumps_from}

-- by whether o is declared: the heap's shape says that c is its class, or these steps saw its class word
abbrev pub SawClassIf : Bool → Shape → List StepMade → ℕ → ℕ → Type 0
SawClassIf true s seen o c = c ≡ class_in_shape s o
SawClassIf false s seen o c = last_seen (Class o) seen ≡ Some (c + 1)

-- who has made these steps has seen that o is there, and that c is its class
abbrev pub SawClass : Shape → List StepMade → ℕ → ℕ → Type 0
SawClass s seen o c = SawClassIf (nat_lt o s.declared) s seen o c

-- the thread saw a valid bias of o since the call began that made its request
abbrev pub SawValidBias : Shape → ThreadView → ℕ → Type 0
SawValidBias s k o =
    (v p c : ℕ) × (last_seen (Mark o) k.seen ≡ Some v) × SawClass s k.seen o c × (last_seen (Prototype c) k.seen ≡ Some p)
    × (is_valid_bias (read_mark v) p ≡ true)

-- the prototype of its class, as these steps saw the class
abbrev pub IsItsPrototype : Shape → List StepMade → ℕ → WordId → Type 0
IsItsPrototype s seen o n = (c : ℕ) × SawClass s seen o c × (n ≡ Prototype c)

-- since then it has seen no words but the mark, the class word of an object that isn't declared, the prototype, and the safepoint word
abbrev pub SawNoOther : Shape → ThreadView → ℕ → Type 0
SawNoOther s k o = (n : WordId) (v : ℕ) → last_seen n k.seen ≡ Some v
    → (n ≡ Safepoint) ⊎ (n ≡ Mark o) ⊎ ((n ≡ Class o) × (nat_lt o s.declared ≡ false)) ⊎ IsItsPrototype s k.seen o n

-- It saw a valid bias of o and nothing else, and has not reached its safepoint: in the call in which it reaches that, it goes on up to the release.
abbrev pub MayRevoke : Shape → ThreadView → ℕ → Type 0
MayRevoke s k o = SawValidBias s k o × (k.reached ≡ false) × SawNoOther s k o

-- what a thread has seen that asks for a safepoint for this operation. An exit asks for none, nor does a wait that has let go; a dump looks at the
-- words at the safepoint alone, and each other operation revokes a bias that it saw
abbrev pub MayAsk : Shape → ThreadView → Option Unfinished → Type 0
MayAsk s k None = Unit {0}
MayAsk s k (Some u) = by_op u.op
  where
    by_op : Operation → Type 0
    by_op op.Exit = ⊥
    by_op op.Dump = Unit {0}
    by_op op.Wait = (waits_on k.wait u.object ≡ false) × MayRevoke s k u.object
    by_op _ = MayRevoke s k u.object

pub record AtRest (s : Shape) (k : ThreadView) : Type 0 where
  pub calm : k.stage ≡ Settled
  -- and has nothing in hand of the ring
  pub still : k.moving ≡ Still
  -- it has ended with nothing unfinished, and says so
  pub ended : ends k.log ≡ true → (says_ended k.wait ≡ true) × (k.unfinished ≡ None)
  -- an unfinished enter has a place for its hold word
  pub place : (o : ℕ) → IsUnfinished k.unfinished op.Enter o → free_place k.holds < most_holds
  -- that it was notified it has not stored itself
  pub untold : (o : ℕ) → says_notified k.wait o ≡ false
  -- a thread that asks for a safepoint doesn't run; it asks for a check, or for its operation
  pub stopped : k.requesting ≡ true → k.running ≡ false
  pub asks : k.requesting ≡ true → k.checking ≡ false → MayAsk s k k.unfinished
  -- an unfinished dump has not taken its shot: each that the thread keeps stands for a dump that it has logged
  pub shots : IsUnfinished k.unfinished op.Dump 0 → length k.shots ≡ length (dumps_from 0 k.log)
  -- a check is unfinished only while it asks
  pub checks : k.checking ≡ true → k.requesting ≡ true
