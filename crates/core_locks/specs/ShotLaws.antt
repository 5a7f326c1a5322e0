-- When a thread may keep a shot at its reached safepoint, and what such a shot says.
use Rattle.std.specs.Prelude.{◌≡◌, ℕ, ◌-◌, ◌<◌, nat_lt, ◌==◌, Bool, true, false, List, length, map, Option, Some}
use Rattle.mark_word.specs.declared.mark.MarkForm.{MarkForm}
use Rattle.mark_word.specs.declared.mark.MarkForm.TheVariants.{Biased, Locked, Inflated}
use Rattle.mark_word.specs.declared.owner.OwnerForm.{OwnerForm}
use Rattle.mark_word.specs.declared.owner.OwnerForm.TheVariants.{ByThread, ByRecord}
use Rattle.mark_word.specs.Mark.{read_mark}
use Rattle.mark_word.specs.Owner.{read_owner}
use Rattle.plain_monitor.specs.Limits.{most_holds}
use Rattle.plain_monitor.specs.declared.entry.Entry.{Entry}
use Rattle.plain_monitor.specs.declared.entry.Entry.TheVariants.{Enter}
use Rattle.plain_monitor.specs.Objects.{PlainObject}
use Rattle.core_world.specs.declared.word_id.WordId.{WordId}
use Rattle.core_world.specs.declared.word_id.WordId.TheVariants.{Prototype, Mark, Hold, Length, Owner, Class}
use Rattle.core_world.specs.declared.stage.Stage.TheVariants.{Settled}
use Rattle.core_world.specs.declared.heap_call.Operation.TheVariants as op
use Rattle.core_world.specs.Words.Forms.{epoch_in}
use Rattle.core_world.specs.Threads.ThreadView.{ThreadView, DumpShot, last_seen}
use Rattle.core_world.specs.Locks.{has_epoch}
use Rattle.core_world.specs.Trees.LookSteps.{keep_shot_plan, look_at_objects}
use Rattle.core_world.specs.Trees.Plans.{CallContext, load}
use Rattle.core_world.specs.Clauses.Safepoints.{IsUnfinished}
use Rattle.core_world.specs.Words.Shape.{Shape, class_in_shape}
use Rattle.core_world.specs.Shots.{IsRightShot, cells_of, dumps_from}
use Rattle.core_world.specs.Trees.StepTree.{StepTree, done, unreachable, step, ◌>>=◌, ask, all_from}
use Rattle.core_world.specs.World.{World, logs}

-- WHAT HAS TO BE SEEN since the safepoint was reached: what the looks of a dump load. A word:
abbrev pub Saw : ThreadView → WordId → Type 0
Saw k n = (v : ℕ) × (last_seen n k.seen_at_safepoint ≡ Some v)

-- the hold words of thread t
abbrev pub SawHolds : ThreadView → ℕ → Type 0
SawHolds k t = (p : ℕ) → p < most_holds → Saw k (Hold t p)

-- those of the thread that this owner word names
abbrev pub SawByOwner : Option OwnerForm → ThreadView → Type 0
SawByOwner (Some (ByThread thread)) k = SawHolds k thread
SawByOwner (Some (ByRecord thread place)) k = SawHolds k thread
SawByOwner _ k = Unit {0}

-- c is the class of o: that of the shape where o is declared, and else that by its class word
abbrev pub SawClassWordIf : Bool → Shape → ThreadView → ℕ → ℕ → Type 0
SawClassWordIf true s k o c = c ≡ class_in_shape s o
SawClassWordIf false s k o c = (v : ℕ) × (last_seen (Class o) k.seen_at_safepoint ≡ Some v) × (c ≡ v - 1)

abbrev pub SawClassWord : Shape → ThreadView → ℕ → ℕ → Type 0
SawClassWord s k o c = SawClassWordIf (nat_lt o s.declared) s k o c

-- what a mark of o names: the class of o and its prototype under a bias, and the hold words of its thread where it is valid; the hold words of the
-- thread whose record it is; the owner word of the monitor, and the hold words of the owner
abbrev pub SawNamed : Option MarkForm → Shape → ThreadView → ℕ → Type 0
SawNamed (Some (Biased thread epoch age)) s k o =
    (v c : ℕ) × SawClassWord s k o c × (last_seen (Prototype c) k.seen_at_safepoint ≡ Some v)
    × (has_epoch (epoch_in v) epoch ≡ true → SawHolds k thread)
SawNamed (Some (Locked thread place)) s k o = SawHolds k thread
SawNamed (Some (Inflated monitor)) s k o =
    (v : ℕ) × (last_seen (Owner monitor) k.seen_at_safepoint ≡ Some v) × SawByOwner (read_owner v) k
SawNamed _ s k o = Unit {0}

-- the mark of each object with what it names, and the length of each log
pub record SawAll (s : Shape) (k : ThreadView) : Type 0 where
  pub objects : (o : ℕ) → o < length s.objects → (v : ℕ) × (last_seen (Mark o) k.seen_at_safepoint ≡ Some v)
      × SawNamed (read_mark v) s k o
  pub lengths : (t : ℕ) → t < s.threads → Saw k (Length t)

-- THE LOOKS OF A DUMP. The steps of a tree were seen: each loaded a word that was seen since the safepoint was reached, and the tree goes on by what
-- was last seen there. P holds of its answer.
abbrev pub SawSteps : {A : Type 0} → StepTree A → ThreadView → (A → Type 0) → Type 0
SawSteps (done a) k P = P a
SawSteps unreachable k P = ⊥
SawSteps (step p f) k P = (v : ℕ) × (last_seen p.at k.seen_at_safepoint ≡ Some v) × SawSteps (f v) k P

-- those before the step that keeps the shot
abbrev pub shot_looks : CallContext → Shape → StepTree (Unit {0})
shot_looks e s = do
  _ ← look_at_objects e s
  all_from 0 s.threads (λ t. do
    _ ← ask (load e (Length t))
    done tt)

-- and then that step
abbrev pub looks_and_shot : CallContext → Shape → StepTree (Unit {0})
looks_and_shot e s = do
  _ ← shot_looks e s
  _ ← ask (keep_shot_plan e)
  done tt

-- Keeping a shot: its safepoint is reached, it is in the middle of nothing but a dump, for which it has kept none yet, it has room for the shot, and it
-- has seen all.
pub record MayKeepShot (s : Shape) (k : ThreadView) (e : CallContext) : Type 0 where
  pub reached : k.reached ≡ true
  pub calm : k.stage ≡ Settled
  pub dumps : IsUnfinished k.unfinished op.Dump 0
  pub goes_on : e.unfinished ≡ k.unfinished
  pub logged : length k.shots ≡ length (dumps_from 0 k.log)
  pub room : length k.shots < 4
  pub saw : SawAll s k

-- The shot is of the world as it is: it cuts each log at its end, and has the owner and the count of each plain object.
pub record IsShotOfWorld (w : World) (objects : List PlainObject) (shot : DumpShot) : Type 0 where
  pub cut : shot.cut ≡ map (λ log. length log) (logs w)
  pub cells : shot.cells ≡ cells_of objects
  pub right : IsRightShot w.shape.objects (logs w) shot

-- the entry is an enter of o
abbrev pub enters : ℕ → Entry → Bool
enters o (Enter object path) = object == o
enters o _ = false
