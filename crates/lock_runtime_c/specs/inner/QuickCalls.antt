-- Enters and exits of which it is plain that they may begin, and which begin by a quick way.
use Rattle.std.specs.Prelude.{◌≡◌, ◌⊎◌, ◌+◌, ◌&&◌, ℕ, nat_le, nat_lt, true, Option, None, Some, length}
use Rattle.core_world.specs.Clauses.Lengths.{log_limit}
use Rattle.core_world.specs.declared.answer.Progress.{Progress}
use Rattle.core_world.specs.declared.heap_call.HeapCall.{HeapCall}
use Rattle.core_world.specs.declared.heap_call.HeapCall.TheVariants as task
use Rattle.heap_table.specs.Quick.{EntersFree, IsFree, LeavesFree}
use Rattle.heap_table.specs.Resting.{Rests}
use Rattle.heap_table.specs.Seen.{HeapSeen, PassSeen}
use Rattle.heap_table.specs.declared.quick.QuickEnter.{QuickEnter}
use Rattle.heap_table.specs.declared.quick.QuickEnter.TheVariants as enters
use Rattle.heap_table.specs.declared.quick.QuickExit.{QuickExit}
use Rattle.heap_table.specs.declared.quick.QuickExit.TheVariants as exits
use Rattle.lock_runtime.specs.Begun.{HasBegunEnter, HasBegunExit}
use Rattle.lock_runtime_c.specs.ByHandle.{Within}
use Rattle.lock_runtime_c.specs.LogRoom.{KeepsRoom}
use Rattle.lock_runtime_c.specs.Numbers.{answered}
use Rattle.lock_runtime_c.specs.Outcomes.{nothing, of_progress}
use Rattle.lock_runtime_c.specs.Rest.{IsAtRest, RestsWithin}
use Rattle.lock_runtime_c.specs.Told.{barred, Told}
use Rattle.lock_runtime_c.specs.declared.answers.Answer.{Answer}
use Rattle.lock_runtime_c.specs.declared.handle.Slot.{Slot}
use Rattle.lock_runtime_c.specs.declared.inner.Inner.{Inner}
use Rattle.lock_runtime_c.specs.declared.inner.Inner.TheVariants as inner
use Rattle.lock_runtime_c.specs.declared.inner.Seat.{Seat}
use Rattle.lock_runtime_c.specs.declared.outcome.Outcome.{Outcome}

-- A free thread may begin any operation on this declared object that needs so much room of its log.
pub record IsOpenTo (h : HeapSeen) (p : PassSeen) (o entries : ℕ) : Type 0 where
  pub free : IsFree p.known
  pub declared : nat_lt o h.heap.shape.declared ≡ true
  pub room : (nat_le (length p.known.log + entries) p.limit && nat_le (length p.known.log + entries) log_limit) ≡ true

-- WHAT C GETS of a call on a pass,
pub record IsAnswered (h : HeapSeen) (t : HeapCall) (p q : PassSeen) (a : Answer) : Type 0 where
  pub outcome : Outcome
  pub is : a ≡ answered outcome
  pub told : Told h t p q outcome
  pub room : KeepsRoom p → KeepsRoom q

-- and by what its handle has.
pub record AnswersWithin (x y : Inner) (t : HeapCall) (a : Answer) : Type 0 where
  pub outcome : Outcome
  pub is : a ≡ answered outcome
  pub within : Within x y t outcome

-- THE ENTER. Nothing bars the one that began on pass p, and of which the quick way came so far.
pub record HasOpenedEnter (h : HeapSeen) (p q : PassSeen) (o now : ℕ) (how : QuickEnter) : Type 0 where
  pub may : barred h p (task.Enter o now) ≡ None
  pub begun : HasBegunEnter h p q o now how
  pub free : EntersFree q.known how

abbrev pub EntersQuickly : HeapSeen → PassSeen → PassSeen → ℕ → ℕ → QuickEnter → Type 0
EntersQuickly h p q o now enters.Not = (q ≡ p) × Rests h q
EntersQuickly h p q o now how = HasOpenedEnter h p q o now how

-- Pass q is in the middle of one, and from wherever it began, this is the answer of what goes on with it.
abbrev pub IsOpenEnter : HeapSeen → PassSeen → ℕ → ℕ → QuickEnter → Type 0
IsOpenEnter h q o now how = (p : PassSeen) × EntersQuickly h p q o now how

abbrev pub AnswersEnter : HeapSeen → PassSeen → PassSeen → ℕ → ℕ → QuickEnter → Answer → Type 0
AnswersEnter h q r o now how a = (p : PassSeen) → EntersQuickly h p q o now how → IsAnswered h (task.Enter o now) p r a

-- THE EXIT, in the same way.
pub record HasOpenedExit (h : HeapSeen) (p q : PassSeen) (o : ℕ) (how : QuickExit) : Type 0 where
  pub may : barred h p (task.Exit o) ≡ None
  pub begun : HasBegunExit h p q o how
  pub free : LeavesFree q.known how

abbrev pub ExitsQuickly : HeapSeen → PassSeen → PassSeen → ℕ → QuickExit → Type 0
ExitsQuickly h p q o exits.Not = (q ≡ p) × Rests h q
ExitsQuickly h p q o how = HasOpenedExit h p q o how

abbrev pub IsOpenExit : HeapSeen → PassSeen → ℕ → QuickExit → Type 0
IsOpenExit h q o how = (p : PassSeen) × ExitsQuickly h p q o how

abbrev pub AnswersExit : HeapSeen → PassSeen → PassSeen → ℕ → QuickExit → Answer → Type 0
AnswersExit h q r o how a = (p : PassSeen) → ExitsQuickly h p q o how → IsAnswered h (task.Exit o) p r a

-- BY WHAT THE HANDLE HAS. A call of seat s, which was at rest, came so far, and left seat z.
pub record HasCome (Came : HeapSeen → PassSeen → PassSeen → Type 0) (s z : Seat) : Type 0 where
  pub rested : IsAtRest s
  pub room : z.room ≡ s.room
  pub place : z.lent.place ≡ s.lent.place
  pub page : z.page.items ≡ s.page.items
  pub flag : z.free ≡ s.free
  pub came : Came s.room.value.heap s.lent.thing z.lent.thing

-- It had x, has y, and a call of its pass came so far; or it has no pass, and nothing could begin.
abbrev pub CameWithin : (HeapSeen → PassSeen → PassSeen → Type 0) → Type 0 → Inner → Inner → Type 0
CameWithin Came Nothing x y =
    ((s : Seat) × (z : Seat) × (x ≡ inner.Seat s) × (y ≡ inner.Seat z) × HasCome Came s z)
    ⊎ (Nothing × (y ≡ x) × RestsWithin x × ((s : Seat) → x ≡ inner.Seat s → ⊥))

abbrev pub EntersWithin : Inner → Inner → ℕ → ℕ → QuickEnter → Type 0
EntersWithin x y o now how = CameWithin (λ h p q. EntersQuickly h p q o now how) (how ≡ enters.Not) x y

abbrev pub ExitsWithin : Inner → Inner → ℕ → QuickExit → Type 0
ExitsWithin x y o how = CameWithin (λ h p q. ExitsQuickly h p q o how) (how ≡ exits.Not) x y

-- the handle has y, amid one that came so far
abbrev pub IsAmidEnter : Inner → ℕ → ℕ → QuickEnter → Type 0
IsAmidEnter y o now how = (x : Inner) × EntersWithin x y o now how

abbrev pub IsAmidExit : Inner → ℕ → QuickExit → Type 0
IsAmidExit y o how = (x : Inner) × ExitsWithin x y o how

-- A call of this task is over, with this outcome; or it hasn't begun: what becomes of y by it, that became of x.
abbrev pub CallsWithin : Inner → Inner → HeapCall → Option Outcome → Type 0
CallsWithin x y t None = RestsWithin y × ((z : Inner) (out : Outcome) → Within y z t out → Within x z t out)
CallsWithin x y t (Some out) = RestsWithin y × Within x y t out

-- a poll is over at once, or hasn't begun
abbrev pub PollsWithin : Inner → Inner → Option (Progress (Unit {0})) → Type 0
PollsWithin x y None = (y ≡ x) × RestsWithin y
PollsWithin x y (Some progress) = RestsWithin y × AnswersWithin x y task.Poll (answered (of_progress nothing progress))

-- WHAT ENDS A CALL of the task, whose handle was emptied for it: it is filled again, and from wherever the call began, this is the answer.
pub record Ends (From : Inner → Type 0) (t : HeapCall) (after : Slot) (a : Answer) : Type 0 where
  pub left : Inner
  pub live : after.live ≡ 1
  pub holds : after.handle.held ≡ Some left
  pub answer : (x : Inner) → From x → AnswersWithin x left t a

abbrev pub EndsEnter : Inner → ℕ → ℕ → QuickEnter → Slot → Answer → Type 0
EndsEnter y o now how after a = Ends (λ x. EntersWithin x y o now how) (task.Enter o now) after a

abbrev pub EndsExit : Inner → ℕ → QuickExit → Slot → Answer → Type 0
EndsExit y o how after a = Ends (λ x. ExitsWithin x y o how) (task.Exit o) after a
