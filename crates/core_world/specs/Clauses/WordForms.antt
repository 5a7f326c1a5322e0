-- Each word spells a form, and names what the heap has.
use Rattle.std.specs.Prelude.{◌≡◌, ◌≢◌, ℕ, ◌<◌, ◌≤◌, length, Option, Some, None, IfSome}
use Rattle.mark_word.specs.declared.mark.MarkForm.{MarkForm}
use Rattle.mark_word.specs.declared.mark.MarkForm.TheVariants.{Inflating, Neutral, Anonymous, Biased, Locked, Inflated, Marked}
use Rattle.mark_word.specs.declared.owner.OwnerForm.{OwnerForm}
use Rattle.mark_word.specs.declared.owner.OwnerForm.TheVariants.{Free, ByThread, ByRecord}
use Rattle.mark_word.specs.declared.wait.WaitForm.{WaitForm}
use Rattle.mark_word.specs.declared.wait.WaitForm.TheVariants as wait
use Rattle.mark_word.specs.declared.hold.HoldForm.{HoldForm}
use Rattle.mark_word.specs.declared.hold.HoldForm.TheVariants.{Empty, Holds}
use Rattle.mark_word.specs.declared.safe.SafeForm.{SafeForm}
use Rattle.mark_word.specs.Mark.{read_mark}
use Rattle.mark_word.specs.Owner.{read_owner}
use Rattle.mark_word.specs.Wait.{read_wait}
use Rattle.mark_word.specs.Hold.{read_hold}
use Rattle.mark_word.specs.Safe.{read_safe}
use Rattle.core_world.specs.Words.Shape.{Shape, monitor_count}

-- no mark is Marked, and every age is 0
abbrev pub IsMark : Shape → Option MarkForm → Type 0
IsMark s None = ⊥
IsMark s (Some Inflating) = Unit {0}
IsMark s (Some (Neutral hash age)) = age ≡ 0
IsMark s (Some (Anonymous epoch age)) = age ≡ 0
IsMark s (Some (Biased thread epoch age)) = (thread < s.threads) × (age ≡ 0)
IsMark s (Some (Locked thread place)) = thread < s.threads
IsMark s (Some (Inflated monitor)) = monitor < monitor_count s
IsMark s (Some Marked) = ⊥

abbrev pub IsOwner : Shape → Option OwnerForm → Type 0
IsOwner s None = ⊥
IsOwner s (Some Free) = Unit {0}
IsOwner s (Some (ByThread thread)) = thread < s.threads
IsOwner s (Some (ByRecord thread place)) = thread < s.threads

abbrev pub IsWait : Shape → Option WaitForm → Type 0
IsWait s None = ⊥
IsWait s (Some wait.Ready) = Unit {0}
IsWait s (Some (wait.Entering object)) = object < length s.objects
IsWait s (Some (wait.Waiting object stamp)) = object < length s.objects
IsWait s (Some (wait.Notified object)) = object < length s.objects
IsWait s (Some wait.Ended) = Unit {0}

abbrev pub IsHold : Shape → Option HoldForm → Type 0
IsHold s None = ⊥
IsHold s (Some Empty) = Unit {0}
IsHold s (Some (Holds object depth)) = object < length s.objects

abbrev pub IsSafepoint : Shape → Option SafeForm → Type 0
IsSafepoint s None = ⊥
IsSafepoint s (Some form) = IfSome form.requester (λ thread. thread < s.threads)

pub record WordsHaveForms (s : Shape) (mark owner wait object class : ℕ → ℕ) (hold : ℕ → ℕ → ℕ) (safe : ℕ) : Type 0 where
  pub marks : (o : ℕ) → IsMark s (read_mark (mark o))
  pub owners : (m : ℕ) → IsOwner s (read_owner (owner m))
  pub waits : (t : ℕ) → IsWait s (read_wait (wait t))
  -- the object word of a monitor is 0 for none and for object 0
  pub objects : (m : ℕ) → object m ≢ 0 → object m < length s.objects
  pub holds : (t p : ℕ) → IsHold s (read_hold (hold t p))
  pub safepoint : IsSafepoint s (read_safe safe)
  -- a class plus 1, or 0
  pub classes : (o : ℕ) → class o ≤ s.classes
