-- How a heap is planned: its plan is begun, and gets class by class and object by object.
use Rattle.std.specs.Prelude.{◌≡◌, ◌⊎◌, ℕ, ◌+◌, ◌/◌, ◌==◌, ◌||◌, nat_lt, nat_le, not, Bool, List, [], ◌∷◌, ◌++◌, length, Option, Some, None}
use Rattle.plain_monitor.specs.Limits.{most_threads, most_classes, most_slots, most_objects}
use Rattle.lock_runtime_c.specs.declared.answers.Answer.{Answer}
use Rattle.lock_runtime_c.specs.declared.handle.Slot.{Slot}
use Rattle.lock_runtime_c.specs.declared.inner.Plan.{Plan}
use Rattle.lock_runtime_c.specs.declared.inner.Inner.{Inner}
use Rattle.lock_runtime_c.specs.declared.inner.Inner.TheVariants as inner
use Rattle.lock_runtime_c.specs.declared.outcome.Misuse.{Misuse}
use Rattle.lock_runtime_c.specs.declared.outcome.Misuse.TheVariants as misuse
use Rattle.lock_runtime_c.specs.declared.outcome.Outcome.{Outcome}
use Rattle.lock_runtime_c.specs.declared.outcome.Outcome.TheVariants.{Done, Misused, NoMemory}
use Rattle.lock_runtime_c.specs.declared.outcome.Said.TheVariants.{Nothing}
use Rattle.lock_runtime_c.specs.Numbers.{answered, with_kind}
use Rattle.lock_runtime_c.specs.Reasons.{if_so, or_else}

-- the most entries for which a log may be given room
abbrev pub most_entries : ℕ
most_entries = 400000

-- FILLING a handle that was empty: it has this then; or memory is wanting, and it is as it was
abbrev pub Fills : (Inner → Type 0) → Slot → Slot → Outcome → Type 0
Fills Is before after out =
    ((out ≡ Done Nothing) × (after.live ≡ 1) × (x : Inner) × (after.handle.held ≡ Some x) × Is x)
    ⊎ ((out ≡ NoMemory) × (after ≡ before))

-- A PLAN IS BEGUN
abbrev pub begin_reason : ℕ → ℕ → Option Misuse
begin_reason threads entries =
    or_else (if_so (threads == 0 || nat_lt most_threads threads) misuse.NoThread) (if_so (nat_lt most_entries entries) misuse.TooManyEntries)

-- of so many threads, without classes or objects
pub record IsBegun (threads entries start : ℕ) (biased : Bool) (p : Plan) : Type 0 where
  pub threads_are : p.threads ≡ threads
  pub fuel : p.fuel ≡ (entries + 1) / 2
  pub start_is : p.start ≡ start
  pub biased_is : p.biased ≡ biased
  pub slots : p.slots.items ≡ []
  pub classes : p.classes.items ≡ []

abbrev pub IsPlan : (Plan → Type 0) → Inner → Type 0
IsPlan Is (inner.Plan p) = Is p
IsPlan Is x = ⊥

abbrev pub BeginsBy : Option Misuse → (Plan → Type 0) → Slot → Slot → Outcome → Type 0
BeginsBy (Some why) Is before after out = (out ≡ Misused why) × (after ≡ before)
BeginsBy None Is before after out = Fills (IsPlan Is) before after out

-- a handle that has something keeps it
abbrev pub or_taken : Slot → Option Misuse → Option Misuse
or_taken before why = or_else (if_so (not (before.live == 0)) misuse.Taken) why

pub record Begins (threads entries start : ℕ) (biased : Bool) (before after : Slot) (a : Answer) : Type 0 where
  pub outcome : Outcome
  pub is : a ≡ answered outcome
  pub begins : BeginsBy (or_taken before (begin_reason threads entries)) (IsBegun threads entries start biased) before after outcome

-- AND GETS one thing more, whose number is answered; or memory is wanting, or there may be no more, and it plans what it did
abbrev pub IsSame : Plan → Plan → Type 0
IsSame p q =
    (q.threads ≡ p.threads) × (q.fuel ≡ p.fuel) × (q.start ≡ p.start) × (q.biased ≡ p.biased)
    × (q.slots.items ≡ p.slots.items) × (q.classes.items ≡ p.classes.items)

-- the same plan, but for what is said of classes and objects
abbrev pub HasMore : Plan → Plan → List ℕ → List ℕ → Type 0
HasMore p q slots classes =
    (q.threads ≡ p.threads) × (q.fuel ≡ p.fuel) × (q.start ≡ p.start) × (q.biased ≡ p.biased)
    × (q.slots.items ≡ slots) × (q.classes.items ≡ classes)

abbrev pub Gets : Option Misuse → ℕ → (Plan → Type 0) → Plan → Plan → Answer → Type 0
Gets (Some why) number More p q a = (a ≡ answered (Misused why)) × IsSame p q
Gets None number More p q a = ((a ≡ with_kind 0 0 number) × More q) ⊎ ((a ≡ answered NoMemory) × IsSame p q)

-- a class whose objects have so many slots
abbrev pub class_reason : Plan → ℕ → Option Misuse
class_reason p slots =
    or_else (if_so (nat_le most_classes (length p.slots.items)) misuse.TooManyClasses) (if_so (nat_lt most_slots slots) misuse.TooManySlots)

abbrev pub GetsClass : Plan → Plan → ℕ → Answer → Type 0
GetsClass p q slots a =
    Gets (class_reason p slots) (length p.slots.items) (λ r. HasMore p r (p.slots.items ++ slots ∷ []) p.classes.items) p q a

-- an object of this class
abbrev pub object_reason : Plan → ℕ → Option Misuse
object_reason p class =
    or_else (if_so (nat_le most_objects (length p.classes.items)) misuse.TooManyObjects)
    (if_so (nat_le (length p.slots.items) class) misuse.NoClass)

abbrev pub GetsObject : Plan → Plan → ℕ → Answer → Type 0
GetsObject p q class a =
    Gets (object_reason p class) (length p.classes.items) (λ r. HasMore p r p.slots.items (p.classes.items ++ class ∷ [])) p q a

-- anything but a plan gets nothing
abbrev pub OfPlan : (Plan → Plan → Answer → Type 0) → Inner → Inner → Answer → Type 0
OfPlan Gets (inner.Plan p) after a = (q : Plan) × (after ≡ inner.Plan q) × Gets p q a
OfPlan Gets before after a = (after ≡ before) × (a ≡ answered (Misused misuse.OtherKind))
