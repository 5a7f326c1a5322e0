-- What an entry does to the owner of one object.
use Rattle.std.proofs.Common.{◌≡◌, ◌≢◌, ◌⊎◌, ℕ, ◌+◌, ◌-◌, nat_le, if◌then◌else◌, eqb-true, Bool, true, false, is_none, ◌&&◌, List}
use Rattle.std.proofs.Common.{[], ◌++◌, slice_set, slice_index_or, Option, Some, None, refl, sym, ap, ◌∙◌, subst, inl, inr}
use Rattle.std.proofs.lemmas.List.{get_or-set_same, get_or-set_other}
use Rattle.std.proofs.lemmas.Option.{cond_some, same_Some, none-some, slice_get_within, get_or_from_slice_get}
use Rattle.plain_monitor.specs.declared.entry.Entry.{Entry}
use Rattle.plain_monitor.specs.declared.entry.Entry.TheVariants.{Enter, Exit, Get, Put, Wait, Resume, Notify, NotifyAll}
use Rattle.plain_monitor.specs.declared.entry.Entry.TheVariants.{Hash}
use Rattle.plain_monitor.specs.Monitor.{PlainMonitor, owns, is_thread, is_outside, only_if, enter, exit}
use Rattle.plain_monitor.specs.Monitor.{wait, resume, resumed, count_of, calls, notify, notify_all}
use Rattle.plain_monitor.specs.Objects.{PlainObject, new_object, take_at, take_named, with_monitor, with_hash, hashed}
use Rattle.plain_machine.specs.Sound.{monitor_in}
use Rattle.plain_machine.proofs.Counted.{owner-calls}
use Rattle.machine_laws.proofs.ReachedAsked.{taken_at}

-- who owns the monitor afterwards owned it before
abbrev pub Keeps : PlainMonitor → PlainMonitor → Type 0
Keeps m n = (u : ℕ) → n.owner ≡ Some u → m.owner ≡ Some u

-- thread t owns it afterwards; it owned it before, or the count is 1
pub record Enters (m n : PlainMonitor) (t : ℕ) : Type 0 where
  pub owns : n.owner ≡ Some t
  pub again : (m.owner ≡ Some t) ⊎ (n.count ≡ 1)

-- what an entry of thread t that names the object does to its owner
abbrev pub TurnOf : Entry → PlainMonitor → PlainMonitor → ℕ → Type 0
TurnOf (Enter o path) m n t = Enters m n t
TurnOf (Resume o) m n t = n.owner ≡ Some t
TurnOf e m n t = Keeps m n

owner_is : (owner : Option ℕ) (t : ℕ) → is_thread owner t ≡ true → owner ≡ Some t
owner_is None t h = absurd (cc h)
owner_is (Some u) t h = ap (λ (v : ℕ). Some v) (eqb-true u t h)

entered : (m n : PlainMonitor) (t : ℕ) → enter m t ≡ Some n → Enters m n t
entered m n t h = by_owner (owns m t) refl h where
  by_owner : (b : Bool) → owns m t ≡ b → (if b then Some (record m { count = m.count + 1 })
      else only_if (is_none m.owner && is_outside m t) (record m { owner = Some t; count = 1 })) ≡ Some n → Enters m n t
  by_owner true own h =
      let same : record m { count = m.count + 1 } ≡ n = same_Some _ n h in
      let before = owner_is m.owner t own in
      subst (λ (z : PlainMonitor). Enters m z t) same (record { owns = before; again = inl before })
  by_owner false own h =
      let r = cond_some (is_none m.owner && is_outside m t) (record m { owner = Some t; count = 1 }) n h in
      subst (λ (z : PlainMonitor). Enters m z t) r.1 (record { owns = refl; again = inr refl })

resumes : (m n : PlainMonitor) (t : ℕ) (count : Option ℕ) → resumed m t count ≡ Some n → n.owner ≡ Some t
resumes m n t None h = absurd (none-some n h)
resumes m n t (Some k) h = let r = cond_some (is_none m.owner) _ n h in subst (λ (z : PlainMonitor). z.owner ≡ Some t) r.1 refl

exited : (m n : PlainMonitor) (t : ℕ) → exit m t ≡ Some n → Keeps m n
exited m n t h =
    let r = cond_some (owns m t) _ n h in
    subst (Keeps m) r.1 (by_count (nat_le m.count 1))
  where
    by_count : (b : Bool) → Keeps m (if b then record m { owner = None; count = 0 } else record m { count = m.count - 1 })
    by_count true = λ u e. absurd (none-some u e)
    by_count false = λ u e. e

waited : (m n : PlainMonitor) (t : ℕ) → wait m t ≡ Some n → Keeps m n
waited m n t h = let r = cond_some (owns m t) _ n h in subst (Keeps m) r.1 (λ u e. absurd (none-some u e))

notified : (m n : PlainMonitor) (t : ℕ) (woken : Option ℕ) → notify m t woken ≡ Some n → Keeps m n
notified m n t woken h = by_owner (owns m t) h where
  by_owner : (b : Bool) → (if b then calls m m.waits woken else None) ≡ Some n → Keeps m n
  by_owner true h = λ u e. sym (owner-calls m n m.waits woken h).owner ∙ e
  by_owner false h = absurd (none-some n h)

all_notified : (m n : PlainMonitor) (t k : ℕ) → notify_all m t k ≡ Some n → Keeps m n
all_notified m n t k h = let r = cond_some _ (record m { waits = []; called = m.called ++ m.waits }) n h in subst (Keeps m) r.1 (λ u e. e)

-- the monitor of an object whose monitor made a step
stepped : (x y : PlainObject) (m : Option PlainMonitor) → with_monitor x m ≡ Some y → m ≡ Some y.monitor
stepped x y None h = absurd (none-some y h)
stepped x y (Some n) h = let same : record x { monitor = n } ≡ y = same_Some _ y h in ap (λ (z : PlainObject). Some z.monitor) same

hash_stays : (x y : PlainObject) (hash : Option (Option ℕ)) → with_hash x hash ≡ Some y → Keeps x.monitor y.monitor
hash_stays x y None h = absurd (none-some y h)
hash_stays x y (Some k) h = let same : record x { hash = k } ≡ y = same_Some _ y h in subst (λ (z : PlainObject). Keeps x.monitor z.monitor) same (λ u e. e)

stays : (x y : PlainObject) → Some x ≡ Some y → Keeps x.monitor y.monitor
stays x y h = subst (λ (z : PlainObject). Keeps x.monitor z.monitor) (same_Some x y h) (λ u e. e)

-- an entry that an object takes
object_turns : (x y : PlainObject) (t : ℕ) (e : Entry) → take_at x t e ≡ Some y → TurnOf e x.monitor y.monitor t
object_turns x y t (Enter o path) h = entered x.monitor y.monitor t (stepped x y (enter x.monitor t) h)
object_turns x y t (Exit o) h = exited x.monitor y.monitor t (stepped x y (exit x.monitor t) h)
object_turns x y t (Wait o) h = waited x.monitor y.monitor t (stepped x y (wait x.monitor t) h)
object_turns x y t (Resume o) h = resumes x.monitor y.monitor t (count_of x.monitor.called t) (stepped x y (resume x.monitor t) h)
object_turns x y t (Notify o woken) h = notified x.monitor y.monitor t woken (stepped x y (notify x.monitor t woken) h)
object_turns x y t (NotifyAll o k) h = all_notified x.monitor y.monitor t k (stepped x y (notify_all x.monitor t k) h)
object_turns x y t (Get o k v) h = let r = cond_some _ x y h in subst (λ (z : PlainObject). Keeps x.monitor z.monitor) r.1 (λ u e. e)
object_turns x y t (Put o k v) h = let r = cond_some _ (record x { slots = slice_set x.slots k v }) y h in
    subst (λ (z : PlainObject). Keeps x.monitor z.monitor) r.1 (λ u e. e)
object_turns x y t (Hash o v drawn) h = hash_stays x y (hashed x.hash v) h
object_turns x y t _ h = stays x y h

-- what an entry does to the owner of object o, by the object that it names
pub record Turns (objects : List PlainObject) (o t k : ℕ) (e : Entry) (after : List PlainObject) : Type 0 where
  pub here : k ≡ o → TurnOf e (monitor_in objects o) (monitor_in after o) t
  pub elsewhere : k ≢ o → Keeps (monitor_in objects o) (monitor_in after o)

pub named_turns : (objects : List PlainObject) (o t k : ℕ) (e : Entry) (after : List PlainObject)
    → take_named objects t e (Some k) ≡ Some after → Turns objects o t k e after
named_turns objects o t k e after h =
    let r = taken_at objects k t e after h in
    let before : slice_index_or objects k (new_object 0) ≡ r.x = get_or_from_slice_get objects k r.x (new_object 0) r.there in
    let written : slice_index_or after k (new_object 0) ≡ r.y = ap (λ (xs : List PlainObject). slice_index_or xs k (new_object 0)) (sym r.is)
    ∙ get_or-set_same objects k r.y (new_object 0) (slice_get_within objects k r.x r.there) in
    record {
      here = λ same.
          let old : TurnOf e (monitor_in objects k) r.y.monitor t =
          subst (λ (x : PlainObject). TurnOf e x.monitor r.y.monitor t) (sym before) (object_turns r.x r.y t e r.takes) in
          let turn : TurnOf e (monitor_in objects k) (monitor_in after k) t =
          subst (λ (y : PlainObject). TurnOf e (monitor_in objects k) y.monitor t) (sym written) old in
          subst (λ (j : ℕ). TurnOf e (monitor_in objects j) (monitor_in after j) t) same turn;
      elsewhere = λ other.
          let there : slice_index_or after o (new_object 0) ≡ slice_index_or objects o (new_object 0) =
          ap (λ (xs : List PlainObject). slice_index_or xs o (new_object 0)) (sym r.is)
          ∙ get_or-set_other objects k o r.y (new_object 0) (λ e. other (sym e)) in
          λ u own. ap (λ (x : PlainObject). x.monitor.owner) (sym there) ∙ own;
    }

-- an entry that names no object does nothing to any
pub unnamed_turns : (objects : List PlainObject) (o : ℕ) (after : List PlainObject)
    → Some objects ≡ Some after → Keeps (monitor_in objects o) (monitor_in after o)
unnamed_turns objects o after h = subst (λ (xs : List PlainObject). Keeps (monitor_in objects o) (monitor_in xs o)) (same_Some objects after h) (λ u e. e)
