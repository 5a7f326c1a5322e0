-- Each monitor is sound after every history.
use Rattle.std.proofs.Common.{◌≡◌, ℕ, zero, suc, Bool, ◌&&◌, nat_lt, slice_get, slice_set, List, [], ◌∷◌, length, refl, sym, subst, Option, Some, None}
use Rattle.std.proofs.lemmas.Option.{cond_some, same_Some}
use Rattle.std.specs.List.{AllByRecursion}
use Rattle.plain_monitor.specs.declared.entry.Entry.{Entry}
use Rattle.plain_monitor.specs.declared.entry.Entry.TheVariants.{Enter, Exit, Get, Put, Wait, Resume, Notify, NotifyAll}
use Rattle.plain_monitor.specs.declared.entry.Entry.TheVariants.{Hash}
use Rattle.plain_monitor.specs.declared.entry.Logged.{Logged}
use Rattle.plain_monitor.specs.Monitor.{PlainMonitor, only_if, owns, enter, exit, wait, resume, notify, notify_all}
use Rattle.plain_monitor.specs.Objects.{PlainObject, new_objects, take_at, take_named, take_entry, named, with_monitor, with_hash, hashed, has_value}
use Rattle.plain_monitor.specs.Order.{order}
use Rattle.plain_monitor.specs.History.{take_all, objects_after}
use Rattle.plain_monitor.proofs.Lists.{all_set}
use Rattle.plain_history.specs.Sound.{IsSound}
use Rattle.plain_history.proofs.Swaps.{taken_at}
use Rattle.plain_history.proofs.Inserting.{first_taken}
use Rattle.plain_history.proofs.SoundSteps.{free_sound, enter_sound, exit_sound, wait_sound, resume_sound, notify_sound, notify_all_sound}

-- a fact of the monitor is kept where it takes a step that keeps it
pub monitor_kept : (F : PlainMonitor → Type 0) (x y : PlainObject) (m : Option PlainMonitor)
    → ((n : PlainMonitor) → m ≡ Some n → F n) → with_monitor x m ≡ Some y → F y.monitor
monitor_kept F x y None f h = absurd (cc h)
monitor_kept F x y (Some n) f h = let e : record x { monitor = n } ≡ y = same_Some _ _ h in subst (λ v. F v.monitor) e (f n refl)

-- where the object only passes a test, and may come to be another with the same monitor
pub only_kept : (F : PlainMonitor → Type 0) (x z y : PlainObject) (b : Bool) → F x.monitor → z.monitor ≡ x.monitor → only_if b z ≡ Some y → F y.monitor
only_kept F x z y b s e h = let r = cond_some b z y h in subst (λ v. F v.monitor) r.1 (subst F (sym e) s)

-- and where the object gets a hash
pub hash_kept : (F : PlainMonitor → Type 0) (x y : PlainObject) (k : Option (Option ℕ)) → F x.monitor → with_hash x k ≡ Some y → F y.monitor
hash_kept F x y None s h = absurd (cc h)
hash_kept F x y (Some k) s h = let e : record x { hash = k } ≡ y = same_Some _ _ h in subst (λ v. F v.monitor) e s

-- each entry keeps the monitor of the object that takes it sound
take_sound : (x y : PlainObject) (t : ℕ) (e : Entry) → IsSound x.monitor → take_at x t e ≡ Some y → IsSound y.monitor
take_sound x y t (Enter o p) s h = monitor_kept IsSound x y (enter x.monitor t) (λ n. enter_sound x.monitor n t s) h
take_sound x y t (Exit o) s h = monitor_kept IsSound x y (exit x.monitor t) (λ n. exit_sound x.monitor n t s) h
take_sound x y t (Wait o) s h = monitor_kept IsSound x y (wait x.monitor t) (λ n. wait_sound x.monitor n t s) h
take_sound x y t (Resume o) s h = monitor_kept IsSound x y (resume x.monitor t) (λ n. resume_sound x.monitor n t s) h
take_sound x y t (Notify o w) s h = monitor_kept IsSound x y (notify x.monitor t w) (λ n. notify_sound x.monitor n t w s) h
take_sound x y t (NotifyAll o w) s h = monitor_kept IsSound x y (notify_all x.monitor t w) (λ n. notify_all_sound x.monitor n t w s) h
take_sound x y t (Get o i v) s h = only_kept IsSound x x y (owns x.monitor t && has_value (slice_get x.slots i) v) s refl h
take_sound x y t (Put o i v) s h = only_kept IsSound x (record x { slots = slice_set x.slots i v }) y (owns x.monitor t && nat_lt i (length x.slots)) s refl h
take_sound x y t (Hash o v d) s h = hash_kept IsSound x y (hashed x.hash v) s h
take_sound x y t _ s h = subst (λ z. IsSound z.monitor) (same_Some x y h) s

-- the monitor of each object is sound
abbrev pub AllSound : List PlainObject → Type 0
AllSound objects = AllByRecursion (λ x. IsSound x.monitor) objects

-- where each monitor is sound, that of one object is
pub sound_at : (xs : List PlainObject) (i : ℕ) (x : PlainObject) → slice_get xs i ≡ Some x → AllSound xs → IsSound x.monitor
sound_at [] i x h a = absurd (cc h)
sound_at (y ∷ xs) zero x h a = subst (λ z. IsSound z.monitor) (same_Some y x h) a.0
sound_at (y ∷ xs) (suc i) x h a = sound_at xs i x h a.1

-- each monitor stays sound at an entry, by the object that it names
pub named_sound : (before after : List PlainObject) (t : ℕ) (e : Entry) (o : Option ℕ) → AllSound before → take_named before t e o ≡ Some after → AllSound after
named_sound before after t e None a h = subst AllSound (same_Some before after h) a
named_sound before after t e (Some o) a h =
    let k = taken_at before after t e o h in
    subst AllSound (sym k.is) (all_set (λ x. IsSound x.monitor) before o k.y (take_sound k.x k.y t e (sound_at before o k.x k.was a) k.step) a)

-- each monitor stays sound at all entries
all_sound : (xs : List (ℕ × Logged)) (before after : List PlainObject) → AllSound before → take_all before xs ≡ Some after → AllSound after
all_sound [] before after a h = subst AllSound (same_Some before after h) a
all_sound (x ∷ xs) before after a h =
    let k = first_taken (take_entry before x.0 x.1.entry) xs after h in
    all_sound xs k.0 after (named_sound before k.0 x.0 x.1.entry (named x.1.entry) a k.1) k.2

-- each monitor is sound at first
pub new_sound : (shape : List (ℕ × ℕ)) → AllSound (new_objects shape)
new_sound [] = tt
new_sound (s ∷ shape) = (free_sound, new_sound shape)

-- each monitor is sound after a history that the objects take
pub history_sound : (shape : List (ℕ × ℕ)) (logs : List (List Logged)) (objects : List PlainObject) → objects_after shape logs ≡ Some objects → AllSound objects
history_sound shape logs objects h = all_sound (order logs) (new_objects shape) objects (new_sound shape) h
