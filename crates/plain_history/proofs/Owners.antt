-- Entries of a thread leave what another owns, and no thread resumes at an object that has an owner.
use Rattle.std.proofs.Common.{◌≡◌, ◌≢◌, ℕ, ◌+◌, ◌==◌, eqb-true, Bool, true, false, cond, List, [], ◌∷◌, slice_set}
use Rattle.std.proofs.Common.{slice_index_or, Option, Some, None, refl, sym, ap, ◌∙◌, subst, inl, inr}
use Rattle.std.proofs.lemmas.Bool.{cases_eq}
use Rattle.std.proofs.lemmas.List.{get_or-set_same, get_or-set_other}
use Rattle.std.proofs.lemmas.Option.{cond_some, same_Some, get_or_from_slice_get}
use Rattle.plain_monitor.specs.declared.entry.Entry.{Entry}
use Rattle.plain_monitor.specs.declared.entry.Entry.TheVariants.{Enter, Exit, Get, Put, Wait, Resume, Notify, NotifyAll}
use Rattle.plain_monitor.specs.declared.entry.Entry.TheVariants.{Hash}
use Rattle.plain_monitor.specs.Monitor.{PlainMonitor, owns, count_of, enter, exit, wait, resumed, resume, calls, notify, notify_all}
use Rattle.plain_monitor.specs.Objects.{PlainObject, new_object, take_at, take_named, take_entry, named, hashed}
use Rattle.plain_history.proofs.Swaps.{taken_at}
use Rattle.plain_history.proofs.SoundHistories.{monitor_kept, only_kept, hash_kept}
use Rattle.plain_history.proofs.HeldByLog.{there}

-- A MONITOR THAT u OWNS, at a step of another thread
module _ (m : PlainMonitor) (u : ℕ) (owner : m.owner ≡ Some u) where
  abbrev Kept : PlainMonitor → Type 0
  Kept n = n.owner ≡ Some u

  -- the same with its owner written out
  abbrev owned : PlainMonitor
  owned = record m { owner = Some u }

  -- nobody resumes
  pub nobody_resumes : (n : PlainMonitor) (t : ℕ) → resume m t ≡ Some n → ⊥
  nobody_resumes n t h = by_count (count_of m.called t) (subst (λ a. resume (record m { owner = a }) t ≡ Some n) owner h)
    where
      by_count : (c : Option ℕ) → resumed owned t c ≡ Some n → ⊥
      by_count None g = cc g
      by_count (Some k) g = cc g

  called : (n : PlainMonitor) (ws : List (ℕ × ℕ)) (woken : Option ℕ) → calls m ws woken ≡ Some n → Kept n
  called n [] None h = subst Kept (same_Some m n h) owner
  called n [] (Some k) h = absurd (cc h)
  called n (p ∷ ps) None h = absurd (cc h)
  called n (p ∷ ps) (Some k) h = let r = cond_some (p.0 == k) _ n h in subst Kept r.1 owner

  notified : (n : PlainMonitor) (t : ℕ) (woken : Option ℕ) → notify m t woken ≡ Some n → Kept n
  notified n t woken h = by_owner (owns m t) h
    where
      by_owner : (b : Bool) → cond b (calls m m.waits woken) None ≡ Some n → Kept n
      by_owner true g = called n m.waits woken g
      by_owner false g = absurd (cc g)

  notified_all : (n : PlainMonitor) (t k : ℕ) → notify_all m t k ≡ Some n → Kept n
  notified_all n t k h = let r = cond_some _ _ n h in subst Kept r.1 owner

  -- the others do nothing that only the owner does
  module _ (t : ℕ) (other : u ≢ t) where
    not_own : owns m t ≡ true → ⊥
    not_own h = other (eqb-true u t (ap (λ a. owns (record m { owner = a }) t) (sym owner) ∙ h))

    entered : (n : PlainMonitor) → enter m t ≡ Some n → Kept n
    entered n h = by_owner (owns owned t) refl (subst (λ a. enter (record m { owner = a }) t ≡ Some n) owner h)
      where
        by_owner : (b : Bool) → (u == t) ≡ b → cond b (Some (record owned { count = m.count + 1 })) None ≡ Some n → Kept n
        by_owner true e g = absurd (other (eqb-true u t e))
        by_owner false e g = absurd (cc g)

    exited : (n : PlainMonitor) → exit m t ≡ Some n → Kept n
    exited n h = absurd (not_own (cond_some (owns m t) _ n h).0)

    waited : (n : PlainMonitor) → wait m t ≡ Some n → Kept n
    waited n h = absurd (not_own (cond_some (owns m t) _ n h).0)

-- AN OBJECT, at an entry of another thread that names it
object_keeps : (x y : PlainObject) (u t : ℕ) (e : Entry) → x.monitor.owner ≡ Some u → u ≢ t → take_at x t e ≡ Some y → y.monitor.owner ≡ Some u
object_keeps x y u t (Enter o p) own d h = monitor_kept (λ n. n.owner ≡ Some u) x y (enter x.monitor t) (entered x.monitor u own t d) h
object_keeps x y u t (Exit o) own d h = monitor_kept (λ n. n.owner ≡ Some u) x y (exit x.monitor t) (exited x.monitor u own t d) h
object_keeps x y u t (Wait o) own d h = monitor_kept (λ n. n.owner ≡ Some u) x y (wait x.monitor t) (waited x.monitor u own t d) h
object_keeps x y u t (Resume o) own d h = monitor_kept (λ n. n.owner ≡ Some u) x y (resume x.monitor t) (λ n g. absurd (nobody_resumes x.monitor u own n t g)) h
object_keeps x y u t (Notify o w) own d h = monitor_kept (λ n. n.owner ≡ Some u) x y (notify x.monitor t w) (λ n. notified x.monitor u own n t w) h
object_keeps x y u t (NotifyAll o w) own d h = monitor_kept (λ n. n.owner ≡ Some u) x y (notify_all x.monitor t w) (λ n. notified_all x.monitor u own n t w) h
object_keeps x y u t (Get o i v) own d h = only_kept (λ n. n.owner ≡ Some u) x x y _ own refl h
object_keeps x y u t (Put o i v) own d h = only_kept (λ n. n.owner ≡ Some u) x (record x { slots = slice_set x.slots i v }) y _ own refl h
object_keeps x y u t (Hash o v k) own d h = hash_kept (λ n. n.owner ≡ Some u) x y (hashed x.hash v) own h
object_keeps x y u t _ own d h = subst (λ z. z.monitor.owner ≡ Some u) (same_Some x y h) own

-- ALL OBJECTS. The owner of object o, at any entry
abbrev pub owner_of : List PlainObject → ℕ → Option ℕ
owner_of objects o = (slice_index_or objects o (new_object 0)).monitor.owner

module _ (before after : List PlainObject) (t : ℕ) where
  pub owner_stays : (e : Entry) (o u : ℕ) → take_entry before t e ≡ Some after → owner_of before o ≡ Some u → u ≢ t → owner_of after o ≡ Some u
  owner_stays e o u h own d = by_name (named e) h
    where
      by_name : (a : Option ℕ) → take_named before t e a ≡ Some after → owner_of after o ≡ Some u
      by_name None g = ap (λ xs. owner_of xs o) (sym (same_Some before after g)) ∙ own
      by_name (Some i) g =
          let k = taken_at before after t e i g in
          elim (cases_eq o i) [
            | inl s ↦
                let was : k.x.monitor.owner ≡ Some u = ap (λ (x : PlainObject). x.monitor.owner)
                (sym (get_or_from_slice_get before i k.x (new_object 0) k.was)) ∙ ap (owner_of before) (sym s) ∙ own in
                ap (λ xs. owner_of xs o) k.is ∙ ap (owner_of (slice_set before i k.y)) s
                ∙ ap (λ (x : PlainObject). x.monitor.owner) (get_or-set_same before i k.y (new_object 0) (there before i k.x k.was))
                ∙ object_keeps k.x k.y u t e was d k.step
            | inr n ↦ ap (λ xs. owner_of xs o) k.is ∙ ap (λ (x : PlainObject). x.monitor.owner) (get_or-set_other before i o k.y (new_object 0) n) ∙ own
          ]

  pub unowned_resume : (o u : ℕ) → take_entry before t (Resume o) ≡ Some after → owner_of before o ≡ Some u → ⊥
  unowned_resume o u h own =
      let k = taken_at before after t (Resume o) o h in
      let was : k.x.monitor.owner ≡ Some u = ap (λ (x : PlainObject). x.monitor.owner) (sym (get_or_from_slice_get before o k.x (new_object 0) k.was)) ∙ own in
      monitor_kept (λ n. ⊥) k.x k.y (resume k.x.monitor t) (λ n. nobody_resumes k.x.monitor u was n t) k.step
