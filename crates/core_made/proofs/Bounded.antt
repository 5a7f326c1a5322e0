-- An entry that a thread logs is above the bound of the object that it is bound to: its thread owns the object or takes it from nobody.
use Rattle.std.proofs.Common.{◌≡◌, ◌⊎◌, ℕ, ◌+◌, ◌<◌, ◌==◌, ◌&&◌, max, Bool, true, false, cond, List}
use Rattle.std.proofs.Common.{slice_get, Option, Some, None, refl, sym, ap, ◌∙◌, arith, inl, inr}
use Rattle.std.proofs.lemmas.Option.{cond_some, same_Some, get_or_from_slice_get}
use Rattle.std.specs.Option.{is_none}
use Rattle.plain_monitor.specs.declared.entry.Entry.{Entry}
use Rattle.plain_monitor.specs.declared.entry.Entry.TheVariants.{Enter, Exit, Get, Put, Wait, Resume, Notify, NotifyAll}
use Rattle.plain_monitor.specs.Monitor.{PlainMonitor, owns, is_outside, only_if, enter, resume}
use Rattle.plain_monitor.specs.Objects.{PlainObject, new_object, take_at, take_named, take_entry}
use Rattle.plain_history.specs.Tied.{bound_to}
use Rattle.plain_history.proofs.MadeSteps.{both_hold}
use Rattle.plain_history.proofs.Owners.{nobody_resumes}
use Rattle.plain_history.proofs.SoundHistories.{monitor_kept}
use Rattle.plain_history.proofs.Swaps.{taken_at, bound_is_named}
use Rattle.core_world.specs.Steps.{is_taking, stamp_by}
use Rattle.core_world.proofs.enter_exit.ObjectHolds.{thread_is, same_number}
use Rattle.core_locks.specs.OwnersEntries.{is_by_owner}
use Rattle.core_locks.proofs.enter_exit.RefutedOwning.{taken_by_owner}

-- STAMPS. An entry's is above its thread's last one, and that of an entry which takes an object above the word found.
higher : (b : Bool) (found last : ℕ) → last < cond b (max found last + 1) (last + 1)
higher true found last = omega arith
higher false found last = omega arith

pub above_last : (e : Entry) (found last : ℕ) → last < stamp_by e found last
above_last e found last = higher (is_taking e) found last

pub above_found : (e : Entry) (found last : ℕ) → is_taking e ≡ true → found < stamp_by e found last
above_found e found last taking = let a = ap (λ (b : Bool). cond b (max found last + 1) (last + 1)) taking in omega (arith, a)

-- OWNERS. An entry that is bound to an object takes it, or only its owner may log it.
pub by_owner_or_taking : (e : Entry) (o : ℕ) → bound_to e ≡ Some o → is_taking e ≡ false → is_by_owner o e ≡ true
by_owner_or_taking (Enter i path) o b t = absurd (cc t)
by_owner_or_taking (Resume i) o b t = absurd (cc t)
by_owner_or_taking (Exit i) o b t = ap (λ j. j == o) (same_Some i o b) ∙ same_number o
by_owner_or_taking (Wait i) o b t = ap (λ j. j == o) (same_Some i o b) ∙ same_number o
by_owner_or_taking (Notify i woken) o b t = ap (λ j. j == o) (same_Some i o b) ∙ same_number o
by_owner_or_taking (NotifyAll i woken) o b t = ap (λ j. j == o) (same_Some i o b) ∙ same_number o
by_owner_or_taking (Get i slot value) o b t = ap (λ j. j == o) (same_Some i o b) ∙ same_number o
by_owner_or_taking (Put i slot value) o b t = ap (λ j. j == o) (same_Some i o b) ∙ same_number o
by_owner_or_taking e o b t = absurd (cc b)

-- who takes an object owns it or finds it without an owner
abbrev IsFreeFor : PlainObject → ℕ → Type 0
IsFreeFor x t = (x.monitor.owner ≡ None) ⊎ (x.monitor.owner ≡ Some t)

no_owner : (a : Option ℕ) → is_none a ≡ true → a ≡ None
no_owner None h = refl
no_owner (Some u) h = absurd (cc h)

entered : (m n : PlainMonitor) (t : ℕ) → enter m t ≡ Some n → (m.owner ≡ None) ⊎ (m.owner ≡ Some t)
entered m n t h = by_owner (owns m t) refl h
  where
    by_owner : (b : Bool) → owns m t ≡ b → cond b (Some (record m { count = m.count + 1 }))
        (only_if (is_none m.owner && is_outside m t) (record m { owner = Some t; count = 1 })) ≡ Some n → (m.owner ≡ None) ⊎ (m.owner ≡ Some t)
    by_owner true e g = inr (thread_is m.owner t e)
    by_owner false e g = inl (no_owner m.owner (both_hold (is_none m.owner) (is_outside m t) (cond_some _ _ n g).0).0)

resumed : (x z : PlainObject) (t : ℕ) (a : Option ℕ) → x.monitor.owner ≡ a → take_at x t (Resume 0) ≡ Some z → IsFreeFor x t
resumed x z t None e h = inl e
resumed x z t (Some u) e h = absurd (monitor_kept (λ n. ⊥) x z (resume x.monitor t) (λ n. nobody_resumes x.monitor u e n t) h)

free_for : (x z : PlainObject) (t : ℕ) (e : Entry) → is_taking e ≡ true → take_at x t e ≡ Some z → IsFreeFor x t
free_for x z t (Enter o path) taking h = monitor_kept (λ n. IsFreeFor x t) x z (enter x.monitor t) (λ n. entered x.monitor n t) h
free_for x z t (Resume o) taking h = resumed x z t x.monitor.owner refl h
free_for x z t e taking h = absurd (cc taking)

-- at the object that the entry is bound to
pub taker_finds : (objects after : List PlainObject) (t : ℕ) (e : Entry) (o : ℕ) (x : PlainObject) → is_taking e ≡ true → bound_to e ≡ Some o
    → take_entry objects t e ≡ Some after → slice_get objects o ≡ Some x → (x.monitor.owner ≡ None) ⊎ (x.monitor.owner ≡ Some t)
taker_finds objects after t e o x taking b step at =
    let a = taken_at objects after t e o (ap (take_named objects t e) (sym (bound_is_named e o b)) ∙ step) in
    let same : a.x ≡ x = same_Some a.x x (sym a.was ∙ at) in
    elim (free_for a.x a.y t e taking a.step) [
      | inl free ↦ inl (ap (λ (z : PlainObject). z.monitor.owner) (sym same) ∙ free)
      | inr own ↦ inr (ap (λ (z : PlainObject). z.monitor.owner) (sym same) ∙ own)
    ]

pub teller_owns : (objects after : List PlainObject) (t : ℕ) (e : Entry) (o : ℕ) (x : PlainObject) → is_taking e ≡ false → bound_to e ≡ Some o
    → take_entry objects t e ≡ Some after → slice_get objects o ≡ Some x → x.monitor.owner ≡ Some t
teller_owns objects after t e o x untaking b step at =
    let own = taken_by_owner objects after t o e (by_owner_or_taking e o b untaking) step in
    thread_is x.monitor.owner t (ap (λ (z : PlainObject). owns z.monitor t) (sym (get_or_from_slice_get objects o x (new_object 0) at)) ∙ own)
