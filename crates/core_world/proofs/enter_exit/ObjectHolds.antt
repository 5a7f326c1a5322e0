-- Who stands at an object, and how many holds each thread has there.
use Rattle.std.proofs.Common.{◌≡◌, ◌⊎◌, ℕ, zero, suc, ◌+◌, ◌<◌, ◌≤◌, ◌==◌, ◌||◌, Bool, true, false, cond, List, [], ◌∷◌, slice_index}
use Rattle.std.proofs.Common.{MatchOption, Option, Some, None, refl, sym, ap, ◌∙◌, subst, arith, inl, inr, eqb-true}
use Rattle.std.proofs.lemmas.Bool.Decides.{nat_tests}
use Rattle.std.specs.List.{AllByRecursion}
use Rattle.mark_word.specs.Hold.{read_hold}
use Rattle.plain_monitor.specs.Monitor.{PlainMonitor, is_thread, is_listed, count_of, owns}
use Rattle.plain_monitor.specs.Objects.{PlainObject}
use Rattle.plain_monitor.specs.Listed.{times_in}
use Rattle.plain_history.specs.Sound.{IsSound, HaveCounts}
use Rattle.plain_history.proofs.SoundSteps.{free_sound}
use Rattle.plain_history.proofs.SoundHistories.{history_sound}
use Rattle.plain_history.proofs.HoldSteps.{never_counted}
use Rattle.core_world.specs.declared.word_id.WordId.TheVariants.{Hold}
use Rattle.core_world.specs.declared.stage.Stage.{Stage}
use Rattle.core_world.specs.declared.stage.Stage.TheVariants.{Enters, Exits}
use Rattle.core_world.specs.Words.Forms.{names}
use Rattle.core_world.specs.Threads.Stages.{one_if, hold_words_ahead}
use Rattle.core_world.specs.World.{World, logs}
use Rattle.core_world.specs.Locks.{monitor_of, count_where, hold_count, holds_by_monitor, or_zero, owner_at, waits_at, notified_at}
use Rattle.core_world.specs.Valid.{Fits}

-- a monitor of sound objects is sound; so is that of an object which the heap lacks
sound_at : (objects : List PlainObject) (o : ℕ) → AllByRecursion (λ x. IsSound x.monitor) objects → IsSound (monitor_of objects o)
sound_at [] o a = free_sound
sound_at (x ∷ objects) zero a = a.0
sound_at (x ∷ objects) (suc o) a = sound_at objects o a.1

-- where every clause holds, each monitor is sound
pub sound : (w : World) (objects : List PlainObject) → Fits w objects → (o : ℕ) → IsSound (monitor_of objects o)
sound w objects fits o = sound_at objects o (history_sound w.shape.objects (logs w) objects fits.taken)

-- a number passes the test against itself
pub same_number : (n : ℕ) → (n == n) ≡ true
same_number n = grind (arith, nat_tests)

-- the thread that an owner is
pub thread_is : (a : Option ℕ) (t : ℕ) → is_thread a t ≡ true → a ≡ Some t
thread_is None t h = absurd (cc h)
thread_is (Some u) t h = ap Some (eqb-true u t h)

-- two owners are the same where the same threads are they
pub same_owner : (a b : Option ℕ) → ((t : ℕ) → is_thread a t ≡ is_thread b t) → a ≡ b
same_owner None None h = refl
same_owner None (Some u) h = absurd (cc (h u, same_number u))
same_owner (Some t) b h = sym (thread_is b t (sym (h t) ∙ same_number t))

-- an owner that no thread is
pub no_owner : (a : Option ℕ) → ((t : ℕ) → is_thread a t ≡ false) → a ≡ None
no_owner a h = same_owner a None h

-- a sound monitor with no owner has the count 0
pub unowned_count : (m : PlainMonitor) → IsSound m → m.owner ≡ None → m.count ≡ 0
unowned_count m s e = subst (λ a. MatchOption a (m.count ≡ 0) (λ t. 0 < m.count)) e s.held

-- a sound monitor with an owner has a count
pub owned_count : (m : PlainMonitor) (t : ℕ) → IsSound m → m.owner ≡ Some t → 0 < m.count
owned_count m t s e = subst (λ a. MatchOption a (m.count ≡ 0) (λ t. 0 < m.count)) e s.held

-- the next lemma, by the test against the head
unlisted_at_head : (p : ℕ × ℕ) (ps : List (ℕ × ℕ)) (t : ℕ) (b : Bool) → (b || is_listed ps t) ≡ false → (is_listed ps t ≡ false → or_zero (count_of ps t) ≡ 0)
    → or_zero (cond b (Some p.1) (count_of ps t)) ≡ 0
unlisted_at_head p ps t true h ih = absurd (cc h)
unlisted_at_head p ps t false h ih = ih h

-- a thread that is not listed keeps no count
pub unlisted_count : (ps : List (ℕ × ℕ)) (t : ℕ) → is_listed ps t ≡ false → or_zero (count_of ps t) ≡ 0
unlisted_count [] t h = refl
unlisted_count (p ∷ ps) t h = unlisted_at_head p ps t (p.0 == t) h (unlisted_count ps t)

-- the next lemma, by the test against the head
listed_at_head : (p : ℕ × ℕ) (ps : List (ℕ × ℕ)) (t : ℕ) (b : Bool) → 0 < p.1
    → (b || is_listed ps t) ≡ true → (is_listed ps t ≡ true → 1 ≤ or_zero (count_of ps t))
    → 1 ≤ or_zero (cond b (Some p.1) (count_of ps t))
listed_at_head p ps t true c h ih = c
listed_at_head p ps t false c h ih = ih h

-- a thread that is listed keeps a count
pub listed_count : (ps : List (ℕ × ℕ)) (t : ℕ) → HaveCounts ps → is_listed ps t ≡ true → 1 ≤ or_zero (count_of ps t)
listed_count [] t a h = absurd (cc h)
listed_count (p ∷ ps) t a h = listed_at_head p ps t (p.0 == t) a.0 h (listed_count ps t a.1)

-- a thread that keeps a count is listed
pub counted_is_listed : (ps : List (ℕ × ℕ)) (t : ℕ) → 1 ≤ or_zero (count_of ps t) → is_listed ps t ≡ true
counted_is_listed ps t h = cases (is_listed ps t) refl
  where
    cases : (b : Bool) → is_listed ps t ≡ b → is_listed ps t ≡ true
    cases true e = e
    cases false e = absurd (omega (arith, unlisted_count ps t e))

-- the next lemma, by the test against the head
listed_once_at_head : (ps : List (ℕ × ℕ)) (t : ℕ) (b : Bool) → (b || is_listed ps t) ≡ true
    → (is_listed ps t ≡ true → 1 ≤ times_in ps t) → 1 ≤ one_if b + times_in ps t
listed_once_at_head ps t true h ih = omega arith
listed_once_at_head ps t false h ih = let k = ih h in omega (arith, k)

-- a thread that is listed is listed at least once
listed_once : (ps : List (ℕ × ℕ)) (t : ℕ) → is_listed ps t ≡ true → 1 ≤ times_in ps t
listed_once [] t h = absurd (cc h)
listed_once (p ∷ ps) t h = listed_once_at_head ps t (p.0 == t) h (listed_once ps t)

-- a thread that waits at a sound monitor keeps no count among those who were notified
pub waiter_unnotified : (m : PlainMonitor) (t : ℕ) → IsSound m → is_listed m.waits t ≡ true → or_zero (count_of m.called t) ≡ 0
waiter_unnotified m t s h = never_counted m.called t (omega (arith, s.once t, listed_once m.waits t h))

-- the owner of a sound monitor keeps no count among those who wait or were notified, so that it has the monitor's own
pub owner_standing : (m : PlainMonitor) (t : ℕ) → IsSound m → owns m t ≡ true → holds_by_monitor m t ≡ m.count
owner_standing m t s e =
    let one = s.once t in
    let in_presence = ap one_if e in
    let in_standing = ap (λ b. cond b m.count 0) e in
    let waits : times_in m.waits t ≡ 0 = omega (arith, one, in_presence) in
    let called : times_in m.called t ≡ 0 = omega (arith, one, in_presence) in
    omega (arith, in_standing, never_counted m.waits t waits, never_counted m.called t called)

-- who isn't the owner has the counts that it keeps
pub outside_standing : (m : PlainMonitor) (t : ℕ) → owns m t ≡ false → holds_by_monitor m t ≡ or_zero (count_of m.waits t) + or_zero (count_of m.called t)
outside_standing m t e = let in_standing = ap (λ b. cond b m.count 0) e in omega (arith, in_standing)

-- who stands there is the owner, or waits, or was notified
pub holds_by_monitor_is : (m : PlainMonitor) (t : ℕ) → 1 ≤ holds_by_monitor m t
    → (owns m t ≡ true) ⊎ (is_listed m.waits t ≡ true) ⊎ (is_listed m.called t ≡ true)
holds_by_monitor_is m t h = by_owner (owns m t) refl
  where
    by_lists : (b : Bool) → is_listed m.waits t ≡ b → owns m t ≡ false → (is_listed m.waits t ≡ true) ⊎ (is_listed m.called t ≡ true)
    by_lists true e out = inl e
    by_lists false e out = inr (counted_is_listed m.called t (omega (arith, outside_standing m t out, unlisted_count m.waits t e)))

    by_owner : (b : Bool) → owns m t ≡ b → (owns m t ≡ true) ⊎ (is_listed m.waits t ≡ true) ⊎ (is_listed m.called t ≡ true)
    by_owner true e = inl e
    by_owner false e = inr (by_lists (is_listed m.waits t) refl e)

-- the owner of a sound monitor stands there
pub owner_stands : (m : PlainMonitor) (t : ℕ) → IsSound m → owns m t ≡ true → 1 ≤ holds_by_monitor m t
owner_stands m t s e = omega (arith, owned_count m t s (thread_is m.owner t e), owner_standing m t s e)

-- so does who waits
pub waiter_stands : (m : PlainMonitor) (t : ℕ) → IsSound m → is_listed m.waits t ≡ true → 1 ≤ holds_by_monitor m t
waiter_stands m t s e = omega (arith, listed_count m.waits t s.waits e)

-- and who was notified
pub notified_stands : (m : PlainMonitor) (t : ℕ) → IsSound m → is_listed m.called t ≡ true → 1 ≤ holds_by_monitor m t
notified_stands m t s e = omega (arith, listed_count m.called t s.called e)

-- the word 0 names no object
pub empty_names_none : (o : ℕ) → names o 0 ≡ false
unfolding read_hold
empty_names_none o = refl

-- where one of the words names the object, their number is above 0
pub one_named : (o : ℕ) (hs : List ℕ) (i p : ℕ) → names o (slice_index hs p) ≡ true → 1 ≤ count_where (λ q h. names o h) i hs
one_named o [] i p e = absurd (cc (e, empty_names_none o))
one_named o (h ∷ hs) i zero e = omega (arith, ap one_if e)
one_named o (h ∷ hs) i (suc p) e = omega (arith, one_named o hs (i + 1) p e)

-- a thread has a hold of the object that one of its hold words names
pub word_is_hold : (w : World) (objects : List PlainObject) (t p o : ℕ) → Fits w objects
    → names o (w.words (Hold t p)) ≡ true → 1 ≤ hold_count o (w.known t).holds
word_is_hold w objects t p o fits e = one_named o (w.known t).holds 0 p (sym (ap (names o) (fits.holds.stored t p)) ∙ e)

-- a test counts as 1 at most
one_if_one : (b : Bool) → 1 ≤ one_if b → one_if b ≡ 1
one_if_one true h = refl
one_if_one false h = absurd (omega arith)

-- a thread has at most one hold more than its log says
pub one_extra : (s : Stage) (o : ℕ) → 1 ≤ hold_words_ahead s o → hold_words_ahead s o ≡ 1
one_extra (Enters object place path) o h = one_if_one (object == o) h
one_extra (Exits object place) o h = one_if_one (object == o) h
one_extra _ o h = absurd (omega arith)

-- a thread with a hold word for an object is the owner, or waits there, or was notified there, or is taking or leaving that hold
pub held_is_stood_at : (w : World) (objects : List PlainObject) (t p o : ℕ) → Fits w objects → names o (w.words (Hold t p)) ≡ true
    → (owner_at objects o t ≡ true) ⊎ (is_listed (waits_at objects o) t ≡ true)
    ⊎ (is_listed (notified_at objects o) t ≡ true) ⊎ (hold_words_ahead (w.known t).stage o ≡ 1)
held_is_stood_at w objects t p o fits e = cases (holds_by_monitor (monitor_of objects o) t) refl
  where
    cases : (n : ℕ) → holds_by_monitor (monitor_of objects o) t ≡ n
        → (owner_at objects o t ≡ true) ⊎ (is_listed (waits_at objects o) t ≡ true)
        ⊎ (is_listed (notified_at objects o) t ≡ true) ⊎ (hold_words_ahead (w.known t).stage o ≡ 1)
    cases zero none =
        inr (inr (inr (one_extra (w.known t).stage o (omega (arith, none, fits.holds.number t o, word_is_hold w objects t p o fits e)))))
    cases (suc n) some = elim (holds_by_monitor_is (monitor_of objects o) t (omega (arith, some))) [
      | inl h ↦ inl h
      | inr h ↦ elim h [
        | inl k ↦ inr (inl k)
        | inr k ↦ inr (inr (inl k))
      ]
    ]
