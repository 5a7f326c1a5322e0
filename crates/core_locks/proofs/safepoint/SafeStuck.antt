-- By what the thread whose safepoint is reached has seen since, the threads are stuck.
use Rattle.core_locks.proofs.Prelude.{◌≡◌, ◌≢◌, ℕ, ◌<◌, eq-eqb, true, false, List, Option, Some, None, refl, sym, ap, ◌∙◌, subst, inl, inr, read_mark}
use Rattle.core_locks.proofs.Prelude.{read_owner, Inflated, ByThread, Free, ByRecord, OwnerForm, is_thread, owns, PlainObject, WordId, Mark, Waiting}
use Rattle.core_locks.proofs.Prelude.{Owner, monitor_in, waits_on, says_notified, enters_on, says_ended, bears, notification_in, last_seen, World}
use Rattle.core_locks.proofs.Prelude.{lock, marks, who, holder, hold_count, monitor_of, owner_at, owner_lock, Fits, ends, IsStuck, IsHeldUp, Shape}
use Rattle.core_locks.proofs.Prelude.{IsOwner, same_number, inflated_form, lock_by_form, safepoint_part, MayHalt, SeesHeldUp, CallContext}
use Rattle.std.proofs.lemmas.Bool.{or_cases}
use Rattle.core_world.specs.Trees.LookSteps.{can_acquire}

-- a lock that isn't open to a thread is another's
other_holds : (s : Shape) (a : Option OwnerForm) (u : ℕ) (count : ℕ → ℕ) → IsOwner s a
    → can_acquire a u ≡ false → (z : ℕ) × (z ≢ u) × (holder (owner_lock a) count ≡ Some z)
other_holds s None u count form h = absurd form
other_holds s (Some Free) u count form h = absurd (cc h)
other_holds s (Some (ByThread z)) u count form h = (z, (λ e. let same = eq-eqb z u e in absurd (cc (same, h))), refl)
other_holds s (Some (ByRecord z p)) u count form h = (z, (λ e. let same = eq-eqb z u e in absurd (cc (same, h))), refl)

module _ (w : World) (P : List PlainObject) (t : ℕ) (v : Fits w P) (reached : (w.known t).reached ≡ true) where
  -- each word is as the thread saw it
  stands : (n : WordId) (s : ℕ) → last_seen n (w.known t).seen_at_safepoint ≡ Some s → w.words n ≡ s
  stands n s e = v.seen.stands t n s reached e

  -- nobody tells all waiters
  uncalled : (o z : ℕ) → notification_in (w.known z).stage ≡ Some o → ⊥
  uncalled o z e = let none = safepoint_part notification_in None refl (λ i. refl) w P t z v reached in absurd (cc (e, none))

  -- who has the lock is the plain owner
  plain_owner : (o z : ℕ) → who w o ≡ Some z → owner_at P o z ≡ true
  plain_owner o z e =
      let none = safepoint_part (λ s. bears s o) false refl (λ i. refl) w P t z v reached in
      elim (or_cases (owner_at P o z) (bears (w.known z).stage o) (sym (v.owners.same o z) ∙ ap (λ a. is_thread a z) e ∙ same_number z))
      [ inl a ↦ a | inr b ↦ absurd (cc (b, none)) ]

  -- another thread is the owner of an object whose owner word names it
  other_owns : (o u mark m owner : ℕ) → last_seen (Mark o) (w.known t).seen_at_safepoint ≡ Some mark
      → monitor_in mark ≡ Some m → last_seen (Owner m) (w.known t).seen_at_safepoint ≡ Some owner
      → can_acquire (read_owner owner) u ≡ false → (z : ℕ) × (z ≢ u) × (owns (monitor_of P o) z ≡ true)
  other_owns o u mark m owner saw_mark is saw_owner other =
      let form = inflated_form (read_mark (marks w o)) m (ap monitor_in (stands (Mark o) mark saw_mark) ∙ is) in
      let word = stands (Owner m) owner saw_owner in
      let locked : lock w o ≡ owner_lock (read_owner owner) = lock_by_form w o (Inflated m) form ∙ ap (λ n. owner_lock (read_owner n)) word in
      let has = other_holds w.shape (read_owner owner) u (λ y. hold_count o (w.known y).holds)
      (subst (λ n. IsOwner w.shape (read_owner n)) word (v.forms.owners m)) other in
      (has.0, has.1, plain_owner o has.0 (ap (λ k. holder k (λ y. hold_count o (w.known y).holds)) locked ∙ has.2))

  -- a thread that is held up by what was seen is held up
  held_up : (u : ℕ) → SeesHeldUp (w.known t) u → IsHeldUp (monitor_of P) u (w.known u).unfinished
  held_up u (o, s, saw, inl waits) = (o, inl (v.waits.waiter u o (ap (λ n. waits_on n o) (stands (Waiting u) s saw) ∙ waits)))
  held_up u (o, s, saw, inr (how, (mark, m, owner, saw_mark, is, saw_owner, other))) = (
    o,
    inr (
      elim how [
        | inl a ↦ inl (elim (v.waits.told u o (ap (λ n. says_notified n o) (stands (Waiting u) s saw) ∙ a)) [
          | inl b ↦ b
          | inr b ↦ absurd (uncalled o b.1.0 b.1.1)
        ])
        | inr a ↦ inr (v.waits.entering u o (ap (λ n. enters_on n o) (stands (Waiting u) s saw) ∙ a)).0
      ],
      other_owns o u mark m owner saw_mark is saw_owner other,
    ),
  )

  pub stuck : {e : CallContext} → t < w.shape.threads → MayHalt w.shape.threads (w.known t) e
      → IsStuck w.shape.threads (λ u. ends (w.known u).log) (λ u. (w.known u).unfinished) (monitor_of P)
  stuck within may = (
    (t, within, may.live),
    λ u few live. elim (may.stuck u few) [
      | inl a ↦ absurd (cc (v.waits.done u (ap says_ended (stands (Waiting u) a.0 a.1) ∙ a.2), live))
      | inr a ↦ held_up u a
    ],
  )
