-- Nobody waits on an object where its owner saw that nobody does.
use Rattle.plain_monitor.specs.Limits.{most_holds}
use Rattle.core_locks.proofs.Prelude.{◌≡◌, ℕ, ◌<◌, ◌||◌, eq-eqb, true, List, [], ◌∷◌, Some, None, refl, ap, ◌∙◌, arith, inl}
use Rattle.core_locks.proofs.Prelude.{inr, is_listed, PlainObject, Settled, notification_in, ThreadView, World, hold_count}
use Rattle.core_locks.proofs.Prelude.{monitor_of, owner_at, waits_at, Fits, sound, waiter_stands, SawNobody, cases_lt}
use Rattle.core_world.proofs.Counting.{named_none}
use Rattle.core_locks.proofs.telling.TellTaken.{one_owner}

-- a list that has nobody is empty
unlisted_empty : (ps : List (ℕ × ℕ)) → ((u : ℕ) → is_listed ps u ≡ true → ⊥) → ps ≡ []
unlisted_empty [] h = refl
unlisted_empty (p ∷ ps) h = absurd (h p.0 (ap (λ b. b || is_listed ps p.0) (eq-eqb p.0 p.0 refl)))

-- a thread that waits is one of the heap's, since the others have no holds
pub waiter_below : (w : World) (P : List PlainObject) (o u : ℕ) → Fits w P → is_listed (waits_at P o) u ≡ true → u < w.shape.threads
waiter_below w P o u v listed = elim (cases_lt u w.shape.threads) [
  | inl below ↦ below
  | inr past ↦
      let none : hold_count o (w.known u).holds ≡ 0 = ap (λ (k : ThreadView). hold_count o k.holds) (v.absent u past) ∙ named_none o most_holds in
      absurd (omega (arith, none, v.holds.number u o, waiter_stands (monitor_of P o) u (sound w P v o) listed))
]

module _ (w : World) (P : List PlainObject) (t o : ℕ) (v : Fits w P) (runs : (w.known t).running ≡ true)
    (calm : (w.known t).stage ≡ Settled) (own : owner_at P o t ≡ true) where
  -- only the owner tells all waiters, and the thread is calm
  nobody_calls : (u : ℕ) → notification_in (w.known u).stage ≡ Some o → ⊥
  nobody_calls u e =
      let none : notification_in (w.known u).stage ≡ None =
      ap (λ z. notification_in (w.known z).stage) (one_owner P o t u own (v.owners.calls o u e)) ∙ ap notification_in calm in
      absurd (cc (e, none))

  pub nobody_waits : SawNobody w.shape.threads (w.known t) o → waits_at P o ≡ []
  nobody_waits (inl a) = v.seen.unwaited t o a.0 a.1 runs own a.2
  nobody_waits (inr each) =
      unlisted_empty (waits_at P o) (λ u listed.
      let a = each u (waiter_below w P o u v listed) in
      let no = v.seen.unwaiting t u o a.0 a.1 runs own a.2 in
      elim (v.waits.waiting u o listed) [
        | inl b ↦ absurd (cc (b, no))
        | inr b ↦ nobody_calls b.1.0 b.1.1
      ])
