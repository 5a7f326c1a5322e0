-- A thread whose waiting word says neither that it waits nor that it was notified stands at no object's lists, so who holds an object owns it.
use Rattle.core_locks.proofs.Prelude.{◌≡◌, ℕ, ◌≤◌, Bool, true, false, cond, List, refl, ap, ◌∙◌, arith, inl, inr, is_listed}
use Rattle.core_locks.proofs.Prelude.{PlainObject, Waiting, Settled, Resumes, waits_on, says_notified, hold_words_ahead}
use Rattle.core_locks.proofs.Prelude.{ThreadView, World, hold_count, holds_by_monitor, monitor_of, owner_at, waits_at, notified_at}
use Rattle.core_locks.proofs.Prelude.{Fits, no_wait, no_told, unlisted_count, IsOut, is_thread, who, bears, sym, ◌||◌}

-- a test that can't hold fails
pub fails : (b : Bool) → (b ≡ true → ⊥) → b ≡ false
fails true h = absurd (h refl)
fails false h = refl

-- a test that holds with neither, holds with none
pub neither : (a b : Bool) → false ≡ (a || b) → (a ≡ false) × (b ≡ false)
neither true b e = absurd (cc e)
neither false b e = (refl, sym e)

-- who hasn't the lock of an object doesn't own it, nor bear it
pub no_other : (w : World) (P : List PlainObject) (o u : ℕ) → Fits w P → is_thread (who w o) u ≡ false
    → (owner_at P o u ≡ false) × (bears (w.known u).stage o ≡ false)
no_other w P o u v h = neither (owner_at P o u) (bears (w.known u).stage o) (sym h ∙ v.owners.same o u)

-- a thread whose waiting word says that it is ready is out
pub ready_is_out : (k : ThreadView) → k.wait ≡ 0 → IsOut k
ready_is_out k ready o = (ap (λ n. waits_on n o) ready ∙ no_wait o, ap (λ n. says_notified n o) ready ∙ no_told o)

module _ (w : World) (P : List PlainObject) (t : ℕ) (v : Fits w P) (out : IsOut (w.known t)) where
  -- nobody has told the thread anything since it stored its waiting word
  pub out_word : w.words (Waiting t) ≡ (w.known t).wait
  out_word = elim (v.waits.stored t) [
    | inl e ↦ e
    | inr e ↦ absurd (cc ((out e.0).0, e.1))
  ]

  pub out_waits : (o : ℕ) → waits_on (w.words (Waiting t)) o ≡ false
  out_waits o = ap (λ n. waits_on n o) out_word ∙ (out o).0

  pub out_told : (o : ℕ) → says_notified (w.words (Waiting t)) o ≡ false
  out_told o = ap (λ n. says_notified n o) out_word ∙ (out o).1

  -- so it waits nowhere
  pub out_unwaiting : (o : ℕ) → is_listed (waits_at P o) t ≡ false
  out_unwaiting o = fails _ (λ e. elim (v.waits.waiting t o e) [
    | inl a ↦ absurd (cc (out_waits o, a))
    | inr a ↦ absurd (cc (out_told o, a.0))
  ])

  -- and was notified nowhere, where it doesn't resume
  pub out_uncalled : (o : ℕ) → ((w.known t).stage ≡ Resumes o → ⊥) → is_listed (notified_at P o) t ≡ false
  out_uncalled o d = fails _ (λ e. elim (v.waits.notified t o e) [
    | inl a ↦ absurd (cc (out_told o, a))
    | inr a ↦ absurd (d a.1)
  ])

-- a thread that is out, and doesn't resume, neither waits nor was notified anywhere
pub out_unlisted : (w : World) (P : List PlainObject) (t : ℕ) → Fits w P → IsOut (w.known t) → ((o : ℕ) → (w.known t).stage ≡ Resumes o → ⊥) → (o : ℕ)
    → (is_listed (waits_at P o) t ≡ false) × (is_listed (notified_at P o) t ≡ false)
out_unlisted w P t v out d o = (out_unwaiting w P t v out o, out_uncalled w P t v out o (d o))

-- it stands at an object as the owner alone
pub out_standing : (w : World) (P : List PlainObject) (t : ℕ) → Fits w P → IsOut (w.known t) → (o : ℕ) → ((w.known t).stage ≡ Resumes o → ⊥)
    → holds_by_monitor (monitor_of P o) t ≡ cond (owner_at P o t) (monitor_of P o).count 0
out_standing w P t v out o d =
    omega (arith, unlisted_count (waits_at P o) t (out_unwaiting w P t v out o), unlisted_count (notified_at P o) t (out_uncalled w P t v out o d))

-- a thread that is out, and has a hold word for an object, is its plain owner, and has as many as the plain count, at each stage but those at
-- which it has one that its log doesn't say or resumes
pub even_holder_owns : (w : World) (P : List PlainObject) (t : ℕ) → Fits w P → IsOut (w.known t) → (o : ℕ) → ((w.known t).stage ≡ Resumes o → ⊥)
    → hold_words_ahead (w.known t).stage o ≡ 0 → 1 ≤ hold_count o (w.known t).holds
    → (owner_at P o t ≡ true) × (hold_count o (w.known t).holds ≡ (monitor_of P o).count)
even_holder_owns w P t v out o d none holds =
    let number = v.holds.number t o in
    let named_is : hold_count o (w.known t).holds ≡ holds_by_monitor (monitor_of P o) t = omega (arith, number, none) in
    cases (owner_at P o t) refl (out_standing w P t v out o d) named_is
  where
    cases : (b : Bool) → owner_at P o t ≡ b → holds_by_monitor (monitor_of P o) t ≡ cond b (monitor_of P o).count 0
        → hold_count o (w.known t).holds ≡ holds_by_monitor (monitor_of P o) t
        → (owner_at P o t ≡ true) × (hold_count o (w.known t).holds ≡ (monitor_of P o).count)
    cases true e s n = (e, n ∙ s)
    cases false e s n = absurd (omega (arith, s, n, holds))

-- so it is at the stage Settled
pub holder_owns : (w : World) (P : List PlainObject) (t : ℕ) → Fits w P → IsOut (w.known t)
    → (o : ℕ) → (w.known t).stage ≡ Settled → 1 ≤ hold_count o (w.known t).holds
    → (owner_at P o t ≡ true) × (hold_count o (w.known t).holds ≡ (monitor_of P o).count)
holder_owns w P t v out o calm holds = even_holder_owns w P t v out o (λ e. absurd (cc (e, calm))) (ap (λ s. hold_words_ahead s o) calm) holds
