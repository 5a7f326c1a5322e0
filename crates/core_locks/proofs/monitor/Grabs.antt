-- A thread that enters exchanges the free owner word of a monitor for itself.
use Rattle.core_locks.proofs.Prelude.{◌≡◌, ℕ, ◌<◌, ◌==◌, Bool, true, false, cond, List, refl, ap, ◌∙◌, arith, inl, owner_of}
use Rattle.core_locks.proofs.Prelude.{Free, PlainObject, Owner, MonitorAcquired, bears, hold_words_ahead, World, hold_count}
use Rattle.core_locks.proofs.Prelude.{monitor_of, owner_at, CallContext, Fits, KeepsValid, MayGrab, grab_plan}
use Rattle.core_locks.proofs.WaitOut.{out_standing}
use Rattle.core_locks.proofs.monitor.Takes.{nobody, takes_free}

module _ (w : World) (P : List PlainObject) (t : ℕ) (e : CallContext) (o m : ℕ) (within : t < w.shape.threads)
    (may : MayGrab (w.known t) e o m) (hit : (w.words (Owner m) == owner_of Free) ≡ true) (v : Fits w P) where
  free : (u : ℕ) → (owner_at P o u ≡ false) × (bears (w.known u).stage o ≡ false)
  free = nobody w P t e o m within (search may) hit v

  -- nobody had it, so the thread has no hold word of the object
  unheld : hold_count o (w.known t).holds ≡ 0
  unheld =
      let stands = out_standing w P t v may.out o (λ s. absurd (cc (s, may.calm))) ∙ ap (λ (b : Bool). cond b (monitor_of P o).count 0) (free t).0 in
      let none = ap (λ s. hold_words_ahead s o) may.calm in
      omega (arith, v.holds.number t o, stands, none)

pub grabs_free : (e : CallContext) (o m : ℕ) → KeepsValid (λ w t. MayGrab (w.known t) e o m) (λ w t. grab_plan e t o m)
grabs_free e o m w P t within may valid =
    takes_free w P t e o m (MonitorAcquired o) within (search may) (λ hit v. inl (refl, unheld w P t e o m within may hit v)) valid
