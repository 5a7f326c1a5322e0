-- A thread that was notified takes the free monitor of its wait again.
use Rattle.core_locks.proofs.Prelude.{◌≡◌, ℕ, ◌<◌, ◌==◌, true, false, List, refl, sym, ap, ◌∙◌, inl, inr, owner_of, Free}
use Rattle.core_locks.proofs.Prelude.{is_listed, PlainObject, Waiting, Owner, Resumes, says_notified, bears, last_seen, World}
use Rattle.core_locks.proofs.Prelude.{owner_at, notified_at, CallContext, Fits, KeepsValid, MayRegain, regain_plan}
use Rattle.core_locks.proofs.monitor.Takes.{nobody, takes_free}

module _ (w : World) (P : List PlainObject) (t : ℕ) (e : CallContext) (o m : ℕ) (within : t < w.shape.threads)
    (may : MayRegain (w.known t) e o m) (hit : (w.words (Owner m) == owner_of Free) ≡ true) (v : Fits w P) where
  free : (u : ℕ) → (owner_at P o u ≡ false) × (bears (w.known u).stage o ≡ false)
  free = nobody w P t e o m within (search may) hit v

  -- the thread was notified: who tells all of o's waiters would own it
  called : is_listed (notified_at P o) t ≡ true
  called =
      let saw = may.told in
      let word : w.words (Waiting t) ≡ saw.0 = v.seen.stays t (Waiting t) saw.0
      (ap (λ u. last_seen (Waiting u) (w.known t).seen) (sym (v.numbered t)) ∙ saw.1) (inl (may.runs, inr (refl, (o, saw.2)))) in
      elim (v.waits.told t o (ap (λ n. says_notified n o) word ∙ saw.2)) [
        | inl a ↦ a
        | inr a ↦ (let owner = v.owners.calls o a.1.0 a.1.1 in let none = (free a.1.0).0 in absurd (cc (owner, none)))
      ]

pub regains_free : (e : CallContext) (o m : ℕ) → KeepsValid (λ w t. MayRegain (w.known t) e o m) (λ w t. regain_plan e t o m)
regains_free e o m w P t within may valid =
    takes_free w P t e o m (Resumes o) within (search may) (λ hit v. inr (refl, called w P t e o m within may hit v)) valid
