-- A load that logs nothing, keeps nothing and leaves its thread where it stands is a look.
use Rattle.core_locks.proofs.Prelude.{◌≡◌, ◌⊎◌, ℕ, ◌<◌, ◌&&◌, ◌||◌, Bool, true, false, List, refl, ap, ◌∙◌, inl, inr, PlainObject, WordId}
use Rattle.core_locks.proofs.Prelude.{Safepoint, is_still, ThreadView, World, CallContext, load_plan, world_after, known_after, IsValid}
use Rattle.core_locks.proofs.Prelude.{IsOfMonitor, MayLook, with_known_here, look_valid, KeepsValid, GoesOn, MayLoad, MayLoadSafepoint}

-- the thread may look at a word that is no owner word and no recursions, if it runs, or its safepoint is reached
pub may_look : (k : ThreadView) (at : WordId) → ((k.running ≡ true) ⊎ (k.reached ≡ true)) → ((m : ℕ) → IsOfMonitor m at → ⊥) → MayLook k at
may_look k at inside other = record {
  outside = λ r n. elim inside [ inl a ↦ absurd (cc (r, a)) | inr a ↦ absurd (cc (n, a)) ];
  found = λ r m is. absurd (other m is);
}

-- and at the safepoint word in any case
pub may_look_safe : (k : ThreadView) → MayLook k Safepoint
may_look_safe k = record {
  outside = λ r n. refl;
  found = λ r m is. absurd (cc is);
}

pub load_valid : (w : World) (P : List PlainObject) (t : ℕ) (e : CallContext) (at : WordId)
    → t < w.shape.threads → MayLook (w.known t) at → GoesOn (w.known t) e
    → e.check ≡ (w.known t).checking → IsValid w P → IsValid (world_after (load_plan e (w.known t).stage at) t w) P
load_valid w P t e at within may goes_on check valid =
    look_valid w P t (load_plan e (w.known t).stage at) within (record {
      act = refl;
      note = refl;
      own = refl;
      stage = refl;
      check = check;
      after = goes_on;
      may = may;
    }) valid

-- THE LAWS
pub loads_safepoint : (e : CallContext) → KeepsValid (λ w t. MayLoadSafepoint (w.known t) e) (λ w t. load_plan e (w.known t).stage Safepoint)
loads_safepoint e w P t within may valid = load_valid w P t e Safepoint within (may_look_safe (w.known t)) may.goes_on may.check valid

-- of a word that is none of a monitor
pub loads : (e : CallContext) (at : WordId) → ((m : ℕ) → IsOfMonitor m at → ⊥)
    → KeepsValid (λ w t. MayLoad (w.known t) e) (λ w t. load_plan e (w.known t).stage at)
loads e at other w P t within may valid = load_valid w P t e at within (may_look (w.known t) at may.inside other) may.goes_on may.check valid

-- a requester that finds no thread running learns that its safepoint is reached
pub still_learnt : (w : World) (t : ℕ) (e : CallContext) → (w.known t).requesting ≡ true → is_still (w.words Safepoint) ≡ true
    → ((world_after (load_plan e (w.known t).stage Safepoint) t w).known t).reached ≡ true
still_learnt w t e asks still =
    ap (λ (k : ThreadView). k.reached)
    (with_known_here t (known_after w.shape w.start (load_plan e (w.known t).stage Safepoint) (w.words Safepoint) (w.known t)) w.known)
    ∙ either (w.known t).reached (w.known t).requesting (is_still (w.words Safepoint)) asks still
  where
    either : (a b c : Bool) → b ≡ true → c ≡ true → (a || (b && c)) ≡ true
    either true b c f g = refl
    either false b c f g = ap (λ x. x && c) f ∙ g
