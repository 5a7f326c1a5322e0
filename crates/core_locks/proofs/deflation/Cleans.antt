-- A thread at its reached safepoint clears the words of the monitor that it gives back.
use Rattle.core_locks.proofs.Prelude.{ℕ, ◌<◌, ne_eqb, List, refl, sym, ap, ◌∙◌, subst, inl, PlainObject, WordId, Owner, Header}
use Rattle.core_locks.proofs.Prelude.{Recursions, Object, StepPlan, World, CallContext, Fits, owner_zero, KeepsValid, IsOwner}
use Rattle.core_world.specs.Trees.DeflateSteps.{clean_plan}
use Rattle.core_locks.specs.DeflationLaws.{MayClean}
use Rattle.core_locks.proofs.OwnSeen.{hit_world}
use Rattle.core_locks.proofs.monitor.UnnamedWords.{StoresUnnamed, owner_fits, count_fits, head_fits, object_fits}
use Rattle.core_locks.proofs.safepoint.Standing.{standing_seen, standing_step, fits_standing}

module _ (w : World) (P : List PlainObject) (t : ℕ) (e : CallContext) (m : ℕ)
    (within : t < w.shape.threads) (may : MayClean (w.known t) e m) (v : Fits w P) where
  abbrev plan : WordId → StepPlan
  plan at = clean_plan e (w.known t).stage at

  -- no mark names a monitor that is given back
  stores : StoresUnnamed w P t e m 0
  stores = record {
    within = within;
    goes_on = may.stands.goes_on;
    unnamed = λ o a n. ne_eqb a m (λ s. let here = (v.claims.names o a n).1 in let there = (v.claims.returns t m may.returns).1 in
        let both = sym here ∙ ap v.claims.place s ∙ there in absurd (cc both));
    quiet = λ l s goes_on. standing_step s P goes_on may.stands.reached v;
    fits = v;
  }

  owner_cleared : Fits (hit_world w t (plan (Owner m))) P
  owner_cleared = owner_fits w P t e m 0 stores (subst (λ f. IsOwner w.shape f) (sym owner_zero) tt)
      (standing_seen w P t (plan (Owner m)) (search (may.stands.reached, may.stands.unrevoking)) v)

  count_cleared : Fits (hit_world w t (plan (Recursions m))) P
  count_cleared = count_fits w P t e m 0 stores (standing_seen w P t (plan (Recursions m)) (search (may.stands.reached, may.stands.unrevoking)) v)

  head_cleared : Fits (hit_world w t (plan (Header m))) P
  head_cleared = head_fits w P t e m 0 stores (standing_seen w P t (plan (Header m)) (search (may.stands.reached, may.stands.unrevoking)) v)

  object_cleared : Fits (hit_world w t (plan (Object m))) P
  object_cleared = object_fits w P t e m 0 stores (λ d. absurd (d refl))
      (standing_seen w P t (plan (Object m)) (search (may.stands.reached, may.stands.unrevoking)) v)

-- the laws
pub cleans_owner : (e : CallContext) (m : ℕ) → KeepsValid (λ w t. MayClean (w.known t) e m) (λ w t. clean_plan e (w.known t).stage (Owner m))
cleans_owner e m w P t within may valid = inl (owner_cleared w P t e m within may (fits_standing w P t may.stands.reached may.stands.unrevoking valid))

pub cleans_count : (e : CallContext) (m : ℕ) → KeepsValid (λ w t. MayClean (w.known t) e m) (λ w t. clean_plan e (w.known t).stage (Recursions m))
cleans_count e m w P t within may valid = inl (count_cleared w P t e m within may (fits_standing w P t may.stands.reached may.stands.unrevoking valid))

pub cleans_head : (e : CallContext) (m : ℕ) → KeepsValid (λ w t. MayClean (w.known t) e m) (λ w t. clean_plan e (w.known t).stage (Header m))
cleans_head e m w P t within may valid = inl (head_cleared w P t e m within may (fits_standing w P t may.stands.reached may.stands.unrevoking valid))

pub cleans_object : (e : CallContext) (m : ℕ) → KeepsValid (λ w t. MayClean (w.known t) e m) (λ w t. clean_plan e (w.known t).stage (Object m))
cleans_object e m w P t within may valid = inl (object_cleared w P t e m within may (fits_standing w P t may.stands.reached may.stands.unrevoking valid))
