-- A running thread stores the words of the monitor that it keeps.
use Rattle.core_locks.proofs.Prelude.{ℕ, ◌<◌, ne_eqb, length, List, Some, ap, ◌∙◌, inl, PlainObject, WordId, Owner}
use Rattle.core_locks.proofs.Prelude.{Recursions, Header, Object, StepPlan, read_owner, World, IsKeptOrNamed, CallContext}
use Rattle.core_locks.proofs.Prelude.{Fits, IsOwner, fits_running, KeepsValid, MayPrepare, MayPrepareOwner, MayPrepareObject, prepare_plan}
use Rattle.core_locks.proofs.Steps.{quiet_step}
use Rattle.core_locks.proofs.OwnSeen.{own_seen, hit_world}
use Rattle.core_locks.proofs.monitor.MonitorSeen.{uncounted_kept}
use Rattle.core_locks.proofs.monitor.Places.{kept_apart}
use Rattle.core_locks.proofs.monitor.UnnamedWords.{StoresUnnamed, owner_fits, count_fits, head_fits, object_fits}

module _ (w : World) (P : List PlainObject) (t : ℕ) (e : CallContext) (m word : ℕ)
    (within : t < w.shape.threads) (may : MayPrepare (w.known t) e m) (v : Fits w P) where
  abbrev plan : WordId → StepPlan
  plan at = prepare_plan e (w.known t).stage at word

  stores : StoresUnnamed w P t e m word
  stores = record {
    within = within;
    goes_on = may.goes_on;
    unnamed = λ o a n. ne_eqb a m (λ s. kept_apart v.claims t o m may.kept (n ∙ ap Some s));
    quiet = λ l s goes_on. quiet_step s P goes_on may.runs v;
    fits = v;
  }

  known : IsKeptOrNamed w (w.known t) m
  known = inl may.kept

  owner_stored : IsOwner w.shape (read_owner word) → Fits (hit_world w t (plan (Owner m))) P
  owner_stored form = owner_fits w P t e m word stores form
      (own_seen w P t (plan (Owner m)) (search (may.runs, known, uncounted_kept w P t m v may.kept (Owner m))) v)

  count_stored : Fits (hit_world w t (plan (Recursions m))) P
  count_stored = count_fits w P t e m word stores
      (own_seen w P t (plan (Recursions m)) (search (may.runs, known, uncounted_kept w P t m v may.kept (Recursions m))) v)

  head_stored : Fits (hit_world w t (plan (Header m))) P
  head_stored = head_fits w P t e m word stores
      (own_seen w P t (plan (Header m)) (search (may.runs, known, uncounted_kept w P t m v may.kept (Header m))) v)

  object_stored : word < length w.shape.objects → Fits (hit_world w t (plan (Object m))) P
  object_stored here = object_fits w P t e m word stores (λ d. here)
      (own_seen w P t (plan (Object m)) (search (may.runs, known, uncounted_kept w P t m v may.kept (Object m))) v)

-- the laws
pub prepares_owner : (e : CallContext) (m word : ℕ)
    → KeepsValid (λ w t. MayPrepareOwner w.shape (w.known t) e m word) (λ w t. prepare_plan e (w.known t).stage (Owner m) word)
prepares_owner e m word w P t within may valid = inl (owner_stored w P t e m word within may.prepares (fits_running w P t may.prepares.runs valid) may.owner)

pub prepares_recursions : (e : CallContext) (m word : ℕ)
    → KeepsValid (λ w t. MayPrepare (w.known t) e m) (λ w t. prepare_plan e (w.known t).stage (Recursions m) word)
prepares_recursions e m word w P t within may valid = inl (count_stored w P t e m word within may (fits_running w P t may.runs valid))

pub prepares_header : (e : CallContext) (m word : ℕ) → KeepsValid (λ w t. MayPrepare (w.known t) e m) (λ w t. prepare_plan e (w.known t).stage (Header m) word)
prepares_header e m word w P t within may valid = inl (head_stored w P t e m word within may (fits_running w P t may.runs valid))

pub prepares_object : (e : CallContext) (m word : ℕ)
    → KeepsValid (λ w t. MayPrepareObject w.shape (w.known t) e m word) (λ w t. prepare_plan e (w.known t).stage (Object m) word)
prepares_object e m word w P t within may valid =
    inl (object_stored w P t e m word within may.prepares (fits_running w P t may.prepares.runs valid) may.object.within)
