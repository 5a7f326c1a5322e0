-- The five ways in which a thread comes to store a hold word, and what each says of the world.
use Rattle.core_locks.proofs.Prelude.{◌≡◌, ℕ, ◌<◌, ◌≤◌, ◌||◌, eq-eqb, Bool, true, List, Some, refl, sym, ap, ◌∙◌, subst, arith, inl, inr}
use Rattle.core_locks.proofs.Prelude.{or-true, read_mark, read_owner, owner_of, Inflated, ByThread, read_owner-owner_of, PlainObject, Mark}
use Rattle.core_locks.proofs.Prelude.{Displaced, Owner, Stage, Settled, RecordLocked, MonitorAcquired, RecursionsRaised, monitor_in, bears}
use Rattle.core_locks.proofs.Prelude.{hold_words_ahead, last_seen, World, OnRecord, OwnedBy, lock, lock_form, marks, displaced_words, owner_words}
use Rattle.core_locks.proofs.Prelude.{prototype_of, inflations, hold_count, owner_at, owner_lock, CallContext, Fits, inflated_form, SawInflated}
use Rattle.core_locks.proofs.Prelude.{SawOwn, MayHold, Precedes, ◌⊎◌, Option, if◌then◌else◌, MarkForm, Biased, BiasAcquired, Prototype, Inflation}
use Rattle.core_locks.proofs.Prelude.{Open, BiasedTo, is_biased, is_biased_form, epoch_in, class_by, IsValidBias, Class}
use Rattle.core_world.proofs.There.{class_seen}
use Rattle.core_locks.specs.Knowing.{IsBiasTo, SawOwnBias}
use Rattle.core_locks.proofs.WaitOut.{even_holder_owns}

-- it has exchanged the neutral mark for the place
pub record Seized (w : World) (t o p : ℕ) : Type 0 where
  pub stage : (w.known t).stage ≡ RecordLocked o p
  pub rests : lock w o ≡ OnRecord t p
  pub none : hold_count o (w.known t).holds ≡ 0

-- it holds the object, and stored the displaced word 0
pub record Held (w : World) (P : List PlainObject) (t o p : ℕ) : Type 0 where
  pub stage : (w.known t).stage ≡ Settled
  pub owner : owner_at P o t ≡ true
  pub some : 1 ≤ hold_count o (w.known t).holds
  pub zero : displaced_words w t p ≡ 0

-- it has exchanged the free owner word, and stored the displaced word 3
pub record Grabbed (w : World) (t o p : ℕ) : Type 0 where
  pub stage : (w.known t).stage ≡ MonitorAcquired o
  pub thread_owns : lock w o ≡ OwnedBy t
  pub none : hold_count o (w.known t).holds ≡ 0
  pub three : displaced_words w t p ≡ 3

-- it holds the object through the monitor, has raised the recursions, and stored the displaced word 3
pub record Raised (w : World) (P : List PlainObject) (t o p : ℕ) : Type 0 where
  pub stage : (w.known t).stage ≡ RecursionsRaised o
  pub thread_owns : lock w o ≡ OwnedBy t
  pub owner : owner_at P o t ≡ true
  pub some : 1 ≤ hold_count o (w.known t).holds
  pub three : displaced_words w t p ≡ 3

-- the object is validly biased to it
pub record Leaned (w : World) (t o : ℕ) : Type 0 where
  pub stage : ((w.known t).stage ≡ BiasAcquired o) ⊎ ((w.known t).stage ≡ Settled)
  pub leans : lock w o ≡ BiasedTo t
  pub biased : is_biased (marks w o) ≡ true

pub data Way (w : World) (P : List PlainObject) (t o p : ℕ) : Type 0 where
  BySeizing : Seized w t o p → Way w P t o p
  ByHolding : Held w P t o p → Way w P t o p
  ByGrabbing : Grabbed w t o p → Way w P t o p
  ByRaising : Raised w P t o p → Way w P t o p
  ByLeaning : Leaned w t o → Way w P t o p

-- a fact of the thread's stage is one of five
pub at_stage : (F : Stage → Type 0) (w : World) (P : List PlainObject) (t o p : ℕ) → Way w P t o p → F (RecordLocked o p)
    → F Settled → F (MonitorAcquired o) → F (RecursionsRaised o) → F (BiasAcquired o) → F (w.known t).stage
at_stage F w P t o p (BySeizing a) f g h i j = subst F (sym a.stage) f
at_stage F w P t o p (ByHolding a) f g h i j = subst F (sym a.stage) g
at_stage F w P t o p (ByGrabbing a) f g h i j = subst F (sym a.stage) h
at_stage F w P t o p (ByRaising a) f g h i j = subst F (sym a.stage) i
at_stage F w P t o p (ByLeaning a) f g h i j = elim a.stage [ inl b ↦ subst F (sym b) j | inr b ↦ subst F (sym b) g ]

-- the thread owns the object, or has its lock, or the object leans on it
pub way_bears : (w : World) (P : List PlainObject) (t o p : ℕ) → Way w P t o p → Leaned w t o ⊎ ((owner_at P o t || bears (w.known t).stage o) ≡ true)
way_bears w P t o p (BySeizing a) =
    inr (ap (λ s. owner_at P o t || bears s o) a.stage ∙ ap (λ (b : Bool). owner_at P o t || b) (eq-eqb o o refl) ∙ or-true (owner_at P o t))
way_bears w P t o p (ByHolding a) = inr (ap (λ (b : Bool). b || bears (w.known t).stage o) a.owner)
way_bears w P t o p (ByGrabbing a) =
    inr (ap (λ s. owner_at P o t || bears s o) a.stage ∙ ap (λ (b : Bool). owner_at P o t || b) (eq-eqb o o refl) ∙ or-true (owner_at P o t))
way_bears w P t o p (ByRaising a) = inr (ap (λ (b : Bool). b || bears (w.known t).stage o) a.owner)
way_bears w P t o p (ByLeaning a) = inl a

-- a mark that is biased to t by this prototype
bias_leans : (f : Option MarkForm) (p : ℕ) (owners : ℕ → ℕ) (named : Option Inflation) (t : ℕ)
    → IsBiasTo t f (epoch_in p) → IsValidBias f p × (lock_form f p owners named ≡ BiasedTo t) × (is_biased_form f ≡ true)
bias_leans (Some (Biased u epoch age)) p owners named t h = (h.1, ap (λ (b : Bool). if b then BiasedTo u else Open) h.1 ∙ ap BiasedTo h.0, refl)
bias_leans _ p owners named t h = absurd h

module _ (w : World) (P : List PlainObject) (t o : ℕ) (runs : (w.known t).running ≡ true) (v : Fits w P) where
  -- a displaced word of its own is as it saw it
  pub saw_displaced : (p n : ℕ) → last_seen (Displaced (w.known t).thread p) (w.known t).seen ≡ Some n → displaced_words w t p ≡ n
  saw_displaced p n saw =
      v.seen.stays t (Displaced t p) n (subst (λ z. last_seen (Displaced z p) (w.known t).seen ≡ Some n) (v.numbered t) saw) (inl (runs, inl refl))

  -- a mark that it saw inflated in this call names the monitor still
  pub saw_inflated : (m : ℕ) → SawInflated (w.known t) o m → monitor_in (marks w o) ≡ Some m
  saw_inflated m saw = ap monitor_in (v.seen.stays t (Mark o) saw.0 saw.1 (inl (runs, inr (inl (m, saw.2))))) ∙ saw.2

  -- an owner who saw in this call that it is the owner by the monitor is so
  pub saw_thread_owns : (m : ℕ) → t < 32 → owner_at P o t ≡ true → SawInflated (w.known t) o m → SawOwn (w.known t) (w.known t).thread m → lock w o ≡ OwnedBy t
  saw_thread_owns m small owner mark own =
      let names : monitor_in (marks w o) ≡ Some m = saw_inflated m mark in
      let form : read_mark (marks w o) ≡ Some (Inflated m) = inflated_form (read_mark (marks w o)) m names in
      let saw : last_seen (Owner m) (w.known t).seen ≡ Some (owner_of (ByThread t)) = own ∙ ap (λ z. Some (owner_of (ByThread z))) (v.numbered t) in
      let owner_now : owner_words w m ≡ owner_of (ByThread t) =
      v.seen.stays t (Owner m) (owner_of (ByThread t)) saw (inl (runs, inr (o, names, ap (λ (b : Bool). b || bears (w.known t).stage o) owner))) in
      ap (λ f. lock_form f (prototype_of w o) (owner_words w) (inflations w o)) form
      ∙ ap (λ n. owner_lock (read_owner n)) owner_now ∙ ap owner_lock (read_owner-owner_of (ByThread t) small)

  -- an object that it saw in this call to be validly biased to itself is so
  pub saw_leaning : SawOwnBias w.shape (w.known t) o → (lock w o ≡ BiasedTo t) × (is_biased (marks w o) ≡ true)
  saw_leaning saw =
      let class_now : class_by w.shape w.words o ≡ saw.2 =
      class_seen w.shape w.words (w.known t).seen o saw.2 (λ c e d. v.seen.stays t (Class o) c e (inl (runs, d))) saw.4 in
      let prototype_now : prototype_of w o ≡ saw.1 =
      ap (λ c. w.words (Prototype c)) class_now ∙ v.seen.stays t (Prototype saw.2) saw.1 saw.5 (inl (runs, tt)) in
      let bias : IsBiasTo t (read_mark saw.0) (epoch_in (prototype_of w o)) =
      subst (λ p. IsBiasTo t (read_mark saw.0) (epoch_in p)) (sym prototype_now)
      (subst (λ u. IsBiasTo u (read_mark saw.0) (epoch_in saw.1)) (v.numbered t) saw.6) in
      let is = bias_leans (read_mark saw.0) (prototype_of w o) (owner_words w) (inflations w o) t bias in
      let mark_now : marks w o ≡ saw.0 = v.seen.stays t (Mark o) saw.0 saw.3 (inl (runs, inl is.0)) in
      (ap (λ n. lock_form (read_mark n) (prototype_of w o) (owner_words w) (inflations w o)) mark_now ∙ is.1, ap is_biased mark_now ∙ is.2)

-- by what the thread knows and has seen
pub way_of : (w : World) (P : List PlainObject) (t : ℕ) (e : CallContext) (o d p : ℕ) → t < w.shape.threads → MayHold w.shape (w.known t) e o d p
    → Fits w P → Way w P t o p
way_of w P t e o d p within may v = cases may.before
  where
    cases : Precedes w.shape (w.known t) o p → Way w P t o p
    cases (inl a) = let s = v.records.seized o t p a in BySeizing (record { stage = a; rests = s.0; none = s.3 })
    cases (inr (inl a)) =
        let owner = (even_holder_owns w P t v may.out o (λ r. absurd (cc (r, a.0))) (ap (λ s. hold_words_ahead s o) a.0) a.1).0 in
        ByHolding (search (a, owner, saw_displaced w P t o may.runs v p 0 a.2))
    cases (inr (inr (inl a))) = let s = v.records.grabbed o t a.0 in ByGrabbing (record {
      stage = a.0;
      thread_owns = s.0;
      none = s.1;
      three = saw_displaced w P t o may.runs v p 3 a.1;
    })
    cases (inr (inr (inr (inr a)))) = let is = saw_leaning w P t o may.runs v a.1 in ByLeaning (record { stage = a.0; leans = is.0; biased = is.1 })
    cases (inr (inr (inr (inl a)))) =
        let owner = (even_holder_owns w P t v may.out o (λ r. absurd (cc (r, a.0))) (ap (λ s. hold_words_ahead s o) a.0) a.1).0 in
        let saw = a.3 in
        let thread_owns = saw_thread_owns w P t o may.runs v saw.0 (omega (arith, within, v.limits.threads)) owner saw.1 saw.2 in
        ByRaising (search (a, thread_owns, owner, saw_displaced w P t o may.runs v p 3 a.2))
