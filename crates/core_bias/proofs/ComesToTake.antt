-- A running thread that stands in the middle of nothing comes to stand in that of taking an object under a bias: no clause says more of it there.
use Rattle.core_locks.proofs.Prelude.{◌≡◌, ◌⊎◌, ℕ, ◌<◌, true, false, List, [], Some, None, refl, sym, ap, ◌∙◌, subst, inl, inr, PlainObject}
use Rattle.core_locks.proofs.Prelude.{WordId, Mark, Waiting, Settled, is_biased, monitor_in, waits_on}
use Rattle.core_locks.proofs.Prelude.{inflation_in, revocation_in, ThreadView, last_seen, World}
use Rattle.core_locks.proofs.Prelude.{owner_at, waits_at, Fits, SeenFit, Stays}
use Rattle.core_locks.proofs.Prelude.{each_with_known, header_stays, BiasAcquired, IsKeptOrNamed, with_knowledge, stays_back}
use Rattle.core_world.specs.Words.Names.{has_class}
use Rattle.core_world.specs.Clauses.SeenWords.{AreTheSteps, HasMet}
use Rattle.core_locks.proofs.Clauses.{kept_parts, parts_stand, AllHold}
use Rattle.core_locks.proofs.Clauses as clause
use Rattle.core_locks.proofs.EvenSteps.{IsEven, even_by, even_step, held_even}
use Rattle.core_locks.proofs.monitor.MonitorSeen.{others_by}
use Rattle.core_locks.proofs.OwnSeen.{back_by}
use Rattle.core_locks.proofs.Steps.{GoesOnTo, IsStep, IsAside, aside_by, recursions_stand, next, seen_next, step_fits, turning, inflates_stay}

-- what the thread knows is what it knew, but for its stage, and for its steps
abbrev pub TakesWithSteps : ThreadView → ThreadView → ℕ → Type 0
TakesWithSteps k l o = l ≡ record k { stage = BiasAcquired o; seen = l.seen; seen_at_safepoint = l.seen_at_safepoint; steps = l.steps }

pub taking_step : (w : World) (t o : ℕ) (l : ThreadView) → t < w.shape.threads → TakesWithSteps (w.known t) l o → IsStep w t l turning
taking_step w t o l within is = record {
  within = within;
  mine =
      is
      ∙ (λ i. record (w.known t) {
        stage = ap (λ (k : ThreadView). k.stage) (sym is) i;
        unfinished = ap (λ (k : ThreadView). k.unfinished) (sym is) i;
        checking = ap (λ (k : ThreadView). k.checking) (sym is) i;
        seen = l.seen;
        seen_at_safepoint = l.seen_at_safepoint;
        steps = l.steps;
        call = ap (λ (k : ThreadView). k.call) (sym is) i;
      });
  others = λ k. refl;
}

-- by its steps it last saw the same words
pub record OnlyTakes (k l : ThreadView) (o : ℕ) : Type 0 where
  pub is : TakesWithSteps k l o
  pub seen : (n : WordId) → last_seen n l.seen ≡ last_seen n k.seen

module _ (w : World) (P : List PlainObject) (t o : ℕ) (l : ThreadView) (within : t < w.shape.threads)
    (runs : (w.known t).running ≡ true) (calm : (w.known t).stage ≡ Settled)
    (only : OnlyTakes (w.known t) l o) (v : Fits w P) where
  abbrev x : World
  x = with_knowledge t l w

  stage : l.stage ≡ BiasAcquired o
  stage = ap (λ (k : ThreadView). k.stage) only.is

  goes_on : GoesOnTo (w.known t) l
  goes_on = inl (ap (λ (k : ThreadView). k.unfinished) only.is)

  before : IsEven (w.known t).stage
  before = subst IsEven (sym calm) (even_by Settled refl)

  now : IsEven l.stage
  now = subst IsEven (sym stage) (even_by (BiasAcquired o) refl)

  inflates : inflation_in l.stage ≡ inflation_in (w.known t).stage
  inflates = ap inflation_in stage ∙ sym (ap inflation_in calm)

  step : IsStep w t l turning
  step = taking_step w t o l within only.is

  unreached : (u : ℕ) → (w.known u).reached ≡ true → ⊥
  unreached u e = let stopped = (v.safe.safepoint u e).1 t in absurd (cc (stopped, runs))

  -- what it counts on now it counted on before
  stays_mine : (n : WordId) (s : ℕ) → Stays x l (owner_at P) t n s → Stays w (w.known t) (owner_at P) t n s
  stays_mine n s =
      stays_back w x (w.known t) l (owner_at P) (owner_at P) t
      (back_by w x (w.known t) l (owner_at P) (owner_at P) t refl refl (λ h. runs)
      (ap (λ (k : ThreadView). k.requesting) only.is) inflates (λ e. v.quiet.none_revokes t) (ap (λ (k : ThreadView). k.kept) only.is)
      (λ i h. h) (λ i a g h. held_even step before now (owner_at P) i a h)) n s

  saw : (n : WordId) (s : ℕ) → last_seen n l.seen ≡ Some s → last_seen n (w.known t).seen ≡ Some s
  saw n s h = sym (only.seen n) ∙ h

  seen_law : SeenFit x P
  seen_law = record {
    stays = λ u n s. each_with_known (λ u y. last_seen n y.seen ≡ Some s → Stays x y (owner_at P) u n s → w.words n ≡ s) t l w.known u
        (λ h st. v.seen.stays t n s (saw n s h) (stays_mine n s st)) (λ d h st. v.seen.stays u n s h (others_by w x (owner_at P) refl refl u n s st));
    unbiased = λ u i s. each_with_known (λ u y. last_seen (Mark i) y.seen ≡ Some s
        → (y.running ≡ true) ⊎ (y.requesting ≡ true) → is_biased s ≡ false → is_biased (w.words (Mark i)) ≡ false) t l w.known u
        (λ h a b. v.seen.unbiased t i s (saw (Mark i) s h) (inl runs) b) (λ d. v.seen.unbiased u i s);
    classed = v.seen.classed;
    saw_classed = λ u i s. each_with_known (λ u y. last_seen (Mark i) y.seen ≡ Some s → (y.running ≡ true) ⊎ (y.requesting ≡ true) → is_biased s ≡ true
        → has_class w.shape w.words i ≡ true) t l w.known u
        (λ h a b. v.seen.saw_classed t i s (saw (Mark i) s h) (inl runs) b) (λ d. v.seen.saw_classed u i s);
    unwaiting = λ u y i s. each_with_known (λ u z. last_seen (Waiting y) z.seen ≡ Some s → z.running ≡ true
        → owner_at P i u ≡ true → waits_on s i ≡ false → waits_on (w.words (Waiting y)) i ≡ false) t l w.known u
        (λ h a b c. v.seen.unwaiting t y i s (saw (Waiting y) s h) runs b c) (λ d. v.seen.unwaiting u y i s);
    unwaited = λ u i s. each_with_known (λ u z. last_seen (Mark i) z.seen ≡ Some s → z.running ≡ true
        → owner_at P i u ≡ true → monitor_in s ≡ None → waits_at P i ≡ []) t l w.known u
        (λ h a b c. v.seen.unwaited t i s (saw (Mark i) s h) runs b c) (λ d. v.seen.unwaited u i s);
    stands = λ u n s. each_with_known (λ u y. y.reached ≡ true → last_seen n y.seen_at_safepoint ≡ Some s → w.words n ≡ s) t l w.known u
        (λ a h. absurd (unreached t (sym (ap (λ (k : ThreadView). k.reached) only.is) ∙ a))) (λ d. v.seen.stands u n s);
    alone = λ u. each_with_known (λ u y. y.reached ≡ true → revocation_in y.stage ≡ None → AreTheSteps w.words y.seen_at_safepoint) t l w.known u
        (λ a h. absurd (unreached t (sym (ap (λ (k : ThreadView). k.reached) only.is) ∙ a))) (λ d. v.seen.alone u);
    monitors = λ u m s. each_with_known (λ u y. y.running ≡ true → HasMet y.seen m s → IsKeptOrNamed x y m) t l w.known u
        (λ a h. forth m (v.seen.monitors t m s runs (h.0, h.1, saw h.0 s h.2))) (λ d a h. v.seen.monitors u m s a h);
  }
    where
      forth : (m : ℕ) → IsKeptOrNamed w (w.known t) m → IsKeptOrNamed x l m
      forth m (inl a) = inl (ap (λ (k : ThreadView). k.kept) only.is ∙ a)
      forth m (inr a) = inr a

  abbrev z : World
  z = next w t l turning w.words

  all_after : AllHold (kept_parts w z P)
  all_after clause.seen = seen_next step w.words P seen_law
  all_after clause.recursions = recursions_stand step (subst IsAside (sym calm) (aside_by Settled refl))
      (subst IsAside (sym stage) (aside_by (BiasAcquired o) refl)) v.recursions
  all_after c = even_step step before now P goes_on runs v c

  pub takes_fits : Fits x P
  takes_fits = step_fits step w.words P (kept_parts w z P)
      (parts_stand w z P refl (λ u. refl) (inflates_stay step inflates) refl refl refl (λ e. header_stays z w refl refl refl e)) all_after
