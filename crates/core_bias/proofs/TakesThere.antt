-- A thread at its reached safepoint that stands in the middle of nothing comes to stand in that of taking an object under a bias: no clause says
-- more of it there. So a load that ends a revocation may leave its thread there, and a deflation may follow before the release.
use Rattle.core_locks.proofs.Prelude.{◌≡◌, ◌⊎◌, ◌||◌, ℕ, ◌<◌, true, false, List, Some, None, refl, sym, ap, ◌∙◌, subst, inl, inr, PlainObject}
use Rattle.core_locks.proofs.Prelude.{WordId, Mark, Settled, BiasAcquired, RecordLocked, MonitorAcquired}
use Rattle.core_locks.proofs.Prelude.{is_biased, inflation_in, revocation_in, ThreadView, last_seen}
use Rattle.core_locks.proofs.Prelude.{World, with_known, owner_at}
use Rattle.core_locks.proofs.Prelude.{Stays, Fits, SeenFit, with_knowledge, each_with_known, with_known_here, header_stays}
use Rattle.core_locks.proofs.Prelude.{IsQuiet, IsValid, CallContext, StepPlan, load, load_plan, world_after, known_hit}
use Rattle.core_world.specs.Words.Names.{has_class}
use Rattle.core_world.specs.Clauses.SeenWords.{AreTheSteps}
use Rattle.core_locks.proofs.Clauses.{kept_parts, parts_stand, AllHold}
use Rattle.core_locks.proofs.Clauses as clause
use Rattle.core_locks.proofs.EvenSteps.{IsEven, even_by, even_back, bears_stay}
use Rattle.core_locks.proofs.safepoint.Standing.{standing_step}
use Rattle.core_world.specs.Threads.Stages.{Revocation}
use Rattle.core_bias.specs.Revoking.{MayLookAfterRevoking}
use Rattle.core_bias.proofs.ComesToTake.{TakesWithSteps, taking_step}
use Rattle.core_bias.proofs.Knows.{told_told}
use Rattle.core_bias.proofs.LoadEnds.{load_fits, reached_load}
use Rattle.core_locks.proofs.Steps.{GoesOnTo, IsStep, IsAside, aside_by, recursions_stand, next, seen_next, step_fits, turning, inflates_stay}
use Rattle.core_locks.proofs.Steps.{stage_forth, holds_stand, owners_move, waits_move, waits_go_on}

-- it knows what it knew, but for its stage, and for its steps, by which it last saw the same words
pub record TakesStill (f : WordId → ℕ) (k l : ThreadView) (o : ℕ) : Type 0 where
  pub is : TakesWithSteps k l o
  pub seen : (n : WordId) → last_seen n l.seen ≡ last_seen n k.seen
  pub there : (n : WordId) → last_seen n l.seen_at_safepoint ≡ last_seen n k.seen_at_safepoint
  pub alone : AreTheSteps f k.seen_at_safepoint → AreTheSteps f l.seen_at_safepoint

module _ (w : World) (P : List PlainObject) (t o : ℕ) (l : ThreadView) (within : t < w.shape.threads)
    (reached : (w.known t).reached ≡ true) (calm : (w.known t).stage ≡ Settled) (only : TakesStill w.words (w.known t) l o)
    (v : Fits w P) where
  stage : l.stage ≡ BiasAcquired o
  stage = ap (λ (k : ThreadView). k.stage) only.is

  goes_on : GoesOnTo (w.known t) l
  goes_on = inl (ap (λ (k : ThreadView). k.unfinished) only.is)

  abbrev x : World
  x = with_knowledge t l w

  before : IsEven (w.known t).stage
  before = subst IsEven (sym calm) (even_by Settled refl)

  now : IsEven l.stage
  now = subst IsEven (sym stage) (even_by (BiasAcquired o) refl)

  step : IsStep w t l turning
  step = taking_step w t o l within only.is

  stopped : (u : ℕ) → (w.known u).running ≡ false
  stopped = (v.safe.safepoint t reached).1

  nobody : (u : ℕ) → (with_known t l w.known u).running ≡ true → ⊥
  nobody u = each_with_known (λ u y. y.running ≡ true → ⊥) t l w.known u (λ r. let no = stopped t in
      let same = ap (λ (k : ThreadView). k.running) only.is in absurd (cc (r, no, same))) (λ d r. let no = stopped u in absurd (cc (r, no)))

  unrevoking : revocation_in (w.known t).stage ≡ None
  unrevoking = ap revocation_in calm

  seen_law : SeenFit x P
  seen_law = record {
    stays = λ u n s. each_with_known (λ u y. last_seen n y.seen ≡ Some s → Stays x y (owner_at P) u n s → w.words n ≡ s) t l w.known u
        (λ h st. elim st [
          | inl a ↦ (let no = stopped t in let yes = a.0 in let same = ap (λ (k : ThreadView). k.running) only.is in absurd (cc (yes, no, same)))
          | inr a ↦ v.seen.stays t n s (sym (only.seen n) ∙ h) (inr (sym (ap (λ (k : ThreadView). k.requesting) only.is) ∙ a.0, unrevoking, a.2))
        ])
        (λ d h st. elim st [ inl a ↦ (let no = stopped u in let yes = a.0 in absurd (cc (yes, no))) | inr a ↦ v.seen.stays u n s h (inr (a.0, a.1, a.2)) ]);
    unbiased = λ u i s. each_with_known (λ u y. last_seen (Mark i) y.seen ≡ Some s
        → (y.running ≡ true) ⊎ (y.requesting ≡ true) → is_biased s ≡ false → is_biased (w.words (Mark i)) ≡ false) t l w.known u
        (λ h r. v.seen.unbiased t i s (sym (only.seen (Mark i)) ∙ h) (inr (v.safe.safepoint t reached).0)) (λ d. v.seen.unbiased u i s);
    classed = v.seen.classed;
    saw_classed = λ u i s. each_with_known (λ u y. last_seen (Mark i) y.seen ≡ Some s → (y.running ≡ true) ⊎ (y.requesting ≡ true) → is_biased s ≡ true
        → has_class w.shape w.words i ≡ true) t l w.known u
        (λ h r. v.seen.saw_classed t i s (sym (only.seen (Mark i)) ∙ h) (inr (v.safe.safepoint t reached).0)) (λ d. v.seen.saw_classed u i s);
    unwaiting = λ u y i s e r. absurd (nobody u r);
    unwaited = λ u i s e r. absurd (nobody u r);
    stands = λ u n s. each_with_known (λ u y. y.reached ≡ true → last_seen n y.seen_at_safepoint ≡ Some s → w.words n ≡ s) t l w.known u
        (λ r h. v.seen.stands t n s reached (sym (only.there n) ∙ h)) (λ d. v.seen.stands u n s);
    alone = λ u. each_with_known (λ u y. y.reached ≡ true → revocation_in y.stage ≡ None → AreTheSteps w.words y.seen_at_safepoint) t l w.known u
        (λ a h. only.alone (v.seen.alone t reached unrevoking)) (λ d. v.seen.alone u);
    monitors = λ u m s r. absurd (nobody u r);
  }

  abbrev z : World
  z = next w t l turning w.words

  all_after : AllHold (kept_parts w z P)
  all_after clause.seen = seen_next step w.words P seen_law
  all_after clause.recursions = recursions_stand step (subst IsAside (sym calm) (aside_by Settled refl))
      (subst IsAside (sym stage) (aside_by (BiasAcquired o) refl)) v.recursions
  all_after clause.quiet = record {
    quiet = λ u. each_with_known (λ u y. (w.known u).running ≡ false → IsQuiet (w.known u).reached y.stage) t l w.known u
        (λ r. inr (reached, (o, stage))) (λ d. v.quiet.quiet u);
    none_revokes = λ u. each_with_known (λ u y. revocation_in y.stage ≡ None) t l w.known u (ap revocation_in stage) (λ d. v.quiet.none_revokes u);
  }
  all_after clause.holds = holds_stand step P (λ i. now.alone i ∙ sym (before.alone i)) v
  all_after clause.owners = owners_move step now.plain.waits now.exits (λ i c. absurd (cc (c, now.plain.calls)))
      (λ i u. v.owners.same i u ∙ ap (λ b. owner_at P i u || b) (sym (bears_stay step before now u i))) v
  all_after clause.records = record {
    first = λ i u p r. elim (v.records.first i u p r) [ inl a ↦ inl a | inr a ↦ inr (stage_forth step (RecordLocked i p) u (before.seizes i p) a) ];
    header = v.records.header;
    others = v.records.others;
    seized = λ i u p e. v.records.seized i u p (even_back step before now (RecordLocked i p) u (now.seizes i p) e);
    grabbed = λ i u e. v.records.grabbed i u (even_back step before now (MonitorAcquired i) u (now.grabs i) e);
  }
  all_after clause.waits = waits_move step before.plain now.plain (waits_go_on step P goes_on v)
  all_after c = standing_step step P goes_on reached v c

  pub takes_there : Fits x P
  takes_there = step_fits step w.words P (kept_parts w z P) (parts_stand w z P refl (λ u. refl)
      (inflates_stay step (ap inflation_in stage ∙ sym (ap inflation_in calm))) refl refl refl (λ e. header_stays z w refl refl refl e)) all_after

-- THE LAW, of a load after all stores of a revocation in which the thread gave itself a bias
module _ (w : World) (P : List PlainObject) (t : ℕ) (e : CallContext) (b : Revocation) (at : WordId) (o : ℕ)
    (within : t < w.shape.threads) (may : MayLookAfterRevoking w.shape (w.known t) e t b) (valid : IsValid w P) where
  abbrev calm_plan : StepPlan
  calm_plan = load e at

  abbrev taking_plan : StepPlan
  taking_plan = load_plan e (BiasAcquired o) at

  abbrev y : World
  y = world_after calm_plan t w

  base : Fits y P
  base = load_fits w P t e b at may valid

  here : y.known t ≡ known_hit w.shape w.start calm_plan (w.words at) (w.known t)
  here = with_known_here t (known_hit w.shape w.start calm_plan (w.words at) (w.known t)) w.known

  reached_there : (y.known t).reached ≡ true
  reached_there = ap (λ (k : ThreadView). k.reached) here ∙ reached_load at (w.words at) (w.known t) may.ends.reached

  abbrev m : ThreadView
  m = known_hit w.shape w.start taking_plan (w.words at) (w.known t)

  abbrev k : ThreadView
  k = known_hit w.shape w.start calm_plan (w.words at) (w.known t)

  only : TakesStill y.words k m o
  only = record {
    is = refl;
    seen = λ n. refl;
    there = λ n. refl;
    alone = λ a. record { before = a.before; found = (a.found.0, a.found.1); same = a.same };
  }

  taken : Fits (with_knowledge t m y) P
  taken = takes_there y P t o m within reached_there (ap (λ (k : ThreadView). k.stage) here) (subst (λ z. TakesStill y.words z m o) (sym here) only) base

  pub load_takes : Fits (world_after taking_plan t w) P
  load_takes = subst (λ f. Fits (record { shape = w.shape; start = w.start; biasing = w.biasing; words = y.words; known = f }) P)
      (told_told t m k w.known) taken
