-- A dump keeps its shot.
use Rattle.core_locks.proofs.Prelude.{◌≡◌, ℕ, ◌<◌, ◌⊎◌, ◌||◌, Bool, true, false, cond, List, [], ◌∷◌, ◌++◌, length, slice_index, None}
use Rattle.core_locks.proofs.Prelude.{refl, sym, ap, ◌∙◌, subst, arith, inl, PlainObject, Safepoint, StepPlan, is_halted, ThreadView}
use Rattle.core_locks.proofs.Prelude.{last_seen, World, with_known, logs, CallContext, world_after, known_hit, seen_before, Fits}
use Rattle.core_locks.proofs.Prelude.{IsValid, each_with_known, with_known_here, LegalObjects, objects_after, log_of, seen_is_part}
use Rattle.core_locks.proofs.Prelude.{with_knowledge, with_knowledge_alone, log_at, KeepsValid, keep_shot_plan, ◌&&◌, is_still}
use Rattle.std.proofs.lemmas.List.{length-map}
use Rattle.plain_history.specs.Cuts.{cut_logs, IsCutInOrder}
use Rattle.plain_history.proofs.InOrder.{whole_in_order}
use Rattle.core_world.specs.Threads.ThreadView.{DumpShot}
use Rattle.core_world.specs.Clauses.SeenWords.{AreTheSteps}
use Rattle.core_world.specs.Shots.{IsRightShot, ShotsFit}
use Rattle.core_world.specs.Steps.{shot_of}
use Rattle.core_world.proofs.NoWordChanges.{Glance, glance_seen, glance_safe}
use Rattle.core_world.proofs.shot.ShotsStay.{IsNext, all_logged, shots_go_on, shots_taken}
use Rattle.core_locks.specs.ShotLaws.{MayKeepShot, IsShotOfWorld}
use Rattle.core_locks.proofs.shot.NotingNew.{with_new_knowledge_fits}
use Rattle.core_locks.proofs.safepoint.SafeFacts.{fits_calm}
use Rattle.core_locks.proofs.shot.ShotCuts.{cut_seen, cut_whole, length_at}
use Rattle.core_locks.proofs.shot.ShotWords.{cells_seen}

module _ (w : World) (P : List PlainObject) (t : ℕ) (e : CallContext)
    (within : t < w.shape.threads) (may : MayKeepShot w.shape (w.known t) e) (v : Fits w P) where
  abbrev plan : StepPlan
  plan = keep_shot_plan e

  abbrev l : ThreadView
  l = known_hit w.shape w.start plan (w.words Safepoint) (w.known t)

  abbrev shot : DumpShot
  shot = shot_of w.shape (w.known t)

  -- THE SHOT is that of the world
  right : IsRightShot w.shape.objects (logs w) shot
  right =
      let cut = cut_seen w P t may.reached v may.saw in
      let whole = ap (λ ns. cut_logs ns (logs w)) cut ∙ cut_whole (logs w) in
      record {
        threads = ap (λ ns. length ns) cut ∙ length-map (logs w) _;
        within = λ u. let a = ap (λ ns. slice_index ns u) cut in let b = length_at (logs w) u in omega (arith, a, b);
        in_order = subst (λ ns. IsCutInOrder ns (logs w)) (sym cut) (whole_in_order (logs w));
        legal = subst (LegalObjects w.shape.objects) (sym whole) v.legal;
        objects = P;
        taken = ap (objects_after w.shape.objects) whole ∙ v.taken;
        cells = cells_seen w P t may.reached v may.saw;
      }

  pub shot_is : IsShotOfWorld w P shot
  shot_is = record { cut = cut_seen w P t may.reached v may.saw; cells = cells_seen w P t may.reached v may.saw; right = right }

  -- THE STEP is a look, which keeps it
  nobody : (w.known t).running ≡ true → ⊥
  nobody r = let stopped = (v.safe.safepoint t may.reached).1 t in absurd (cc (stopped, r))

  glance : Glance w P (w.known t) l plan
  glance = record {
    same =
        let goes_on : ((w.known t).unfinished ≡ l.unfinished) ⊎ ((w.known t).unfinished ≡ None) = inl (sym may.goes_on) in search (may.calm, goes_on);
    looks = record {
      word = refl;
      as_found = refl;
      unwritten = refl;
      run = refl;
      ask = refl;
      stage = sym may.calm;
      kept = refl;
      old = seen_before w.shape (w.known t);
      seen = refl;
      part = seen_is_part w.shape (w.known t);
      since = cond (w.known t).reached (w.known t).seen_at_safepoint [];
      seen_at_safepoint = refl;
      there = λ n s r g. v.seen.stands t n s may.reached (ap (λ b. last_seen n (cond b (w.known t).seen_at_safepoint [])) (sym may.reached) ∙ g);
      alone = λ r g. subst (λ b. AreTheSteps w.words (cond b (w.known t).seen_at_safepoint [])) (sym may.reached) (v.seen.alone t may.reached g);
      fresh = λ r. absurd (nobody r);
      idle = λ r. absurd (nobody r);
    };
    reached = λ r. v.safe.safepoint t may.reached;
    halted = by_halt (w.known t).halted refl;
    stands = λ r. ap (λ b. b || ((w.known t).requesting && is_still (w.words Safepoint))) r;
  }
    where
      by_halt : (b : Bool) → (w.known t).halted ≡ b → (b || is_halted (w.words Safepoint)) ≡ true → is_halted (w.words Safepoint) ≡ true
      by_halt true h g = v.safe.stopped t h
      by_halt false h g = g

  shots_law : ShotsFit w.shape.objects (logs w) (λ u. (w.known u).log) (λ u. (with_known t l w.known u).shots) (λ u. (with_known t l w.known u).unfinished)
  shots_law =
      let cut = cut_seen w P t may.reached v may.saw in
      let log_is : log_of (logs w) t ≡ (w.known t).log = log_at 0 w.shape.threads t t w.known (omega arith) within in
      let next : IsNext w.shape.objects (logs w) t (w.known t).log (w.known t).shots (w.known t).unfinished shot = record {
        right = right;
        number = refl;
        whole = λ u. let a = ap (λ ns. slice_index ns u) cut in let b = length_at (logs w) u in omega (arith, a, b);
        here = ap (λ ns. slice_index ns t) cut ∙ length_at (logs w) t ∙ ap (λ y. length y) log_is;
        logged = all_logged t (w.known t).log (w.known t).shots (w.known t).unfinished may.logged (v.shots.dumps t);
        dumps = may.dumps;
        room = may.room;
      } in
      shots_go_on (λ u. each_with_known (λ u k. ((w.known u).unfinished ≡ k.unfinished) ⊎ ((w.known u).unfinished ≡ None)) t l w.known u
      (inl (sym may.goes_on)) (λ d. inl refl))
      (shots_taken t l w.known shot next refl v.shots)

  kept_fits : Fits (with_knowledge t l w) P
  kept_fits = with_new_knowledge_fits w P t l within glance.same glance.stands
      (glance_seen w P t l plan glance v.seen) (glance_safe w P t l plan glance v.safe) shots_law v

  pub keeps_it : IsValid (world_after plan t w) P
  keeps_it = inl (subst (λ y. Fits y P) (sym (with_knowledge_alone Safepoint (w.words Safepoint) t l w refl)) kept_fits)

-- the law
pub keeps_shot : (e : CallContext) → KeepsValid (λ w t. MayKeepShot w.shape (w.known t) e) (λ w t. keep_shot_plan e)
keeps_shot e w P t within may valid = keeps_it w P t e within may (fits_calm w P t may.reached may.calm valid)

pub shot_shows : (w : World) (P : List PlainObject) (t : ℕ) (e : CallContext) → t < w.shape.threads
    → MayKeepShot w.shape (w.known t) e → IsValid w P → IsShotOfWorld w P (shot_of w.shape (w.known t))
shot_shows w P t e within may valid = shot_is w P t e within may (fits_calm w P t may.reached may.calm valid)

pub shot_kept : (w : World) (t : ℕ) (e : CallContext)
    → ((world_after (keep_shot_plan e) t w).known t).shots ≡ (w.known t).shots ++ shot_of w.shape (w.known t) ∷ []
shot_kept w t e = ap (λ (k : ThreadView). k.shots) (with_known_here t (known_hit w.shape w.start (keep_shot_plan e) (w.words Safepoint) (w.known t)) w.known)
