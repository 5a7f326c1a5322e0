-- A running thread in the middle of nothing publishes its whole log, and logs nothing.
use Rattle.core_locks.proofs.Prelude.{◌≡◌, ℕ, ◌<◌, ◌≤◌, true, false, List, length, refl, subst, arith, inl, PlainObject, Safepoint}
use Rattle.core_locks.proofs.Prelude.{Length, StepPlan, is_halted, ThreadView, World, CallContext, with_stage, publish_log_plan}
use Rattle.core_locks.proofs.Prelude.{world_after, known_hit, Fits, each_with_known, fits_running, KeepsValid, MayPublishLog}
use Rattle.core_locks.proofs.Clauses.{kept_parts, parts_stand, seen, lengths, AllHold}
use Rattle.core_locks.proofs.OwnSeen.{length_uncounted, own_seen}
use Rattle.core_locks.proofs.Steps.{publishing, IsStep, next, each_written, step_fits, seen_next, quiet_step}

module _ (w : World) (P : List PlainObject) (t : ℕ) (e : CallContext) (within : t < w.shape.threads)
    (runs : (w.known t).running ≡ true) (goes_on : e.unfinished ≡ (w.known t).unfinished) (v : Fits w P) where
  abbrev plan : StepPlan
  plan = with_stage (w.known t).stage (publish_log_plan e t (length (w.known t).log))

  abbrev l : ThreadView
  l = known_hit w.shape w.start plan (w.words (Length t)) (w.known t)

  abbrev x : World
  x = world_after plan t w

  step : IsStep w t l publishing
  step = record { within = within; mine = refl; others = λ k. refl }

  abbrev z : World
  z = next w t l publishing x.words

  all_after : AllHold (kept_parts w z P)
  all_after seen = seen_next step x.words P (own_seen w P t plan (search (runs, length_uncounted w P t)) v)
  -- the word is what the thread now stored, which is all of its log
  all_after lengths = record {
    few = v.lengths.few;
    stored = λ u. each_written (λ u n y. n ≡ y.published) t (length (w.known t).log) l (λ u. w.words (Length u)) w.known u refl (λ d. v.lengths.stored u);
    most = λ u. each_with_known (λ u y. y.published ≤ length (w.known u).log) t l w.known u (omega arith) (λ d. v.lengths.most u);
    all = λ u. each_with_known (λ u y. (w.known u).running ≡ false → (w.known u).requesting ≡ false
        → is_halted (w.words Safepoint) ≡ false → y.published ≡ length (w.known u).log) t l w.known u
        (λ r a h. refl) (λ d. v.lengths.all u);
  }
  all_after c = quiet_step step P (inl goes_on) runs v c

  all_published : Fits x P
  all_published = step_fits step x.words P (kept_parts w z P) (parts_stand w z P refl (λ u. refl) (λ u. refl) refl refl refl (λ e. refl)) all_after

-- the law: since the thread runs, every clause holds before, and so after the step
pub publish_all_law : (e : CallContext) → KeepsValid (λ w t. MayPublishLog (w.known t) e) (λ w t. publish_log_plan e t (length (w.known t).log))
publish_all_law e w P t within may valid =
    let fits = all_published w P t e within may.runs may.goes_on (fits_running w P t may.runs valid) in
    inl (subst (λ stage. Fits (world_after (with_stage stage (publish_log_plan e t (length (w.known t).log))) t w) P) may.calm fits)
