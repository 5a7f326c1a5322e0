-- The law of what is there after the step that keeps a shot of a dump.
use Rattle.std.proofs.Common.{◌≡◌, ℕ, ◌<◌, List, [], ◌∷◌, ◌++◌, ◌⊎◌, zero, suc, length, map}
use Rattle.std.proofs.Common.{slice_get, Some, IsSome, refl, sym, ap, ◌∙◌, subst, inl, inr, arith}
use Rattle.std.proofs.lemmas.Option.{same_Some}
use Rattle.std.proofs.lemmas.List.{take_all}
use Rattle.plain_monitor.specs.declared.entry.Logged.{Logged}
use Rattle.plain_monitor.specs.Objects.{PlainObject}
use Rattle.plain_monitor.specs.Made.{IsMadeInTime}
use Rattle.plain_history.specs.Cuts.{cut_logs}
use Rattle.core_world.specs.Threads.ThreadView.{DumpShot}
use Rattle.core_world.specs.Trees.LookSteps.{keep_shot_plan}
use Rattle.core_world.specs.Trees.Plans.{CallContext}
use Rattle.core_world.specs.Steps.{known_hit, shot_of, world_after}
use Rattle.core_world.specs.Valid.{Fits}
use Rattle.core_world.specs.declared.word_id.WordId.TheVariants.{Safepoint}
use Rattle.core_world.specs.World.{World, logs}
use Rattle.core_locks.specs.ShotLaws.{MayKeepShot}
use Rattle.core_locks.proofs.shot.Shoots.{shot_shows}
use Rattle.core_world.specs.Threads.References.{numbering, is_on, making_in}
use Rattle.core_law.specs.MadeLaw.{MadeLawHolds}
use Rattle.core_made.proofs.MarksSeen.{hit_marks}
use Rattle.core_made.proofs.Quiets.{quiet_world}

-- logs that are cut at their ends are whole
whole : (xs : List (List Logged)) → cut_logs (map (λ (log : List Logged). length log) xs) xs ≡ xs
whole [] = refl
whole (log ∷ xs) = ap (λ l. l ∷ cut_logs (map (λ (log : List Logged). length log) xs) xs) (take_all (length log) log (omega arith))
    ∙ ap (λ ls. log ∷ ls) (whole xs)

-- what stands in a list with one more is that one, or stood there
one_of_more : (shots : List DumpShot) (x s : DumpShot) (i : ℕ) → slice_get (shots ++ x ∷ []) i ≡ Some s → (slice_get shots i ≡ Some s) ⊎ (x ≡ s)
one_of_more [] x s zero h = inr (same_Some x s h)
one_of_more [] x s (suc i) h = absurd (cc h)
one_of_more (y ∷ shots) x s zero h = inl h
one_of_more (y ∷ shots) x s (suc i) h = one_of_more shots x s i h

module _ (w : World) (P : List PlainObject) (t : ℕ) (e : CallContext) (within : t < w.shape.threads) (may : MayKeepShot w.shape (w.known t) e)
    (makes : making_in e.unfinished ≡ making_in (w.known t).unfinished) (v : Fits w P) (law : MadeLawHolds w) where
  -- so what the new shot leaves of the logs is made in time, as they are
  shot_in_time : IsMadeInTime (numbering w.shape) (cut_logs (shot_of w.shape (w.known t)).cut (logs w))
  shot_in_time =
      subst (IsMadeInTime (numbering w.shape))
      (sym (ap (λ cut. cut_logs cut (logs w)) (shot_shows w P t e within may (inl v)).cut ∙ whole (logs w)))
      (subst IsSome (sym law.in_time) refl)

  pub shot_keeps : MadeLawHolds (world_after (keep_shot_plan e) t w)
  shot_keeps =
      quiet_world w Safepoint (w.words Safepoint) t (known_hit w.shape w.start (keep_shot_plan e) (w.words Safepoint) (w.known t)) law refl tt
      (λ o d h. h) makes
      (λ o h. law.unfinished t o (ap (λ u. is_on u o) (sym may.goes_on) ∙ h))
      (hit_marks w law t (keep_shot_plan e) (λ o at. absurd (cc at)) tt)
      (λ i s h. elim (one_of_more (w.known t).shots (shot_of w.shape (w.known t)) s i h) [
        | inl old ↦ law.cut_in_time t i s old
        | inr new ↦ subst (λ (x : DumpShot). IsMadeInTime (numbering w.shape) (cut_logs x.cut (logs w))) new shot_in_time
      ])
