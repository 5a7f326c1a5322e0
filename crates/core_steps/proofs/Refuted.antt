-- What a tree's steps would have to keep, followed from a world in which the tree begins. So weakened trees are refuted.
use Rattle.std.proofs.Common.{◌≡◌, ◌≢◌, ℕ, ◌+◌, ◌^◌, ◌<◌, ◌≤◌, ◌&&◌, Bool, true, false, List, length}
use Rattle.std.proofs.Common.{slice_index, slice_set, eq-eqb, refl, sym, ap, ◌∙◌, arith, inl, inr}
use Rattle.std.proofs.lemmas.Option.{same_Some}
use Rattle.std.specs.Prelude.{Some, None}
use Rattle.plain_monitor.specs.Limits.{most_holds}
use Rattle.plain_monitor.specs.History.{objects_after}
use Rattle.plain_monitor.specs.Objects.{PlainObject}
use Rattle.core_world.specs.declared.act.Act.TheVariants.{FetchAnd}
use Rattle.core_world.specs.declared.word_id.WordId.TheVariants as id
use Rattle.core_world.specs.declared.plan.StepPlan.{StepPlan}
use Rattle.core_world.specs.declared.stage.Stage.{Stage}
use Rattle.core_world.specs.declared.stage.Stage.TheVariants.{Settled}
use Rattle.core_world.specs.Words.Acts.{word_after}
use Rattle.core_world.specs.Words.Forms.{is_neutral, is_neutral_form, monitor_in, hold_word, asks_in}
use Rattle.core_world.specs.Threads.ThreadView.{ThreadView, local_of}
use Rattle.core_world.specs.Locks.{hold_count, holds_by_monitor, monitor_of}
use Rattle.plain_monitor.specs.Made.{made_number}
use Rattle.plain_history.specs.Known.{news}
use Rattle.core_world.specs.Threads.References.{numbering, making_in}
use Rattle.core_world.specs.Trees.CreateSteps.{class_plan, make_plan, creating, next_made}
use Rattle.core_world.specs.Trees.Plans.{CallContext, with_stage, store, free_place, top_place}
use Rattle.core_world.specs.Trees.SafepointSteps.{all_but, stop_plan}
use Rattle.core_world.specs.Threads.Stages.{hold_words_ahead, one_if, revocation_in}
use Rattle.core_world.specs.Clauses.Safepoints.{IsQuiet}
use Rattle.core_world.specs.Steps.{is_idle, world_after, known_hit}
use Rattle.core_world.specs.Trees.StepTree.{StepTree, step}
use Rattle.core_world.specs.Valid.{Valid, IsValid, Fits}
use Rattle.core_world.specs.World.{World}
use Rattle.core_world.specs.Words.Names.{with_word}
use Rattle.core_world.specs.Trees.LockSteps.{clear_plan}
use Rattle.core_world.specs.Trees.DeflateSteps.{clean_plan}
use Rattle.core_world.proofs.enter_exit.OwnersShown.{with_word_there}
use Rattle.core_world.proofs.Readings.{mark_zero}
use Rattle.core_world.proofs.KnowledgeParts.{by_equal, with_known_here, logs_stay}
use Rattle.core_locks.proofs.enter_exit.HoldCounts.{named_clear}
use Rattle.core_locks.proofs.RefutedSteps.{knows, hit, hit_fits, standing_fits}
use Rattle.core_locks.proofs.deflation.RefutedClaims.{no_claim_of_a_keeper}
use Rattle.core_locks.proofs.safepoint.SafeFacts.{running_unreached}
use Rattle.core_locks.proofs.enter_exit.RefutedExchanges.{exchange_refused}
use Rattle.core_law.specs.Logic.{Heap, SoundWorldWith, DoesSteps}
use Rattle.core_steps.specs.Weakened.{late_displaced_steps, early_clearing_steps, stop_at_stage_steps}
use Rattle.core_steps.specs.Weakened.{always_claiming_steps, early_mark_steps, any_object_steps, early_cleaning_steps}
use Rattle.core_steps.proofs.Facts.{limits_here}
use Rattle.core_law.proofs.Standing.{fits_here, away, inside, valid_here, safe_fits}
use Rattle.core_law.proofs.Wholes.{All, all_unless, stops_all}
use Rattle.core_made.proofs.RefusedMakings.{out_of_turn, unmade_refuses}
use Rattle.core_steps.proofs.LawRules.{runs_in_all}
use Rattle.core_world.proofs.bias.LookWhileRevoking.{without_clause}
use Rattle.core_law.specs.WholeLaw.{LawsHold}
use Rattle.core_law.proofs.Places.{top_here, few_here}
use Rattle.core_steps.proofs.safepoint.SafeWords.{stopped_runs}

module _ (heap : Heap) (k : ThreadView) (fresh : Bool) (v : SoundWorldWith heap k) (at_first : is_idle heap.shape k ≡ fresh) where
  runs_there : k.running ≡ true → (v.world.known k.thread).running ≡ true
  runs_there runs = away heap k v (λ s y. y.running ≡ true) runs

  -- a tree's first step, from this world
  first_valid : {A : Type 0} (p : StepPlan) (f : ℕ → StepTree A) → DoesSteps heap fresh (step p f) k → Valid (world_after p k.thread v.world)
  first_valid p f does = without_clause LawsHold (world_after p k.thread v.world) ((does.by.0 at_first).by v)

  -- THE DISPLACED WORD AFTER THE EXCHANGE
  pub late_displaced_fails : (e : CallContext) (o mark : ℕ) → k.running ≡ true
      → free_place k.holds < most_holds → is_neutral mark ≡ true → v.world.words (id.Mark o) ≡ mark
      → v.world.words (id.Displaced k.thread (free_place k.holds)) ≢ mark → DoesSteps heap fresh (late_displaced_steps e (local_of k) o mark) k → ⊥
  late_displaced_fails e o mark runs place neutral found other does =
      exchange_refused v.world o k.thread mark (free_place k.holds) e (record { objects = v.objects; is = valid_here heap k v })
      (runs_there runs) place neutral found other (first_valid _ _ does)

  -- A HOLD WORD CLEARED BEFORE THE EXIT IS LOGGED: the plain monitor counts a hold that has no word
  cleared_counts : (w : World) (P Q : List PlainObject) (t o p : ℕ) (e : CallContext) → Fits w P
      → Fits (hit (store e (id.Hold t p) 0) t w) Q → (w.known t).stage ≡ Settled → o < 2 ^ 15
      → slice_index (w.known t).holds p ≡ hold_word o (hold_count o (w.known t).holds)
      → 1 ≤ hold_count o (w.known t).holds → hold_count o (w.known t).holds ≤ most_holds → ⊥
  cleared_counts w P Q t o p e before afterwards calm few top some small =
      let plan = clear_plan e t p in
      let l = knows plan t w in
      let logs_same = ap (objects_after w.shape.objects) (logs_stay 0 w.shape.threads t l w.known refl) in
      let objects : Q ≡ P = same_Some Q P (sym afterwards.taken ∙ logs_same ∙ before.taken) in
      let mine = with_known_here t l w.known in
      let now : hold_count o (slice_set (w.known t).holds p 0) ≡ holds_by_monitor (monitor_of Q o) t + 0 =
      ap (λ (y : ThreadView). hold_count o y.holds) (sym mine) ∙ afterwards.holds.number t o
      ∙ ap (λ (y : ThreadView). holds_by_monitor (monitor_of Q o) t + hold_words_ahead y.stage o) mine in
      let was : hold_count o (w.known t).holds ≡ holds_by_monitor (monitor_of P o) t + 0 =
      before.holds.number t o ∙ ap (λ z. holds_by_monitor (monitor_of P o) t + hold_words_ahead z o) calm in
      let stays : holds_by_monitor (monitor_of Q o) t ≡ holds_by_monitor (monitor_of P o) t = ap (λ z. holds_by_monitor (monitor_of z o) t) objects in
      let less : hold_count o (slice_set (w.known t).holds p 0) + 1 ≡ hold_count o (w.known t).holds =
      ap (λ b. hold_count o (slice_set (w.known t).holds p 0) + one_if b) (sym (eq-eqb o o refl))
      ∙ named_clear (w.known t).holds p o (hold_count o (w.known t).holds) few some small top o in
      absurd (omega (arith, now, was, stays, less))

  pub early_clearing_fails : (e : CallContext) (o header mark : ℕ) → k.running ≡ true
      → k.stage ≡ Settled → o < length heap.shape.objects → 1 ≤ hold_count o k.holds
      → DoesSteps heap fresh (early_clearing_steps e (local_of k) o header mark) k → ⊥
  early_clearing_fails e o header mark runs calm object some does =
      let fits = fits_here heap k v runs in
      let few = (limits_here heap k v runs).objects in
      let p = top_place o k.holds in
      let afterwards = hit_fits (store e (id.Hold k.thread p) 0) k.thread v.world refl (runs_there runs) (first_valid _ _ does) in
      cleared_counts v.world v.objects afterwards.0 k.thread o p e fits afterwards.1
      (away heap k v (λ s y. y.stage ≡ Settled) calm) (omega (arith, few, object))
      (away heap k v (λ s y. slice_index y.holds p ≡ hold_word o (hold_count o y.holds)) (top_here heap k v runs o some).0)
      (away heap k v (λ s y. 1 ≤ hold_count o y.holds) some) (away heap k v (λ s y. hold_count o y.holds ≤ most_holds) (few_here heap k v runs o))

  -- A STOP AT ANOTHER STAGE: a thread that doesn't run stands in the middle of nothing, where its safepoint is not reached
  quiet_calm : (reached : Bool) (stage : Stage) → IsQuiet reached stage → reached ≡ false → stage ≡ Settled
  quiet_calm reached stage (inl calm) unreached = calm
  quiet_calm reached stage (inr takes) unreached = let there = takes.0 in absurd (cc (there, unreached))

  still_calm : (w : World) (P : List PlainObject) (t : ℕ) → IsValid w P
      → (w.known t).running ≡ false → (w.known t).reached ≡ false → (w.known t).stage ≡ Settled
  still_calm w P t valid stopped unreached = elim valid [
    | inl a ↦ quiet_calm (w.known t).reached (w.known t).stage (a.quiet.quiet t stopped) unreached
    | inr s ↦ by_equal t s.requester
        (λ same. let reached = ap (λ z. (w.known z).reached) same ∙ ap (λ (y : ThreadView). y.reached) s.knows ∙ s.reached in absurd (cc (reached, unreached)))
        (λ d.
        let same = s.others t d in
        ap (λ (y : ThreadView). y.stage) same ∙ quiet_calm (s.before.known t).reached (s.before.known t).stage
        (s.fits.quiet.quiet t (ap (λ (y : ThreadView). y.running) (sym same) ∙ stopped))
        (ap (λ (y : ThreadView). y.reached) (sym same) ∙ unreached))
  ]

  pub stop_at_stage_fails : (e : CallContext) (stage : Stage) → k.running ≡ true
      → stage ≢ Settled → DoesSteps heap fresh (stop_at_stage_steps e stage (local_of k)) k → ⊥
  stop_at_stage_fails e stage runs middle does =
      let stop = with_stage stage (stop_plan e k.thread) in
      let n = v.world.words id.Safepoint in
      let last : Valid (world_after stop k.thread v.world) = first_valid stop _ does in
      let knows_so : (world_after stop k.thread v.world).known k.thread ≡ known_hit heap.shape heap.start stop n k =
      with_known_here k.thread _ v.world.known ∙ (λ i. known_hit (v.is_of i).shape (v.is_of i).start stop n (v.knows i)) in
      middle (sym (ap (λ (y : ThreadView). y.stage) knows_so) ∙ still_calm (world_after stop k.thread v.world) last.objects k.thread last.is
      (ap (λ (y : ThreadView). y.running) knows_so ∙ stopped_runs heap k n v refl runs)
      (ap (λ (y : ThreadView). y.reached) knows_so
      ∙ ap (λ (b : Bool). b && asks_in (word_after (FetchAnd (all_but k.thread)) n) k.thread) (unreached k.reached refl)))
    where
      unreached : (b : Bool) → k.reached ≡ b → k.reached ≡ false
      unreached true reached =
          absurd (running_unreached v.world v.objects k.thread k.thread (safe_fits heap k (v.world.words id.Safepoint) v refl)
          (runs_there runs) (away heap k v (λ s y. y.reached ≡ true) reached))
      unreached false reached = reached

  -- A SECOND MONITOR CLAIMED
  pub always_claiming_fails : (e : CallContext) (o mark m : ℕ) → k.running ≡ true
      → k.kept ≡ Some m → DoesSteps heap fresh (always_claiming_steps heap.shape e o mark) k → ⊥
  always_claiming_fails e o mark m runs keeps does =
      no_claim_of_a_keeper v.world m k.thread e (runs_there runs) (away heap k v (λ s y. y.kept ≡ Some m) keeps) (first_valid _ _ does)

  -- after a first step after which the thread runs, every clause holds with the laws
  first_whole : {A : Type 0} (p : StepPlan) (f : ℕ → StepTree A) → DoesSteps heap fresh (step p f) k
      → ((world_after p k.thread v.world).known k.thread).running ≡ true → (Q : List PlainObject) × All (world_after p k.thread v.world) Q
  first_whole p f does runs =
      let x = world_after p k.thread v.world in
      let whole = (does.by.0 at_first).by v in
      (whole.objects, all_unless x whole.objects (λ s. stops_all x whole.objects s k.thread runs) whole.is)

  -- A FIRST MARK BEFORE THE CLASS WORD: the thread isn't making the object
  pub early_mark_fails : (e : CallContext) (o c m : ℕ) → k.running ≡ true
      → making_in k.unfinished ≢ Some o → DoesSteps heap fresh (early_mark_steps e o c m) k → ⊥
  early_mark_fails e o c m runs unmade does =
      let all = runs_in_all heap k v runs in
      let still = ap (λ (y : ThreadView). y.running) (with_known_here k.thread _ v.world.known) ∙ runs_there runs in
      let afterwards = first_whole (make_plan e o c m) _ does still in
      unmade_refuses e o c m v.world v.objects k.thread (inside heap k v) (λ is. unmade (ap (λ (y : ThreadView). making_in y.unfinished) (sym v.knows) ∙ is))
      all.fits all.made afterwards.1.made

  -- ANOTHER OBJECT than the thread's next one
  pub any_object_fails : (o c m : ℕ) → k.running ≡ true → o ≢ next_made heap.shape (local_of k) → DoesSteps heap fresh (any_object_steps o c m) k → ⊥
  any_object_fails o c m runs other does =
      let still = ap (λ (y : ThreadView). y.running) (with_known_here k.thread _ v.world.known) ∙ runs_there runs in
      let afterwards = first_whole (class_plan (creating o c) o c) _ does still in
      out_of_turn (creating o c) o c v.world afterwards.0 k.thread (inside heap k v) refl
      (away heap k v (λ s y. o ≢ made_number (numbering s) k.thread (length (news y.log))) other) afterwards.1.fits afterwards.1.made

  -- A HEADER CLEARED BEFORE IT IS THE MARK: the monitor that the mark names has no header
  pub early_cleaning_fails : (e : CallContext) (stage : Stage) (o m header : ℕ) → k.reached ≡ true
      → revocation_in stage ≡ None → monitor_in (v.world.words (id.Mark o)) ≡ Some m
      → DoesSteps heap fresh (early_cleaning_steps e stage o m header) k → ⊥
  early_cleaning_fails e stage o m header reached unrevoking named does =
      let plan = clean_plan e stage (id.Header m) in
      let afterwards = standing_fits plan k.thread v.world refl (away heap k v (λ s y. y.reached ≡ true) reached) unrevoking (first_valid _ _ does) in
      let head : with_word (id.Header m) 0 v.world.words (id.Header m) ≡ 0 = with_word_there (id.Header m) 0 v.world.words in
      let neutral = afterwards.1.monitors.neutral o m named in
      let none : is_neutral 0 ≡ true = ap is_neutral (sym head) ∙ neutral in
      absurd (cc (none, not_neutral))
    where
      not_neutral : is_neutral 0 ≡ false
      not_neutral = ap is_neutral_form mark_zero
