-- An enter that is left alone is pending exactly where by the logs another thread owns the object, also where it revokes a bias.
use Rattle.std.proofs.Common.{◌≡◌, ℕ, ◌==◌, Bool, true, false, List, [], ◌∷◌, refl, sym, ap, ◌∙◌, subst}
use Rattle.plain_monitor.specs.Limits.{most_holds}
use Rattle.plain_monitor.specs.Objects.{PlainObject}
use Rattle.plain_monitor.specs.declared.entry.Path.{Path}
use Rattle.core_world.specs.declared.answer.BiasTry.{BiasTry}
use Rattle.core_world.specs.declared.answer.BiasTry.TheVariants.{Took, Unbiased, Valid, Raced}
use Rattle.core_world.specs.declared.answer.Progress.{Progress}
use Rattle.core_world.specs.declared.answer.Progress.TheVariants.{Done, Pending}
use Rattle.core_world.specs.declared.heap_call.Operation.TheVariants as op
use Rattle.core_world.specs.declared.heap_call.HeapCall.TheVariants as task
use Rattle.core_world.specs.Locks.{monitor_of}
use Rattle.core_world.specs.Threads.ThreadView.{StepMade, Start}
use Rattle.core_world.specs.Threads.Stages.{Revocation}
use Rattle.core_world.specs.Trees.BiasSteps.{bias_enter_steps, bias_after_steps}
use Rattle.core_world.specs.Trees.Operations.{and_then, answer, goes_on_with, revocation_steps, enter_unbiased}
use Rattle.core_world.specs.Trees.Operations.{enter_revoked, enter_tried, enter_going, enter_steps}
use Rattle.core_world.specs.Trees.Plans.{CallContext, call_context, free_place}
use Rattle.core_world.specs.Trees.SafepointSteps.{released_word}
use Rattle.core_world.specs.Trees.StepTree.{StepTree, done, unreachable, step, ◌>>=◌}
use Rattle.core_world.specs.World.{World}
use Rattle.core_calls.specs.CallsSay.{EnterCause, unfinished_on, is_full}
use Rattle.core_calls.specs.Paths.{made, Always}
use Rattle.core_calls.proofs.bias.BiasSay.{TrySays, bias_enter_says}
use Rattle.core_calls.proofs.OperationsSay.{PartProgress, revocation_says}
use Rattle.core_calls.proofs.Paths.{always_then, always_so, either_way, Still, still}
use Rattle.core_calls.proofs.Reasons.{enter_reasons}
use Rattle.core_calls.proofs.Runs.{on_path}
use Rattle.core_law.specs.Logic.{Heap}
use Rattle.solo_progress.specs.Alone.{FoundAlone, words_left, Quiet, word_of_one}
use Rattle.solo_progress.specs.Answers.{is_other, is_anothers, PendsWhere, RefusedWhere}
use Rattle.solo_progress.specs.LeftAlone.{MayCallAlone, start_in}
use Rattle.solo_progress.specs.Moves.{Moves, goes, GetsThrough}
use Rattle.solo_progress.proofs.OneRun.{Alone, QuietAt, quiet_at, always_left}
use Rattle.solo_progress.proofs.Enters.{Tried, bias_enter_alone, unbiased_alone, after_alone, few_free, new_full}
use Rattle.solo_progress.proofs.Laws.{fits, mine, low_own, low, quiet_words, enters_any}
use Rattle.solo_progress.proofs.Mids.{anothers_then}
use Rattle.solo_progress.proofs.Runs.{moves_found}
use Rattle.solo_progress.proofs.Safe.{IsQuietProgress, revocation_alone}
use Rattle.solo_progress.proofs.Worlds.{who_is_owner}

always_both : {A : Type 0} (P Q : List StepMade → A → Type 0) (d : StepTree A) (ms : List StepMade) → Always P ms d → Always Q ms d
    → Always (λ ms a. P ms a × Q ms a) ms d
always_both P Q (done a) ms h g = (h, g)
always_both P Q unreachable ms h g = tt
always_both P Q (step p f) ms h g = λ n. always_both P Q (f n) (made p n ∷ ms) (h n) (g n)

module _ (heap : Heap) (w : World) (objects : List PlainObject) (t o now : ℕ) (ready : MayCallAlone heap w objects t (task.Enter o now)) where
  abbrev k : Start
  k = start_in w t

  abbrev u : ℕ
  u = k.local.thread

  abbrev e : CallContext
  e = call_context (task.Enter o now) op.Enter o

  abbrev b : Revocation
  b = record { object = o; rebias = true; now = now }

  -- another owns it
  abbrev anothers : Bool
  anothers = is_other (monitor_of objects o).owner t

  -- these steps are those of a run of the thread alone
  pub record IsRunAlone (ms : List StepMade) : Type 0 where
    pub last : World
    pub moved : Moves w t ms last

  before_last : (m : StepMade) (ms : List StepMade) → IsRunAlone (m ∷ ms) → IsRunAlone ms
  before_last m ms h = from m ms h.last h.moved
    where
      from : (m : StepMade) (ms : List StepMade) (v : World) → Moves w t (m ∷ ms) v → IsRunAlone ms
      from m ms v (goes ns x p before next) = record { last = x; moved = before }

  found : (ms : List StepMade) → IsRunAlone ms → FoundAlone w.words ms
  found ms h = (moves_found w t ms h.last h.moved).found

  abbrev So : {A : Type 0} → (A → Type 0) → List StepMade → A → Type 0
  So P ms a = IsRunAlone ms → P a

  -- what a run so far shows serves for all after it
  with_run : {A : Type 0} (P : A → Type 0) (d : StepTree A) (ms : List StepMade) → (IsRunAlone ms → Always (So P) ms d) → Always (So P) ms d
  with_run P (done a) ms h = λ run. h run run
  with_run P unreachable ms h = tt
  with_run P (step p f) ms h = λ n. with_run P (f n) (made p n ∷ ms) (λ run. h (before_last (made p n) ms run) n)

  -- along each path by what its steps found
  by_words : {A : Type 0} (P : A → Type 0) (d : StepTree A) (ms : List StepMade) → (IsRunAlone ms → Alone (λ g a. P a) (words_left w.words ms) d)
      → Always (So P) ms d
  by_words P d ms h =
      with_run P d ms (λ run. always_so (λ ms a. FoundAlone w.words ms → P a) (So P) d ms
      (always_left (λ g a. P a) w.words d ms (λ _. h run)) (λ ms a says run. says (found ms run)))

  abbrev Turns : List StepMade → Progress Path → Type 0
  Turns = So (PendsWhere anothers)

  same_at_first : is_anothers w.shape w.words o u ≡ anothers
  same_at_first =
      ap (is_anothers w.shape w.words o) (mine heap w objects t (task.Enter o now) ready) ∙ ap (λ a. is_other a t)
      (who_is_owner w objects t ready.alone (fits heap w objects t (task.Enter o now) ready) o)

  -- AFTER A REVOCATION, by the world there
  abbrev Says : List StepMade → Progress Bool → Type 0
  Says =
      PartProgress w.shape k (task.Enter o now) (unfinished_on op.Enter o) o (EnterCause k.requesting u o) (enter_reasons k.requesting u o) Bool

  abbrev Quietly : List StepMade → Progress Bool → Type 0
  Quietly ms progress = FoundAlone w.words ms → IsQuietProgress o (released_word u) (words_left w.words ms) progress

  abbrev again : Bool → StepTree (Progress Path)
  again took = bias_after_steps e k.local o took >>= λ tried. enter_unbiased tried w.shape e k o

  progress_after : (ms : List StepMade) (progress : Progress Bool) → Says ms progress × Quietly ms progress → Always Turns ms (and_then progress again)
  progress_after ms (Done took) h =
      by_words (PendsWhere anothers) (again took) ms
      (λ run. subst (λ x. Alone (λ g progress. PendsWhere x progress) (words_left w.words ms) (again took))
      (ap (is_anothers w.shape (words_left w.words ms) o) (mine heap w objects t (task.Enter o now) ready)
      ∙ anothers_then heap ready.call.limits w objects t ready.alone (low heap w objects t (task.Enter o now) ready)
      (fits heap w objects t (task.Enter o now) ready) ready.call.reached ms run.last run.moved h.0.entries o
      (subst (λ i. QuietAt o (released_word i) (words_left w.words ms)) (mine heap w objects t (task.Enter o now) ready)
      (h.1 (found ms run))))
      (after_alone w.shape e k o now true (low_own heap w objects t (task.Enter o now) ready) took (words_left w.words ms)
      (h.1 (found ms run))))
  progress_after ms (Pending why) h = λ run. absurd (h.1 (found ms run))

  revoked_exactly : (requesting : Bool) (ms : List StepMade) → k.requesting ≡ requesting → Still ms
      → (FoundAlone w.words ms → QuietAt o (word_of_one requesting u) (words_left w.words ms))
      → Always Turns ms (enter_revoked w.shape requesting e k b)
  revoked_exactly requesting ms same silent quiet =
      always_then (λ ms progress. Says ms progress × Quietly ms progress) Turns (revocation_steps w.shape u requesting e b)
      (λ progress. and_then progress again) ms
      (always_both Says Quietly (revocation_steps w.shape u requesting e b) ms
      (revocation_says w.shape k (task.Enter o now) (unfinished_on op.Enter o) o (EnterCause k.requesting u o)
      (enter_reasons k.requesting u o) requesting same b ms silent)
      (always_left (IsQuietProgress o (released_word u)) w.words (revocation_steps w.shape u requesting e b) ms
      (λ run. revocation_alone u (low_own heap w objects t (task.Enter o now) ready) w.shape requesting e b (words_left w.words ms)
      (quiet run))))
      progress_after

  -- AFTER THE ATTEMPT on the bias
  abbrev Attempts : List StepMade → BiasTry → Type 0
  Attempts ms tried = FoundAlone w.words ms → Tried w.shape (released_word u) e k o w.words (words_left w.words ms) tried

  try_after : k.requesting ≡ false → (ms : List StepMade) (tried : BiasTry) → TrySays e k.local o ms tried × Attempts ms tried
      → Always Turns ms (enter_tried tried w.shape e k b)
  try_after none ms (Took path) h = λ run. sym same_at_first ∙ h.1 (found ms run)
  try_after none ms (Unbiased mark) h =
      by_words (PendsWhere anothers) (enter_unbiased (Unbiased mark) w.shape e k o) ms
      (λ run. let x = h.1 (found ms run) in
      subst (λ y. Alone (λ g progress. PendsWhere y progress) (words_left w.words ms) (enter_unbiased (Unbiased mark) w.shape e k o)) same_at_first
      (unbiased_alone w.shape (released_word u) e k o (is_anothers w.shape w.words o u) (words_left w.words ms) mark x.0 x.1 x.2))
  try_after none ms (Valid mark) h = revoked_exactly false ms none (still h.0) (λ run. (h.1 run).0)
  try_after none ms (Raced expected found') h = λ run. absurd (h.1 (found ms run))

  going_exactly : Always Turns [] (enter_going w.shape e k b)
  going_exactly =
      either_way Turns [] k.requesting _ _
      (λ asks. revoked_exactly true [] asks (record { are = refl })
      (λ _. quiet_at o (subst (λ (r : Bool). Quiet (word_of_one r u) w.words) asks (quiet_words heap w objects t (task.Enter o now) ready))))
      (λ none. always_then (λ ms tried. TrySays e k.local o ms tried × Attempts ms tried) Turns
      (bias_enter_steps w.shape e k.local o) (λ tried. enter_tried tried w.shape e k b) []
      (always_both (TrySays e k.local o) Attempts (bias_enter_steps w.shape e k.local o) []
      (bias_enter_says e k.local o w.shape [] (record { are = refl }))
      (always_left (λ g tried. Tried w.shape (released_word u) e k o w.words g tried) w.words
      (bias_enter_steps w.shape e k.local o) []
      (λ _. bias_enter_alone w.shape (released_word u) e k o w.words
      (quiet_at o (subst (λ (r : Bool). Quiet (word_of_one r u) w.words) none (quiet_words heap w objects t (task.Enter o now) ready))))))
      (try_after none))

  enter_exactly : Always (So (RefusedWhere (is_full k o) (PendsWhere anothers))) [] (enter_steps w.shape k o now)
  enter_exactly =
      either_way (So (RefusedWhere (is_full k o) (PendsWhere anothers))) [] (free_place k.local.holds == most_holds) _ _
      (λ full. either_way (So (RefusedWhere (is_full k o) (PendsWhere anothers))) [] (goes_on_with op.Enter o k.unfinished) _ _ (λ _. tt)
      (λ new run. new_full k o full new))
      (λ few. always_then Turns (So (RefusedWhere (is_full k o) (PendsWhere anothers))) (enter_going w.shape e k b) answer [] going_exactly
      (λ ms progress h run. (few_free k o few, h run)))

-- THE LAW
pub enters_exactly : (heap : Heap) (w : World) (objects : List PlainObject) (t o now : ℕ) → MayCallAlone heap w objects t (task.Enter o now)
    → GetsThrough heap w t (task.Enter o now) (enter_steps w.shape (start_in w t) o now)
    (RefusedWhere (is_full (start_in w t) o) (PendsWhere (is_other (monitor_of objects o).owner t)))
enters_exactly heap w objects t o now ready =
    let r = enters_any heap w objects t o now ready in
    record {
      steps = r.steps;
      last = r.last;
      answer = r.answer;
      moves = r.moves;
      path = r.path;
      few = r.few;
      reached = r.reached;
      over = r.over;
      says =
          on_path (So heap w objects t o now ready
          (RefusedWhere (is_full (start_in w t) o) (PendsWhere (is_other (monitor_of objects o).owner t)))) (enter_steps w.shape
          (start_in w t) o now) [] r.steps r.answer
          (enter_exactly heap w objects t o now ready) r.path (record { last = r.last; moved = r.moves });
    }
