-- A check that is left alone answers whether the run stands still by the words that it begins with.
use Rattle.std.proofs.Common.{◌≡◌, ℕ, zero, suc, ◌+◌, ◌<◌, ◌==◌, ◌&&◌, cond, Bool, true, false, ◌∷◌, Option, Some, None, refl, sym, ap, ◌∙◌, subst}
use Rattle.mark_word.specs.declared.mark.MarkForm.{MarkForm}
use Rattle.mark_word.specs.declared.mark.MarkForm.TheVariants.{Inflated}
use Rattle.mark_word.specs.declared.wait.WaitForm.{WaitForm}
use Rattle.mark_word.specs.declared.wait.WaitForm.TheVariants as wait
use Rattle.mark_word.specs.Mark.{read_mark}
use Rattle.mark_word.specs.Owner.{read_owner}
use Rattle.mark_word.specs.Wait.{read_wait}
use Rattle.core_world.specs.declared.answer.Progress.{Progress}
use Rattle.core_world.specs.declared.answer.Progress.TheVariants.{Done, Pending}
use Rattle.core_world.specs.declared.word_id.WordId.{WordId}
use Rattle.core_world.specs.declared.word_id.WordId.TheVariants.{Safepoint, Mark, Waiting, Owner}
use Rattle.core_world.specs.declared.stage.Stage.TheVariants.{Settled}
use Rattle.core_world.specs.declared.heap_call.HeapCall.TheVariants as task
use Rattle.core_world.specs.Threads.ThreadView.{Start}
use Rattle.core_world.specs.Trees.DeflateSteps.{deflate_steps}
use Rattle.core_world.specs.Trees.LookSteps.{can_acquire, look_at_monitor, look_at_object, look_at_wait, some_live, none_goes_on, stands_still_steps}
use Rattle.core_world.specs.Trees.Operations.{check_ending, check_steps}
use Rattle.core_world.specs.Trees.Plans.{CallContext, load, done_with}
use Rattle.core_world.specs.Trees.SafepointSteps.{has_requester, request_steps, reached_steps, then_reached}
use Rattle.core_world.specs.Trees.SafepointSteps.{safepoint_steps, release_safepoint, halt_steps, reached_word}
use Rattle.core_world.specs.Trees.StepTree.{StepTree, done, unreachable, step, ◌>>=◌, ask, each_from}
use Rattle.core_world.specs.Words.Forms.{is_still}
use Rattle.core_world.specs.Words.Names.{same_name, with_word}
use Rattle.core_world.specs.Words.Shape.{Shape}
use Rattle.solo_progress.specs.Alone.{AnswersAlone, Quiet, word_of_one}
use Rattle.solo_progress.specs.StandsStill.{goes_by_owner, goes_by_wait, all_go, stands_still}
use Rattle.solo_progress.proofs.OneRun.{Alone, DoneWith, alone_then, alone_so, alone_either, alone_past, answers_alone, load_leaves, quiet_at}
use Rattle.solo_progress.proofs.Safe.{IsQuietProgress, alone_progress, safepoint_alone}

-- all words but the safepoint word are these
record Away (f g : WordId → ℕ) : Type 0 where
  same : (n : WordId) → same_name n Safepoint ≡ false → g n ≡ f n

-- a step on the safepoint word, and a load
away_safe : (v : ℕ) (f g : WordId → ℕ) → Away f g → Away f (with_word Safepoint v g)
away_safe v f g a = record { same = λ n d. ap (λ (b : Bool). cond b v (g n)) d ∙ a.same n d }

away_load : (at : WordId) (f g : WordId → ℕ) → Away f g → Away f (with_word at (g at) g)
away_load at f g a = record { same = λ n d. load_leaves at n g ∙ a.same n d }

-- two things that hold at the end hold together
alone_both : {A : Type 0} (P Q : (WordId → ℕ) → A → Type 0) (d : StepTree A) (f : WordId → ℕ) → Alone P f d → Alone Q f d → Alone (λ g a. P g a × Q g a) f d
alone_both P Q (done a) f h k = (h, k)
alone_both P Q unreachable f h k = tt
alone_both P Q (step p x) f h k = alone_both P Q (x (f p.at)) _ h k

module _ (f : WordId → ℕ) where
  abbrev AwayProgress : (WordId → ℕ) → Progress (Unit {0}) → Type 0
  AwayProgress g progress = Away f g

  -- THE SAFEPOINT
  reached_away : (e : CallContext) (g : WordId → ℕ) → Away f g → Alone AwayProgress g (reached_steps e)
  reached_away e g a =
      alone_either AwayProgress _ (is_still (g Safepoint)) _ _ (λ _. away_safe (g Safepoint) f g a) (λ _. away_safe (g Safepoint) f g a)

  request_away : (e : CallContext) (t : ℕ) (g : WordId → ℕ) → Away f g → Alone AwayProgress g (request_steps e t)
  request_away e t g a =
      let b = away_safe (g Safepoint) f g a in
      alone_either AwayProgress _ (has_requester (g Safepoint)) _ _ (λ _. b)
      (λ _. alone_either AwayProgress _ (g Safepoint == g Safepoint) _ _ (λ _. away_safe _ f _ b)
      (λ _. alone_either AwayProgress _ (has_requester (g Safepoint)) _ _ (λ _. away_safe _ f _ b) (λ _. away_safe _ f _ b)))

  then_away : (e : CallContext) (g : WordId → ℕ) (progress : Progress (Unit {0})) → Away f g → Alone AwayProgress g (then_reached e progress)
  then_away e g (Done x) a = reached_away e g a
  then_away e g (Pending why) a = a

  safepoint_away : (e : CallContext) (t : ℕ) (requesting : Bool) (g : WordId → ℕ) → Away f g → Alone AwayProgress g (safepoint_steps e t requesting)
  safepoint_away e t true g a = reached_away e g a
  safepoint_away e t false g a =
      alone_then AwayProgress AwayProgress (request_steps e t) (then_reached e) g (request_away e t g a) (λ h progress b. then_away e h progress b)

  -- ONE THREAD, by words that are these but for the safepoint word
  abbrev Found : Option Bool → (WordId → ℕ) → Option Bool → Type 0
  Found is g on = Away f g × (on ≡ is)

  module _ (e : CallContext) (t : ℕ) where
    monitor_found : (form : Option MarkForm) (g : WordId → ℕ) → Away f g → Alone (Found (goes_by_owner form f t)) g (look_at_monitor form e t)
    monitor_found (Some (Inflated monitor)) g a =
        (away_load (Owner monitor) f g a, ap (λ n. Some (can_acquire (read_owner n) t)) (a.same (Owner monitor) refl))
    monitor_found _ g a = tt

    object_found : (o : ℕ) (g : WordId → ℕ) → Away f g → Alone (Found (goes_by_owner (read_mark (f (Mark o))) f t)) g (look_at_object e t o)
    object_found o g a =
        subst (λ n. Alone (Found (goes_by_owner (read_mark (f (Mark o))) f t)) (with_word (Mark o) (g (Mark o)) g) (look_at_monitor (read_mark n) e t))
        (sym (a.same (Mark o) refl)) (monitor_found (read_mark (f (Mark o))) _ (away_load (Mark o) f g a))

    wait_found : (form : Option WaitForm) (g : WordId → ℕ) → Away f g → Alone (Found (goes_by_wait form f t)) g (look_at_wait form e t)
    wait_found (Some (wait.Entering object)) g a = object_found object g a
    wait_found (Some (wait.Notified object)) g a = object_found object g a
    wait_found None g a = tt
    wait_found _ g a = (a, refl)

    thread_found : (g : WordId → ℕ) → Away f g
        → Alone (Found (goes_by_wait (read_wait (f (Waiting t))) f t)) g (ask (load e (Waiting t)) >>= λ word. look_at_wait (read_wait word) e t)
    thread_found g a =
        subst (λ n. Alone (Found (goes_by_wait (read_wait (f (Waiting t))) f t)) (with_word (Waiting t) (g (Waiting t)) g) (look_at_wait (read_wait n) e t))
        (sym (a.same (Waiting t) refl)) (wait_found (read_wait (f (Waiting t))) _ (away_load (Waiting t) f g a))

  -- ALL THREADS
  module _ (e : CallContext) where
    abbrev look : ℕ → StepTree (Option Bool)
    look t = ask (load e (Waiting t)) >>= λ word. look_at_wait (read_wait word) e t

    all_found : (t n : ℕ) (g : WordId → ℕ) → Away f g → Alone (λ h ons. Away f h × (ons ≡ all_go f t n)) g (each_from t n look)
    all_found t zero g a = (a, refl)
    all_found t (suc n) g a =
        alone_then (Found (goes_by_wait (read_wait (f (Waiting t))) f t)) (λ h ons. Away f h × (ons ≡ all_go f t (suc n))) (look t)
        (λ on. each_from (t + 1) n look >>= λ ons. done (on ∷ ons)) g (thread_found e t g a)
        (λ h on found. alone_then (λ i ons. Away f i × (ons ≡ all_go f (t + 1) n)) (λ i ons. Away f i × (ons ≡ all_go f t (suc n))) (each_from (t + 1) n look)
        (λ ons. done (on ∷ ons)) h (all_found (t + 1) n h found.0)
        (λ i ons all. (all.0, (λ j. found.1 j ∷ all.1 j))))

    stands_found : (s : Shape) (g : WordId → ℕ) → Away f g → Alone (λ h still. still ≡ stands_still s f) g (stands_still_steps e s)
    stands_found s g a =
        alone_then (λ h ons. Away f h × (ons ≡ all_go f 0 s.threads)) (λ h still. still ≡ stands_still s f) (each_from 0 s.threads look)
        (λ ons. done (some_live ons && none_goes_on ons)) g (all_found 0 s.threads g a)
        (λ h ons all. ap (λ xs. some_live xs && none_goes_on xs) all.1)

-- THE CHECK
ending_so : (s : Shape) (f : WordId → ℕ) (still : Bool) (e : CallContext) (t : ℕ) (g : WordId → ℕ) → still ≡ stands_still s f
    → Alone (λ h progress. progress ≡ Done (stands_still s f)) g (check_ending still e t)
ending_so s f true e t g is = alone_past (λ h progress. progress ≡ Done (stands_still s f)) (halt_steps e t) (λ _. done_with true) g (λ h x. ap Done is)
ending_so s f false e t g is =
    alone_past (λ h progress. progress ≡ Done (stands_still s f)) (release_safepoint e t) (λ _. done_with false) g (λ h x. ap Done is)

pub checks_so : (s : Shape) (k : Start) (f : WordId → ℕ) → k.local.thread < 32 → Quiet (word_of_one k.requesting k.local.thread) f
    → AnswersAlone f (check_steps s k) (λ progress. progress ≡ Done (stands_still s f))
checks_so s k f low q =
    answers_alone (λ progress. progress ≡ Done (stands_still s f)) f (check_steps s k)
    (alone_progress (λ g x. Away f g) (λ g progress. progress ≡ Done (stands_still s f)) (safepoint_steps e t k.requesting)
    (λ _. stands_still_steps e s >>= λ still. deflate_steps s e Settled >>= λ _. check_ending still e t) f
    (alone_so (λ g progress. IsQuietProgress {A = Unit {0}} 0 (reached_word t) g progress × Away f g)
    (λ g progress. DoneWith (λ (x : Unit {0}). Away f g) progress)
    (safepoint_steps e t k.requesting) f
    (alone_both (IsQuietProgress {A = Unit {0}} 0 (reached_word t)) (λ g progress. Away f g) (safepoint_steps e t k.requesting) f
    (safepoint_alone t 0 low e k.requesting f (quiet_at 0 q)) (safepoint_away f e t k.requesting f (record { same = λ n d. refl })))
    by_progress)
    (λ g x away. alone_then (λ h still. still ≡ stands_still s f) (λ h progress. progress ≡ Done (stands_still s f)) (stands_still_steps e s)
    (λ still. deflate_steps s e Settled >>= λ _. check_ending still e t) g (stands_found f e s g away)
    (λ h still is. alone_past (λ i progress. progress ≡ Done (stands_still s f)) (deflate_steps s e Settled) (λ _. check_ending still e t) h
    (λ i x. ending_so s f still e t i is))))
  where
    t : ℕ
    t = k.local.thread

    e : CallContext
    e = record { task = task.Check; unfinished = k.unfinished; check = true }

    by_progress : (g : WordId → ℕ) (progress : Progress (Unit {0})) → IsQuietProgress {A = Unit {0}} 0 (reached_word k.local.thread) g progress × Away f g
        → DoneWith (λ (x : Unit {0}). Away f g) progress
    by_progress g (Done x) h = h.1
    by_progress g (Pending why) h = absurd h.0
