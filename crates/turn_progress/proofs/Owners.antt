-- Where an enter or a wait of a thread left alone is pending for an owner, the owner word that it found names the object's plain owner.
use Rattle.core_locks.proofs.Prelude.{◌≡◌, ◌≢◌, ℕ, ◌<◌, ◌==◌, ◌||◌, cond, true, false, List, [], Option, Some, None, refl}
use Rattle.core_locks.proofs.Prelude.{sym, ap, ◌∙◌, subst, arith, inl, inr, by_equal, or-false, same_Some, MarkForm, read_mark, mark_of}
use Rattle.core_locks.proofs.Prelude.{PlainObject, WordId, Mark, Prototype, World, logs, logs_from, Fits, Shape, who, bears}
use Rattle.core_locks.proofs.Prelude.{owner_words, inflations, owner_at, monitor_of, hold_count, StepMade, ThreadView, Settled, revocation_in}
use Rattle.std.proofs.Common.{Result, Ok}
use Rattle.mark_word.specs.declared.mark.MarkForm.TheVariants as mark
use Rattle.mark_word.specs.declared.owner.OwnerForm.{OwnerForm}
use Rattle.mark_word.specs.declared.owner.OwnerForm.TheVariants.{Free, ByThread, ByRecord}
use Rattle.mark_word.specs.declared.wait.WaitForm.{WaitForm}
use Rattle.mark_word.specs.declared.wait.WaitForm.TheVariants as wait
use Rattle.mark_word.specs.Owner.{read_owner}
use Rattle.mark_word.specs.Wait.{read_wait}
use Rattle.mark_word.proofs.ReadingMarks.{read_mark-spells}
use Rattle.plain_monitor.specs.History.{objects_after}
use Rattle.plain_monitor.specs.declared.entry.Path.{Path}
use Rattle.core_world.specs.Clauses.WordForms.{IsMark}
use Rattle.core_world.specs.declared.answer.PendingCause.{PendingCause}
use Rattle.core_world.specs.declared.answer.PendingCause.TheVariants as why
use Rattle.core_world.specs.declared.answer.Progress.{Progress}
use Rattle.core_world.specs.declared.answer.Progress.TheVariants.{Done, Pending}
use Rattle.core_world.specs.declared.answer.TooDeep.{TooDeep}
use Rattle.core_world.specs.declared.heap_call.Operation.TheVariants as op
use Rattle.core_world.specs.declared.heap_call.HeapCall.TheVariants as task
use Rattle.core_world.specs.declared.word_id.WordId.TheVariants.{Owner, Waiting}
use Rattle.core_world.specs.Locks.{holder, lock_form, owner_lock, prototype_of}
use Rattle.core_world.specs.RevocationRules.{holds_in}
use Rattle.core_world.specs.Steps.{is_idle}
use Rattle.core_world.specs.Threads.AtRest.{AtRest}
use Rattle.core_world.specs.Threads.ThreadView.{Start}
use Rattle.core_world.specs.Trees.Calls.{steps_of}
use Rattle.core_world.specs.Trees.Operations.{enter_steps, wait_steps, wait_going}
use Rattle.core_world.specs.Trees.Plans.{CallContext, call_context}
use Rattle.core_world.specs.Trees.StepTree.{StepTree}
use Rattle.core_world.specs.Trees.WaitSteps.{monitor_resume_steps, resume_at, resume_mark_at, resume_owner_at}
use Rattle.core_world.specs.Valid.{IsValid}
use Rattle.core_world.specs.Words.Forms.{waits_on}
use Rattle.core_world.specs.Words.Names.{class_by, same_name}
use Rattle.core_world.specs.Words.Shape.{IsInLimits}
use Rattle.core_world.proofs.bias.LookWhileRevoking.{forgotten}
use Rattle.core_world.proofs.enter_exit.ObjectHolds.{same_owner}
use Rattle.core_world.proofs.RefusedWorlds.{logs_same}
use Rattle.core_calls.specs.CallsSay.{EnterSays, has_none, is_full}
use Rattle.core_calls.specs.Paths.{entries_of}
use Rattle.core_calls.proofs.enter_exit.EntersSay.{enter_says}
use Rattle.core_calls.proofs.Runs.{on_path}
use Rattle.core_law.specs.Logic.{Heap}
use Rattle.core_law.specs.Reached.{IsReachable}
use Rattle.core_law.specs.WholeLaw.{LawsHold, WhollyValid}
use Rattle.core_law.proofs.Lawful.{sound_rests}
use Rattle.core_steps.proofs.ReachedWorlds.{reached_worlds_sound, reached_worlds_valid}
use Rattle.solo_progress.specs.Alone.{words_left, FoundAlone, AnswersAlone}
use Rattle.solo_progress.specs.Answers.{LetsGo, PendsForOwner, RefusedWhere, who_in}
use Rattle.solo_progress.specs.LeftAlone.{IsLeftAlone, MayCallAlone, start_in}
use Rattle.solo_progress.specs.Moves.{Moves, GetsThrough}
use Rattle.solo_progress.proofs.Laws.{enters_any, fits}
use Rattle.solo_progress.proofs.Mids.{Went, went, moved_comes, silent_log}
use Rattle.solo_progress.proofs.OneRun.{Alone, alone_either, always_left, refused_or}
use Rattle.solo_progress.proofs.Runs.{moves_found, gets_through}
use Rattle.solo_progress.proofs.Worlds.{who_is_owner}
use Rattle.turn_progress.specs.Barred.{named_by, NamesOwner}
use Rattle.turn_progress.proofs.Shown.{NamesMonitor, ShowsIn, enters_shown}

-- WORDS. A mark that is spelled as one that names a monitor is read so.
same_form : (form : MarkForm) (n : ℕ) → mark_of form ≡ mark_of (mark.Inflated n) → form ≡ mark.Inflated n
same_form (mark.Inflated monitor) n e = let same : monitor ≡ n = omega (arith, e) in ap mark.Inflated same
same_form _ n e = absurd (omega (arith, e))

holder_named : (form : Option OwnerForm) (count : ℕ → ℕ) → holder (owner_lock form) count ≡ named_by form
holder_named None count = refl
holder_named (Some Free) count = refl
holder_named (Some _) count = refl

-- A WORLD AFTER STEPS that logged nothing, of a thread that is at rest there: who has the lock of o by its monitor is the plain owner from before.
module _ (heap : Heap) (limits : IsInLimits heap.shape) (w : World) (P : List PlainObject) (t : ℕ) (a : IsLeftAlone w t) (c : IsReachable heap w)
    (history : objects_after w.shape.objects (logs w) ≡ Some P) (ms : List StepMade) (v : World) (m : Moves w t ms v) (silent : entries_of ms ≡ [])
    (over : is_idle v.shape (v.known t) ≡ true) (o : ℕ) where
  gone : Went w t ms v
  gone = went w t ms v m

  comes_v : IsReachable heap v
  comes_v = moved_comes heap w t ms v a.within c m

  rest : AtRest v.shape (v.known t)
  rest = sound_rests v t (reached_worlds_sound heap v limits comes_v) (subst (λ (s : Shape). t < s.threads) (sym gone.shape) a.within) over

  valid : WhollyValid v
  valid = reached_worlds_valid heap v limits comes_v

  unasked : (u : ℕ) → u ≢ t → (v.known u).requesting ≡ false
  unasked u d = ap (λ (k : ThreadView). k.requesting) (gone.others u d) ∙ a.unasked u d

  fits_v : Fits v valid.objects
  fits_v = by_valid (forgotten LawsHold v valid.objects valid.is)
    where
      by_valid : IsValid v valid.objects → Fits v valid.objects
      by_valid (inl f) = f
      by_valid (inr s) =
          let reached : (v.known s.requester).reached ≡ true = ap (λ (k : ThreadView). k.reached) s.knows ∙ s.reached in
          let asks = (s.safe.safepoint s.requester reached).0 in
          by_equal s.requester t
          (λ e. let none = ap (λ u. revocation_in (v.known u).stage) e ∙ ap revocation_in rest.calm in let some = s.its_revocation in absurd
          (cc (none, some)))
          (λ d. let none = unasked s.requester d in absurd (cc (none, asks)))

  calm : (u : ℕ) → (v.known u).stage ≡ Settled
  calm u =
      by_equal u t (λ e. ap (λ i. (v.known i).stage) e ∙ rest.calm)
      (λ d. elim (fits_v.quiet.quiet u (ap (λ (k : ThreadView). k.running) (gone.others u d) ∙ a.stopped u d)) [
        | inl settled ↦ settled
        | inr (reached, takes) ↦ (let none = unasked u d in let asks = (fits_v.safe.safepoint u reached).0 in absurd (cc (none, asks)))
      ])

  who_owns : who v o ≡ (monitor_of valid.objects o).owner
  who_owns =
      same_owner (who v o) (monitor_of valid.objects o).owner
      (λ u. fits_v.owners.same o u ∙ ap (λ s. owner_at valid.objects o u || bears s o) (calm u) ∙ or-false (owner_at valid.objects o u))

  same_logs : logs v ≡ logs w
  same_logs =
      ap (λ (s : Shape). logs_from 0 s.threads v.known) gone.shape
      ∙ logs_same 0 w.shape.threads v.known w.known
      (λ u. by_equal u t
      (λ e. subst (λ i. (v.known i).log ≡ (w.known i).log) (sym e)
      (ap (λ (k : ThreadView). k.log) gone.known ∙ silent_log w.shape w.start ms (w.known t) silent))
      (λ d. ap (λ (k : ThreadView). k.log) (gone.others u d)))

  same_objects : valid.objects ≡ P
  same_objects =
      same_Some valid.objects P
      (sym fits_v.taken ∙ ap (objects_after v.shape.objects) same_logs ∙ ap (λ (s : Shape). objects_after s.objects (logs w)) gone.shape ∙ history)

  read_so : (n : ℕ) → NamesMonitor o n v.words → read_mark (v.words (Mark o)) ≡ Some (mark.Inflated n)
  read_so n (inl h) = h
  read_so n (inr is) = by_form (read_mark (v.words (Mark o))) refl (fits_v.forms.marks o)
    where
      by_form : (form : Option MarkForm) → read_mark (v.words (Mark o)) ≡ form → IsMark v.shape form → read_mark (v.words (Mark o)) ≡ Some (mark.Inflated n)
      by_form None e has = absurd has
      by_form (Some form) e has = e ∙ ap Some (same_form form n (sym (read_mark-spells (v.words (Mark o)) form e).1 ∙ is))

  owner_then : (n word : ℕ) → NamesMonitor o n v.words → v.words (Owner n) ≡ word → named_by (read_owner word) ≡ (monitor_of P o).owner
  owner_then n word names is =
      sym (ap (λ form. holder (lock_form form (prototype_of v o) (owner_words v) (inflations v o)) (λ u. hold_count o (v.known u).holds)) (read_so n names)
      ∙ ap (λ x. holder (owner_lock (read_owner x)) (λ u. hold_count o (v.known u).holds)) is
      ∙ holder_named (read_owner word) (λ u. hold_count o (v.known u).holds))
      ∙ who_owns
      ∙ ap (λ Q. (monitor_of Q o).owner) same_objects

-- AN ENTER
abbrev pub EnterNames : Option ℕ → Result (Progress Path) TooDeep → Type 0
EnterNames owner (Ok (Pending cause)) = NamesOwner owner cause
EnterNames owner _ = Unit {0}

pub enters_named : (heap : Heap) (w : World) (objects : List PlainObject) (t o now : ℕ) → MayCallAlone heap w objects t (task.Enter o now)
    → GetsThrough heap w t (task.Enter o now) (enter_steps w.shape (start_in w t) o now) (EnterNames (monitor_of objects o).owner)
enters_named heap w objects t o now ready =
    record {
      steps = r.steps;
      last = r.last;
      answer = r.answer;
      moves = r.moves;
      path = r.path;
      few = r.few;
      reached = r.reached;
      over = r.over;
      says = by_answer r.answer shows (on_path (EnterSays (start_in w t) o) d [] r.steps r.answer (enter_says w.shape (start_in w t) o now).by r.path);
    }
  where
    r : GetsThrough heap w t (task.Enter o now) (enter_steps w.shape (start_in w t) o now) (RefusedWhere (is_full (start_in w t) o) PendsForOwner)
    r = enters_any heap w objects t o now ready

    d : StepTree (Result (Progress Path) TooDeep)
    d = enter_steps w.shape (start_in w t) o now

    shows : ShowsIn o r.last.words r.answer
    shows =
        subst (λ f. ShowsIn o f r.answer) (λ i n. sym ((moves_found w t r.steps r.last r.moves).words n) i)
        (on_path (λ ms a. FoundAlone w.words ms → ShowsIn o (words_left w.words ms) a) d [] r.steps r.answer
        (always_left (λ g a. ShowsIn o g a) w.words d [] (λ _. enters_shown w.shape (start_in w t) o now w.words)) r.path
        (moves_found w t r.steps r.last r.moves).found)

    by_answer : (a : Result (Progress Path) TooDeep) → ShowsIn o r.last.words a → EnterSays (start_in w t) o r.steps a
        → EnterNames (monitor_of objects o).owner a
    by_answer (Ok (Pending (why.Owned word))) shown says =
        owner_then heap ready.call.limits w objects t ready.alone ready.call.reached ready.history r.steps r.last r.moves says.1.0.entries r.over o
        shown.0 word shown.1 shown.2
    by_answer _ shown says = tt

-- A WAIT that goes on, by the words that it begins with; one that begins lets go, and is pending for no owner.
abbrev pub WaitNames : Option ℕ → Progress (Unit {0}) → Type 0
WaitNames owner (Pending cause) = NamesOwner owner cause
WaitNames owner (Done x) = Unit {0}

pub lets_go_named : (owner : Option ℕ) (cause : PendingCause) → LetsGo {A = Unit {0}} (Pending cause) → NamesOwner owner cause
lets_go_named owner (why.NotNotified word) h = tt
lets_go_named owner cause h = absurd h

-- the words after a load
abbrev loaded : WordId → (WordId → ℕ) → WordId → ℕ
loaded at f n = cond (same_name n at) (f at) (f n)

module _ (s : Shape) (e : CallContext) (t saved o : ℕ) (f : WordId → ℕ) where
  abbrev N : (WordId → ℕ) → Progress (Unit {0}) → Type 0
  N g progress = WaitNames (who_in s f o) progress

  resume_named : Alone N f (monitor_resume_steps e t saved o)
  resume_named = by_form (read_wait (f (Waiting t)))
    where
      names : (m : ℕ) → read_mark (f (Mark o)) ≡ Some (mark.Inflated m) → named_by (read_owner (f (Owner m))) ≡ who_in s f o
      names m reads =
          sym (ap (λ form. holder (lock_form form (f (Prototype (class_by s f o))) (λ m. f (Owner m)) None) (λ u. hold_count o (holds_in f u))) reads
          ∙ holder_named (read_owner (f (Owner m))) (λ u. hold_count o (holds_in f u)))

      by_owner : (m : ℕ) → read_mark (f (Mark o)) ≡ Some (mark.Inflated m) → (form : Option OwnerForm) (g : WordId → ℕ)
          → Alone N g (resume_owner_at form e t saved o m (f (Owner m)))
      by_owner m reads (Some Free) g = tt
      by_owner m reads (Some (ByThread thread)) g = alone_either N g (thread == t) _ _ (λ own. tt) (λ other. names m reads)
      by_owner m reads (Some (ByRecord thread place)) g = alone_either N g (thread == t) _ _ (λ own. tt) (λ other. names m reads)
      by_owner m reads None g = tt

      by_mark : (form : Option MarkForm) → read_mark (f (Mark o)) ≡ form
          → Alone N (loaded (Mark o) (loaded (Waiting t) f)) (resume_mark_at form e t saved o)
      by_mark (Some (mark.Inflated m)) reads = by_owner m reads (read_owner (f (Owner m))) _
      by_mark _ reads = tt

      by_form : (form : Option WaitForm) → Alone N (loaded (Waiting t) f) (resume_at form e t saved o (f (Waiting t)))
      by_form (Some (wait.Waiting object stamp)) = tt
      by_form (Some (wait.Notified object)) = by_mark (read_mark (f (Mark o))) refl
      by_form _ = tt

pub waits_named : (heap : Heap) (w : World) (objects : List PlainObject) (t o now : ℕ) → MayCallAlone heap w objects t (task.Wait o now)
    → waits_on (w.known t).wait o ≡ true
    → GetsThrough heap w t (task.Wait o now) (wait_steps w.shape (start_in w t) o now)
    (RefusedWhere (has_none (start_in w t) o) (WaitNames (monitor_of objects o).owner))
unfolding steps_of
waits_named heap w objects t o now ready old =
    gets_through heap ready.call.limits w t (task.Wait o now) ready.call.reached ready.call.within ready.call.idle ready.call.may
    (wait_steps w.shape k o now) (RefusedWhere (has_none k o) (WaitNames (monitor_of objects o).owner)) refl
    (subst (λ owner. AnswersAlone w.words (wait_steps w.shape k o now) (RefusedWhere (has_none k o) (WaitNames owner)))
    (who_is_owner w objects t ready.alone (fits heap w objects t (task.Wait o now) ready) o)
    (refused_or (has_none k o) _ (WaitNames (who_in w.shape w.words o)) (wait_going w.shape e k o now) w.words
    (alone_either (λ g progress. WaitNames (who_in w.shape w.words o) progress) w.words (waits_on k.local.wait o) _ _
    (λ _. resume_named w.shape e k.local.thread k.saved o w.words) (λ new. absurd (cc (old, new))))))
  where
    k : Start
    k = start_in w t

    e : CallContext
    e = call_context (task.Wait o now) op.Wait o
