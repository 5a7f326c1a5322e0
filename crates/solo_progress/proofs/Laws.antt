-- In a reached world a thread that is left alone gets through each call that it may begin.
use Rattle.std.proofs.Common.{◌≡◌, ◌≢◌, ℕ, ◌<◌, ◌==◌, ◌&&◌, ◌||◌, cond, Bool, true, false, List, Option, Some, None, Ok}
use Rattle.std.proofs.Common.{refl, sym, ap, ◌∙◌, subst, arith, eqb-true, ne_eqb, inl, inr, ◌*◌, ◌+◌, not, is_none}
use Rattle.std.proofs.lemmas.Option.{same_Some}
use Rattle.plain_monitor.specs.Objects.{PlainObject}
use Rattle.plain_monitor.specs.declared.entry.Value.{Value}
use Rattle.plain_monitor.specs.ValueWords.{read_value}
use Rattle.core_world.specs.declared.answer.Progress.{Progress}
use Rattle.core_world.specs.declared.answer.Progress.TheVariants.{Done}
use Rattle.mark_word.specs.Mark.{read_mark}
use Rattle.mark_word.specs.Wait.{wait_of, read_wait}
use Rattle.mark_word.specs.declared.wait.WaitForm.{WaitForm}
use Rattle.mark_word.specs.declared.wait.WaitForm.TheVariants.{Notified}
use Rattle.mark_word.proofs.ReadingWaits.{read_wait-spells}
use Rattle.plain_monitor.specs.Monitor.{is_listed}
use Rattle.core_world.proofs.enter_exit.ObjectHolds.{sound, notified_stands}
use Rattle.core_world.specs.declared.word_id.WordId.TheVariants.{Safepoint, Mark, Prototype, Waiting, Slot}
use Rattle.core_world.specs.declared.stage.Stage.TheVariants.{Settled}
use Rattle.core_world.specs.declared.heap_call.Operation.TheVariants as op
use Rattle.core_world.specs.declared.heap_call.HeapCall.{HeapCall}
use Rattle.core_world.specs.declared.heap_call.HeapCall.TheVariants as task
use Rattle.core_world.specs.Locks.{monitor_of, notified_at, hold_count}
use Rattle.core_world.specs.Threads.AtRest.{AtRest}
use Rattle.core_world.specs.Threads.ThreadView.{Start, local_of}
use Rattle.core_world.specs.Trees.Calls.{steps_of, side_context, end}
use Rattle.core_world.specs.Trees.Operations.{enter_steps, exit_steps, hash_steps, wait_steps, notify_steps, notify_all_steps, get_steps, put_steps}
use Rattle.core_world.specs.Trees.Operations.{dump_steps, create_steps, check_steps, value_found, print_steps, finish_steps, lone_context}
use Rattle.core_world.specs.Trees.Plans.{CallContext, call_context}
use Rattle.core_world.specs.Trees.SafepointSteps.{poll_steps, stop_steps, resume_steps, has_requester, request_steps}
use Rattle.core_world.specs.Trees.SafepointSteps.{reached_steps, release_safepoint, release_plan, reached_word}
use Rattle.core_world.specs.Trees.LockSteps.{stack_enter_steps, stack_exit_steps}
use Rattle.core_world.specs.Trees.StepTree.{StepTree, done, unreachable, step, ◌>>=◌}
use Rattle.core_world.specs.Valid.{Fits}
use Rattle.core_world.specs.Words.Forms.{waits_on, says_notified, notified_form, is_halted}
use Rattle.core_world.specs.Words.Names.{class_by}
use Rattle.core_world.specs.World.{World}
use Rattle.core_world.proofs.bias.LookWhileRevoking.{forgotten}
use Rattle.core_law.specs.WholeLaw.{LawsHold}
use Rattle.core_locks.proofs.safepoint.SafeFacts.{few_bits}
use Rattle.core_calls.specs.CallsSay.{has_none, is_full}
use Rattle.core_law.specs.Logic.{Heap}
use Rattle.core_law.proofs.Lawful.{sound_rests}
use Rattle.core_steps.proofs.ReachedWorlds.{reached_worlds_valid, reached_worlds_sound}
use Rattle.solo_progress.specs.Alone.{AnswersAlone, Quiet, word_of_one}
use Rattle.solo_progress.specs.Answers.{is_other, is_anothers, is_told, is_told_form, is_pending, PendsForOwner, WaitsWhere}
use Rattle.solo_progress.specs.Answers.{LetsGo, RefusedWhere, IsDone, guarded, created, hash_due, out_due, path_by}
use Rattle.solo_progress.specs.LeftAlone.{MayCallAlone, MayCall, start_in}
use Rattle.solo_progress.specs.Moves.{GetsThrough}
use Rattle.solo_progress.proofs.Enters.{enters_through}
use Rattle.solo_progress.proofs.Exits.{stack_exit_alone, exits_through, gets_through as gets_alone}
use Rattle.solo_progress.proofs.HashAnswers.{hash_answered}
use Rattle.solo_progress.specs.StandsStill.{stands_still}
use Rattle.solo_progress.proofs.Checked.{checks_so}
use Rattle.solo_progress.proofs.Monitors.{stack_enter_alone}
use Rattle.solo_progress.proofs.Safe.{requests_done, reaches_done}
use Rattle.solo_progress.proofs.Operations.{hashes_through, notifies_through, notify_alls_through, waits_go, waits_end, waits_done}
use Rattle.solo_progress.proofs.Operations.{polls_through, resumes_through, dumps_through, puts_through, creates_through}
use Rattle.solo_progress.proofs.Runs.{gets_through}
use Rattle.solo_progress.proofs.OneRun.{quiet_at, answers_alone, alone_all}
use Rattle.plain_monitor.specs.declared.entry.Ending.{Ending}
use Rattle.solo_progress.proofs.Worlds.{alone_fits, no_mark_0, prototype_some, quiet, who_is_owner}

first_holds : (a b c : Bool) → (a && b && c) ≡ true → a ≡ true
first_holds true b c e = refl
first_holds false b c e = absurd (cc e)

module _ (heap : Heap) (w : World) (objects : List PlainObject) (t : ℕ) where
  abbrev k : Start
  k = start_in w t

  module _ (job : HeapCall) (ready : MayCallAlone heap w objects t job) where
    pub fits : Fits w objects
    fits =
        let v = reached_worlds_valid heap w ready.call.limits ready.call.reached in
        let some = alone_fits w v.objects t ready.alone (forgotten LawsHold w v.objects v.is) in
        subst (Fits w) (same_Some v.objects objects (sym some.taken ∙ ready.history)) some

    through : {A : Type 0} (d : StepTree A) (P : A → Type 0) → steps_of w.shape job k ≡ (d >>= end)
        → AnswersAlone w.words d P → GetsThrough heap w t job d P
    through d P is says =
        gets_through heap ready.call.limits w t job ready.call.reached ready.call.within ready.call.idle ready.call.may d P is says

    -- its number has a bit in the safepoint word
    pub low : t < 32
    low = few_bits w objects t fits ready.call.within

    -- the thread knows its number
    pub mine : (w.known t).thread ≡ t
    mine = fits.numbered t

    pub quiet_words : Quiet (word_of_one k.requesting k.local.thread) w.words
    quiet_words = subst (λ u. Quiet (word_of_one k.requesting u) w.words) (sym mine) (quiet w objects t ready.alone fits)

    pub low_own : k.local.thread < 32
    low_own = subst (λ u. u < 32) (sym mine) low

    rests : AtRest w.shape (w.known t)
    rests = sound_rests w t (reached_worlds_sound heap w ready.call.limits ready.call.reached) ready.call.within ready.call.idle

    some_mark : (o : ℕ) → w.words (Mark o) ≢ 0
    some_mark o = no_mark_0 w objects t ready.alone fits o

    some_prototype : (c : ℕ) → w.words (Prototype c) ≢ 0
    some_prototype c = prototype_some w objects t ready.alone fits c

  -- AN EXIT
  pub exits : (o : ℕ) → MayCallAlone heap w objects t (task.Exit o)
      → GetsThrough heap w t (task.Exit o) (exit_steps k o) (RefusedWhere (has_none k o) IsDone)
  unfolding steps_of
  exits o ready =
      let job = task.Exit o in
      through job ready (exit_steps k o) (RefusedWhere (has_none k o) IsDone) refl
      (exits_through k o w.words (some_mark job ready o))

  -- A GET and a PUT
  pub gets : (o slot : ℕ) → MayCallAlone heap w objects t (task.Get o slot)
      → GetsThrough heap w t (task.Get o slot) (get_steps k o slot)
      (λ a. a ≡ guarded k o (value_found (read_value (w.words (Slot o slot)))))
  unfolding steps_of
  gets o slot ready =
      through (task.Get o slot) ready (get_steps k o slot) _ refl
      (gets_alone k o slot w.words)

  pub puts : (o slot : ℕ) (value : Value) → MayCallAlone heap w objects t (task.Put o slot value)
      → GetsThrough heap w t (task.Put o slot value) (put_steps k o slot value) (λ a. a ≡ guarded k o tt)
  unfolding steps_of
  puts o slot value ready =
      through (task.Put o slot value) ready (put_steps k o slot value) _ refl
      (puts_through k o slot value w.words)

  -- A HASH
  pub hashes : (o now : ℕ) → MayCallAlone heap w objects t (task.Hash o now)
      → GetsThrough heap w t (task.Hash o now) (hash_steps w.shape k o now)
      (λ progress. progress ≡ Done (hash_due objects o k))
  unfolding steps_of
  hashes o now ready =
      let job = task.Hash o now in
      hash_answered heap ready.call.limits w objects t o now (fits job ready) ready.call.within job
      (through job ready (hash_steps w.shape k o now) IsDone refl
      (hashes_through w.shape k o now w.words (low_own job ready) (some_prototype job ready (class_by w.shape w.words o)) (quiet_words job ready)))

  -- AN ENTER
  pub enters_any : (o now : ℕ) → MayCallAlone heap w objects t (task.Enter o now)
      → GetsThrough heap w t (task.Enter o now) (enter_steps w.shape k o now) (RefusedWhere (is_full k o) PendsForOwner)
  unfolding steps_of
  enters_any o now ready =
      let job = task.Enter o now in
      through job ready (enter_steps w.shape k o now) (RefusedWhere (is_full k o) PendsForOwner) refl
      (enters_through w.shape k o now w.words (low_own job ready) (quiet_words job ready))

  -- A NOTIFY and a NOTIFYALL
  pub notifies : (o now : ℕ) → MayCallAlone heap w objects t (task.Notify o now)
      → GetsThrough heap w t (task.Notify o now) (notify_steps w.shape k o now) (RefusedWhere (has_none k o) IsDone)
  unfolding steps_of
  notifies o now ready =
      let job = task.Notify o now in
      through job ready (notify_steps w.shape k o now) (RefusedWhere (has_none k o) IsDone) refl
      (notifies_through w.shape k o now w.words (low_own job ready) (some_prototype job ready (class_by w.shape w.words o)) (quiet_words job ready))

  pub notify_alls : (o now : ℕ) → MayCallAlone heap w objects t (task.NotifyAll o now)
      → GetsThrough heap w t (task.NotifyAll o now) (notify_all_steps w.shape k o now) (RefusedWhere (has_none k o) IsDone)
  unfolding steps_of
  notify_alls o now ready =
      let job = task.NotifyAll o now in
      through job ready (notify_all_steps w.shape k o now) (RefusedWhere (has_none k o) IsDone) refl
      (notify_alls_through w.shape k o now w.words (low_own job ready) (some_prototype job ready (class_by w.shape w.words o))
      (quiet_words job ready))

  -- A WAIT, that lets go and that goes on
  pub waits_first : (o now : ℕ) → MayCallAlone heap w objects t (task.Wait o now) → waits_on k.local.wait o ≡ false
      → GetsThrough heap w t (task.Wait o now) (wait_steps w.shape k o now) (RefusedWhere (has_none k o) LetsGo)
  unfolding steps_of
  waits_first o now ready new =
      let job = task.Wait o now in
      through job ready (wait_steps w.shape k o now) (RefusedWhere (has_none k o) LetsGo) refl
      (waits_go w.shape k o now w.words (low_own job ready) (some_prototype job ready (class_by w.shape w.words o)) (quiet_words job ready) new)

  abbrev Ends : ℕ → Bool → Progress (Unit {0}) → Type 0
  Ends u owned = WaitsWhere (is_told (w.words (Waiting u))) owned

  pub waits_again : (o now : ℕ) → MayCallAlone heap w objects t (task.Wait o now) → waits_on k.local.wait o ≡ true
      → GetsThrough heap w t (task.Wait o now) (wait_steps w.shape k o now)
      (RefusedWhere (has_none k o) (Ends t (is_other (monitor_of objects o).owner t)))
  unfolding steps_of
  waits_again o now ready old =
      let job = task.Wait o now in
      through job ready (wait_steps w.shape k o now) (RefusedWhere (has_none k o) (Ends t (is_other (monitor_of objects o).owner t))) refl
      (subst (λ a. AnswersAlone w.words (wait_steps w.shape k o now) (RefusedWhere (has_none k o) (Ends t (is_other a t))))
      (who_is_owner w objects t ready.alone (fits job ready) o)
      (subst (λ u. AnswersAlone w.words (wait_steps w.shape k o now)
      (RefusedWhere (has_none k o) (Ends u (is_anothers w.shape w.words o u))))
      (mine job ready)
      (waits_end w.shape k o now w.words (low_own job ready) old)))

  -- who is notified by the logs gets an object back that nobody owns
  waiting_told : (o i n : ℕ) → n ≡ wait_of (Notified i) → says_notified n o ≡ true → i ≡ o
  waiting_told o i n is says = by_form (read_wait n) refl says
    where
      by_form : (form : Option WaitForm) → read_wait n ≡ form → notified_form form o ≡ true → i ≡ o
      by_form (Some (Notified j)) reads h =
          let spells : n ≡ j * 8 + 3 = (read_wait-spells n (Notified j) reads).1 in let same = eqb-true j o h in omega
          (arith, is, spells, same)
      by_form _ reads h = absurd (cc h)

  told_by : (o n : ℕ) → says_notified n o ≡ true → is_told n ≡ true
  told_by o n says = by_form (read_wait n) says
    where
      by_form : (form : Option WaitForm) → notified_form form o ≡ true → is_told_form form ≡ true
      by_form (Some (Notified j)) h = refl
      by_form _ h = absurd (cc h)

  pub waits_told : (o now : ℕ) → MayCallAlone heap w objects t (task.Wait o now) → is_listed (notified_at objects o) t ≡ true
      → (monitor_of objects o).owner ≡ None
      → GetsThrough heap w t (task.Wait o now) (wait_steps w.shape k o now) (λ a. a ≡ Ok (Done tt))
  unfolding steps_of
  waits_told o now ready called free =
      through job ready (wait_steps w.shape k o now) (λ a. a ≡ Ok (Done tt)) refl
      (waits_done w.shape k o now w.words (low_own job ready) own held
      (ap (λ u. is_told (w.words (Waiting u))) (mine job ready) ∙ told_by o (w.words (Waiting t)) says)
      (ap (is_anothers w.shape w.words o) (mine job ready) ∙ ap (λ a. is_other a t) (who_is_owner w objects t ready.alone v o ∙ free)))
    where
      job : HeapCall
      job = task.Wait o now

      v : Fits w objects
      v = fits (task.Wait o now) ready

      says : says_notified (w.words (Waiting t)) o ≡ true
      says = elim (v.waits.notified t o called) [
        | inl h ↦ h
        | inr (zero, resumes) ↦ let calm = ready.alone.calm in absurd (cc (calm, resumes))
      ]

      own : waits_on (w.known t).wait o ≡ true
      own = elim (v.waits.stored t) [
        | inl same ↦ let untold = (rests (task.Wait o now) ready).untold o in let told = ap (λ n. says_notified n o) (sym same)
            ∙ says in absurd (cc (untold, told))
        | inr (i, waits, is) ↦ subst (λ j. waits_on (w.known t).wait j ≡ true) (waiting_told o i (w.words (Waiting t)) is says) waits
      ]

      held : (hold_count o (w.known t).holds == 0) ≡ false
      held =
          let stands = notified_stands (monitor_of objects o) t (sound w objects v o) called in
          let number = v.holds.number t o in
          ne_eqb (hold_count o (w.known t).holds) 0 (λ z. absurd (omega (arith, z, stands, number)))

  -- A DUMP and a CHECK
  pub dumps : MayCallAlone heap w objects t task.Dump
      → GetsThrough heap w t task.Dump (dump_steps w.shape k) (RefusedWhere (k.shots == 4) (λ progress. progress ≡ Done (k.shots + 1)))
  unfolding steps_of
  dumps ready =
      through task.Dump ready (dump_steps w.shape k) (RefusedWhere (k.shots == 4) (λ progress. progress ≡ Done (k.shots + 1))) refl
      (dumps_through w.shape k w.words (low_own task.Dump ready) (quiet_words task.Dump ready))

  pub checks : MayCallAlone heap w objects t task.Check
      → GetsThrough heap w t task.Check (check_steps w.shape k) (λ progress. progress ≡ Done (stands_still w.shape w.words))
  unfolding steps_of
  checks ready =
      through task.Check ready (check_steps w.shape k) (λ progress. progress ≡ Done (stands_still w.shape w.words)) refl
      (checks_so w.shape k w.words (low_own task.Check ready) (quiet_words task.Check ready))

  -- THE PARTS that are calls by themselves
  pub stack_enters : (o mark : ℕ) → MayCallAlone heap w objects t (task.StackEnter o mark) → w.words (Mark o) ≡ mark
      → GetsThrough heap w t (task.StackEnter o mark)
      (stack_enter_steps (lone_context (task.StackEnter o mark)) (local_of (w.known t)) o mark) (λ progress. progress ≡ Done (path_by (read_mark mark)))
  unfolding steps_of
  stack_enters o mark ready is =
      let job = task.StackEnter o mark in
      let d = stack_enter_steps (lone_context job) k.local o mark in
      through job ready d (λ progress. progress ≡ Done (path_by (read_mark mark))) refl
      (answers_alone (λ progress. progress ≡ Done (path_by (read_mark mark))) w.words d (stack_enter_alone (lone_context job) k.local o mark w.words is))

  pub stack_exits : (o : ℕ) → MayCallAlone heap w objects t (task.StackExit o)
      → GetsThrough heap w t (task.StackExit o) (stack_exit_steps (call_context (task.StackExit o) op.Exit o) (local_of (w.known t)) o)
      (λ out. out ≡ out_due (local_of (w.known t)) o w.words)
  unfolding steps_of
  stack_exits o ready =
      let job = task.StackExit o in
      let e = call_context job op.Exit o in
      let d = stack_exit_steps e k.local o in
      through job ready d (λ out. out ≡ out_due k.local o w.words) refl
      (answers_alone (λ out. out ≡ out_due k.local o w.words) w.words d (stack_exit_alone e k.local o (w.words (Mark o)) w.words refl (some_mark job ready o)))

  pub requests : MayCallAlone heap w objects t task.Request
      → GetsThrough heap w t task.Request (request_steps (lone_context task.Request) (w.known t).thread) IsDone
  unfolding steps_of
  requests ready =
      let d = request_steps (lone_context task.Request) k.local.thread in
      let runs = first_holds (w.known t).running (is_none (w.known t).unfinished) (not (w.known t).checking) ready.call.may in
      let none = not_asks (w.known t).requesting (sym ready.alone.runs ∙ runs) in
      through task.Request ready d IsDone refl
      (answers_alone IsDone w.words d (requests_done k.local.thread 0 (low_own task.Request ready) (lone_context task.Request) w.words
      (quiet_at 0 (subst (λ (r : Bool). Quiet (word_of_one r k.local.thread) w.words) none (quiet_words task.Request ready)))))
    where
      not_asks : (b : Bool) → not b ≡ true → b ≡ false
      not_asks false e = refl
      not_asks true e = absurd (cc e)

  pub reaches : MayCallAlone heap w objects t task.Reached
      → GetsThrough heap w t task.Reached (reached_steps (lone_context task.Reached)) IsDone
  unfolding steps_of
  reaches ready =
      let d = reached_steps (lone_context task.Reached) in
      let asks = first_holds (w.known t).requesting (is_none (w.known t).unfinished) (not (w.known t).checking) ready.call.may in
      through task.Reached ready d IsDone refl
      (answers_alone IsDone w.words d (reaches_done k.local.thread 0 (low_own task.Reached ready) (lone_context task.Reached) w.words
      (quiet_at 0 (subst (λ (r : Bool). Quiet (word_of_one r k.local.thread) w.words) asks (quiet_words task.Reached ready)))))

-- CALLS THAT NEED NO OTHER THREAD. A release answers nothing.
release_ends : (e : CallContext) (t : ℕ) → release_safepoint e t ≡ (release_safepoint e t >>= end)
release_ends e t = λ i. step (release_plan (record e { check = false }) Settled t) (λ n. by_hit (n == reached_word t) i)
  where
    by_hit : (b : Bool) → cond {A = StepTree (Unit {0})} b (done tt) unreachable ≡ (cond {A = StepTree (Unit {0})} b (done tt) unreachable >>= end)
    by_hit true = refl
    by_hit false = refl

module _ (heap : Heap) (w : World) (t : ℕ) where
  abbrev now_known : Start
  now_known = start_in w t

  by_itself : (job : HeapCall) → MayCall heap w t job → {A : Type 0} (d : StepTree A) (P : A → Type 0)
      → steps_of w.shape job now_known ≡ (d >>= end) → AnswersAlone w.words d P → GetsThrough heap w t job d P
  by_itself job ready d P is says =
      gets_through heap ready.limits w t job ready.reached ready.within ready.idle ready.may d P is says

  -- whatever it answers
  abbrev Whatever : {A : Type 0} → A → Type 0
  Whatever a = Unit {0}

  whatever : {A : Type 0} (d : StepTree A) → AnswersAlone w.words d Whatever
  whatever d = answers_alone Whatever w.words d (alone_all (λ g a. Whatever a) d w.words (λ g a. tt))

  pub prints_itself : (value : Value) → MayCall heap w t (task.Print value)
      → GetsThrough heap w t (task.Print value) (print_steps now_known value) Whatever
  unfolding steps_of
  prints_itself value ready =
      let d = print_steps now_known value in
      by_itself (task.Print value) ready d Whatever refl (whatever d)

  pub creates_itself : (c : ℕ) → MayCall heap w t (task.Create c)
      → GetsThrough heap w t (task.Create c) (create_steps w.shape now_known c) (λ a. a ≡ created w.shape now_known)
  unfolding steps_of
  creates_itself c ready =
      by_itself (task.Create c) ready (create_steps w.shape now_known c) _ refl (creates_through w.shape now_known c w.words)

  pub finishes_itself : (ending : Ending) → MayCall heap w t (task.Finish ending)
      → GetsThrough heap w t (task.Finish ending) (finish_steps now_known ending) Whatever
  unfolding steps_of
  finishes_itself ending ready =
      let d = finish_steps now_known ending in
      by_itself (task.Finish ending) ready d Whatever refl (whatever d)

  pub stops_itself : MayCall heap w t task.Stop
      → GetsThrough heap w t task.Stop (stop_steps (side_context task.Stop now_known) (local_of (w.known t))) Whatever
  unfolding steps_of
  stops_itself ready =
      let e = side_context task.Stop now_known in
      let d = stop_steps e now_known.local in
      by_itself task.Stop ready d Whatever refl (whatever d)

  pub polls_itself : MayCall heap w t task.Poll
      → GetsThrough heap w t task.Poll (poll_steps (side_context task.Poll now_known))
      (λ progress. is_pending progress ≡ has_requester (w.words Safepoint))
  unfolding steps_of
  polls_itself ready =
      let e = side_context task.Poll now_known in
      by_itself task.Poll ready (poll_steps e) _ refl (polls_through e w.words)

  pub resumes_itself : MayCall heap w t task.Resume
      → GetsThrough heap w t task.Resume (resume_steps (side_context task.Resume now_known) (local_of (w.known t)))
      (λ progress. is_pending progress ≡ (is_halted (w.words Safepoint) || has_requester (w.words Safepoint)))
  unfolding steps_of
  resumes_itself ready =
      let e = side_context task.Resume now_known in
      by_itself task.Resume ready (resume_steps e now_known.local) _ refl
      (resumes_through e now_known.local w.words)

  pub releases_itself : MayCall heap w t task.Release
      → GetsThrough heap w t task.Release (release_safepoint (lone_context task.Release) (w.known t).thread) Whatever
  unfolding steps_of
  releases_itself ready =
      let d = release_safepoint (lone_context task.Release) now_known.local.thread in
      by_itself task.Release ready d Whatever (release_ends (lone_context task.Release) now_known.local.thread) (whatever d)
