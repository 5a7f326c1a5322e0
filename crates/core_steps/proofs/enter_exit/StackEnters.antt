-- The stack lock's enter begins well.
use Rattle.std.proofs.Common.{◌≡◌, ℕ, ◌<◌, ◌≤◌, ◌+◌, ◌==◌, ◌&&◌, ◌||◌, nat_lt, eq-eqb, eqb-true, not, Bool, true, false}
use Rattle.std.proofs.Common.{cond, List, Option, Some, None, refl, sym, ap, ◌∙◌, subst, inl, inr, arith, ◌⊎◌}
use Rattle.mark_word.specs.declared.mark.MarkForm.{MarkForm}
use Rattle.mark_word.specs.declared.mark.MarkForm.TheVariants.{Neutral, Locked}
use Rattle.mark_word.specs.Mark.{mark_of, read_mark}
use Rattle.mark_word.proofs.ReadingMarks.{read_mark-mark_of}
use Rattle.plain_monitor.specs.Limits.{most_holds}
use Rattle.plain_monitor.specs.declared.entry.Logged.{Logged}
use Rattle.plain_monitor.specs.declared.entry.Path.{Path}
use Rattle.plain_monitor.specs.declared.entry.Path.TheVariants.{StackFirst, StackAgain}
use Rattle.core_world.specs.declared.word_id.WordId.TheVariants as id
use Rattle.core_world.specs.declared.answer.PendingCause.TheVariants as why
use Rattle.core_world.specs.declared.stage.Stage.TheVariants.{Settled, Enters}
use Rattle.core_world.specs.declared.heap_call.Operation.TheVariants as op
use Rattle.core_world.specs.declared.heap_call.HeapCall.TheVariants.{StackEnter}
use Rattle.core_world.specs.Words.Forms.{is_neutral, is_neutral_form, is_entering, says_notified}
use Rattle.core_world.specs.Threads.ThreadView.{ThreadView, Local, Moving, local_of, start_of}
use Rattle.core_world.specs.Threads.AtRest.{AtRest}
use Rattle.core_world.specs.Trees.Calls.{steps_of, may_begin, may_log_once, is_own_first}
use Rattle.core_world.specs.Threads.References.{has_reference, making_in}
use Rattle.core_world.specs.Locks.{hold_count}
use Rattle.core_world.specs.Trees.LockSteps.{log_enter_steps, entered_steps, hold_steps, stack_again_steps, stack_first_steps}
use Rattle.core_world.specs.Trees.LockSteps.{stack_enter_at, stack_enter_steps, store_ready_plan, displace_plan}
use Rattle.core_world.specs.Trees.Operations.{lone_context}
use Rattle.core_world.specs.Trees.Plans.{CallContext, done_with, pending_for, free_place}
use Rattle.core_world.specs.Clauses.Safepoints.{IsUnfinished}
use Rattle.core_world.specs.RevocationRules.{first_place}
use Rattle.core_world.proofs.Readings.{no_told}
use Rattle.core_locks.specs.Knowing.{GoesOn}
use Rattle.core_locks.specs.LockLaws.{Precedes}
use Rattle.bias_law.specs.Steps.{WentBefore}
use Rattle.core_law.specs.Logic.{Heap, SoundWorldWith, Keeps, Does}
use Rattle.core_law.specs.Sound.{Finishes}
use Rattle.core_law.specs.Begins.{BeginsWell}
use Rattle.core_steps.proofs.WorksOn.{WorksOn}
use Rattle.core_steps.proofs.FairSteps.{Begins, begins_none, begins_its, goes_making_none}
use Rattle.core_steps.proofs.Trees.{answers, chooses, follows, binds, hitting, swapping}
use Rattle.core_steps.proofs.LawRules.{displaces_rule, seizes_rule, holds_rule, readies, logs_enter}
use Rattle.core_steps.proofs.Facts.{Untold, Unwaiting, out_here, ready_entered, limits_here, Unbiased, free_here}
use Rattle.core_law.proofs.Places.{room_here, bottom_here}
use Rattle.core_steps.proofs.SeenSteps.{saw_newest, saw_older}
use Rattle.core_steps.proofs.Resting.{unasking, rests, live_carries, logged_carries}
use Rattle.core_steps.proofs.safepoint.SafeCalls.{closes}
use Rattle.core_steps.proofs.Tests.{both, none_is, or_false, below, refers, logs_once, is_of_kind, not_true}

-- what a thread that takes o by this call counts on all the way, by parts of its knowledge that don't change until the entry is logged
pub record Taking (heap : Heap) (running requesting : Bool) (moving : Moving) (log : List Logged) (e : CallContext) (o : ℕ) : Type 0 where
  pub works : WorksOn heap running requesting moving log e o
  pub open works use *
  -- it works for its enter, or for nothing that it leaves unfinished
  pub unwaiting : (i : ℕ) → IsUnfinished e.unfinished op.Wait i → ⊥
  pub enters : (e.unfinished ≡ None) ⊎ IsUnfinished e.unfinished op.Enter o

-- so what it leaves unfinished is on an object that it knows
pub taking_begins : (heap : Heap) (k : ThreadView) (e : CallContext) (o : ℕ) → Taking heap k.running k.requesting k.moving k.log e o → GoesOn k e
    → Begins heap.shape k e.unfinished
taking_begins heap k e o a goes = elim a.enters [
  | inl none ↦ begins_none heap.shape k e.unfinished none (goes_making_none e.unfinished k.unfinished (ap making_in none) goes)
  | inr enters ↦ begins_its heap.shape k e.unfinished op.Enter o enters refl a.known goes
]

-- an enter is no dump
pub undumped_enter : (e : CallContext) (o : ℕ) → (e.unfinished ≡ None) ⊎ IsUnfinished e.unfinished op.Enter o → IsUnfinished e.unfinished op.Dump 0 → ⊥
undumped_enter e o (inl none) dumps = absurd (cc (none, dumps))
undumped_enter e o (inr enters) dumps = let a = ap (is_of_kind op.Enter) (sym enters ∙ dumps) in cc a

module _ (heap : Heap) where
  log_enter_does : (k : ThreadView) (e : CallContext) (o p : ℕ) (path : Path)
      → Taking heap k.running k.requesting k.moving k.log e o → k.stage ≡ Enters o p path
      → k.unfinished ≡ e.unfinished
      → (SoundWorldWith heap k → k.wait ≡ 0) → Untold k → Does heap false (log_enter_steps e o path) k (λ b r l. AtRest heap.shape l)
  log_enter_does k e o p path a stage mine ready untold =
      hitting heap false _ _ k _ (λ n. refl)
      (λ i. logs_enter heap k e o p path (λ v. record {
        runs = a.runs;
        stage = stage;
        ready = ready v;
        own_entry = record { operation = elim a.enters [ inl none ↦ inl (mine ∙ none) | inr enters ↦ inr (mine ∙ enters) ]; shot = tt };
        object = record { within = a.object; known = a.known };
        room = a.room;
      }))
      (λ n i was. answers heap false _ _ _ (rests heap.shape _ refl a.unasks a.unchecks (logged_carries k.log _ k.wait k.holds a.still a.live refl untold)))

  -- the steps after the one that stored the hold word, which find the waiting word as the thread stored it
  entered_does : (k : ThreadView) (e : CallContext) (o : ℕ) (path : Path) (l : Local) → Taking heap k.running k.requesting k.moving k.log e o
      → k.stage ≡ Enters o (free_place l.holds) path → k.unfinished ≡ e.unfinished → Untold k
      → l.thread ≡ k.thread → l.wait ≡ k.wait → Does heap false (entered_steps e l o path) k (λ b r l. AtRest heap.shape l)
  entered_does k e o path l a stage mine untold thread wait =
      let none : Unwaiting k = λ i h. a.unwaiting i (sym mine ∙ h) in
      chooses heap false (is_entering l.wait) _ _ k _
      (λ yes. hitting heap false _ _ k _ (λ n. refl)
      (λ i. subst (λ t. Keeps heap (store_ready_plan e (Enters o (free_place l.holds) path) t) k) (sym thread)
      (subst (λ z. Keeps heap (store_ready_plan e z k.thread) k) stage
      (readies heap k e (λ v. record {
        runs = a.runs;
        goes_on = inl (sym mine);
        before = inl (out_here heap k v a.runs none untold, (o, free_place l.holds, (path, stage)));
      })
      (inl (sym mine)))))
      (λ n i was.
      let ready : cond (l.thread == k.thread) 0 k.wait ≡ 0 = ap (λ (b : Bool). cond b 0 k.wait) (eq-eqb l.thread k.thread thread) in
      log_enter_does _ e o (free_place l.holds) path a refl refl
      (λ v. ready) (λ i. ap (λ z. says_notified z i) ready ∙ no_told i)))
      (λ no. log_enter_does k e o (free_place l.holds) path a stage mine
      (λ v. ready_entered heap k v a.runs none (ap is_entering (sym wait) ∙ no) untold a.live) untold)

  -- what went before a hold word, for the clauses and for the law of biases
  abbrev pub Comes : ThreadView → ℕ → ℕ → Path → Type 0
  Comes k o p path = Precedes heap.shape k o p × WentBefore heap.biasing heap.shape k o p path

  pub hold_does : (k : ThreadView) (e : CallContext) (o : ℕ) (path : Path) → Taking heap k.running k.requesting k.moving k.log e o → k.unfinished ≡ e.unfinished
      → Untold k
      → free_place k.holds < most_holds → Comes k o (free_place k.holds) path
      → Does heap false (hold_steps e (local_of k) o path) k (λ b r l. AtRest heap.shape l)
  hold_does k e o path a mine untold place before =
      let none : Unwaiting k = λ i h. a.unwaiting i (sym mine ∙ h) in
      hitting heap false _ _ k _ (λ n. refl)
      (λ i. holds_rule heap k e o (hold_count o k.holds + 1) (free_place k.holds) path (λ v. (
        record {
          runs = a.runs;
          out = out_here heap k v a.runs none untold;
          free = free_here heap k v a.runs place;
          depth = refl;
          small = room_here heap k v a.runs o place;
          object = record { within = a.object; known = a.known };
          before = before.0;
          goes_on = inl (sym mine);
        },
        before.1,
      )) (inl (sym mine)))
      (λ n i was. entered_does _ e o path (local_of k) a
      refl refl untold refl refl)

  -- a displaced word at the free place, by a thread in the middle of nothing
  displaces_free : (k : ThreadView) (e : CallContext) (d : ℕ) → k.running ≡ true → k.stage ≡ Settled → GoesOn k e → free_place k.holds < most_holds
      → Begins heap.shape k e.unfinished → Keeps heap (displace_plan e Settled k.thread (free_place k.holds) d) k
  displaces_free k e d runs calm goes place begins =
      subst (λ z. Keeps heap (displace_plan e z k.thread (free_place k.holds) d) k) calm
      (displaces_rule heap k e (free_place k.holds) d (λ v. record {
        runs = runs;
        free = free_here heap k v runs place;
        unseized = λ o h. absurd (cc (calm, h));
        goes_on = goes;
      }) begins)

  pub stack_first_does : (fresh : Bool) (k : ThreadView) (e : CallContext) (o mark : ℕ)
      → Taking heap k.running k.requesting k.moving k.log e o → k.stage ≡ Settled
      → GoesOn k e → Untold k
      → free_place k.holds < most_holds → is_neutral mark ≡ true → Does heap fresh (stack_first_steps e (local_of k) o mark) k (λ b r l. AtRest heap.shape l)
  stack_first_does fresh k e o mark a calm goes untold place neutral =
      let p = free_place k.holds in
      hitting heap fresh _ _ k _ (λ n. refl) (λ i. displaces_free k e mark a.runs calm goes place (taking_begins heap k e o a goes)) (λ n i was.
      swapping heap false _ mark (mark_of (Locked k.thread p)) _ (λ n. pending_for (why.Raced mark n)) _ _ refl
      (λ i. seizes_rule heap _ e o mark p (record { within = a.object; known = a.known }) (λ v. record {
        runs = a.runs;
        calm = refl;
        free = let f = free_here heap _ v a.runs place in record { place = f.place; empty = f.empty };
        neutral = neutral;
        stored = saw_newest heap (displace_plan e Settled k.thread p mark) n k;
        goes_on = inl refl;
      }) (inl refl))
      (λ n i was h. binds heap false (hold_steps e (local_of k) o StackFirst) done_with _ _ (
      follows heap false _ _ _ _ (hold_does _ e o StackFirst a refl untold place (inl refl, refl))
      (λ b r l h. answers heap b _ l _ h)))
      (λ n i was h. answers heap false _ _ _ (rests heap.shape _ refl a.unasks a.unchecks
      (live_carries k.log k.wait k.holds e.unfinished a.still a.live (λ i h. place) (undumped_enter e o a.enters) untold))))

  pub stack_again_does : (fresh : Bool) (k : ThreadView) (e : CallContext) (o : ℕ) → Taking heap k.running k.requesting k.moving k.log e o → k.stage ≡ Settled
      → GoesOn k e → Untold k
      → free_place k.holds < most_holds → 1 ≤ hold_count o k.holds → Unbiased heap fresh k o
      → Does heap fresh (stack_again_steps e (local_of k) o) k (λ b r l. AtRest heap.shape l)
  stack_again_does fresh k e o a calm goes untold place holds unbiased =
      let p = free_place k.holds in
      hitting heap fresh _ _ k _ (λ n. refl) (λ i. displaces_free k e 0 a.runs calm goes place (taking_begins heap k e o a goes)) (λ n i was.
      binds heap false (hold_steps e (local_of k) o StackAgain) done_with _ _ (
      follows heap false _ _ _ _ (hold_does _ e o StackAgain a refl untold place (
        inr (inl (refl, holds, saw_newest heap (displace_plan e Settled k.thread p 0) n k)),
        (
          refl,
          holds,
          elim unbiased [
            | inl plain ↦ inl plain
            | inr saw ↦ inr (saw.1.0, saw_older heap (displace_plan e Settled k.thread p 0) n k (id.Mark o) (i ∙ saw.0) refl refl ∙ saw.1.1, saw.1.2)
          ],
        ),
      ))
      (λ b r l h. answers heap b _ l _ h)))

  neutral_reads : (f : Option MarkForm) → is_neutral_form f ≡ true → (hash age : ℕ) × (f ≡ Some (Neutral hash age))
  neutral_reads (Some (Neutral hash age)) h = (hash, age, refl)
  neutral_reads _ h = absurd (cc h)

  -- an enter by a neutral mark, or by one that names the thread's first record of o
  pub stack_enter_does : (fresh : Bool) (k : ThreadView) (e : CallContext) (o mark : ℕ)
      → SoundWorldWith heap k → Taking heap k.running k.requesting k.moving k.log e o
      → k.stage ≡ Settled → GoesOn k e → Untold k
      → free_place k.holds < most_holds → (is_neutral mark || is_own_first k o mark) ≡ true → Unbiased heap fresh k o
      → Does heap fresh (stack_enter_steps e (local_of k) o mark) k (λ b r l. AtRest heap.shape l)
  stack_enter_does fresh k e o mark v a calm goes untold place by unbiased = cases (is_neutral mark) refl by
    where
      cases : (b : Bool) → is_neutral mark ≡ b → (b || is_own_first k o mark) ≡ true
          → Does heap fresh (stack_enter_at (read_mark mark) e (local_of k) o mark) k (λ b r l. AtRest heap.shape l)
      cases true neutral by =
          let f = neutral_reads (read_mark mark) neutral in
          subst (λ z. Does heap fresh (stack_enter_at z e (local_of k) o mark) k (λ b r l. AtRest heap.shape l))
          (sym f.2) (stack_first_does fresh k e o mark a calm goes untold place neutral)
      cases false neutral by =
          let m = both (nat_lt 0 (hold_count o k.holds)) (mark == mark_of (Locked k.thread (first_place o k.holds))) by in
          let positive = below 0 (hold_count o k.holds) m.0 in
          let holds : 1 ≤ hold_count o k.holds = omega arith in
          let is : mark ≡ mark_of (Locked k.thread (first_place o k.holds)) = eqb-true _ _ m.1 in
          let bottom = bottom_here heap k v a.runs o holds in
          let few = (limits_here heap k v a.runs).threads in
          let within = v.within in
          let reads : read_mark mark ≡ Some (Locked k.thread (first_place o k.holds)) =
          ap read_mark is ∙ read_mark-mark_of (Locked k.thread (first_place o k.holds)) (omega (arith, within, few), bottom.1) in
          subst (λ z. Does heap fresh (stack_enter_at z e (local_of k) o mark) k (λ b r l. AtRest heap.shape l))
          (sym reads) (stack_again_does fresh k e o a calm goes untold place holds unbiased)

  stack_enter_finishes : (k : ThreadView) (o mark : ℕ) → SoundWorldWith heap k
      → AtRest heap.shape k → may_begin heap.shape heap.biasing k (StackEnter o mark) ≡ true
      → Finishes heap true (steps_of heap.shape (StackEnter o mark) (start_of heap.start k)) k
  unfolding steps_of
  stack_enter_finishes k o mark v rest may =
      let m = both (not heap.biasing && has_reference heap.shape k o && may_log_once k false && nat_lt (free_place k.holds) most_holds)
      (is_neutral mark || is_own_first k o mark) may in
      let m1 = both (not heap.biasing && has_reference heap.shape k o && may_log_once k false) (nat_lt (free_place k.holds) most_holds) m.0 in
      let m2 = both (not heap.biasing && has_reference heap.shape k o) (may_log_once k false) m1.0 in
      let m3 = both (not heap.biasing) (has_reference heap.shape k o) m2.0 in
      let reference = refers heap.shape k o m3.1 in
      let a = logs_once k false m2.1 in
      closes heap true _ k (stack_enter_does true k (lone_context (StackEnter o mark)) o mark v
      (record {
        works = record {
          may = record { unchecks = refl; live = a.live; room = a.room; object = reference.within; known = reference.known };
          runs = a.runs;
          unasks = unasking heap.shape k rest a.runs;
          still = rest.still;
        };
        unwaiting = λ i h. absurd (cc h);
        enters = inl refl;
      })
      rest.calm (inr (none_is _ (or_false _ a.free))) rest.untold (below (free_place k.holds) most_holds m1.1) m.1 (inl (not_true heap.biasing m3.0)))

  pub stack_enter_begins : (o mark : ℕ) → BeginsWell heap (StackEnter o mark)
  stack_enter_begins o mark = record { does = λ k v rest may. stack_enter_finishes k o mark v rest may }
