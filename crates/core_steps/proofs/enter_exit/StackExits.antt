-- The stack lock's exit, where the object's mark has no bias pattern.
use Rattle.std.proofs.Common.{◌≡◌, ◌≢◌, ℕ, ◌≤◌, ◌==◌, ◌&&◌, not, max, nat_lt, eq-eqb, eqb-true, Bool, true, false}
use Rattle.std.proofs.Common.{List, slice_index, Option, Some, None, refl, sym, ap, ◌∙◌, subst, inl, inr, arith}
use Rattle.mark_word.specs.declared.mark.MarkForm.{MarkForm}
use Rattle.mark_word.specs.declared.mark.MarkForm.TheVariants.{Inflating, Locked, Inflated}
use Rattle.mark_word.specs.Mark.{mark_of, read_mark}
use Rattle.mark_word.proofs.ReadingMarks.{read_mark-spells}
use Rattle.core_world.specs.declared.answer.StackOut.{StackOut}
use Rattle.core_world.specs.declared.answer.StackOut.TheVariants.{Left, Monitor, Not}
use Rattle.core_world.specs.declared.answer.PendingCause.{PendingCause}
use Rattle.core_world.specs.declared.answer.PendingCause.TheVariants as why
use Rattle.core_world.specs.declared.word_id.WordId.TheVariants as id
use Rattle.core_world.specs.declared.stage.Stage.TheVariants.{Settled}
use Rattle.core_world.specs.declared.heap_call.Operation.TheVariants as op
use Rattle.core_world.specs.declared.heap_call.HeapCall.TheVariants.{StackExit}
use Rattle.core_world.specs.Words.Forms.{monitor_form, is_biased, hold_word}
use Rattle.core_world.specs.Threads.ThreadView.{ThreadView, Local, Moving, local_of, start_of, last_seen}
use Rattle.core_world.specs.Threads.AtRest.{AtRest}
use Rattle.core_world.specs.Trees.Calls.{steps_of, may_begin, may_log_once}
use Rattle.core_world.specs.Threads.References.{has_reference}
use Rattle.core_world.specs.Locks.{hold_count, marks}
use Rattle.plain_monitor.specs.Limits.{most_holds}
use Rattle.plain_monitor.specs.declared.entry.Logged.{Logged}
use Rattle.core_world.specs.Clauses.Safepoints.{IsUnfinished}
use Rattle.core_world.specs.Trees.LockSteps.{stack_exit_by, stack_exit_at, stack_exit_record, stack_exit_steps, raise_stamp_plan}
use Rattle.core_world.specs.Trees.Operations.{goes_on_with}
use Rattle.core_world.specs.Trees.Plans.{CallContext, call_context, load, top_place, next_stamp}
use Rattle.core_world.specs.Steps.{known_hit}
use Rattle.core_world.specs.Trees.StepTree.{done}
use Rattle.core_world.proofs.KnowledgeParts.{by_equal}
use Rattle.core_locks.proofs.enter_exit.HoldWays.{saw_displaced}
use Rattle.core_locks.specs.Knowing.{GoesOn, IsOut, SawInflated}
use Rattle.core_law.specs.Logic.{Heap, SoundWorldWith, Does}
use Rattle.core_law.specs.Sound.{Finishes}
use Rattle.core_law.specs.Begins.{BeginsWell}
use Rattle.core_steps.proofs.WorksOn.{WorksOn}
use Rattle.core_steps.proofs.Looks.{looks_running}
use Rattle.core_steps.proofs.FairSteps.{Begins, begins_its}
use Rattle.core_steps.proofs.Trees.{answers, chooses, chooses_then, hitting, swapping}
use Rattle.core_steps.proofs.LawRules.{raises, leaves_rule, clears_rule, lets_go_rule}
use Rattle.core_law.proofs.Standing.{home, away, fits_here}
use Rattle.core_steps.proofs.Facts.{Untold, Unwaiting, Unentering, out_here, ready_here, Unbiased}
use Rattle.core_law.proofs.Places.{top_here, few_here}
use Rattle.core_steps.proofs.SeenSteps.{saw_newest, saw_older}
use Rattle.core_steps.proofs.enter_exit.ExitFacts.{OnExit, covered, on_exit}
use Rattle.core_steps.proofs.Resting.{unasking, rests, live_carries, logged_carries}
use Rattle.core_steps.proofs.safepoint.SafeCalls.{closes}
use Rattle.core_steps.proofs.Tests.{both, not_true, below, refers, logs_once, nothing_goes, goes_on_or_begins, is_of_kind}

-- what a thread that leaves o by this call counts on all the way, by parts of its knowledge that don't change until the entry is logged
pub record Leaving (heap : Heap) (running requesting : Bool) (moving : Moving) (log : List Logged) (holds : List ℕ) (e : CallContext) (o : ℕ) : Type 0 where
  pub works : WorksOn heap running requesting moving log e o
  pub open works use *
  pub some : 1 ≤ hold_count o holds
  pub exits : e.unfinished ≡ Some (record { op = op.Exit; object = o })

-- so what it leaves unfinished is on an object that it knows
pub leaving_begins : (heap : Heap) (k : ThreadView) (e : CallContext) (o : ℕ) → Leaving heap k.running k.requesting k.moving k.log k.holds e o → GoesOn k e
    → Begins heap.shape k e.unfinished
leaving_begins heap k e o a goes = begins_its heap.shape k e.unfinished op.Exit o a.exits refl a.known goes

-- in this call the stamp was raised to that of the next entry
abbrev pub RaisedStamp : Bool → ThreadView → ℕ → Type 0
RaisedStamp fresh k o = (fresh ≡ false) × ((stamp : ℕ) × (last_seen (id.Stamp o) k.seen ≡ Some stamp) × (next_stamp (local_of k) ≤ stamp))

pub unwaiting_exit : (k : ThreadView) (o : ℕ) → k.unfinished ≡ Some (record { op = op.Exit; object = o }) → Unwaiting k
unwaiting_exit k o e i h = let a = ap (is_of_kind op.Exit) (sym e ∙ h) in cc a

pub undumped_exit : (k : ThreadView) (o : ℕ) → k.unfinished ≡ Some (record { op = op.Exit; object = o }) → IsUnfinished k.unfinished op.Dump 0 → ⊥
undumped_exit k o e h = let a = ap (is_of_kind op.Exit) (sym e ∙ h) in cc a

pub unentering_exit : (k : ThreadView) (o : ℕ) → k.unfinished ≡ Some (record { op = op.Exit; object = o }) → Unentering k
unentering_exit k o e i h = let a = ap (is_of_kind op.Exit) (sym e ∙ h) in cc a

pub max_right : (a b : ℕ) → b ≤ max a b
max_right a b = omega arith

-- the exit goes on by the monitor m: nothing was let go, this mark was seen, the record isn't recursive, and the stamp is raised for the last hold
pub record ByMonitor (heap : Heap) (e : CallContext) (o m : ℕ) (l : ThreadView) : Type 0 where
  pub leaving : Leaving heap l.running l.requesting l.moving l.log l.holds e o
  pub calm : l.stage ≡ Settled
  pub mine : l.unfinished ≡ e.unfinished
  pub check : e.check ≡ l.checking
  pub untold : Untold l
  pub inflated : SawInflated l o m
  pub displaced : (h : ℕ) × (last_seen (id.Displaced l.thread (top_place o l.holds)) l.seen ≡ Some h) × (h ≢ 0)
  pub stamped : hold_count o l.holds ≡ 1 → (stamp : ℕ) × (last_seen (id.Stamp o) l.seen ≡ Some stamp) × (next_stamp (local_of l) ≤ stamp)

-- what follows each answer of the exit
pub record Outs (heap : Heap) (e : CallContext) (o : ℕ) (here : Local) (Q : Bool → StackOut → ThreadView → Type 0) : Type 0 where
  pub left : (l : ThreadView) → AtRest heap.shape l → Q false Left l
  pub raced : (l : ThreadView) (w : PendingCause) → AtRest heap.shape l → Q false (Not w) l
  pub monitor : (l : ThreadView) (m : ℕ) → local_of l ≡ here → ByMonitor heap e o m l → Q false (Monitor m) l

two_or_more : (n : ℕ) → 1 ≤ n → (n ≡ 1 → ⊥) → 2 ≤ n
two_or_more n h f = by_equal n 1 (λ e. absurd (f e)) (λ d. omega arith)

module _ (heap : Heap) where
  pub unbiased_here : (fresh : Bool) (k : ThreadView) (o : ℕ) (v : SoundWorldWith heap k)
      → k.running ≡ true → Unbiased heap fresh k o → is_biased (marks v.world o) ≡ false
  unbiased_here fresh k o v runs h = elim h [
    | inl a ↦ (fits_here heap k v runs).classes.unbiased (ap (λ (z : Heap). z.biasing) v.is_of ∙ a) o
    | inr a ↦ (fits_here heap k v runs).seen.unbiased k.thread o a.1.0
        (away heap k v (λ s y. last_seen (id.Mark o) y.seen ≡ Some a.1.0) a.1.1) (inl (away heap k v (λ s y. y.running ≡ true) runs)) a.1.2
  ]

  -- where it answers that the exit goes on in another call, the thread is at rest
  pub exit_rests : (k : ThreadView) (e : CallContext) (o : ℕ)
      → Leaving heap k.running k.requesting k.moving k.log k.holds e o → k.stage ≡ Settled → k.checking ≡ false
      → k.unfinished ≡ e.unfinished → Untold k → AtRest heap.shape k
  exit_rests k e o a calm unchecks mine untold = rests heap.shape k calm a.unasks unchecks (live_carries k.log k.wait k.holds
      k.unfinished a.still a.live (λ i h. absurd (unentering_exit k o (mine ∙ a.exits) i h)) (undumped_exit k o (mine ∙ a.exits)) untold)

  -- the lock that is left by exchanging the mark
  exit_by_does : (Q : Bool → StackOut → ThreadView → Type 0) (k : ThreadView) (e : CallContext) (o header stamp : ℕ) → Outs heap e o (local_of k) Q
      → e.check ≡ k.checking → Leaving heap k.running k.requesting k.moving k.log k.holds e o → k.stage ≡ Settled → k.unfinished ≡ e.unfinished → Untold k
      → hold_count o k.holds ≡ 1 → last_seen (id.Displaced k.thread (top_place o k.holds)) k.seen ≡ Some header
      → last_seen (id.Stamp o) k.seen ≡ Some stamp → next_stamp (local_of k) ≤ stamp
      → Does heap false (stack_exit_by e (local_of k) o header (mark_of (Locked k.thread (top_place o k.holds)))) k Q
  exit_by_does Q k e o header stamp outs check a calm mine untold one displaced stamped high =
      let p = top_place o k.holds in
      let m = mark_of (Locked k.thread p) in
      let exit : k.unfinished ≡ Some (record { op = op.Exit; object = o }) = mine ∙ a.exits in
      let hold : (v : SoundWorldWith heap k) → slice_index k.holds p ≡ hold_word o 1 = λ v. (top_here heap k v a.runs o a.some).0 ∙ ap (hold_word o) one in
      swapping heap false _ m header _ (λ n. done (Not (why.Raced m n))) _ _ refl
      (λ i. lets_go_rule heap k e o header stamp p (λ v. record {
        runs = a.runs;
        calm = calm;
        ready = ready_here heap k v a.runs (unwaiting_exit k o exit) (unentering_exit k o exit) untold a.live;
        object = record { within = a.object; known = a.known };
        place = (top_here heap k v a.runs o a.some).1;
        hold = hold v;
        last = one;
        displaced = displaced;
        stamped = stamped;
        high = high;
        own_entry = record { operation = inr exit; shot = tt };
        room = a.room;
      }))
      (λ n i was h. hitting heap false _ _ _ _ (λ n. refl)
      (λ j. clears_rule heap _ (record e { unfinished = None }) o p (λ v. (top_here heap k was.stands a.runs o a.some).1)
      (λ v. record { runs = a.runs; stage = refl; hold = hold was.stands; last = one; goes_on = refl }) (inl refl))
      (λ n j was. answers heap false _ _ Q
      (outs.left _ (rests heap.shape _ refl a.unasks a.unchecks (logged_carries k.log _ k.wait _ a.still a.live refl untold)))))
      (λ n i was h. answers heap false _ _ Q (outs.raced _ _ (exit_rests _ e o a calm (sym check ∙ a.unchecks) mine untold)))

  -- by the form of the mark that was found
  exit_at_does : (Q : Bool → StackOut → ThreadView → Type 0) (f : Option MarkForm) (k : ThreadView) (e : CallContext) (o header mark : ℕ)
      → Outs heap e o (local_of k) Q → e.check ≡ k.checking → last_seen (id.Mark o) k.seen ≡ Some mark
      → read_mark mark ≡ f → OnExit k.thread (top_place o k.holds) (hold_count o k.holds) f
      → Leaving heap k.running k.requesting k.moving k.log k.holds e o → k.stage ≡ Settled → k.unfinished ≡ e.unfinished → Untold k
      → last_seen (id.Displaced k.thread (top_place o k.holds)) k.seen ≡ Some header → header ≢ 0
      → (hold_count o k.holds ≡ 1 → (stamp : ℕ) × (last_seen (id.Stamp o) k.seen ≡ Some stamp) × (next_stamp (local_of k) ≤ stamp))
      → Does heap false (stack_exit_at f e (local_of k) o header mark) k Q
  exit_at_does Q (Some Inflating) k e o header mark outs check sees r c a calm mine untold displaced nonzero stamped =
      answers heap false _ k Q (outs.raced k _ (exit_rests k e o a calm (sym check ∙ a.unchecks) mine untold))
  exit_at_does Q (Some (Locked t p)) k e o header mark outs check sees r c a calm mine untold displaced nonzero stamped =
      let s = stamped c.2 in
      let is : mark ≡ mark_of (Locked k.thread (top_place o k.holds)) = (read_mark-spells mark (Locked t p) r).1 ∙ (λ i. mark_of (Locked (c.0 i) (c.1 i))) in
      subst (λ m. Does heap false (stack_exit_by e (local_of k) o header m) k Q) (sym is)
      (exit_by_does Q k e o header s.0 outs check a calm mine untold c.2 displaced s.1 s.2)
  exit_at_does Q (Some (Inflated m)) k e o header mark outs check sees r c a calm mine untold displaced nonzero stamped =
      answers heap false _ k Q (outs.monitor k m refl (record {
        leaving = a;
        calm = calm;
        mine = mine;
        check = check;
        untold = untold;
        inflated = (mark, sees, ap monitor_form r);
        displaced = (header, displaced, nonzero);
        stamped = stamped;
      }))
  exit_at_does Q _ k e o header mark outs check sees r c a calm mine untold displaced nonzero stamped = absurd c

  -- the displaced word is still as it was seen
  covered_here : (k : ThreadView) (o header : ℕ) (v : SoundWorldWith heap k)
      → k.running ≡ true → k.stage ≡ Settled → Untold k → Unwaiting k → 1 ≤ hold_count o k.holds
      → is_biased (marks v.world o) ≡ false
      → last_seen (id.Displaced k.thread (top_place o k.holds)) k.seen ≡ Some header → hold_count o k.holds ≡ 1 → header ≡ 0 → ⊥
  covered_here k o header v runs calm untold none some unbiased saw one zero_is =
      let top = top_here heap k v runs o some in
      let out = away heap k v (λ s y. IsOut y) (out_here heap k v runs none untold) in
      let there : last_seen (id.Displaced (v.world.known k.thread).thread (top_place o k.holds)) (v.world.known k.thread).seen ≡ Some header =
      away heap k v (λ s y. last_seen (id.Displaced y.thread (top_place o k.holds)) y.seen ≡ Some header) saw in
      let word = saw_displaced v.world v.objects k.thread o (away heap k v (λ s y. y.running ≡ true) runs)
      (fits_here heap k v runs) (top_place o k.holds) header there in
      covered v.world v.objects k.thread o (fits_here heap k v runs) (away heap k v (λ s y. y.stage ≡ Settled) calm) out
      (away heap k v (λ s y. 1 ≤ hold_count o y.holds) some) (top_place o k.holds) unbiased
      (away heap k v (λ s y. slice_index y.holds (top_place o k.holds) ≡ hold_word o 1) (top.0 ∙ ap (hold_word o) one)) (word ∙ zero_is)

  -- the form of the mark that is found
  found_here : (k : ThreadView) (o header : ℕ) (v : SoundWorldWith heap k)
      → k.running ≡ true → k.stage ≡ Settled → Untold k → Unwaiting k → 1 ≤ hold_count o k.holds
      → is_biased (marks v.world o) ≡ false
      → last_seen (id.Displaced k.thread (top_place o k.holds)) k.seen ≡ Some header → header ≢ 0
      → OnExit k.thread (top_place o k.holds) (hold_count o k.holds) (read_mark (marks v.world o))
  found_here k o header v runs calm untold none some unbiased saw nonzero =
      let top = top_here heap k v runs o some in
      let out = away heap k v (λ s y. IsOut y) (out_here heap k v runs none untold) in
      let there : last_seen (id.Displaced (v.world.known k.thread).thread (top_place o k.holds)) (v.world.known k.thread).seen ≡ Some header =
      away heap k v (λ s y. last_seen (id.Displaced y.thread (top_place o k.holds)) y.seen ≡ Some header) saw in
      let word = saw_displaced v.world v.objects k.thread o (away heap k v (λ s y. y.running ≡ true) runs)
      (fits_here heap k v runs) (top_place o k.holds) header there in
      home heap k v (λ s y. OnExit k.thread (top_place o k.holds) (hold_count o y.holds) (read_mark (marks v.world o)))
      (on_exit v.world v.objects k.thread o (fits_here heap k v runs) (away heap k v (λ s y. y.stage ≡ Settled) calm) out
      (away heap k v (λ s y. 1 ≤ hold_count o y.holds) some) (top_place o k.holds) unbiased
      (away heap k v (λ s y. slice_index y.holds (top_place o k.holds) ≡ hold_word o (hold_count o y.holds)) top.0) (away heap k v
      (λ s y. hold_count o y.holds ≤ most_holds) (few_here heap k v runs o)) (λ e. nonzero (sym word ∙ e)))

  record_does : (Q : Bool → StackOut → ThreadView → Type 0) (fresh : Bool) (k : ThreadView) (e : CallContext) (o : ℕ) → Outs heap e o (local_of k) Q
      → Leaving heap k.running k.requesting k.moving k.log k.holds e o → k.stage ≡ Settled → GoesOn k e → e.check ≡ k.checking → Untold k
      → Unbiased heap fresh k o → (hold_count o k.holds ≡ 1 → RaisedStamp fresh k o) → Does heap fresh (stack_exit_record e (local_of k) o) k Q
  record_does Q fresh k e o outs a calm goes check untold unbiased stamped =
      let p = top_place o k.holds in
      let ld = load e (id.Displaced k.thread p) in
      let lm = load e (id.Mark o) in
      hitting heap fresh _ _ k _ (λ n. refl)
      (λ i. looks_running heap k e Settled (id.Displaced k.thread p) refl a.runs (sym calm) check goes (λ v. (v.within, (top_here heap k v a.runs o a.some).1))
      (leaving_begins heap k e o a goes) tt) (λ header i0 was0.
      let k1 = known_hit heap.shape heap.start ld header k in
      let saw : last_seen (id.Displaced k.thread p) k1.seen ≡ Some header = saw_newest heap ld header k in
      let still : Unbiased heap false k1 o = elim unbiased [
        | inl b ↦ inl b
        | inr b ↦ inr (refl, (b.1.0, saw_older heap ld header k (id.Mark o) (i0 ∙ b.0) refl refl ∙ b.1.1, b.1.2))
      ] in
      let none : Unwaiting k1 = unwaiting_exit k1 o a.exits in
      chooses heap false (header == 0) _ _ k1 _
      (λ is0. let zero_is : header ≡ 0 = eqb-true header 0 is0 in
      hitting heap false _ _ k1 _ (λ n. refl)
      (λ i1. leaves_rule heap k1 e o (hold_count o k.holds) p (λ v. (top_here heap k1 v a.runs o a.some).1) (λ v. record {
        runs = a.runs;
        ready = ready_here heap k1 v a.runs none (unentering_exit k1 o a.exits) untold a.live;
        object = record { within = a.object; known = a.known };
        hold = (top_here heap k1 v a.runs o a.some).0;
        deepest = refl;
        small = few_here heap k1 v a.runs o;
        before = inl (
          refl,
          two_or_more (hold_count o k.holds) a.some
              (λ one. covered_here k1 o header v a.runs refl untold none a.some (unbiased_here false k1 o v a.runs still) saw one zero_is),
          saw ∙ ap Some zero_is,
        );
        own_entry = record { operation = inr a.exits; shot = tt };
        room = a.room;
      }))
      (λ n i1 was1. answers heap false _ _ Q
      (outs.left _ (rests heap.shape _ refl a.unasks a.unchecks (logged_carries k.log _ k.wait _ a.still a.live refl untold)))))
      (λ not0. let nonzero : header ≢ 0 = λ e. absurd (cc (eq-eqb header 0 e, not0)) in
      hitting heap false _ _ k1 _ (λ n. refl) (λ i1. looks_running heap k1 e Settled (id.Mark o) refl a.runs refl refl (inl refl) (λ v. a.object)
      (inl refl) (λ free. a.known)) (λ mark i1 was1.
      let k2 = known_hit heap.shape heap.start lm mark k1 in
      let found : OnExit k.thread p (hold_count o k.holds) (read_mark mark) =
      subst (λ m. OnExit k.thread p (hold_count o k.holds) (read_mark m)) was1.found
      (found_here k1 o header was1.stands a.runs refl untold none a.some (unbiased_here false k1 o was1.stands a.runs still) saw nonzero) in
      exit_at_does Q (read_mark mark) k2 e o header mark outs refl (saw_newest heap lm mark k1) refl found a refl refl untold
      (saw_older heap lm mark k1 (id.Displaced k.thread p) i1 refl refl ∙ saw) nonzero
      (λ one. let st = stamped one in
      (st.1.0, saw_older heap lm mark k1 (id.Stamp o) i1 refl refl ∙ saw_older heap ld header k (id.Stamp o) (i0 ∙ st.0) refl refl ∙ st.1.1, st.1.2)))))

  pub stack_exit_does : (Q : Bool → StackOut → ThreadView → Type 0) (fresh : Bool) (k : ThreadView) (e : CallContext) (o : ℕ) → Outs heap e o (local_of k) Q
      → Leaving heap k.running k.requesting k.moving k.log k.holds e o → k.stage ≡ Settled → GoesOn k e → e.check ≡ k.checking → Untold k
      → Unwaiting k → Unbiased heap fresh k o → Does heap fresh (stack_exit_steps e (local_of k) o) k Q
  stack_exit_does Q fresh k e o outs a calm goes check untold none unbiased =
      let raise = raise_stamp_plan e o (next_stamp (local_of k)) in
      chooses_then heap fresh (hold_count o k.holds == 1) _ _ (λ u. stack_exit_record e (local_of k) o) k _
      (λ one. hitting heap fresh raise _ k _ (λ n. refl)
      (λ i. raises heap k e o a.object (λ v. record {
        runs = a.runs;
        calm = calm;
        out = out_here heap k v a.runs none untold;
        holds = a.some;
        goes_on = goes;
        letting = inr (a.exits, eqb-true (hold_count o k.holds) 1 one);
      }) (leaving_begins heap k e o a goes))
      (λ n i was. record_does Q false (known_hit heap.shape heap.start raise n k) e o outs a refl (inl refl) refl untold
      (elim unbiased [
        | inl b ↦ inl b
        | inr b ↦ inr (refl, (b.1.0, saw_older heap raise n k (id.Mark o) (i ∙ b.0) refl refl ∙ b.1.1, b.1.2))
      ])
      (λ one. (refl, (max n (next_stamp (local_of k)), saw_newest heap raise n k, max_right n (next_stamp (local_of k)))))))
      (λ many. record_does Q fresh k e o outs a calm goes check untold unbiased (λ one. absurd (cc (eq-eqb _ _ one, many))))

  stack_exit_finishes : (k : ThreadView) (o : ℕ) → AtRest heap.shape k → may_begin heap.shape heap.biasing k (StackExit o) ≡ true
      → Finishes heap true (steps_of heap.shape (StackExit o) (start_of heap.start k)) k
  unfolding steps_of
  stack_exit_finishes k o rest may =
      let going = goes_on_with op.Exit o k.unfinished in
      let m = both (not heap.biasing && has_reference heap.shape k o && nat_lt 0 (hold_count o k.holds)) (may_log_once k going) may in
      let n = both (not heap.biasing && has_reference heap.shape k o) (nat_lt 0 (hold_count o k.holds)) m.0 in
      let l = both (not heap.biasing) (has_reference heap.shape k o) n.0 in
      let reference = refers heap.shape k o l.1 in
      let a = logs_once k going m.1 in
      let goes = goes_on_or_begins op.Exit o k.unfinished a.free in
      let e = call_context (StackExit o) op.Exit o in
      closes heap true _ k (stack_exit_does (λ b r l. AtRest heap.shape l) true k e o
      (record {
        left = λ l x. x;
        raced = λ l w x. x;
        monitor = λ l m same b. exit_rests l e o b.leaving b.calm (sym b.check ∙ b.leaving.unchecks) b.mine b.untold;
      })
      (record {
        works = record {
          may = record { unchecks = refl; live = a.live; room = a.room; object = reference.within; known = reference.known };
          runs = a.runs;
          unasks = unasking heap.shape k rest a.runs;
          still = rest.still;
        };
        some = let x = below 0 (hold_count o k.holds) n.1 in omega arith;
        exits = refl;
      })
      rest.calm goes (sym a.unchecking) rest.untold (elim goes [
        | inl g ↦ unwaiting_exit k o (sym g)
        | inr g ↦ nothing_goes k g
      ]) (inl (not_true heap.biasing l.0)))

  pub stack_exit_begins : (o : ℕ) → BeginsWell heap (StackExit o)
  stack_exit_begins o = record { does = λ k v rest may. stack_exit_finishes k o rest may }
