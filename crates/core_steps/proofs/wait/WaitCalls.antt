-- Wait begins well: a call that begins it, and each later one.
use Rattle.std.proofs.Common.{◌≡◌, ℕ, ◌+◌, ◌≤◌, ◌==◌, ◌&&◌, nat_le, Bool, true, false, cond, length, Option, Some, refl, sym, ap, ◌∙◌, subst, inl, inr}
use Rattle.core_world.specs.declared.word_id.WordId.TheVariants as id
use Rattle.core_world.specs.declared.stage.Stage.TheVariants.{Settled}
use Rattle.core_world.specs.declared.heap_call.Operation.TheVariants as op
use Rattle.core_world.specs.declared.heap_call.HeapCall.TheVariants.{Wait}
use Rattle.core_world.specs.declared.heap_call.Unfinished.{Unfinished}
use Rattle.core_world.specs.Threads.AtRest.{AtRest, MayAsk}
use Rattle.core_world.specs.Trees.Calls.{steps_of, may_begin, may_operate, most_logged}
use Rattle.core_world.specs.Threads.References.{has_reference, HasReference}
use Rattle.core_world.specs.Words.Forms.{waits_on, says_notified}
use Rattle.core_world.specs.Threads.ThreadView.{ThreadView, Local, local_of, start_of}
use Rattle.core_world.specs.Clauses.Lengths.{log_limit}
use Rattle.core_world.specs.Locks.{hold_count}
use Rattle.core_world.specs.Trees.MonitorSteps.{inflate_steps}
use Rattle.core_world.specs.Trees.Operations.{answer, and_then, goes_on_with, no_bias, unbias_steps, wait_beginning, wait_going}
use Rattle.core_world.specs.Trees.Plans.{CallContext, call_context, load}
use Rattle.core_world.specs.Clauses.Safepoints.{IsUnfinished, ends}
use Rattle.core_world.specs.Trees.StepTree.{StepTree, ◌>>=◌}
use Rattle.core_world.specs.Valid.{Fits}
use Rattle.core_world.specs.Trees.WaitSteps.{monitor_wait_steps, monitor_resume_steps}
use Rattle.core_world.specs.declared.answer.Progress.{Progress}
use Rattle.core_world.proofs.Readings.{no_told}
use Rattle.core_locks.specs.Knowing.{GoesOn, IsOut, SawInflated}
use Rattle.bias_law.specs.Steps.{SawUnbiased}
use Rattle.core_law.specs.Logic.{Heap, SoundWorldWith, Does}
use Rattle.core_law.specs.Sound.{Finishes}
use Rattle.core_law.specs.Begins.{BeginsWell}
use Rattle.core_steps.proofs.WorksOn.{MayWorkOn, WorksOn}
use Rattle.core_steps.proofs.Facts.{Unentering, fits_asking, ready_outside}
use Rattle.core_law.proofs.Standing.{fits_here, home}
use Rattle.core_steps.proofs.monitor.Inflations.{SawNone, Unseen, Apart, inflate_does}
use Rattle.core_steps.proofs.Resting.{rests, live_carries}
use Rattle.core_steps.proofs.safepoint.SafeCalls.{closes}
use Rattle.core_steps.proofs.safepoint.SafepointLooks.{going}
use Rattle.core_steps.proofs.SeenSteps.{saw_older, first_any}
use Rattle.core_steps.proofs.Tests.{asking_goes, free_runs, going_is, both, at_most, some_named, Operates}
use Rattle.core_steps.proofs.Tests.{operates, nothing_enters, goes_on_or_begins, is_of_kind, refers}
use Rattle.core_steps.proofs.Trees.{answers, binds, chooses, follows}
use Rattle.core_steps.proofs.bias.Unbiases.{unbias_does, starts_unbias}
use Rattle.core_steps.proofs.wait.WaitEnds.{monitor_resume_does}
use Rattle.core_steps.proofs.wait.WaitFacts.{waiting_unfinished, out_to_wait}
use Rattle.core_steps.proofs.wait.WaitStarts.{monitor_wait_does}

-- a wait is no enter and no dump
unentering_wait : (u : Option Unfinished) (o i : ℕ) → IsUnfinished u op.Wait o → IsUnfinished u op.Enter i → ⊥
unentering_wait u o i waits enters = let a = ap (is_of_kind op.Wait) (sym waits ∙ enters) in cc a

undumped_wait : (u : Option Unfinished) (o : ℕ) → IsUnfinished u op.Wait o → IsUnfinished u op.Dump 0 → ⊥
undumped_wait u o waits dumps = let a = ap (is_of_kind op.Wait) (sym waits ∙ dumps) in cc a

module _ (heap : Heap) (e : CallContext) (o : ℕ) where
  -- what a thread counts on that begins to wait on o
  record Beginning (k : ThreadView) : Type 0 where
    works : WorksOn heap k.running k.requesting k.moving k.log e o
    open works use *
    two : length k.log + 2 ≤ log_limit
    holds : 1 ≤ hold_count o k.holds
    mine : k.unfinished ≡ e.unfinished
    check : e.check ≡ k.checking
    ready : k.wait ≡ 0
    waits : IsUnfinished e.unfinished op.Wait o

  -- steps that leave those parts leave all that
  beginning_apart : (k l : ThreadView) → Apart heap e o k l → Beginning k → Beginning l
  beginning_apart k l a x = record {
    works = record {
      may = subst (λ z. MayWorkOn heap z.log e o) (sym a.local) x.may;
      runs = a.running ∙ x.runs;
      unasks = a.requesting ∙ x.unasks;
      still = a.still;
    };
    two = subst (λ (z : Local). length z.log + 2 ≤ log_limit) (sym a.local) x.two;
    holds = subst (λ (z : Local). 1 ≤ hold_count o z.holds) (sym a.local) x.holds;
    mine = a.mine;
    check = a.check;
    ready = ap (λ (z : Local). z.wait) a.local ∙ x.ready;
    waits = x.waits;
  }

  beginning_rests : (k : ThreadView) → Beginning k → k.stage ≡ Settled → AtRest heap.shape k
  beginning_rests k x calm = rests heap.shape k calm x.unasks (sym x.check ∙ x.unchecks) (live_carries k.log k.wait k.holds k.unfinished x.still x.live
      (λ i h. absurd (unentering_wait e.unfinished o i x.waits (sym x.mine ∙ h))) (λ h. undumped_wait e.unfinished o x.waits (sym x.mine ∙ h))
      (λ i. ap (λ z. says_notified z i) x.ready ∙ no_told i))

  abbrev lets_go : Local → ℕ → StepTree (Progress (Unit {0}))
  lets_go z m = do
    saved ← monitor_wait_steps e z o m
    monitor_resume_steps e z.thread saved o

  -- the monitor is let go, and then the thread looks whether it was notified already
  lets_go_does : (k : ThreadView) (m : ℕ) → Beginning k → k.stage ≡ Settled → SawInflated k o m
      → SawNone heap e o k → Does heap false (lets_go (local_of k) m) k (λ b r l. AtRest heap.shape l)
  lets_go_does k m x calm inflated none =
      going heap (monitor_wait_steps e (local_of k) o m) (λ saved. monitor_resume_steps e k.thread saved o) k _ (
      follows heap false _ k _ _ (monitor_wait_does heap e o m k (record {
        works = x.works;
        two = x.two;
        holds = x.holds;
        mine = x.mine;
        check = x.check;
        ready = x.ready;
        waits = x.waits;
        inflated = inflated;
        none = λ a r d saw. none a r saw;
      }) calm) (λ b saved l g.
      subst (λ t. Does heap false (monitor_resume_steps e t saved o) l (λ b r l. AtRest heap.shape l)) g.thread
      (subst (λ s. Does heap false (monitor_resume_steps e l.thread s o) l (λ b r l. AtRest heap.shape l)) g.kept
      (monitor_resume_does heap e o false l g.let_go g.calm g.waits
      (λ n i a r saw. g.none a r (sym (saw_older heap (load e (id.Waiting l.thread)) n l (id.Recursions a) i refl refl) ∙ saw))))))

  -- after the look that found no bias pattern
  begun_does : (kept : Option ℕ) (k : ThreadView) → Beginning k → k.stage ≡ Settled → k.kept ≡ kept → SawNone heap e o k → Unseen heap e o k → SawUnbiased k o
      → Does heap false (inflate_steps heap.shape e kept o >>= (λ progress. and_then progress (lets_go (local_of k)))) k (λ b r l. AtRest heap.shape l)
  begun_does kept k x calm same none unseen unbiased =
      binds heap false (inflate_steps heap.shape e kept o) (λ progress. and_then progress (lets_go (local_of k))) k _ (
      inflate_does heap e o kept k _
      (record {
        found = λ l m a calm saw none. subst (λ z. Does heap false (lets_go z m) l (λ b r l. AtRest heap.shape l)) a.local
            (lets_go_does l m (beginning_apart k l a x) calm saw none);
        pends = λ l w a calm. answers heap false _ l _ (beginning_rests l (beginning_apart k l a x) calm);
      })
      (record { runs = x.runs; still = x.still; object = x.object; known = x.known; mine = x.mine; check = x.check })
      calm none unseen (inr (refl, unbiased)) same)

module _ (heap : Heap) (k : ThreadView) (o now : ℕ) (v : SoundWorldWith heap k) (rest : AtRest heap.shape k) where
  abbrev e : CallContext
  e = call_context (Wait o now) op.Wait o

  module _ (here : has_reference heap.shape k o ≡ true)
      (a : Operates k (goes_on_with op.Wait o k.unfinished)) (some : (hold_count o k.holds == 0) ≡ false) where
    -- where its request stands it has not let go
    asked : k.requesting ≡ true → MayAsk heap.shape k (Some (record { op = op.Wait; object = o }))
    asked asks = subst (MayAsk heap.shape k) (going_is op.Wait o k.unfinished
        (asking_goes k.running k.requesting (goes_on_with op.Wait o k.unfinished) a.runs (rest.stopped asks))) (rest.asks asks a.unchecking)

    by_flag : {A : Type 0} → (k.requesting ≡ true → A) → (k.requesting ≡ false → k.running ≡ true → A) → A
    by_flag {A} f g = cases k.requesting refl
      where
        cases : (b : Bool) → k.requesting ≡ b → A
        cases true h = f h
        cases false h = g h (free_runs k.running k.requesting (goes_on_with op.Wait o k.unfinished) a.runs h)

    fits : Fits v.world v.objects
    fits = by_flag (λ asks. fits_asking heap k v asks rest.calm) (λ free runs. fits_here heap k v runs)

    reference : HasReference heap.shape k o
    reference = refers heap.shape k o here

    may_work : MayWorkOn heap k.log e o
    may_work = record { unchecks = refl; live = a.live; room = a.room; object = reference.within; known = reference.known }

    goes : GoesOn k e
    goes = goes_on_or_begins op.Wait o k.unfinished a.free

    -- A LATER CALL of a wait that has let go
    later_does : waits_on k.wait o ≡ true → Does heap true (monitor_resume_steps e k.thread k.saved o) k (λ b r l. AtRest heap.shape l)
    later_does waits = by_flag (λ asks. let out = (asked asks).0 in absurd (cc (out, waits))) (λ unasks runs. monitor_resume_does heap e o true k
        (record {
          works = record { may = may_work; runs = runs; unasks = unasks; still = rest.still };
          mine = waiting_unfinished heap k v fits o waits;
          check = sym a.unchecking;
          waits = refl;
        })
        rest.calm waits
        (λ n i m r saw. absurd (cc (sym saw ∙ first_any heap (load e (id.Waiting k.thread)) n k (id.Recursions m) i unasks refl))))

    unentering : Unentering k
    unentering i h = elim goes [
      | inl g ↦ unentering_wait k.unfinished o i (sym g) h
      | inr none ↦ nothing_enters k none i h
    ]

    -- A CALL THAT BEGINS IT
    beginning_does : length k.log + most_logged k (Wait o now) ≤ log_limit → waits_on k.wait o ≡ false
        → Does heap true (wait_beginning heap.shape e (start_of heap.start k) o now) k (λ b r l. AtRest heap.shape l)
    beginning_does room out =
        let s = start_of heap.start k in
        let two : length k.log + 2 ≤ log_limit = subst (λ (b : Bool). length k.log + cond b 1 2 ≤ log_limit) out room in
        let ready : k.wait ≡ 0 = home heap k v (λ z y. IsOut y → Unentering y → ends y.log ≡ false → y.wait ≡ 0) (ready_outside v.world v.objects k.thread fits)
        (out_to_wait heap k v fits o goes out rest.untold) unentering a.live in
        binds heap true (unbias_steps heap.shape e s (no_bias o now)) (λ progress. and_then progress
        (λ u. inflate_steps heap.shape e k.kept o >>= (λ progress. and_then progress (lets_go heap e o (local_of k))))) k _ (
        unbias_does heap e (no_bias o now) op.Wait refl refl refl reference.within refl k
        (starts_unbias heap e (no_bias o now) op.Wait k refl refl rest a reference.known refl (λ i h. unentering_wait e.unfinished o i refl h)
        (undumped_wait e.unfinished o refl) (λ z. z.1) (λ waits. out) (inr (some_named (hold_count o k.holds) some))) _
        (record {
          unbiased = λ l x bare.
              subst (λ z. Does heap false (inflate_steps heap.shape e k.kept o >>= (λ progress. and_then progress (lets_go heap e o z))) l
              (λ b r l. AtRest heap.shape l)) x.local
              (begun_does heap e o k.kept l
              (record {
                works = record {
                  may = subst (λ z. MayWorkOn heap z.log e o) (sym x.local) may_work;
                  runs = x.runs;
                  unasks = x.unasks;
                  still = x.still;
                };
                two = subst (λ z. length z.log + 2 ≤ log_limit) (sym x.local) two;
                holds = subst (λ z. 1 ≤ hold_count o z.holds) (sym x.local) (some_named (hold_count o k.holds) some);
                mine = x.mine;
                check = x.check;
                ready = ap (λ z. z.wait) x.local ∙ ready;
                waits = refl;
              })
              x.calm x.kept
              (λ m r saw. absurd (cc (sym saw ∙ x.headers (id.Recursions m) refl refl)))
              (λ u p. inl (x.headers (id.Displaced u p) refl refl)) bare);
          pends = λ f l w x. answers heap f _ l _ x;
        }))

  wait_finishes : may_begin heap.shape heap.biasing k (Wait o now) ≡ true → Finishes heap true (steps_of heap.shape (Wait o now) (start_of heap.start k)) k
  unfolding steps_of
  wait_finishes may =
      let going = goes_on_with op.Wait o k.unfinished in
      let all = both (has_reference heap.shape k o && may_operate k going) (nat_le (length k.log + most_logged k (Wait o now)) log_limit) may in
      let m = both (has_reference heap.shape k o) (may_operate k going) all.0 in
      let a = operates k going m.1 in
      let room = at_most (length k.log + most_logged k (Wait o now)) log_limit all.1 in
      closes heap true _ k (
      chooses heap true (hold_count o k.holds == 0) _ _ k _ (λ h. answers heap true _ k _ rest) (λ h.
      binds heap true (wait_going heap.shape e (start_of heap.start k) o now) answer k _ (
      follows heap true _ k _ _ (
      chooses heap true (waits_on k.wait o) _ _ k (λ b r l. AtRest heap.shape l) (λ yes. later_does m.0 a h yes) (λ no. beginning_does m.0 a h room no))
      (λ b r l x. answers heap b _ l _ x))))

pub wait_begins : (heap : Heap) (o now : ℕ) → BeginsWell heap (Wait o now)
wait_begins heap o now = record { does = λ k v rest may. wait_finishes heap k o now v rest may }
