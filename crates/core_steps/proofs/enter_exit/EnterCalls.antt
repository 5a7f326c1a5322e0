-- Enter begins well.
use Rattle.std.proofs.Common.{◌≡◌, ℕ, ◌<◌, ◌≤◌, ◌==◌, ◌&&◌, not, eqb-true, eq-eqb, Bool, true, false, cond}
use Rattle.std.proofs.Common.{[], Option, Some, None, refl, sym, ap, ◌∙◌, subst, inl, inr, arith}
use Rattle.mark_word.specs.declared.mark.MarkForm.{MarkForm}
use Rattle.mark_word.specs.declared.mark.MarkForm.TheVariants.{Inflating, Neutral, Anonymous, Biased, Locked, Inflated, Marked}
use Rattle.mark_word.specs.Mark.{read_mark}
use Rattle.plain_monitor.specs.Limits.{most_holds}
use Rattle.plain_monitor.specs.declared.entry.Path.{Path}
use Rattle.core_world.specs.declared.answer.Progress.{Progress}
use Rattle.core_world.specs.declared.answer.Progress.TheVariants.{Done, Pending}
use Rattle.core_world.specs.declared.word_id.WordId.TheVariants as id
use Rattle.core_world.specs.declared.stage.Stage.TheVariants.{Settled}
use Rattle.core_world.specs.declared.heap_call.Operation.TheVariants as op
use Rattle.core_world.specs.declared.heap_call.HeapCall.TheVariants.{Enter}
use Rattle.core_world.specs.Threads.AtRest.{AtRest, MayAsk}
use Rattle.core_world.specs.Trees.BiasSteps.{bias_enter_steps, bias_after_steps}
use Rattle.core_world.specs.Trees.Calls.{steps_of, may_begin, may_operate}
use Rattle.core_world.specs.Threads.References.{has_reference}
use Rattle.core_world.specs.Words.Forms.{is_biased_form, is_neutral_form, monitor_form, says_notified}
use Rattle.core_world.specs.Threads.ThreadView.{ThreadView, Start, local_of, start_of, last_seen}
use Rattle.core_world.specs.Locks.{hold_count}
use Rattle.core_world.specs.Trees.LockSteps.{stack_enter_at}
use Rattle.core_world.specs.Trees.MonitorSteps.{inflate_steps, monitor_enter_steps}
use Rattle.core_world.specs.Trees.Operations.{answer, and_then, goes_on_with, revocation_steps, enter_at}
use Rattle.core_world.specs.Trees.Operations.{enter_unbiased, enter_revoked, enter_going, enter_tried}
use Rattle.core_world.specs.Trees.Plans.{CallContext, call_context, free_place}
use Rattle.core_world.specs.Clauses.Safepoints.{IsUnfinished}
use Rattle.core_world.specs.Threads.Stages.{Revocation}
use Rattle.core_world.specs.Steps.{is_idle, seen_before}
use Rattle.core_world.specs.Trees.StepTree.{StepTree, ◌>>=◌}
use Rattle.core_world.specs.Clauses.WordForms.{IsMark}
use Rattle.core_locks.specs.Knowing.{GoesOn}
use Rattle.bias_law.specs.Steps.{SawUnbiased}
use Rattle.core_law.specs.Logic.{Heap, SoundWorldWith, Does}
use Rattle.core_law.specs.Sound.{Finishes}
use Rattle.core_law.specs.Begins.{BeginsWell}
use Rattle.core_steps.proofs.WorksOn.{MayWorkOn}
use Rattle.core_steps.proofs.bias.AskedRevocations.{NoOtherIn, ValidBiasIn, BeginsRevocation, revocation_does}
use Rattle.core_steps.proofs.bias.BiasEnters.{Enters, enters_rests, FoundMark, EnterOutcomes, Tries, bias_enter_does, Wants, taking, bias_after_does}
use Rattle.core_steps.proofs.monitor.Inflations.{SawNone, Unseen, Apart, inflate_does}
use Rattle.core_steps.proofs.monitor.MonitorEnters.{monitor_enter_does}
use Rattle.core_law.proofs.Places.{place_left}
use Rattle.core_steps.proofs.safepoint.Requests.{asking_saw}
use Rattle.core_steps.proofs.Resting.{live_carries}
use Rattle.core_steps.proofs.bias.RevocationEnds.{Revoked}
use Rattle.core_steps.proofs.safepoint.SafeCalls.{closes}
use Rattle.core_steps.proofs.enter_exit.StackEnters.{Taking, undumped_enter, stack_first_does, stack_again_does}
use Rattle.core_steps.proofs.Tests.{both, refers, operates, asking_goes, free_runs, going_is, goes_on_or_begins}
use Rattle.core_steps.proofs.Trees.{answers, binds, chooses, follows, once_idle}

module _ (heap : Heap) (o : ℕ) (e : CallContext) (enters : IsUnfinished e.unfinished op.Enter o) where
  -- steps that leave those parts leave all that
  enters_apart : (k l : ThreadView) → Apart heap e o k l → l.stage ≡ Settled → Enters heap o e enters k → Enters heap o e enters l
  enters_apart k l a calm x = record {
    takes = record {
      works = record {
        may = subst (λ z. MayWorkOn heap z.log e o) (sym a.local) x.takes.may;
        runs = a.running ∙ x.takes.runs;
        unasks = a.requesting ∙ x.takes.unasks;
        still = a.still;
      };
      unwaiting = x.takes.unwaiting;
      enters = x.takes.enters;
    };
    mine = a.mine;
    check = a.check;
    calm = calm;
    untold = λ i. ap (λ z. says_notified z.wait i) a.local ∙ x.untold i;
    place = subst (λ z. free_place z.holds < most_holds) (sym a.local) x.place;
  }

  -- by the monitor of an object that another has locked
  inflates_does : (kept : Option ℕ) (k : ThreadView) → Enters heap o e enters k → k.kept ≡ kept → SawNone heap e o k → Unseen heap e o k → SawUnbiased k o
      → Does heap false (inflate_steps heap.shape e kept o >>= (λ progress. and_then progress (λ m. monitor_enter_steps e (local_of k) o m))) k
      (λ b r l. AtRest heap.shape l)
  inflates_does kept k x same none unseen unbiased =
      binds heap false (inflate_steps heap.shape e kept o) (λ progress. and_then progress (λ m. monitor_enter_steps e (local_of k) o m)) k _ (
      inflate_does heap e o kept k _
      (record {
        found = λ l m a calm saw none.
            let y = enters_apart k l a calm x in
            subst (λ z. Does heap false (monitor_enter_steps e z o m) l (λ b r l. AtRest heap.shape l)) a.local
            (monitor_enter_does heap e o m l (record {
              takes = y.takes;
              enters = enters;
              mine = y.mine;
              check = y.check;
              untold = y.untold;
              place = y.place;
              inflated = saw;
            }) calm (none m));
        pends = λ l w a calm. answers heap false _ l _ (enters_rests heap o e enters l (enters_apart k l a calm x));
      })
      (record {
        runs = x.takes.runs;
        still = x.takes.still;
        object = x.takes.object;
        known = x.takes.known;
        mine = x.mine;
        check = x.check;
      }) x.calm none unseen (inr (refl, unbiased)) same)

  -- BY THE FORM of the mark
  at_does : (f : Option MarkForm) (s : Start) (k : ThreadView) (mark : ℕ) → Enters heap o e enters k → s.local ≡ local_of k
      → k.kept ≡ s.kept → SawNone heap e o k → Unseen heap e o k → last_seen (id.Mark o) k.seen ≡ Some mark
      → read_mark mark ≡ f → IsMark heap.shape f → is_biased_form f ≡ false → ((p : ℕ) → f ≡ Some (Locked k.thread p) → 1 ≤ hold_count o k.holds)
      → Does heap false (enter_at f heap.shape e s o mark) k (λ b r l. AtRest heap.shape l)
  at_does None s k mark x here kept none unseen saw reads form unbiased holds = absurd form
  at_does (Some Inflating) s k mark x here kept none unseen saw reads form unbiased holds = answers heap false _ k _ (enters_rests heap o e enters k x)
  at_does (Some (Neutral hash age)) s k mark x here kept none unseen saw reads form unbiased holds =
      subst (λ z. Does heap false (stack_enter_at (read_mark mark) e z o mark) k (λ b r l. AtRest heap.shape l)) (sym here)
      (subst (λ z. Does heap false (stack_enter_at z e (local_of k) o mark) k (λ b r l. AtRest heap.shape l)) (sym reads)
      (stack_first_does heap false k e o mark x.takes x.calm (inl (sym x.mine)) x.untold x.place (ap is_neutral_form reads ∙ eq-eqb age 0 form)))
  at_does (Some (Anonymous epoch age)) s k mark x here kept none unseen saw reads form unbiased holds = absurd (cc unbiased)
  at_does (Some (Biased t epoch age)) s k mark x here kept none unseen saw reads form unbiased holds = absurd (cc unbiased)
  at_does (Some (Locked u p)) s k mark x here kept none unseen saw reads form unbiased holds =
      chooses heap false (u == s.local.thread) _ _ k _
      (λ mine. let same : u ≡ k.thread = eqb-true u s.local.thread mine ∙ ap (λ z. z.thread) here in
      subst (λ z. Does heap false (stack_enter_at (read_mark mark) e z o mark) k (λ b r l. AtRest heap.shape l)) (sym here)
      (subst (λ z. Does heap false (stack_enter_at z e (local_of k) o mark) k (λ b r l. AtRest heap.shape l)) (sym reads)
      (stack_again_does heap false k e o x.takes x.calm (inl (sym x.mine)) x.untold x.place (holds p (ap (λ z. Some (Locked z p)) same))
      (inr (refl, (mark, saw, ap is_biased_form reads ∙ unbiased))))))
      (λ other.
      subst (λ z. Does heap false (inflate_steps heap.shape e s.kept o >>= (λ progress. and_then progress (λ m. monitor_enter_steps e z o m))) k
      (λ b r l. AtRest heap.shape l)) (sym here)
      (inflates_does s.kept k x kept none unseen (mark, saw, ap is_biased_form reads ∙ unbiased)))
  at_does (Some (Inflated m)) s k mark x here kept none unseen saw reads form unbiased holds =
      subst (λ z. Does heap false (monitor_enter_steps e z o m) k (λ b r l. AtRest heap.shape l)) (sym here)
      (monitor_enter_does heap e o m k
      (record {
        takes = x.takes;
        enters = enters;
        mine = x.mine;
        check = x.check;
        untold = x.untold;
        place = x.place;
        inflated = (mark, saw, ap monitor_form reads);
      }) x.calm (none m))
  at_does (Some Marked) s k mark x here kept none unseen saw reads form unbiased holds = absurd form

  -- by a mark without the bias pattern that was found
  found_does : (s : Start) (k : ThreadView) (mark : ℕ) → FoundMark heap o e enters s.local s.kept mark k
      → Does heap false (enter_at (read_mark mark) heap.shape e s o mark) k (λ b r l. AtRest heap.shape l)
  found_does s k mark x =
      at_does (read_mark mark) s k mark x.going (sym x.local) x.kept_is
      (λ m r saw. absurd (cc (sym saw ∙ x.headers (id.Recursions m) refl refl)))
      (λ u p. inl (x.headers (id.Displaced u p) refl refl))
      x.saw refl x.form x.unbiased x.holds

-- WITH BIASES: the object is that of the revocation
module _ (heap : Heap) (e : CallContext) (s : Start) (b : Revocation) (enters : e.unfinished ≡ Some (record { op = op.Enter; object = b.object }))
    (rebias : b.rebias ≡ true) (wants : Wants heap b.object e s.local) where
  abbrev Q : Bool → Progress Path → ThreadView → Type 0
  Q f r l = AtRest heap.shape l

  -- what follows the mark that was loaded again after a revocation
  tried_again : EnterOutcomes heap b.object e enters s.local s.kept (λ f tried l. Does heap f (enter_unbiased tried heap.shape e s b.object) l Q)
  tried_again = record {
    took = λ f l path x. answers heap f _ l Q x;
    unbiased = λ l mark x. found_does heap b.object e enters s l mark x;
  }

  abbrev again : Progress Bool → StepTree (Progress Path)
  again progress = and_then progress (λ took. do
    tried ← bias_after_steps e s.local b.object took
    enter_unbiased tried heap.shape e s b.object)

  -- after the revocation
  again_does : (k : ThreadView) → local_of k ≡ s.local → k.kept ≡ s.kept → (f : Bool) (progress : Progress Bool) (l : ThreadView)
      → (f ≡ false) × Revoked heap e b k progress l → Does heap f (again progress) l Q
  again_does k local kept f (Done took) l x =
      let same : local_of l ≡ s.local = x.1.local ∙ local in
      subst (λ z. Does heap z (again (Done took)) l Q) (sym x.0)
      (binds heap false (bias_after_steps e s.local b.object took) (λ tried. enter_unbiased tried heap.shape e s b.object) l Q
      (subst (λ z. Does heap false (bias_after_steps e z b.object took) l (λ f tried l. Does heap f (enter_unbiased tried heap.shape e s b.object) l Q)) same
      (bias_after_does heap e b enters s.local s.kept wants _ tried_again k.thread k l same (x.1.kept ∙ kept) took x.1)))
  again_does k local kept f (Pending why) l x = answers heap f (Pending why) l Q x.1

  -- the revocation, by a call that asks for it, or whose request stands
  revoked_does : (fresh : Bool) (k : ThreadView) → BeginsRevocation heap e b op.Enter k → local_of k ≡ s.local
      → k.kept ≡ s.kept → Does heap fresh (enter_revoked heap.shape k.requesting e s b) k Q
  revoked_does fresh k may local kept =
      subst (λ z. Does heap fresh (revocation_steps heap.shape z k.requesting e b >>= again) k Q) (ap (λ z. z.thread) local)
      (binds heap fresh (revocation_steps heap.shape k.thread k.requesting e b) again k Q (
      follows heap fresh _ k _ _ (revocation_does heap e b op.Enter enters rebias wants.object wants.unchecks fresh k may)
      (λ f progress l x. again_does k local kept f progress l x)))

  -- what follows the tries with which the call began
  tried_first : Tries heap b.object e enters s.local s.kept (λ f tried l. Does heap f (enter_tried tried heap.shape e s b) l Q)
  tried_first = record {
    outcomes = record {
      took = λ f l path x. answers heap f _ l Q x;
      unbiased = λ l mark x. found_does heap b.object e enters s l mark x;
    };
    valid = λ l mark x. once_idle heap false _ _ l Q (λ i.
        subst (λ (z : Bool). Does heap false (enter_revoked heap.shape z e s b) l Q) x.going.takes.unasks
        (revoked_does false l (record {
          begins = record {
            number = refl;
            rest = enters_rests heap b.object e enters l x.going;
            live = x.going.takes.live;
            carries = live_carries l.log l.wait l.holds e.unfinished x.going.takes.still x.going.takes.live
                (λ i h. x.going.place) (undumped_enter e b.object (inr enters)) x.going.untold;
            asking = λ asks. let unasks = x.going.takes.unasks in absurd (cc (asks, unasks));
            running = λ free. (x.going.takes.runs, inl (sym x.going.mine));
            begins = inl (sym x.going.mine);
          };
          saw = subst (ValidBiasIn heap e b) (sym (before l i)) (mark, x.prototype.0, x.prototype.1, x.saw, x.prototype.2, x.prototype.3, x.prototype.4);
          alone = subst (NoOtherIn heap e b) (sym (before l i)) x.alone;
          unreached = x.unreached;
          known = x.going.takes.known;
          on_object = refl;
          unwaiting = λ waits. absurd (cc waits);
        }) x.local x.kept_is));
    raced = λ l mark found x. answers heap false _ l Q x;
  }
    where
      before : (l : ThreadView) → is_idle heap.shape l ≡ false → seen_before heap.shape l ≡ l.seen
      before l i = ap (λ (z : Bool). cond (z && not l.requesting) [] l.seen) i

  -- a call by a thread that runs
  first_does : (k : ThreadView) → Taking heap k.running k.requesting k.moving k.log e b.object
      → k.stage ≡ Settled → GoesOn k e → e.check ≡ k.checking → local_of k ≡ s.local → k.kept ≡ s.kept
      → Does heap true (bias_enter_steps heap.shape e s.local b.object >>= (λ tried. enter_tried tried heap.shape e s b)) k Q
  first_does k a calm goes check local kept =
      binds heap true (bias_enter_steps heap.shape e s.local b.object) (λ tried. enter_tried tried heap.shape e s b) k Q
      (subst (λ z. Does heap true (bias_enter_steps heap.shape e z b.object) k (λ f tried l. Does heap f (enter_tried tried heap.shape e s b) l Q)) local
      (bias_enter_does heap b.object e enters s.local s.kept _ tried_first k a calm goes check (λ i. ap (λ z. says_notified z.wait i) local ∙ wants.untold i)
      (subst (λ z. free_place z.holds < most_holds) (sym local) wants.place) local kept))

-- THE CALL
module _ (heap : Heap) where
  -- an enter begins where its thread runs, or its own request stands
  enter_finishes : (k : ThreadView) (o now : ℕ) → SoundWorldWith heap k → AtRest heap.shape k → may_begin heap.shape heap.biasing k (Enter o now) ≡ true
      → Finishes heap true (steps_of heap.shape (Enter o now) (start_of heap.start k)) k
  unfolding steps_of
  enter_finishes k o now v rest may =
      let going = goes_on_with op.Enter o k.unfinished in
      let m = both (has_reference heap.shape k o) (may_operate k going) may in
      let a = operates k going m.1 in
      let s = start_of heap.start k in
      let e = call_context (Enter o now) op.Enter o in
      let b : Revocation = record { object = o; rebias = true; now = now } in
      let goes = goes_on_or_begins op.Enter o k.unfinished a.free in
      let reference = refers heap.shape k o m.0 in
      let may_work : MayWorkOn heap k.log e o =
      record { unchecks = refl; live = a.live; room = a.room; object = reference.within; known = reference.known } in
      closes heap true _ k (
      chooses heap true (free_place k.holds == most_holds) _ _ k _
      (λ full. chooses heap true going _ _ k _
      (λ goes. let place = rest.place o (going_is op.Enter o k.unfinished goes) in
      absurd (let all = eqb-true (free_place k.holds) most_holds full in omega (arith, place, all)))
      (λ no. answers heap true _ k _ rest))
      (λ left.
      binds heap true (enter_going heap.shape e s b) answer k _ (
      follows heap true _ k (λ b r l. AtRest heap.shape l) _ (
      chooses heap true k.requesting _ _ k (λ b r l. AtRest heap.shape l)
      (λ asks.
      let goes_on = going_is op.Enter o k.unfinished (asking_goes k.running k.requesting going a.runs (rest.stopped asks)) in
      let place = rest.place o goes_on in
      let asked = subst (MayAsk heap.shape k) goes_on (rest.asks asks a.unchecking) in
      let before = asking_saw heap e k.thread k asks in
      subst (λ (z : Bool). Does heap true (enter_revoked heap.shape z e s b) k (λ b r l. AtRest heap.shape l)) asks
      (revoked_does heap e s b refl refl (record { may = may_work; untold = rest.untold; place = place }) true k (record {
        begins = record {
          number = refl;
          rest = rest;
          live = a.live;
          carries = live_carries k.log k.wait k.holds e.unfinished rest.still a.live (λ i h. place) (undumped_enter e o (inr refl)) rest.untold;
          asking = λ asks. (sym a.unchecking, sym goes_on);
          running = λ free. absurd (cc (asks, free));
          begins = inl (sym goes_on);
        };
        saw = subst (ValidBiasIn heap e b) (sym before) asked.0;
        alone = subst (NoOtherIn heap e b) (sym before) asked.2;
        unreached = asked.1;
        known = reference.known;
        on_object = refl;
        unwaiting = λ waits. absurd (cc waits);
      }) refl refl))
      (λ free.
      let runs = free_runs k.running k.requesting going a.runs free in
      let place = place_left heap k v runs left in
      let wants : Wants heap o e (local_of k) = record { may = may_work; untold = rest.untold; place = place } in
      first_does heap e s b refl refl wants k
      (taking heap o e (local_of k) k refl wants refl runs free rest.still) rest.calm goes (sym a.unchecking) refl refl))
      (λ b r l x. answers heap b _ l _ x))))

  pub enter_begins : (o now : ℕ) → BeginsWell heap (Enter o now)
  enter_begins o now = record { does = λ k v rest may. enter_finishes k o now v rest may }
