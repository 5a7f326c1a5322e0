-- Get, Put, Print and Finish begin well.
use Rattle.std.proofs.Common.{◌≡◌, ℕ, ◌==◌, ◌&&◌, nat_lt, eq-eqb, Bool, true, false, cond, refl, ap, ◌∙◌, arith, inl, sym}
use Rattle.std.proofs.lemmas.Bool.Decides.{nat_tests}
use Rattle.std.proofs.lemmas.Float.{T_from_true}
use Rattle.std.specs.Int.Signed.{le_z_yes}
use Rattle.std.specs.List.{list_all}
use Rattle.mark_word.specs.Wait.{wait_of}
use Rattle.mark_word.specs.declared.wait.WaitForm.TheVariants.{Ended}
use Rattle.mark_word.proofs.ReadingWaits.{read_wait-wait_of}
use Rattle.plain_monitor.specs.declared.entry.Ending.{Ending}
use Rattle.plain_monitor.specs.declared.entry.Ending.TheVariants as ending
use Rattle.plain_monitor.specs.declared.entry.Entry.TheVariants as entry
use Rattle.plain_monitor.specs.declared.entry.Value.{Value}
use Rattle.plain_monitor.specs.declared.entry.Value.TheVariants.{Nil, Int, Ref}
use Rattle.std.specs.List.{AllByRecursion}
use Rattle.plain_monitor.specs.Made.{hands_on}
use Rattle.core_world.specs.declared.heap_call.HeapCall.TheVariants.{Get, Put, Print, Finish}
use Rattle.core_world.specs.Threads.AtRest.{AtRest}
use Rattle.core_world.specs.Trees.Calls.{steps_of, may_begin, may_act}
use Rattle.core_world.specs.Threads.References.{has_reference, has_value}
use Rattle.core_world.specs.Words.Forms.{says_notified, notified_form, says_ended, ended_form}
use Rattle.core_world.specs.Threads.ThreadView.{ThreadView, start_of}
use Rattle.core_world.specs.Locks.{hold_count}
use Rattle.core_world.specs.Trees.Operations.{lone_context}
use Rattle.plain_monitor.specs.Endings.{ending_entry}
use Rattle.core_world.specs.Clauses.Safepoints.{is_ending}
use Rattle.core_world.specs.Words.Shape.{slots_of}
use Rattle.core_locks.specs.JournalLaws.{MayTell, MayTouch, MayPut, MayPublish}
use Rattle.core_locks.specs.Knowing.{IsOfLastShot}
use Rattle.bias_law.specs.Steps.{SawNone}
use Rattle.core_law.specs.Logic.{Heap, SoundWorldWith}
use Rattle.core_law.specs.Sound.{Finishes}
use Rattle.core_law.specs.Begins.{BeginsWell}
use Rattle.core_steps.proofs.FairSteps.{KnowsBy}
use Rattle.core_steps.proofs.Facts.{limits_here, ready_here, out_here}
use Rattle.core_steps.proofs.LawRules.{gets, puts, publishes, says_ended_rule}
use Rattle.core_steps.proofs.Resting.{unasking, rests, logged_carries, ends_after}
use Rattle.core_steps.proofs.safepoint.SafeCalls.{closes}
use Rattle.core_steps.proofs.Tests.{both, refers, some_named, Acts, acts, nothing_goes, nothing_enters}
use Rattle.core_steps.proofs.Trees.{answers, chooses, hitting}

module _ (heap : Heap) where
  -- a thread at rest that acts finds its waiting word Ready
  ready_acts : (k : ThreadView) → AtRest heap.shape k → Acts k → SoundWorldWith heap k → k.wait ≡ 0
  ready_acts k rest a v = ready_here heap k v a.runs (nothing_goes k a.nothing) (nothing_enters k a.nothing) rest.untold a.live

  touches : (k : ThreadView) (o slot : ℕ) → AtRest heap.shape k → Acts k → has_reference heap.shape k o ≡ true → nat_lt slot (slots_of heap.shape o) ≡ true
      → (hold_count o k.holds == 0) ≡ false
      → SoundWorldWith heap k → MayTouch heap.shape k o slot
  touches k o slot rest a here within holds v = record {
    runs = a.runs;
    calm = rest.calm;
    ready = ready_acts k rest a v;
    holds = some_named (hold_count o k.holds) holds;
    object = refers heap.shape k o here;
    within = grind (arith, nat_tests, within);
    nothing = a.nothing;
    room = let r = a.room in omega arith;
  }

  -- GET
  get_finishes : (k : ThreadView) (o slot : ℕ) → AtRest heap.shape k → may_begin heap.shape heap.biasing k (Get o slot) ≡ true
      → Finishes heap true (steps_of heap.shape (Get o slot) (start_of heap.start k)) k
  unfolding steps_of
  get_finishes k o slot rest may =
      let m = both (has_reference heap.shape k o && nat_lt slot (slots_of heap.shape o)) (may_act k) may in
      let n = both (has_reference heap.shape k o) (nat_lt slot (slots_of heap.shape o)) m.0 in
      let a = acts k m.1 in
      closes heap true _ k (
      chooses heap true (hold_count o k.holds == 0) _ _ _ _ (λ h. answers heap true _ _ _ rest) (λ h.
      hitting heap true _ _ k _ (λ n. refl) (λ i. gets heap k (lone_context (Get o slot)) o slot (λ v. record {
        touches = touches k o slot rest a n.0 n.1 h v;
        nothing = refl;
      }) (inl (sym a.nothing)))
      (λ n i was.
      answers heap false _ _ _ (rests heap.shape _ refl (unasking heap.shape k rest a.runs) refl
      (logged_carries k.log _ k.wait k.holds rest.still a.live refl rest.untold)))))

  pub get_begins : (o slot : ℕ) → BeginsWell heap (Get o slot)
  get_begins o slot = record { does = λ k v rest may. get_finishes k o slot rest may }

  -- PUT
  may_put : (k : ThreadView) (o slot : ℕ) (value : Value) → has_value heap.shape k value ≡ true → (v : SoundWorldWith heap k) → MayTouch heap.shape k o slot
      → MayPut heap.shape k o slot value
  may_put k o slot Nil e v may = record { touches = may; spellable = tt; here = tt }
  may_put k o slot (Int i) e v may =
      let a = both _ _ e in record { touches = may; spellable = (le_z_yes (T_from_true _ a.0), le_z_yes (T_from_true _ a.1)); here = tt }
  may_put k o slot (Ref r) e v may =
      let few = limits_here heap k v may.runs in let n = few.objects in
      let here = refers heap.shape k r e in let within = here.within in record { touches = may; spellable = omega arith; here = here }

  put_finishes : (k : ThreadView) (o slot : ℕ) (value : Value) → AtRest heap.shape k → may_begin heap.shape heap.biasing k (Put o slot value) ≡ true
      → Finishes heap true (steps_of heap.shape (Put o slot value) (start_of heap.start k)) k
  unfolding steps_of
  put_finishes k o slot value rest may =
      let l = both (has_reference heap.shape k o && nat_lt slot (slots_of heap.shape o) && has_value heap.shape k value) (may_act k) may in
      let m = both (has_reference heap.shape k o && nat_lt slot (slots_of heap.shape o)) (has_value heap.shape k value) l.0 in
      let n = both (has_reference heap.shape k o) (nat_lt slot (slots_of heap.shape o)) m.0 in
      let a = acts k l.1 in
      closes heap true _ k (
      chooses heap true (hold_count o k.holds == 0) _ _ _ _ (λ h. answers heap true _ _ _ rest) (λ h.
      hitting heap true _ _ k _ (λ n. refl) (λ i. puts heap k (lone_context (Put o slot value)) o slot value
      (λ v. may_put k o slot value m.1 v (touches k o slot rest a n.0 n.1 h v))) (λ n i was.
      answers heap false _ _ _ (rests heap.shape _ refl (unasking heap.shape k rest a.runs) refl
      (logged_carries k.log _ k.wait k.holds rest.still a.live refl rest.untold)))))

  pub put_begins : (o slot : ℕ) (value : Value) → BeginsWell heap (Put o slot value)
  put_begins o slot value = record { does = λ k v rest may. put_finishes k o slot value rest may }

  -- PRINT
  prints : (k : ThreadView) (value : Value) → AtRest heap.shape k → Acts k → SoundWorldWith heap k → MayPublish heap.shape k (entry.Print value)
  prints k value rest a v = record {
    runs = a.runs;
    calm = rest.calm;
    ready = ready_acts k rest a v;
    tells = tt;
    own_entry = record { operation = inl a.nothing; shot = tt };
    room = let r = a.room in omega arith;
  }

  hands_value : (k : ThreadView) (value : Value) → has_value heap.shape k value ≡ true → AllByRecursion (KnowsBy heap.shape k) (hands_on (entry.Print value))
  hands_value k (Ref r) e = ((refers heap.shape k r e).known, tt)
  hands_value k value e = tt

  print_finishes : (k : ThreadView) (value : Value) → AtRest heap.shape k → may_begin heap.shape heap.biasing k (Print value) ≡ true
      → Finishes heap true (steps_of heap.shape (Print value) (start_of heap.start k)) k
  unfolding steps_of
  print_finishes k value rest may =
      let m = both (has_value heap.shape k value) (may_act k) may in
      let a = acts k m.1 in
      hitting heap true _ _ k _ (λ n. refl) (λ i. publishes heap k (lone_context (Print value))
      (entry.Print value) (λ v. (prints k value rest a v, tt)) (hands_value k value m.0)) (λ n i was.
      answers heap false _ _ _ (rests heap.shape _ refl (unasking heap.shape k rest a.runs) refl
      (logged_carries k.log _ k.wait k.holds rest.still a.live refl rest.untold)))

  pub print_begins : (value : Value) → BeginsWell heap (Print value)
  print_begins value = record { does = λ k v rest may. print_finishes k value rest may }

  -- FINISH
  tells_ending : (k : ThreadView) (how : Ending) → MayTell heap.shape k (ending_entry how)
  tells_ending k (ending.Trap fault index) = tt
  tells_ending k ending.Spent = tt
  tells_ending k ending.Done = tt

  ending_hands : (k : ThreadView) (how : Ending) → AllByRecursion (KnowsBy heap.shape k) (hands_on (ending_entry how))
  ending_hands k (ending.Trap fault index) = tt
  ending_hands k ending.Spent = tt
  ending_hands k ending.Done = tt

  ending_shot : (k : ThreadView) (how : Ending) → IsOfLastShot k (ending_entry how)
  ending_shot k (ending.Trap fault index) = tt
  ending_shot k ending.Spent = tt
  ending_shot k ending.Done = tt

  unbiasing_none : (k : ThreadView) (how : Ending) → SawNone k (ending_entry how)
  unbiasing_none k (ending.Trap fault index) = tt
  unbiasing_none k ending.Spent = tt
  unbiasing_none k ending.Done = tt

  ending_ends : (how : Ending) → is_ending (ending_entry how) ≡ true
  ending_ends (ending.Trap fault index) = refl
  ending_ends ending.Spent = refl
  ending_ends ending.Done = refl

  finish_finishes : (k : ThreadView) (how : Ending) → AtRest heap.shape k → may_begin heap.shape heap.biasing k (Finish how) ≡ true
      → Finishes heap true (steps_of heap.shape (Finish how) (start_of heap.start k)) k
  unfolding steps_of
  finish_finishes k how rest may =
      let m = both (list_all (λ h. h == 0) k.holds) (may_act k) may in
      let a = acts k m.1 in
      let e = lone_context (Finish how) in
      hitting heap true _ _ k _ (λ n. refl) (λ i. publishes heap k e (ending_entry how) (λ v. (
        record {
          runs = a.runs;
          calm = rest.calm;
          ready = ready_acts k rest a v;
          tells = tells_ending k how;
          own_entry = record { operation = inl a.nothing; shot = ending_shot k how };
          room = let r = a.room in omega arith;
        },
        unbiasing_none k how,
      )) (ending_hands k how)) (λ n i was.
      hitting heap false _ _ _ _ (λ n. refl) (λ i. says_ended_rule heap _ e (λ v. record {
        runs = a.runs;
        calm = refl;
        out = out_here heap _ v a.runs (λ o h. absurd (cc h)) rest.untold;
        ended = ends_after k.log _ (ending_ends how);
        goes_on = refl;
        nothing = refl;
      }) (inl refl)) (λ n i was.
      let says : cond (k.thread == k.thread) (wait_of Ended) k.wait ≡ wait_of Ended =
      ap (λ (b : Bool). cond b (wait_of Ended) k.wait) (eq-eqb k.thread k.thread refl) in
      answers heap false _ _ _ (rests heap.shape _ refl (unasking heap.shape k rest a.runs) refl (record {
        still = rest.still;
        ended = λ h. (ap says_ended says ∙ ap ended_form (read_wait-wait_of Ended tt), refl);
        place = λ o h. absurd (cc h);
        shots_logged = λ h. absurd (cc h);
        untold = λ o. ap (λ z. says_notified z o) says ∙ ap (λ f. notified_form f o) (read_wait-wait_of Ended tt);
      }))))

  pub finish_begins : (how : Ending) → BeginsWell heap (Finish how)
  finish_begins how = record { does = λ k v rest may. finish_finishes k how rest may }
