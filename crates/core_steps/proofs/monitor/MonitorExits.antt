-- The steps of an exit by the monitor.
use Rattle.std.proofs.Common.{◌≡◌, ◌≢◌, ℕ, ◌-◌, ◌≤◌, ◌==◌, eq-eqb, eqb-true, false, cond, slice_index, Option, Some, None, refl, sym, ap, ◌∙◌, subst, inl, inr}
use Rattle.mark_word.specs.declared.owner.OwnerForm.{OwnerForm}
use Rattle.mark_word.specs.declared.owner.OwnerForm.TheVariants.{Free, ByThread, ByRecord}
use Rattle.mark_word.specs.Owner.{owner_of, read_owner}
use Rattle.mark_word.proofs.ReadingOwners.{read_owner-spells}
use Rattle.core_world.specs.declared.act.Act.{Act}
use Rattle.core_world.specs.declared.act.Act.TheVariants.{Load, Store}
use Rattle.core_world.specs.declared.word_id.WordId.TheVariants as id
use Rattle.core_world.specs.declared.stage.Stage.{Stage}
use Rattle.core_world.specs.declared.stage.Stage.TheVariants.{Settled, OwnerConverted, RecursionsLowered}
use Rattle.core_world.specs.Threads.AtRest.{AtRest}
use Rattle.core_world.specs.Words.Forms.{hold_word}
use Rattle.core_world.specs.Threads.ThreadView.{ThreadView, local_of, last_seen}
use Rattle.core_world.specs.Locks.{hold_count}
use Rattle.core_world.specs.Trees.MonitorSteps.{own_steps, release_steps, monitor_exit_steps, take_over_plan, lower_count_plan, reset_count_plan}
use Rattle.core_world.specs.Trees.LockSteps.{leave_steps}
use Rattle.core_world.specs.Trees.Plans.{CallContext, quiet_plan, with_stage, load, top_place, next_stamp, load_plan}
use Rattle.core_world.specs.Steps.{is_idle, known_hit}
use Rattle.core_world.specs.Trees.StepTree.{StepTree, ask, ◌>>=◌}
use Rattle.core_locks.specs.Knowing.{IsOut, SawInflated, SawOwn}
use Rattle.core_locks.specs.MonitorLaws.{MayCount}
use Rattle.core_law.specs.Logic.{Heap, SoundWorldWith, Keeps, Does}
use Rattle.core_steps.proofs.Facts.{Untold, out_here, ready_here}
use Rattle.core_steps.proofs.LawRules.{leaves_rule, clears_rule}
use Rattle.core_steps.proofs.monitor.MonitorFacts.{IsOwned, owned_here, only_here}
use Rattle.core_steps.proofs.monitor.MonitorRules.{looks_at_monitor, mans_rule, resets_count_rule, lowers_count_rule, frees_rule}
use Rattle.core_law.proofs.Places.{top_here, few_here}
use Rattle.core_steps.proofs.Resting.{rests, logged_carries}
use Rattle.core_steps.proofs.SeenSteps.{saw_newest, saw_older}
use Rattle.core_steps.proofs.enter_exit.StackExits.{Leaving, ByMonitor, unwaiting_exit, unentering_exit}
use Rattle.core_steps.proofs.Trees.{answers, chooses, hitting}

-- what the thread counts on all the way, wherever it stands
pub record Exiting (heap : Heap) (e : CallContext) (o m : ℕ) (k : ThreadView) : Type 0 where
  pub leaving : Leaving heap k.running k.requesting k.moving k.log k.holds e o
  pub mine : k.unfinished ≡ e.unfinished
  pub check : e.check ≡ k.checking
  pub untold : Untold k
  pub inflated : SawInflated k o m
  pub displaced : (h : ℕ) × (last_seen (id.Displaced k.thread (top_place o k.holds)) k.seen ≡ Some h) × (h ≢ 0)
  pub stamped : hold_count o k.holds ≡ 1 → (stamp : ℕ) × (last_seen (id.Stamp o) k.seen ≡ Some stamp) × (next_stamp (local_of k) ≤ stamp)

module _ (heap : Heap) (e : CallContext) (o m : ℕ) where
  -- a step on the owner word, and one on the recursions, leave all that
  module _ (k : ThreadView) (x : Exiting heap e o m k) (i : is_idle heap.shape k ≡ false) (stage : Stage) (act : Act) (n : ℕ) where
    after_owner : Exiting heap e o m (known_hit heap.shape heap.start (with_stage stage (quiet_plan e (id.Owner m) act)) n k)
    after_owner =
        let older = saw_older heap (with_stage stage (quiet_plan e (id.Owner m) act)) n k in
        record {
          leaving = x.leaving;
          mine = refl;
          check = refl;
          untold = x.untold;
          inflated = (x.inflated.0, older (id.Mark o) i refl refl ∙ x.inflated.1, x.inflated.2);
          displaced = (x.displaced.0, older (id.Displaced k.thread (top_place o k.holds)) i refl refl ∙ x.displaced.1, x.displaced.2);
          stamped = λ one. let s = x.stamped one in (s.0, older (id.Stamp o) i refl refl ∙ s.1, s.2);
        }

    after_recursions : Exiting heap e o m (known_hit heap.shape heap.start (with_stage stage (quiet_plan e (id.Recursions m) act)) n k)
    after_recursions =
        let older = saw_older heap (with_stage stage (quiet_plan e (id.Recursions m) act)) n k in
        record {
          leaving = x.leaving;
          mine = refl;
          check = refl;
          untold = x.untold;
          inflated = (x.inflated.0, older (id.Mark o) i refl refl ∙ x.inflated.1, x.inflated.2);
          displaced = (x.displaced.0, older (id.Displaced k.thread (top_place o k.holds)) i refl refl ∙ x.displaced.1, x.displaced.2);
          stamped = λ one. let s = x.stamped one in (s.0, older (id.Stamp o) i refl refl ∙ s.1, s.2);
        }

  module _ (k : ThreadView) (x : Exiting heap e o m k) where
    out : SoundWorldWith heap k → IsOut k
    out v = out_here heap k v x.leaving.runs (unwaiting_exit k o (x.mine ∙ x.leaving.exits)) x.untold

    ready : SoundWorldWith heap k → k.wait ≡ 0
    ready v = ready_here heap k v x.leaving.runs (unwaiting_exit k o (x.mine ∙ x.leaving.exits))
        (unentering_exit k o (x.mine ∙ x.leaving.exits)) x.untold x.leaving.live

    may_count : SawOwn k k.thread m → SoundWorldWith heap k → MayCount k e o m
    may_count own v = record { runs = x.leaving.runs; out = out v; holds = x.leaving.some; inflated = x.inflated; owner = own; goes_on = inl (sym x.mine) }

    looks_calm : k.stage ≡ Settled → Keeps heap (load e (id.Recursions m)) k
    looks_calm calm = subst (λ z. Keeps heap (load_plan e z (id.Recursions m)) k) calm
        (looks_at_monitor heap k e (id.Recursions m) o m refl x.leaving.runs x.inflated (inl (sym x.mine)) x.check (inl (sym x.mine)))

  -- the last hold: the owner word is cleared, which logs Exit, and then the hold word
  release_does : (k : ThreadView) → Exiting heap e o m k → k.stage ≡ Settled → SawOwn k k.thread m → last_seen (id.Recursions m) k.seen ≡ Some 0
      → hold_count o k.holds ≡ 1
      → Does heap false (release_steps e (local_of k) o m) k (λ b r l. AtRest heap.shape l)
  release_does k x calm own none one =
      let a = x.leaving in
      let p = top_place o k.holds in
      let s = x.stamped one in
      let hold : (v : SoundWorldWith heap k) → slice_index k.holds p ≡ hold_word o 1 = λ v. (top_here heap k v a.runs o a.some).0 ∙ ap (hold_word o) one in
      hitting heap false _ _ k _ (λ n. refl)
      (λ i. frees_rule heap k e o m p s.0 (λ v. record {
        runs = a.runs;
        calm = calm;
        ready = ready k x v;
        object = record { within = a.object; known = a.known };
        last = one;
        inflated = x.inflated;
        owner = own;
        recursions = none;
        stamped = s.1;
        high = s.2;
        own_entry = record { operation = inr (x.mine ∙ a.exits); shot = tt };
        room = a.room;
      }))
      (λ n i was. hitting heap false _ _ _ _ (λ n. refl)
      (λ j. clears_rule heap _ (record e { unfinished = None }) o p (λ v. (top_here heap k was.stands a.runs o a.some).1)
      (λ v. record { runs = a.runs; stage = refl; hold = hold was.stands; last = one; goes_on = refl }) (inl refl))
      (λ n j was. answers heap false _ _ _ (rests heap.shape _ refl a.unasks a.unchecks (logged_carries k.log _ k.wait _ a.still a.live refl x.untold))))

  -- another one: the recursions are lowered, and then the hold word is cleared, which logs Exit
  lower_does : (k : ThreadView) (r : ℕ) → Exiting heap e o m k → k.stage ≡ Settled → SawOwn k k.thread m → last_seen (id.Recursions m) k.seen ≡ Some r → r ≢ 0
      → Does heap false (ask (lower_count_plan e o m r) >>= (λ u. leave_steps e (local_of k) o)) k (λ b r l. AtRest heap.shape l)
  lower_does k r x calm own saw some =
      let a = x.leaving in
      let p = top_place o k.holds in
      let lower = lower_count_plan e o m r in
      hitting heap false lower _ k _ (λ n. refl) (λ i. lowers_count_rule heap k e o m r
      (λ v. record { counts = may_count k x own v; calm = calm; saw = saw; some = some }) (inl (sym x.mine))) (λ n i was.
      let y = after_recursions k x i (RecursionsLowered o) (Store (r - 1)) n in
      let l = known_hit heap.shape heap.start lower n k in
      hitting heap false _ _ l _ (λ n. refl)
      (λ j. leaves_rule heap l e o (hold_count o k.holds) p (λ v. (top_here heap l v a.runs o a.some).1) (λ v. record {
        runs = a.runs;
        ready = ready l y v;
        object = record { within = a.object; known = a.known };
        hold = (top_here heap l v a.runs o a.some).0;
        deepest = refl;
        small = few_here heap l v a.runs o;
        before = inr (inl (refl, (m, y.displaced.0, y.inflated, saw_older heap lower n k (id.Owner m) i refl refl ∙ own, y.displaced.1, y.displaced.2)));
        own_entry = record { operation = inr a.exits; shot = tt };
        room = a.room;
      }))
      (λ n j was. answers heap false _ _ _ (rests heap.shape _ refl a.unasks a.unchecks (logged_carries k.log _ k.wait _ a.still a.live refl x.untold))))

  abbrev counted_steps : ThreadView → StepTree (Unit {0})
  counted_steps k = ask (load e (id.Recursions m)) >>= (λ r. cond (r == 0) (release_steps e (local_of k) o m)
      (ask (lower_count_plan e o m r) >>= (λ u. leave_steps e (local_of k) o)))

  -- a thread that is the owner itself goes by the recursions
  counted_does : (k : ThreadView) → Exiting heap e o m k → k.stage ≡ Settled
      → SawOwn k k.thread m → Does heap false (counted_steps k) k (λ b r l. AtRest heap.shape l)
  counted_does k x calm own =
      let look = load e (id.Recursions m) in
      hitting heap false look _ k _ (λ n. refl) (λ i. looks_calm k x calm) (λ r i was.
      let l = known_hit heap.shape heap.start look r k in
      let y = after_recursions k x i Settled Load r in
      let own_still : SawOwn l l.thread m = saw_older heap look r k (id.Owner m) i refl refl ∙ own in
      let saw : last_seen (id.Recursions m) l.seen ≡ Some r = saw_newest heap look r k in
      chooses heap false (r == 0) _ _ l _
      (λ is0. let none = eqb-true r 0 is0 in
      release_does l y refl own_still (saw ∙ ap Some none)
      (only_here heap k was.stands x.leaving.runs o m x.displaced.0 x.inflated own calm
      (out k x was.stands) x.leaving.some (was.found ∙ none) x.displaced.1 x.displaced.2 x.leaving.object))
      (λ not0. lower_does l r y refl own_still saw (λ z. absurd (cc (eq-eqb r 0 z, not0)))))

  -- first the thread itself becomes the owner, where one of its records is
  own_does : (f : Option OwnerForm) (k : ThreadView) (owner : ℕ) → Exiting heap e o m k → k.stage ≡ Settled → last_seen (id.Owner m) k.seen ≡ Some owner
      → read_owner owner ≡ f → IsOwned k.thread f
      → Does heap false (own_steps f e (local_of k) o m >>= (λ u. counted_steps k)) k (λ b r l. AtRest heap.shape l)
  own_does None k owner x calm saw reads mine = absurd mine
  own_does (Some Free) k owner x calm saw reads mine = absurd mine
  own_does (Some (ByThread u)) k owner x calm saw reads mine =
      counted_does k x calm (saw ∙ ap Some ((read_owner-spells owner (ByThread u) reads).1 ∙ ap (λ z. owner_of (ByThread z)) mine))
  own_does (Some (ByRecord u p)) k owner x calm saw reads mine =
      let man = take_over_plan e k.thread o m in
      let reset = reset_count_plan e m in
      hitting heap false man _ k _ (λ n. refl) (λ i. mans_rule heap k e o m p (λ v. record {
        runs = x.leaving.runs;
        calm = calm;
        out = out k x v;
        holds = x.leaving.some;
        inflated = x.inflated;
        owner = (owner, saw, reads ∙ ap (λ z. Some (ByRecord z p)) mine);
        goes_on = inl (sym x.mine);
      }) (inl (sym x.mine))) (λ n i was.
      let l = known_hit heap.shape heap.start man n k in
      let y = after_owner k x i (OwnerConverted o) (Store (owner_of (ByThread k.thread))) n in
      let own : SawOwn l l.thread m = saw_newest heap man n k in
      hitting heap false reset _ l _ (λ n. refl) (λ j. resets_count_rule heap l e o m (λ v. record { counts = may_count l y own v; takes_over = refl })
      (inl refl)) (λ r j was.
      counted_does (known_hit heap.shape heap.start reset r l) (after_recursions l y j Settled (Store 0) r) refl
      (saw_older heap reset r l (id.Owner m) j refl refl ∙ own)))

  pub monitor_exit_does : (k : ThreadView) → ByMonitor heap e o m k → Does heap false (monitor_exit_steps e (local_of k) o m) k (λ b r l. AtRest heap.shape l)
  monitor_exit_does k b =
      let look = load e (id.Owner m) in
      let x : Exiting heap e o m k = record {
        leaving = b.leaving;
        mine = b.mine;
        check = b.check;
        untold = b.untold;
        inflated = b.inflated;
        displaced = b.displaced;
        stamped = b.stamped;
      } in
      hitting heap false look _ k _ (λ n. refl)
      (λ i. subst (λ z. Keeps heap (with_stage z look) k) b.calm
      (looks_at_monitor heap k e (id.Owner m) o m refl b.leaving.runs b.inflated (inl (sym b.mine)) b.check (inl (sym b.mine)))) (λ owner i was.
      own_does (read_owner owner) (known_hit heap.shape heap.start look owner k) owner
      (after_owner k x i Settled Load owner) refl (saw_newest heap look owner k) refl
      (owned_here heap k was.stands b.leaving.runs o m owner b.inflated b.calm (out k x was.stands) b.leaving.some was.found))
