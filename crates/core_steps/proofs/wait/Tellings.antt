-- The steps by which an owner looks at all waiting words, and tells those who wait.
use Rattle.std.proofs.Common.{◌≡◌, ℕ, zero, suc, ◌+◌, ◌<◌, ◌≤◌, ◌^◌, ◌==◌, ne_eqb, Bool, false, cond, List, [], ◌∷◌}
use Rattle.std.proofs.Common.{length, slice_index, Option, Some, None, refl, sym, ap, ◌∙◌, subst, inl, inr, arith}
use Rattle.mark_word.specs.Wait.{wait_of}
use Rattle.mark_word.specs.declared.wait.WaitForm.TheVariants.{Notified}
use Rattle.mark_word.proofs.ReadingWaits.{read_wait-wait_of}
use Rattle.plain_monitor.specs.declared.entry.Entry.{Entry}
use Rattle.plain_monitor.specs.declared.entry.Entry.TheVariants as entry
use Rattle.core_world.specs.declared.word_id.WordId.TheVariants as id
use Rattle.core_world.specs.declared.stage.Stage.TheVariants.{Settled}
use Rattle.core_world.specs.declared.heap_call.Operation.{Operation}
use Rattle.core_world.specs.declared.heap_call.Operation.TheVariants as op
use Rattle.core_world.specs.declared.heap_call.Unfinished.{Unfinished}
use Rattle.core_world.specs.Threads.AtRest.{AtRest}
use Rattle.core_world.specs.Words.Forms.{waits_form, says_notified}
use Rattle.core_world.specs.Threads.ThreadView.{ThreadView, local_of, last_seen}
use Rattle.core_world.specs.Locks.{hold_count}
use Rattle.core_world.specs.Trees.Operations.{same_op}
use Rattle.core_world.specs.Trees.Plans.{CallContext, load}
use Rattle.core_world.specs.Clauses.Safepoints.{IsUnfinished, is_ending}
use Rattle.core_world.specs.Steps.{known_hit}
use Rattle.core_world.specs.Threads.References.{HasReference}
use Rattle.core_world.specs.Trees.StepTree.{done, ask, each_from, ◌>>=◌}
use Rattle.core_world.specs.Trees.WaitSteps.{by_age, waiters, look_steps, publish_steps, notify_first, notify_each}
use Rattle.core_world.specs.Trees.WaitSteps.{notify_listed, monitor_notify_steps, monitor_notify_all_steps, wake_next_plan}
use Rattle.core_locks.specs.JournalLaws.{MayTell, SawNobody}
use Rattle.core_locks.specs.Knowing.{IsOwnEntry}
use Rattle.core_locks.specs.WakeLaws.{HasNotified, MayWake}
use Rattle.core_locks.proofs.WaitOut.{fails}
use Rattle.core_locks.proofs.wait.WakeOrder.{Remain, all_remain, oldest_seen, no_other_seen, others_remain}
use Rattle.core_locks.proofs.wait.Wakes.{other}
use Rattle.bias_law.specs.Steps.{SawUnbiased, SawNone}
use Rattle.core_law.specs.Logic.{Heap, SoundWorldWith, Does}
use Rattle.core_steps.proofs.WorksOn.{WorksOn}
use Rattle.core_steps.proofs.Looks.{looks_running}
use Rattle.core_steps.proofs.Facts.{Untold, limits_here, ready_here}
use Rattle.core_law.proofs.Standing.{fits_here, away, inside}
use Rattle.std.specs.List.{AllByRecursion}
use Rattle.plain_monitor.specs.Made.{hands_on}
use Rattle.core_steps.proofs.FairSteps.{KnowsBy}
use Rattle.core_steps.proofs.LawRules.{publishes}
use Rattle.core_steps.proofs.Resting.{rests, live_carries, logged_carries}
use Rattle.core_steps.proofs.safepoint.SafepointLooks.{going}
use Rattle.core_steps.proofs.SeenSteps.{saw_newest, saw_any, saw_older}
use Rattle.core_steps.proofs.Tests.{is_of_kind}
use Rattle.core_steps.proofs.Trees.{answers, follows, hitting}
use Rattle.core_steps.proofs.wait.WaitRules.{wakes_next_rule, notifies_rule, notifies_all_rule}

-- neither a wait, nor an enter, nor a dump
pub record IsTelling (u : Option Unfinished) : Type 0 where
  pub unwaiting : (i : ℕ) → IsUnfinished u op.Wait i → ⊥
  pub unentering : (i : ℕ) → IsUnfinished u op.Enter i → ⊥
  pub undumped : IsUnfinished u op.Dump 0 → ⊥

pub telling_of : (a : Operation) (o : ℕ) → same_op a op.Wait ≡ false → same_op a op.Enter ≡ false → same_op a op.Dump ≡ false
    → IsTelling (Some (record { op = a; object = o }))
telling_of a o no_wait no_enter no_dump = record {
  unwaiting = λ i h. let b = ap (is_of_kind op.Wait) h in absurd (cc (b, no_wait));
  unentering = λ i h. let b = ap (is_of_kind op.Enter) h in absurd (cc (b, no_enter));
  undumped = λ h. let b = ap (is_of_kind op.Dump) h in absurd (cc (b, no_dump));
}

module _ (heap : Heap) (e : CallContext) (o : ℕ) where
  -- what a thread counts on that tells those who wait on o
  pub record Telling (k : ThreadView) : Type 0 where
    pub works : WorksOn heap k.running k.requesting k.moving k.log e o
    pub open works use *
    pub holds : 1 ≤ hold_count o k.holds
    pub mine : k.unfinished ≡ e.unfinished
    pub check : e.check ≡ k.checking
    pub untold : Untold k
    pub telling : IsTelling e.unfinished
    pub unbiased : SawUnbiased k o

  pub telling_ready : (k : ThreadView) → Telling k → SoundWorldWith heap k → k.wait ≡ 0
  telling_ready k x v =
      ready_here heap k v x.runs (λ i h. x.telling.unwaiting i (sym x.mine ∙ h)) (λ i h. x.telling.unentering i (sym x.mine ∙ h)) x.untold x.live

  reference : (k : ThreadView) → Telling k → HasReference heap.shape k o
  reference k x = record { within = x.object; known = x.known }

  -- where it goes on in another call
  pub telling_rests : (k : ThreadView) → Telling k → k.stage ≡ Settled → AtRest heap.shape k
  telling_rests k x calm = rests heap.shape k calm x.unasks (sym x.check ∙ x.unchecks)
      (live_carries k.log k.wait k.holds k.unfinished x.still x.live
      (λ i h. absurd (x.telling.unentering i (sym x.mine ∙ h))) (λ h. x.telling.undumped (sym x.mine ∙ h)) x.untold)

  -- THE LOOKS at n words from the i-th on
  pub record Looked (i n : ℕ) (words : List ℕ) (k l : ThreadView) : Type 0 where
    pub local : local_of l ≡ local_of k
    pub tells : Telling l
    pub calm : l.stage ≡ Settled
    pub many : length words ≡ n
    pub saw : (z : ℕ) → z < n → last_seen (id.Waiting (i + z)) l.seen ≡ Some (slice_index words z)
    pub others : (u : ℕ) → u < i → last_seen (id.Waiting u) l.seen ≡ last_seen (id.Waiting u) k.seen

  looks_do : (n i : ℕ) (k : ThreadView) → i + n ≤ heap.shape.threads → Telling k → k.stage ≡ Settled
      → Does heap false (each_from i n (λ t. ask (load e (id.Waiting t)))) k (λ b words l. Looked i n words k l)
  looks_do zero i k many x calm = answers heap false [] k _ (record {
    local = refl;
    tells = x;
    calm = calm;
    many = refl;
    saw = λ z h. absurd (omega (arith, h));
    others = λ u h. refl;
  })
  looks_do (suc n) i k many x calm =
      let look = load e (id.Waiting i) in
      hitting heap false look _ k _ (λ n. refl) (λ j. looks_running heap k e Settled (id.Waiting i) refl x.runs (sym calm) x.check (inl (sym x.mine))
      (λ v. omega (arith, many)) (inl (sym x.mine)) tt) (λ word j was.
      let l = known_hit heap.shape heap.start look word k in
      let y : Telling l = record {
        works = x.works;
        holds = x.holds;
        mine = refl;
        check = refl;
        untold = x.untold;
        telling = x.telling;
        unbiased = (x.unbiased.0, saw_older heap look word k (id.Mark o) j refl refl ∙ x.unbiased.1, x.unbiased.2);
      } in
      going heap (each_from (i + 1) n (λ t. ask (load e (id.Waiting t)))) (λ words. done (word ∷ words)) l _ (
      follows heap false _ l _ _ (looks_do n (i + 1) l (omega (arith, many)) y refl) (λ b words m a.
      answers heap false (word ∷ words) m _ (record {
        local = a.local;
        tells = a.tells;
        calm = a.calm;
        many = ap suc a.many;
        saw = each words m a.saw (a.others i (omega arith) ∙ saw_newest heap look word k);
        others = λ u h. a.others u (omega (arith, h)) ∙ saw_any heap look word k (id.Waiting u) j refl
            ∙ ap (λ (z : Bool). cond z (Some word) (last_seen (id.Waiting u) k.seen)) (ne_eqb u i (λ s. omega (arith, h, s)));
      }))))
    where
      each : {word : ℕ} (words : List ℕ) (m : ThreadView) → ((z : ℕ) → z < n → last_seen (id.Waiting (i + 1 + z)) m.seen ≡ Some (slice_index words z))
          → last_seen (id.Waiting i) m.seen ≡ Some word
          → (z : ℕ) → z < suc n → last_seen (id.Waiting (i + z)) m.seen ≡ Some (slice_index (word ∷ words) z)
      each words m later first zero h = let same : i + 0 ≡ i = omega arith in ap (λ u. last_seen (id.Waiting u) m.seen) same ∙ first
      each words m later first (suc z) h = let same : i + suc z ≡ i + 1 + z = omega arith in
          ap (λ u. last_seen (id.Waiting u) m.seen) same ∙ later z (omega (arith, h))

  -- after the looks, those who wait are listed
  remain : (words : List ℕ) (k l : ThreadView) → Looked 0 heap.shape.threads words k l → Remain heap.shape.threads l o (by_age (waiters o 0 words))
  remain words k l a = all_remain heap.shape.threads l o words a.many
      (λ z h. let same : z ≡ 0 + z = omega arith in ap (λ u. last_seen (id.Waiting u) l.seen) same ∙ a.saw z h)

  nobody : (k : ThreadView) → Remain heap.shape.threads k o [] → SawNobody heap.shape.threads k o
  nobody k left = inr (λ t h. let a = left.sights t h in (a.0, a.1, fails _ (λ waits. absurd (a.2 waits))))

  -- TELLING the first of those who remain
  module _ (k : ThreadView) (x : Telling k) (p : ℕ × ℕ) (ps : List (ℕ × ℕ)) (told : ℕ)
      (before : HasNotified k o told) (left : Remain heap.shape.threads k o (p ∷ ps)) where
    may_wake : SoundWorldWith heap k → MayWake heap.shape k o p.0 told
    may_wake v = record {
      runs = x.runs;
      ready = telling_ready k x v;
      holds = x.holds;
      object = reference k x;
      told = before;
      oldest = oldest_seen heap.shape.threads k o p ps left;
    }

    -- which isn't the thread itself, so that its own waiting word stays
    wait_stays : SoundWorldWith heap k → cond (p.0 == k.thread) (wait_of (Notified o)) k.wait ≡ k.wait
    wait_stays v =
        let other_thread = other v.world v.objects k.thread o p.0 told (inside heap k v)
        (away heap k v (λ s y. MayWake s y o p.0 told) (may_wake v)) (fits_here heap k v x.runs) in
        ap (λ (b : Bool). cond b (wait_of (Notified o)) k.wait) (ne_eqb p.0 k.thread other_thread)

  few : (k : ThreadView) → Telling k → SoundWorldWith heap k → o < 2 ^ 15
  few k x v = let a = limits_here heap k v x.runs in let objects = a.objects in let object = x.object in omega (arith, objects, object)

  -- NOBODY is told
  pub publishes_does : {A : Type 0} (answer : A) (told : Entry) (k : ThreadView) → Telling k → k.stage ≡ Settled → MayTell heap.shape k told → IsOwnEntry k told
      → SawNone k told → is_ending told ≡ false
      → AllByRecursion (KnowsBy heap.shape k) (hands_on told)
      → Does heap false (publish_steps told e (local_of k) >>= (λ u. done answer)) k (λ b r l. AtRest heap.shape l)
  publishes_does answer told k x calm tells own_entry none unending hands =
      hitting heap false _ _ k _ (λ n. refl)
      (λ i. publishes heap k e told (λ v. (
        record { runs = x.runs; calm = calm; ready = telling_ready k x v; tells = tells; room = x.room; own_entry = own_entry },
        none,
      )) hands)
      (λ n i was. answers heap false _ _ _ (rests heap.shape _ refl x.unasks x.unchecks (logged_carries k.log _ k.wait _ x.still x.live unending x.untold)))

  -- NOTIFY
  first_does : (ps : List (ℕ × ℕ)) (k : ThreadView) → Telling k → k.stage ≡ Settled → IsUnfinished e.unfinished op.Notify o → Remain heap.shape.threads k o ps
      → Does heap false (notify_first ps e (local_of k) o) k (λ b r l. AtRest heap.shape l)
  first_does [] k x calm notifies left =
      publishes_does None (entry.Notify o None) k x calm (x.holds, reference k x, nobody k left)
      (record { operation = inr (x.mine ∙ notifies); shot = tt }) x.unbiased refl tt
  first_does (p ∷ ps) k x calm notifies left =
      hitting heap false _ _ k _ (λ n. refl) (λ i. notifies_rule heap k e o p.0 (λ v. record {
        wakes = may_wake k x p ps 0 (inl (calm, refl)) left v;
        calm = calm;
        room = x.room;
        own_entry = record { operation = inr (x.mine ∙ notifies); shot = tt };
      })) (λ n i was. answers heap false _ _ _ (rests heap.shape _ refl x.unasks x.unchecks (logged_carries k.log _ _ _ x.still x.live refl
      (λ z. ap (λ y. says_notified y z) (wait_stays k x p ps 0 (inl (calm, refl)) left was.stands) ∙ x.untold z))))

  pub monitor_notify_does : (k : ThreadView) → Telling k → k.stage ≡ Settled → IsUnfinished e.unfinished op.Notify o
      → Does heap false (monitor_notify_steps e (local_of k) heap.shape.threads o) k (λ b r l. AtRest heap.shape l)
  monitor_notify_does k x calm notifies =
      going heap (look_steps e heap.shape.threads) (λ words. notify_first (by_age (waiters o 0 words)) e (local_of k) o) k _ (
      follows heap false _ k _ _ (looks_do heap.shape.threads 0 k (omega arith) x calm) (λ b words l a.
      subst (λ z. Does heap false (notify_first (by_age (waiters o 0 words)) e z o) l (λ b r l. AtRest heap.shape l)) a.local
      (first_does (by_age (waiters o 0 words)) l a.tells a.calm notifies (remain words k l a))))

  -- NOTIFYALL
  each_does : (ps : List (ℕ × ℕ)) (p : ℕ × ℕ) (told : ℕ) (k : ThreadView) → Telling k → HasNotified k o told → IsUnfinished e.unfinished op.NotifyAll o
      → Remain heap.shape.threads k o (p ∷ ps)
      → Does heap false (notify_each (p ∷ ps) e o told) k (λ b r l. AtRest heap.shape l)
  each_does [] p told k x before notifies left =
      hitting heap false _ _ k _ (λ n. refl) (λ i. notifies_all_rule heap k e o p.0 told (λ v. record {
        wakes = may_wake k x p [] told before left v;
        last = no_other_seen heap.shape.threads k o p left;
        room = x.room;
        own_entry = record { operation = inr (x.mine ∙ notifies); shot = tt };
      })) (λ n i was. answers heap false _ _ _ (rests heap.shape _ refl x.unasks x.unchecks (logged_carries k.log _ _ _ x.still x.live refl
      (λ z. ap (λ y. says_notified y z) (wait_stays k x p [] told before left was.stands) ∙ x.untold z))))
  each_does (q ∷ ps) p told k x before notifies left =
      let tell = wake_next_plan e o p.0 (told + 1) in
      hitting heap false tell _ k _ (λ n. refl)
      (λ i. wakes_next_rule heap k e o p.0 told (λ v. record { wakes = may_wake k x p (q ∷ ps) told before left v; goes_on = inl (sym x.mine) })
      (inl (sym x.mine))) (λ n i was.
      let l = known_hit heap.shape heap.start tell n k in
      each_does ps q (told + 1) l
      (record {
        works = x.works;
        holds = x.holds;
        mine = refl;
        check = refl;
        untold = λ z. ap (λ y. says_notified y z) (wait_stays k x p (q ∷ ps) told before left was.stands) ∙ x.untold z;
        telling = x.telling;
        unbiased = (x.unbiased.0, saw_older heap tell n k (id.Mark o) i refl refl ∙ x.unbiased.1, x.unbiased.2);
      })
      (inr refl) notifies
      (others_remain heap.shape.threads k l o (wait_of (Notified o)) p (q ∷ ps) (λ z. saw_any heap tell n k (id.Waiting z) i refl)
      (ap (λ f. waits_form f o) (read_wait-wait_of (Notified o) (few k x was.stands))) left))

  listed_does : (ps : List (ℕ × ℕ)) (k : ThreadView) → Telling k → k.stage ≡ Settled
      → IsUnfinished e.unfinished op.NotifyAll o → Remain heap.shape.threads k o ps
      → Does heap false (notify_listed ps e (local_of k) o) k (λ b r l. AtRest heap.shape l)
  listed_does [] k x calm notifies left =
      publishes_does 0 (entry.NotifyAll o 0) k x calm (x.holds, reference k x, nobody k left, refl)
      (record { operation = inr (x.mine ∙ notifies); shot = tt }) x.unbiased refl tt
  listed_does (p ∷ ps) k x calm notifies left =
      going heap (notify_each (p ∷ ps) e o 0) (λ u. done (length (p ∷ ps))) k _ (
      follows heap false _ k _ _ (each_does ps p 0 k x (inl (calm, refl)) notifies left) (λ b r l rest. answers heap false _ l _ rest))

  pub monitor_notify_all_does : (k : ThreadView) → Telling k → k.stage ≡ Settled → IsUnfinished e.unfinished op.NotifyAll o
      → Does heap false (monitor_notify_all_steps e (local_of k) heap.shape.threads o) k (λ b r l. AtRest heap.shape l)
  monitor_notify_all_does k x calm notifies =
      going heap (look_steps e heap.shape.threads) (λ words. notify_listed (by_age (waiters o 0 words)) e (local_of k) o) k _ (
      follows heap false _ k _ _ (looks_do heap.shape.threads 0 k (omega arith) x calm) (λ b words l a.
      subst (λ z. Does heap false (notify_listed (by_age (waiters o 0 words)) e z o) l (λ b r l. AtRest heap.shape l)) a.local
      (listed_does (by_age (waiters o 0 words)) l a.tells a.calm notifies (remain words k l a))))
