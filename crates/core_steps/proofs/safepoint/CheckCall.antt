-- A check whether the run is stuck: it looks at all threads at a safepoint, and halts or releases.
use Rattle.std.proofs.Common.{◌≡◌, ◌⊎◌, ℕ, zero, suc, ◌+◌, ◌<◌, ◌&&◌, ◌==◌, eq-eqb, not, Bool, true, false, cond, List, []}
use Rattle.std.proofs.Common.{◌∷◌, Option, Some, None, refl, sym, ap, ◌∙◌, subst, inl, inr, arith, zero-add, length}
use Rattle.mark_word.specs.declared.mark.MarkForm.TheVariants.{Inflated}
use Rattle.mark_word.specs.declared.wait.WaitForm.{WaitForm}
use Rattle.mark_word.specs.declared.wait.WaitForm.TheVariants as wait
use Rattle.mark_word.specs.Mark.{read_mark}
use Rattle.mark_word.specs.Owner.{read_owner}
use Rattle.mark_word.specs.Wait.{read_wait}
use Rattle.core_world.specs.declared.answer.Progress.{Progress}
use Rattle.core_world.specs.declared.answer.Progress.TheVariants.{Done, Pending}
use Rattle.core_world.specs.declared.word_id.WordId.TheVariants as id
use Rattle.core_world.specs.declared.heap_call.HeapCall.TheVariants.{Check}
use Rattle.core_world.specs.Threads.AtRest.{AtRest}
use Rattle.core_world.specs.Trees.Calls.{steps_of, may_begin}
use Rattle.core_world.specs.Words.Forms.{monitor_in, asks_in, waits_form, says_notified, notified_form, enters_on, enters_form, ended_form}
use Rattle.core_world.specs.Threads.ThreadView.{ThreadView, last_seen, start_of}
use Rattle.core_world.specs.Trees.LookSteps.{can_acquire, look_at_monitor, look_at_object, look_at_wait, some_live, none_goes_on, stands_still_steps}
use Rattle.core_world.specs.Trees.Operations.{and_then, check_ending}
use Rattle.core_world.specs.Trees.Plans.{CallContext, load}
use Rattle.core_world.specs.Clauses.Safepoints.{ends}
use Rattle.core_world.specs.Trees.SafepointSteps.{reached_word, halted_word, safepoint_steps}
use Rattle.core_world.specs.Steps.{known_hit}
use Rattle.core_world.specs.Trees.StepTree.{StepTree, done, ask, each_from, ◌>>=◌}
use Rattle.core_world.specs.Clauses.WordForms.{IsWait, IsMark}
use Rattle.core_world.proofs.enter_exit.OwnersShown.{inflated_form}
use Rattle.core_locks.specs.SafepointLaws.{SeesEnded, SeesHeldUp}
use Rattle.core_world.specs.Words.Shape.{monitor_count}
use Rattle.core_law.specs.Logic.{Heap, Does}
use Rattle.core_law.specs.Sound.{Finishes}
use Rattle.core_law.specs.Begins.{BeginsWell}
use Rattle.core_world.specs.declared.stage.Stage.TheVariants.{Settled}
use Rattle.core_world.specs.Trees.DeflateSteps.{deflate_steps}
use Rattle.core_steps.proofs.OwnParts.{still_carries, same_own}
use Rattle.core_steps.proofs.deflation.Deflations.{deflate_does}
use Rattle.core_steps.proofs.LawRules.{releases, halts}
use Rattle.core_steps.proofs.safepoint.SafepointLooks.{Reaches, keeps_look, Facts, each_does, going, reaches_on}
use Rattle.core_law.proofs.SafepointSights.{Seeing, seeing_all, is_as_seen, fits_reached, saw_there, still_seen, found_formed}
use Rattle.core_steps.proofs.Trees.{answers, chooses_then, follows, binds, hitting, finding}
use Rattle.core_steps.proofs.safepoint.Requests.{Stood, safepoint_does}
use Rattle.core_steps.proofs.Resting.{Carries, carried, rests, rests_checking}
use Rattle.core_steps.proofs.safepoint.SafeCalls.{closes, released_unasks}
use Rattle.core_steps.proofs.safepoint.SafeWords.{reached_there, halted_asks}
use Rattle.core_steps.proofs.Tests.{both, not_true}

-- what a look at thread u told
abbrev pub Told : ℕ → Option Bool → ThreadView → Type 0
Told u None l = SeesEnded l u
Told u (Some true) l = Unit {0}
Told u (Some false) l = SeesHeldUp l u

pub told_more : (u : ℕ) (a : Option Bool) (k l : ThreadView) → Seeing k l → Told u a k → Told u a l
told_more u None k l s (v, saw, ended) = (v, s.saw (id.Waiting u) v saw, ended)
told_more u (Some true) k l s x = tt
told_more u (Some false) k l s (o, v, saw, inl waits) = (o, v, s.saw (id.Waiting u) v saw, inl waits)
told_more u (Some false) k l s (o, v, saw, inr (how, (mark, m, owner, saw_mark, is, saw_owner, shut))) =
    (o, v, s.saw (id.Waiting u) v saw, inr (how, (mark, m, owner, s.saw (id.Mark o) mark saw_mark, is, s.saw (id.Owner m) owner saw_owner, shut)))

module _ (heap : Heap) (e : CallContext) (me : ℕ) (checks : e.check ≡ true) where
  abbrev pub After : ThreadView → ℕ → Option Bool → ThreadView → Type 0
  After k0 u a l = Reaches me l e × Seeing k0 l × Told u a l

  -- the monitor of an object that the thread enters, or was notified of
  monitor_does : (k0 k : ThreadView) (u o word mark m : ℕ) → Reaches me k e → Seeing k0 k
      → last_seen (id.Waiting u) k.seen_at_safepoint ≡ Some word → (says_notified word o ≡ true) ⊎ (enters_on word o ≡ true)
      → last_seen (id.Mark o) k.seen_at_safepoint ≡ Some mark → monitor_in mark ≡ Some m → m < monitor_count heap.shape
      → Does heap false (look_at_monitor (Some (Inflated m)) e u) k (λ b a l. After k0 u a l)
  monitor_does k0 k u o word mark m r s saw how saw_mark is there =
      hitting heap false _ _ k _ (λ n. refl)
      (λ i. keeps_look heap me e (id.Owner m) k r (λ v. there))
      (λ owner i was.
      let l = known_hit heap.shape heap.start (load e (id.Owner m)) owner k in
      let seeing : Seeing k l = still_seen heap e (id.Owner m) k owner r.reached refl was in
      answers heap false (Some (can_acquire (read_owner owner) u)) l _ (
        reaches_on heap me e (id.Owner m) owner k r,
        seeing_all k0 k l s seeing,
        cases owner l seeing (saw_there heap e (id.Owner m) k owner refl) (can_acquire (read_owner owner) u) refl,
      ))
    where
      cases : (owner : ℕ) (l : ThreadView) → Seeing k l → last_seen (id.Owner m) l.seen_at_safepoint ≡ Some owner
          → (b : Bool) → can_acquire (read_owner owner) u ≡ b → Told u (Some b) l
      cases owner l seeing saw_owner true unlocked = tt
      cases owner l seeing saw_owner false shut =
          (o, word, seeing.saw (id.Waiting u) word saw, inr (how, (mark, m, owner, seeing.saw (id.Mark o) mark saw_mark, is, saw_owner, shut)))

  object_does : (k0 k : ThreadView) (u o word : ℕ) → Reaches me k e → Seeing k0 k
      → last_seen (id.Waiting u) k.seen_at_safepoint ≡ Some word → (says_notified word o ≡ true) ⊎ (enters_on word o ≡ true)
      → o < length heap.shape.objects → Does heap false (look_at_object e u o) k (λ b a l. After k0 u a l)
  object_does k0 k u o word r s saw how object =
      hitting heap false _ _ k _ (λ n. refl) (λ i. keeps_look heap me e (id.Mark o) k r (λ v. object)) (λ mark i was.
      let l = known_hit heap.shape heap.start (load e (id.Mark o)) mark k in
      let seeing : Seeing k l = still_seen heap e (id.Mark o) k mark r.reached refl was in
      let v = was.stands in
      let fits = fits_reached heap k v r.reached r.calm in
      let there : v.world.words (id.Waiting u) ≡ word = is_as_seen heap k v r.reached (id.Waiting u) word saw in
      let inflated : (m : ℕ) × (monitor_in (v.world.words (id.Mark o)) ≡ Some m) = elim how [
        | inl a ↦ elim (fits.waits.told u o (ap (λ n. says_notified n o) there ∙ a)) [
          | inl b ↦ fits.waits.inflated o u (inr b)
          | inr b ↦ fits.waits.inflated o u (inl b.0)
        ]
        | inr a ↦ (fits.waits.entering u o (ap (λ n. enters_on n o) there ∙ a)).1
      ] in
      let is : monitor_in mark ≡ Some inflated.0 = ap monitor_in (sym was.found) ∙ inflated.1 in
      subst (λ f. Does heap false (look_at_monitor f e u) l (λ b a l. After k0 u a l)) (sym (inflated_form (read_mark mark) inflated.0 is))
      (monitor_does k0 l u o word mark inflated.0 (reaches_on heap me e (id.Mark o) mark k r)
      (seeing_all k0 k l s seeing) (seeing.saw (id.Waiting u) word saw) how (saw_there heap e (id.Mark o) k mark refl) is
      (subst (IsMark heap.shape) (inflated_form (read_mark mark) inflated.0 is) (found_formed heap k (id.Mark o) mark refl was))))

  wait_does : (f : Option WaitForm) (k0 k : ThreadView) (u word : ℕ) → read_wait word ≡ f → IsWait heap.shape f
      → Reaches me k e → Seeing k0 k → last_seen (id.Waiting u) k.seen_at_safepoint ≡ Some word
      → Does heap false (look_at_wait f e u) k (λ b a l. After k0 u a l)
  wait_does None k0 k u word reads form r s saw = absurd form
  wait_does (Some wait.Ready) k0 k u word reads form r s saw = answers heap false _ k _ (r, s, tt)
  wait_does (Some (wait.Entering o)) k0 k u word reads form r s saw =
      object_does k0 k u o word r s saw (inr (ap (λ f. enters_form f o) reads ∙ eq-eqb o o refl)) form
  wait_does (Some (wait.Waiting o x)) k0 k u word reads form r s saw =
      answers heap false _ k _ (r, s, (o, word, saw, inl (ap (λ f. waits_form f o) reads ∙ eq-eqb o o refl)))
  wait_does (Some (wait.Notified o)) k0 k u word reads form r s saw =
      object_does k0 k u o word r s saw (inl (ap (λ f. notified_form f o) reads ∙ eq-eqb o o refl)) form
  wait_does (Some wait.Ended) k0 k u word reads form r s saw = answers heap false _ k _ (r, s, (word, saw, ap ended_form reads))

  abbrev pub turn_of : ℕ → StepTree (Option Bool)
  turn_of t = ask (load e (id.Waiting t)) >>= (λ word. look_at_wait (read_wait word) e t)

  pub turn_does : (u : ℕ) (k : ThreadView) → u < heap.shape.threads → Reaches me k e → Does heap false (turn_of u) k (λ b a l. After k u a l)
  turn_does u k thread r =
      hitting heap false _ _ k _ (λ n. refl) (λ i. keeps_look heap me e (id.Waiting u) k r (λ v. thread)) (λ word i was.
      wait_does (read_wait word) k _ u word refl (found_formed heap k (id.Waiting u) word refl was) (reaches_on heap me e (id.Waiting u) word k r)
      (still_seen heap e (id.Waiting u) k word r.reached refl was) (saw_there heap e (id.Waiting u) k word refl))

  here_stuck : (i : ℕ) (a : Option Bool) (xs : List (Option Bool)) (l : ThreadView) → Told i a l → none_goes_on (a ∷ xs) ≡ true → SeesEnded l i ⊎ SeesHeldUp l i
  here_stuck i None xs l told none = inl told
  here_stuck i (Some true) xs l told none = absurd (cc none)
  here_stuck i (Some false) xs l told none = inr told

  then_stuck : (a : Option Bool) (xs : List (Option Bool)) → none_goes_on (a ∷ xs) ≡ true → none_goes_on xs ≡ true
  then_stuck None xs none = none
  then_stuck (Some true) xs none = absurd (cc none)
  then_stuck (Some false) xs none = none

  pub all_stuck : (i n : ℕ) (xs : List (Option Bool)) (l : ThreadView)
      → Facts heap turn_of (λ k. Reaches me k e) Told told_more heap.shape.threads turn_does i n xs l → none_goes_on xs ≡ true → (t : ℕ) → t < n
      → SeesEnded l (i + t) ⊎ SeesHeldUp l (i + t)
  all_stuck i zero xs l facts none t h = absurd (omega arith)
  all_stuck i (suc n) [] l facts none t h = absurd facts
  all_stuck i (suc n) (a ∷ xs) l facts none zero h =
      let same : i ≡ i + 0 = omega arith in subst (λ z. SeesEnded l z ⊎ SeesHeldUp l z) same (here_stuck i a xs l facts.0 none)
  all_stuck i (suc n) (a ∷ xs) l facts none (suc t) h =
      let same : i + 1 + t ≡ i + suc t = omega arith in
      subst (λ z. SeesEnded l z ⊎ SeesHeldUp l z) same (all_stuck (i + 1) n xs l facts.1 (then_stuck a xs none) t (omega arith))

  -- the halt, or the release
  ending_does : (b : Bool) (k : ThreadView) → Reaches me k e → (b ≡ true → (t : ℕ) → t < heap.shape.threads → SeesEnded k t ⊎ SeesHeldUp k t)
      → Does heap false (check_ending b e k.thread) k (λ b r l. AtRest heap.shape l)
  ending_does true k r stuck =
      finding heap false _ _ k _ (λ n was. eq-eqb n (reached_word k.thread) (reached_there heap k n was.stands was.found r.reached))
      (λ i. halts heap k (record e { check = false }) (record {
        reached = r.reached;
        calm = r.calm;
        live = r.live;
        stuck = stuck refl;
        still = r.carries.still;
        goes_on = r.mine;
      })) (λ n i was.
      let there = reached_there heap k n was.stands was.found r.reached in
      chooses_then heap false (n == reached_word k.thread) _ _ _ _ _
      (λ hit. answers heap false _ _ _ (rests heap.shape _ refl
      (ap (λ (b : Bool). asks_in (cond b halted_word n) k.thread) (eq-eqb n (reached_word k.thread) there) ∙ halted_asks k.thread)
      refl r.carries))
      (λ miss. absurd (cc (miss, eq-eqb n (reached_word k.thread) there))))
  ending_does false k r stuck =
      finding heap false _ _ k _ (λ n was. eq-eqb n (reached_word k.thread) (reached_there heap k n was.stands was.found r.reached))
      (λ i. releases heap k (record e { check = false }) (record { reached = r.reached; calm = r.calm; still = r.carries.still; goes_on = r.mine })) (λ n i was.
      let there = reached_there heap k n was.stands was.found r.reached in
      chooses_then heap false (n == reached_word k.thread) _ _ _ _ _
      (λ hit. answers heap false _ _ _ (rests heap.shape _ refl (released_unasks heap k n was.stands there) refl r.carries))
      (λ miss. absurd (cc (miss, eq-eqb n (reached_word k.thread) there))))

  abbrev pub checked : Progress (Unit {0}) → StepTree (Progress Bool)
  checked progress = and_then progress (λ _. do
    still ← stands_still_steps e heap.shape
    _ ← deflate_steps heap.shape e Settled
    check_ending still e me)

  -- The idle monitors are given back. Whoever was seen to be stuck is so still.
  abbrev deflated : Bool → StepTree (Progress Bool)
  deflated still = deflate_steps heap.shape e Settled >>= (λ u. check_ending still e me)

  deflating_does : (still : Bool) (k : ThreadView) → Reaches me k e → (still ≡ true → (t : ℕ) → t < heap.shape.threads → SeesEnded k t ⊎ SeesHeldUp k t)
      → Does heap false (deflated still) k (λ b r l. AtRest heap.shape l)
  deflating_does still k r stuck =
      going heap (deflate_steps heap.shape e Settled) (λ u. check_ending still e me) k _ (
      follows heap false _ k _ _ (deflate_does (record { heap = heap; call = e; before = k; stage = Settled; plain = refl }) k (record {
        reached = r.reached;
        stopped = r.stopped;
        stands = r.calm;
        check = r.check;
        mine = r.mine;
        still = r.carries.still;
        own = same_own _;
      })) (λ b u l x.
      let y = x.0 in
      let now : Reaches me l e = record {
        number = ap (λ z. z.thread) y.local ∙ r.number;
        reached = y.reached;
        stopped = y.stopped;
        calm = y.stands;
        check = y.check;
        mine = y.mine;
        live = ap (λ z. ends z.log) y.local ∙ r.live;
        carries = still_carries k l y.own (r.carries.still ∙ sym y.still) r.carries;
      } in
      subst (λ t. Does heap false (check_ending still e t) l (λ b r l. AtRest heap.shape l)) now.number
      (ending_does still l now (λ yes t h. x.1.held t h (stuck yes t h)))))

  both_hold : (a b : Bool) → (a && b) ≡ true → b ≡ true
  both_hold true b e = e
  both_hold false b e = absurd (cc e)

  -- at the reached safepoint
  standing_does : (k : ThreadView) → Reaches me k e → Does heap false (checked (Done tt)) k (λ b r l. AtRest heap.shape l)
  standing_does k r =
      going heap (stands_still_steps e heap.shape) (λ still. deflated still) k _ (
      going heap (each_from 0 heap.shape.threads turn_of) (λ xs. done (some_live xs && none_goes_on xs)) k _ (
      follows heap false _ k _ _ (each_does heap turn_of
      (λ k. Reaches me k e) Told told_more heap.shape.threads turn_does 0 heap.shape.threads k (omega arith) r) (λ b xs l x.
      answers heap false (some_live xs && none_goes_on xs) l _ (
      deflating_does (some_live xs && none_goes_on xs) l x.0
      (λ yes t h. subst (λ z. SeesEnded l z ⊎ SeesHeldUp l z) (zero-add t)
      (all_stuck 0 heap.shape.threads xs l x.2 (both_hold (some_live xs) (none_goes_on xs) yes) t h))))))

  then_checked : (k0 : ThreadView) (b : Bool) (r : Progress (Unit {0})) (k : ThreadView)
      → (b ≡ false) × Stood heap e me k0 r k → Does heap b (checked r) k (λ b r l. AtRest heap.shape l)
  then_checked k0 b (Done x) k s = subst (λ z. Does heap z (checked (Done tt)) k (λ b r l. AtRest heap.shape l)) (sym s.0) (standing_does k s.1.0)
  then_checked k0 b (Pending why) k s = answers heap b _ k _ s.1

  -- the whole check: by a thread whose request for it stands, or by one that runs
  pub check_does : (k : ThreadView) → k.thread ≡ me → AtRest heap.shape k → ends k.log ≡ false → e.unfinished ≡ k.unfinished
      → (k.requesting ≡ true → k.checking ≡ true) → (k.requesting ≡ false → k.running ≡ true)
      → Does heap true (safepoint_steps e k.thread k.requesting >>= checked) k (λ b r l. AtRest heap.shape l)
  check_does k number rest live mine asking running =
      binds heap true (safepoint_steps e k.thread k.requesting) checked k _ (
      follows heap true _ k _ _ (safepoint_does heap e me k
      (λ l a since unreached. rests_checking heap.shape l a.calm a.stopped a.asks
      (sym a.check ∙ checks) (subst (Carries l.moving l.log l.wait l.holds l.shots) a.mine a.carries))
      true (record {
        number = number;
        rest = rest;
        live = live;
        carries = subst (Carries k.moving k.log k.wait k.holds k.shots) (sym mine) (carried heap.shape k rest);
        asking = λ asks. (checks ∙ sym (asking asks), mine);
        running = λ free. (running free, inl mine);
        begins = inl mine;
      }))
      (λ b r l x. then_checked k b r l x))

check_finishes : (heap : Heap) (k : ThreadView) → AtRest heap.shape k → may_begin heap.shape heap.biasing k Check ≡ true
    → Finishes heap true (steps_of heap.shape Check (start_of heap.start k)) k
unfolding steps_of
check_finishes heap k rest may =
    let m = both (not (ends k.log)) (cond k.requesting k.checking k.running) may in
    let e : CallContext = record { task = Check; unfinished = k.unfinished; check = true } in
    closes heap true _ k (check_does heap e k.thread refl k refl rest (not_true (ends k.log) m.0) refl
    (λ asks. ap (λ (b : Bool). cond b k.checking k.running) (sym asks) ∙ m.1)
    (λ free. ap (λ (b : Bool). cond b k.checking k.running) (sym free) ∙ m.1))

pub check_begins : (heap : Heap) → BeginsWell heap Check
check_begins heap = record { does = λ k v rest may. check_finishes heap k rest may }
