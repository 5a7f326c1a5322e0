-- Hash begins well.
use Rattle.std.proofs.Common.{◌≡◌, ◌⊎◌, ℕ, ◌+◌, ◌<◌, ◌==◌, eq-eqb, eqb-true, Bool, true, false, cond, length}
use Rattle.std.proofs.Common.{slice_index, Option, Some, None, refl, sym, ap, ◌∙◌, subst, inl, inr, arith, ◌≤◌}
use Rattle.mark_word.specs.declared.mark.MarkForm.{MarkForm}
use Rattle.mark_word.specs.declared.mark.MarkForm.TheVariants.{Inflating, Neutral, Anonymous, Biased, Locked, Inflated, Marked}
use Rattle.mark_word.specs.Mark.{mark_of, read_mark}
use Rattle.plain_monitor.specs.Limits.{most_holds}
use Rattle.plain_monitor.specs.declared.entry.Entry.TheVariants as entry
use Rattle.core_world.specs.declared.act.Act.TheVariants.{Load}
use Rattle.core_world.specs.declared.answer.Progress.TheVariants.{Done, Pending}
use Rattle.core_world.specs.declared.answer.PendingCause.TheVariants as why
use Rattle.core_world.specs.declared.word_id.WordId.{WordId}
use Rattle.core_world.specs.declared.word_id.WordId.TheVariants as id
use Rattle.core_world.specs.declared.stage.Stage.TheVariants.{Settled}
use Rattle.core_world.specs.declared.heap_call.Operation.TheVariants as op
use Rattle.core_world.specs.declared.heap_call.HeapCall.TheVariants.{Hash}
use Rattle.core_world.specs.declared.heap_call.Unfinished.{Unfinished}
use Rattle.core_world.specs.Threads.AtRest.{AtRest}
use Rattle.core_world.specs.Trees.Calls.{steps_of, may_begin, may_operate}
use Rattle.core_world.specs.Threads.References.{has_reference}
use Rattle.core_world.specs.Words.Forms.{is_biased, is_biased_form, monitor_form, hash_form, hash_in, hold_word, says_notified}
use Rattle.core_world.specs.Trees.HashSteps.{NextDraw, find_hash_plan, draw_plan, draw_steps, hash_monitor_steps, hash_displaced_steps}
use Rattle.core_world.specs.Trees.HashSteps.{hash_inflated, hash_inflate_steps, hash_unless, hash_mark_steps, hash_header_steps}
use Rattle.core_world.specs.Threads.ThreadView.{ThreadView, Local, Still, local_of, start_of, last_seen, draw_of}
use Rattle.core_world.specs.Clauses.Lengths.{log_limit}
use Rattle.core_world.specs.Trees.MonitorSteps.{inflate_steps}
use Rattle.core_world.specs.Words.Names.{same_name}
use Rattle.core_world.specs.Trees.Operations.{and_then, goes_on_with, no_bias, unbias_steps}
use Rattle.core_world.specs.Trees.Plans.{CallContext, call_context, done_with, pending_for}
use Rattle.core_world.specs.Clauses.Safepoints.{IsUnfinished, ends}
use Rattle.core_world.specs.RevocationRules.{first_place}
use Rattle.core_world.specs.Steps.{is_idle, known_hit, known_miss, with_entry, holds_after, wait_after}
use Rattle.core_world.specs.Trees.StepTree.{◌>>=◌}
use Rattle.core_world.specs.Clauses.WordForms.{IsMark}
use Rattle.core_world.proofs.ActsLook.{runs_load, asks_load, holds_load, wait_load}
use Rattle.core_world.proofs.Naming.{same_named}
use Rattle.core_locks.specs.HashLaws.{MayHash, HasRecord, IsItsNext}
use Rattle.core_locks.specs.Knowing.{SawInflated}
use Rattle.core_locks.proofs.hash.HashPlaces.{record_is_first}
use Rattle.bias_law.specs.Steps.{SawUnbiased}
use Rattle.core_world.specs.Locks.{hold_count}
use Rattle.core_locks.proofs.enter_exit.MarkHolds.{standing_names}
use Rattle.core_law.proofs.Places.{bottom_here}
use Rattle.core_law.specs.Logic.{Heap, SoundWorldWith, Keeps, Does}
use Rattle.core_law.specs.Sound.{Finishes}
use Rattle.core_law.specs.Begins.{BeginsWell}
use Rattle.core_steps.proofs.WorksOn.{MayWorkOn}
use Rattle.core_steps.proofs.Facts.{ready_here, Knows}
use Rattle.core_law.proofs.Standing.{fits_here, home, away}
use Rattle.core_steps.proofs.hash.HashRules.{finds_mark_rule, finds_record_rule, finds_header_rule, draws_mark_rule, draws_header_rule}
use Rattle.core_steps.proofs.monitor.Inflations.{SawNone, Unseen, Apart, form_found, inflate_does}
use Rattle.core_steps.proofs.Resting.{Carries, rests, live_carries, logged_carries}
use Rattle.core_steps.proofs.safepoint.SafeCalls.{closes}
use Rattle.core_steps.proofs.SeenSteps.{saw_newest, saw_any, saw_older}
use Rattle.core_steps.proofs.enter_exit.StackExits.{unbiased_here}
use Rattle.core_steps.proofs.Tests.{both, refers, operates, is_of_kind}
use Rattle.core_steps.proofs.Trees.{answers, binds, chooses, hitting, swapping}
use Rattle.core_steps.proofs.bias.Unbiases.{unbias_does, starts_unbias}

-- no other operation is unfinished
unwaiting_hash : (u : Option Unfinished) (o : ℕ) → IsUnfinished u op.Hash o → (i : ℕ) → IsUnfinished u op.Wait i → ⊥
unwaiting_hash u o e i h = let a = ap (is_of_kind op.Hash) (sym e ∙ h) in cc a

unentering_hash : (u : Option Unfinished) (o : ℕ) → IsUnfinished u op.Hash o → (i : ℕ) → IsUnfinished u op.Enter i → ⊥
unentering_hash u o e i h = let a = ap (is_of_kind op.Hash) (sym e ∙ h) in cc a

undumped_hash : (u : Option Unfinished) (o : ℕ) → IsUnfinished u op.Hash o → IsUnfinished u op.Dump 0 → ⊥
undumped_hash u o e h = let a = ap (is_of_kind op.Hash) (sym e ∙ h) in cc a

-- The call is a hash of o. What holds where it begins: of the object, and of what it takes of its thread's knowledge.
record IsHashOf (heap : Heap) (e : CallContext) (o : ℕ) (here : Local) : Type 0 where
  hashes : IsUnfinished e.unfinished op.Hash o
  may : MayWorkOn heap here.log e o
  open may use *
  untold : (i : ℕ) → says_notified here.wait i ≡ false

module _ (heap : Heap) (e : CallContext) (o : ℕ) (here : Local) (draws : ℕ) (start : IsHashOf heap e o here) where
  -- what the thread counts on all the way, until it logs its entry
  record Hashes (k : ThreadView) : Type 0 where
    runs : k.running ≡ true
    unasks : k.requesting ≡ false
    still : k.moving ≡ Still
    calm : k.stage ≡ Settled
    check : e.check ≡ k.checking
    mine : k.unfinished ≡ e.unfinished
    same : local_of k ≡ here
    draws_are : k.draws ≡ draws

  abbrev Rests : {A : Type 0} → Bool → A → ThreadView → Type 0
  Rests b a l = AtRest heap.shape l

  abbrev draw : NextDraw
  draw = record { number = draws + 1; value = draw_of heap.start here.thread (draws + 1) }

  module _ (k : ThreadView) (x : Hashes k) where
    hash_here : IsUnfinished k.unfinished op.Hash o
    hash_here = x.mine ∙ start.hashes

    live_here : ends k.log ≡ false
    live_here = ap (λ z. ends z.log) x.same ∙ start.live

    untold_here : (i : ℕ) → says_notified k.wait i ≡ false
    untold_here i = ap (λ z. says_notified z.wait i) x.same ∙ start.untold i

    known_here : Knows heap k.log o
    known_here = subst (λ z. Knows heap z.log o) (sym x.same) start.known

    may_hash : SoundWorldWith heap k → MayHash heap.shape k o
    may_hash v = record {
      runs = x.runs;
      calm = x.calm;
      ready = ready_here heap k v x.runs (unwaiting_hash k.unfinished o hash_here) (unentering_hash k.unfinished o hash_here) untold_here live_here;
      object = record { within = start.object; known = known_here };
      room = subst (λ z. length z.log < log_limit) (sym x.same) start.room;
      own_entry = λ value drawn. record { operation = inr hash_here; shot = tt };
    }

    next_here : IsItsNext heap.start k draw
    next_here = record {
      number = ap (λ n. n + 1) (sym x.draws_are);
      value = λ i. draw_of heap.start (sym (ap (λ z. z.thread) x.same) i) (sym x.draws_are i + 1);
    }

    -- where the hash goes on in another call
    hash_rests : AtRest heap.shape k
    hash_rests = rests heap.shape k x.calm x.unasks (sym x.check ∙ start.unchecks)
        (live_carries k.log k.wait k.holds k.unfinished x.still live_here
        (λ i h. absurd (unentering_hash k.unfinished o hash_here i h)) (undumped_hash k.unfinished o hash_here) untold_here)

  -- A LOAD that finds no hash leaves all that, and after one that finds a hash the thread is at rest.
  after_none : (at : WordId) (n : ℕ) (k : ThreadView) → Hashes k → hash_in n ≡ 0 → Hashes (known_hit heap.shape heap.start (find_hash_plan e at o) n k)
  after_none at n k x none =
      let test = eq-eqb (hash_in n) 0 none in
      record {
        runs = runs_load at n k ∙ x.runs;
        unasks = asks_load at n k ∙ x.unasks;
        still = x.still;
        calm = refl;
        check = refl;
        mine = ap (λ (b : Bool). cond b e.unfinished None) test;
        same = (λ i. record {
          thread = k.thread;
          log = cond (test i) k.log (with_entry (entry.Hash o (hash_in n) None) n k.log);
          holds = holds_load at k i;
          wait = wait_load at k i;
        }) ∙ x.same;
        draws_are = x.draws_are;
      }

  after_found : (at : WordId) (n : ℕ) (k : ThreadView) → Hashes k → (hash_in n == 0) ≡ false
      → AtRest heap.shape (known_hit heap.shape heap.start (find_hash_plan e at o) n k)
  after_found at n k x some =
      let log = with_entry (entry.Hash o (hash_in n) None) n k.log in
      let alone : Carries k.moving log k.wait k.holds k.shots None = logged_carries k.log _ k.wait k.holds x.still (live_here k x) refl (untold_here k x) in
      let waits : Carries k.moving log (wait_after at Load k) k.holds k.shots None =
      subst (λ w. Carries k.moving log w k.holds k.shots None) (sym (wait_load at k)) alone in
      let holds : Carries k.moving log (wait_after at Load k) (holds_after at Load k) k.shots None =
      subst (λ h. Carries k.moving log (wait_after at Load k) h k.shots None) (sym (holds_load at k)) waits in
      rests heap.shape _ refl (asks_load at n k ∙ x.unasks) start.unchecks
      (subst (λ (b : Bool). Carries k.moving (cond b k.log log) (wait_after at Load k)
      (holds_after at Load k) k.shots (cond b e.unfinished None)) (sym some) holds)

  -- THE DRAW
  draw_does : (at : WordId) (header : ℕ) (k : ThreadView) → Hashes k → Keeps heap (draw_plan e draw at o header) k
      → ((n : ℕ) → AtRest heap.shape (known_hit heap.shape heap.start (draw_plan e draw at o header) n k))
      → Does heap false (draw_steps e draw at o header) k Rests
  draw_does at header k x keeps drawn =
      swapping heap false (draw_plan e draw at o header) header (mark_of (Neutral draw.value 0))
      (λ n. done_with draw.value) (λ n. pending_for (why.Raced header n)) k Rests refl (λ i. keeps)
      (λ n i was h. answers heap false (Done draw.value) _ Rests (drawn n))
      (λ n i was h. answers heap false (Pending (why.Raced header n)) _ Rests (hash_rests (known_miss heap.shape heap.start (draw_plan e draw at o header) n k)
      (record { runs = x.runs; unasks = x.unasks; still = x.still; calm = x.calm; check = x.check; mine = x.mine; same = x.same; draws_are = x.draws_are })))

  -- BY THE MONITOR, which a mark names that was seen
  monitor_does : (k : ThreadView) (m : ℕ) → Hashes k → SawInflated k o m → Does heap false (hash_monitor_steps e draw o m) k Rests
  monitor_does k m x saw =
      let look = find_hash_plan e (id.Header m) o in
      hitting heap false look _ k _ (λ n. refl) (λ i. finds_header_rule heap k e o m (may_hash k x) saw (inl (sym x.mine)) (inl (sym x.mine))) (λ header i was.
      let l = known_hit heap.shape heap.start look header k in
      chooses heap false (hash_in header == 0) _ _ l _
      (λ none.
      let bare = eqb-true (hash_in header) 0 none in
      let y = after_none (id.Header m) header k x bare in
      draw_does (id.Header m) header l y
      (draws_header_rule heap l e draw o m header (may_hash l y) (saw.0, saw_any heap look header k (id.Mark o) i refl ∙ saw.1, saw.2) bare (next_here l y))
      (λ n. rests heap.shape _ refl y.unasks start.unchecks (logged_carries l.log _ l.wait l.holds y.still (live_here l y) refl (untold_here l y))))
      (λ some. answers heap false _ l _ (after_found (id.Header m) header k x some)))

  -- steps that leave those parts leave all that
  hashes_apart : (k l : ThreadView) → Apart heap e o k l → l.stage ≡ Settled → Hashes k → Hashes l
  hashes_apart k l a calm x = record {
    runs = a.running ∙ x.runs;
    unasks = a.requesting ∙ x.unasks;
    still = a.still;
    calm = calm;
    check = a.check;
    mine = a.mine;
    same = a.local ∙ x.same;
    draws_are = a.draws ∙ x.draws_are;
  }

  inflates_does : (kept : Option ℕ) (k : ThreadView) → Hashes k → k.kept ≡ kept → SawNone heap e o k
      → Unseen heap e o k → SawUnbiased k o → Does heap false (hash_inflate_steps heap.shape e kept draw o) k Rests
  inflates_does kept k x same none unseen unbiased =
      binds heap false (inflate_steps heap.shape e kept o) (hash_inflated e draw o) k _ (
      inflate_does heap e o kept k _
      (record {
        found = λ l m a calm saw none. monitor_does l m (hashes_apart k l a calm x) saw;
        pends = λ l w a calm. answers heap false _ l _ (hash_rests l (hashes_apart k l a calm x));
      })
      (record { runs = x.runs; still = x.still; object = start.object; known = known_here k x; mine = x.mine; check = x.check })
      x.calm none unseen (inr (refl, unbiased)) same)

  -- its record of the object, with depth 1
  abbrev OwnRecord : ThreadView → Type 0
  OwnRecord l = HasRecord l o (first_place o l.holds) × (first_place o l.holds < most_holds)

  -- BY THE RECORD of the thread, whose header may have the hash; else the object is inflated
  module _ (kept : Option ℕ) (k : ThreadView) (x : Hashes k) (same : k.kept ≡ kept)
      (none : SawNone heap e o k) (unseen : Unseen heap e o k) (unbiased : SawUnbiased k o) where
    abbrev own_word : WordId
    own_word = id.Displaced k.thread (first_place o k.holds)

    abbrev look_after : ℕ → ThreadView
    look_after header = known_hit heap.shape heap.start (find_hash_plan e own_word o) header k

    saw_own : (u q header : ℕ) (b : Bool) → same_name (id.Displaced u q) own_word ≡ b
        → last_seen (id.Displaced u q) (look_after header).seen ≡ cond b (Some header) (last_seen (id.Displaced u q) k.seen)
        → (last_seen (id.Displaced u q) (look_after header).seen ≡ None) ⊎ (u ≡ k.thread)
    saw_own u q header true e saw = let same = same_named (id.Displaced u q) own_word e in inr (cc same)
    saw_own u q header false e saw = elim (unseen u q) [ inl a ↦ inl (saw ∙ a) | inr a ↦ inr a ]

    unless_does : (header : ℕ) (b : Bool) → (hash_in header == 0) ≡ b → is_idle heap.shape k ≡ false
        → Does heap false (hash_unless (cond b None (Some (hash_in header))) heap.shape e kept draw o) (look_after header) Rests
    unless_does header true bare i =
        inflates_does kept (look_after header) (after_none own_word header k x (eqb-true (hash_in header) 0 bare)) same
        (λ m r saw. none m r (sym (saw_any heap (find_hash_plan e own_word o) header k (id.Recursions m) i refl) ∙ saw))
        (λ u q. saw_own u q header (same_name (id.Displaced u q) own_word) refl (saw_any heap (find_hash_plan e own_word o) header k (id.Displaced u q) i refl))
        (unbiased.0, saw_older heap (find_hash_plan e own_word o) header k (id.Mark o) i refl refl ∙ unbiased.1, unbiased.2)
    unless_does header false some i = answers heap false (Done (hash_in header)) (look_after header) Rests (after_found own_word header k x some)

    record_does : OwnRecord k → Does heap false (hash_displaced_steps e here o >>= (λ found. hash_unless found heap.shape e kept draw o)) k Rests
    record_does has =
        subst (λ z. Does heap false (hash_displaced_steps e z o >>= (λ found. hash_unless found heap.shape e kept draw o)) k Rests) x.same
        (hitting heap false (find_hash_plan e own_word o) _ k _ (λ n. refl)
        (λ i. finds_record_rule heap k e o (first_place o k.holds) (may_hash k x) has.0 (λ v. has.1) (inl (sym x.mine)) (inl (sym x.mine)))
        (λ header i was. unless_does header (hash_in header == 0) refl i))

  -- BY THE FORM of the mark, which has no bias pattern; `found` is that of a mark that has a hash
  module _ (kept : Option ℕ) (l : ThreadView) (mark : ℕ) (same : l.kept ≡ kept) (none : SawNone heap e o l)
      (unseen : Unseen heap e o l) (saw : last_seen (id.Mark o) l.seen ≡ Some mark) where
    form_does : (f : Option MarkForm) → (hash_form f ≡ 0 → Hashes l) → ((hash_form f == 0) ≡ false → AtRest heap.shape l)
        → read_mark mark ≡ f → IsMark heap.shape f → is_biased_form f ≡ false
        → ((p : ℕ) → f ≡ Some (Locked l.thread p) → OwnRecord l) → Does heap false (hash_mark_steps f heap.shape e here kept draw o mark) l Rests
    form_does None bare found reads form unbiased has = absurd form
    form_does (Some Inflating) bare found reads form unbiased has = answers heap false (Pending why.Inflating) l Rests (hash_rests l (bare refl))
    form_does (Some (Neutral hash age)) bare found reads form unbiased has =
        chooses heap false (hash == 0) _ _ l _
        (λ yes.
        let is0 = eqb-true hash 0 yes in
        let x = bare is0 in
        draw_does (id.Mark o) mark l x (draws_mark_rule heap l e draw o mark (may_hash l x) (age, reads ∙ ap (λ h. Some (Neutral h age)) is0) (next_here l x))
        (λ n. rests heap.shape _ refl x.unasks start.unchecks (logged_carries l.log _ l.wait l.holds x.still (live_here l x) refl (untold_here l x))))
        (λ some. answers heap false (Done hash) l Rests (found some))
    form_does (Some (Anonymous epoch age)) bare found reads form unbiased has = absurd (cc unbiased)
    form_does (Some (Biased t epoch age)) bare found reads form unbiased has = absurd (cc unbiased)
    form_does (Some (Locked u p)) bare found reads form unbiased has =
        let x = bare refl in
        chooses heap false (u == here.thread) _ _ l _
        (λ mine. record_does kept l x same none unseen (mark, saw, ap is_biased_form reads ∙ unbiased)
        (has p (ap (λ z. Some (Locked z p)) (eqb-true u here.thread mine ∙ sym (ap (λ z. z.thread) x.same)))))
        (λ other. inflates_does kept l x same none unseen (mark, saw, ap is_biased_form reads ∙ unbiased))
    form_does (Some (Inflated m)) bare found reads form unbiased has = monitor_does l m (bare refl) (mark, saw, ap monitor_form reads)
    form_does (Some Marked) bare found reads form unbiased has = absurd form

  -- a mark that names a record of the thread names the first that has the object at depth 1
  first_here : (k : ThreadView) (mark p : ℕ) (v : SoundWorldWith heap k) → k.running ≡ true
      → k.stage ≡ Settled → v.world.words (id.Mark o) ≡ mark → read_mark mark ≡ Some (Locked k.thread p)
      → (slice_index k.holds (first_place o k.holds) ≡ hold_word o 1) × (first_place o k.holds < most_holds)
  first_here k mark p v runs calm found reads =
      let fits = fits_here heap k v runs in
      let first = record_is_first v.world v.objects k.thread o p fits (away heap k v (λ s y. y.stage ≡ Settled) calm) (ap read_mark found ∙ reads) in
      bottom_here heap k v runs o
      (home heap k v (λ s y. 1 ≤ hold_count o y.holds)
      (standing_names v.world v.objects fits k.thread (first_place o (v.world.known k.thread).holds) o 1 (omega arith) first))

  header_does : (kept : Option ℕ) (k : ThreadView) → Hashes k → k.kept ≡ kept → SawNone heap e o k
      → Unseen heap e o k → SawUnbiased k o → Does heap false (hash_header_steps heap.shape e here kept draw o) k Rests
  header_does kept k x same none unseen bare =
      let look = find_hash_plan e (id.Mark o) o in
      hitting heap false look _ k _ (λ n. refl) (λ i. finds_mark_rule heap k e o (may_hash k x) (inl (sym x.mine)) (inl (sym x.mine))) (λ mark i was.
      let l = known_hit heap.shape heap.start look mark k in
      let unbiased : is_biased mark ≡ false = ap is_biased (sym was.found) ∙ unbiased_here heap false k o was.stands x.runs (inr (refl, bare)) in
      form_does kept l mark same
      (λ m r saw. none m r (sym (saw_any heap look mark k (id.Recursions m) i refl) ∙ saw))
      (λ u p. subst (λ z. (z ≡ None) ⊎ (u ≡ k.thread)) (sym (saw_any heap look mark k (id.Displaced u p) i refl)) (unseen u p))
      (saw_newest heap look mark k) (read_mark mark) (after_none (id.Mark o) mark k x)
      (after_found (id.Mark o) mark k x) refl (form_found heap e o k mark was.stands x.runs was.found) unbiased
      (λ p reads.
      let first = first_here k mark p was.stands x.runs x.calm was.found reads in
      (record { hold = first.0; unbiased = (mark, saw_newest heap look mark k, unbiased) }, first.1)))

module _ (heap : Heap) where
  hash_finishes : (k : ThreadView) (o now : ℕ) → AtRest heap.shape k → may_begin heap.shape heap.biasing k (Hash o now) ≡ true
      → Finishes heap true (steps_of heap.shape (Hash o now) (start_of heap.start k)) k
  unfolding steps_of
  hash_finishes k o now rest may =
      let m = both (has_reference heap.shape k o) (may_operate k (goes_on_with op.Hash o k.unfinished)) may in
      let reference = refers heap.shape k o m.0 in
      let a = operates k (goes_on_with op.Hash o k.unfinished) m.1 in
      let s = start_of heap.start k in
      let e = call_context (Hash o now) op.Hash o in
      let call : IsHashOf heap e o (local_of k) = record {
        hashes = refl;
        may = record { unchecks = refl; live = a.live; room = a.room; object = reference.within; known = reference.known };
        untold = rest.untold;
      } in
      closes heap true _ k (
      binds heap true (unbias_steps heap.shape e s (no_bias o now))
      (λ progress. and_then progress (λ u. hash_header_steps heap.shape e (local_of k) k.kept (draw heap e o (local_of k) k.draws call) o)) k _ (
      unbias_does heap e (no_bias o now) op.Hash refl refl refl call.object refl k
      (starts_unbias heap e (no_bias o now) op.Hash k refl refl rest a reference.known refl (unentering_hash e.unfinished o refl)
      (undumped_hash e.unfinished o refl) (λ z. z) (λ waits. absurd (cc waits)) (inl refl)) _
      (record {
        unbiased = λ l x bare.
            header_does heap e o (local_of k) k.draws call k.kept l
            (record {
              runs = x.runs;
              unasks = x.unasks;
              still = x.still;
              calm = x.calm;
              check = x.check;
              mine = x.mine;
              same = x.local;
              draws_are = x.draws;
            }) x.kept
            (λ m r saw. absurd (cc (sym saw ∙ x.headers (id.Recursions m) refl refl)))
            (λ u p. inl (x.headers (id.Displaced u p) refl refl)) bare;
        pends = λ f l w x. answers heap f _ l _ x;
      })))

  pub hash_begins : (o now : ℕ) → BeginsWell heap (Hash o now)
  hash_begins o now = record { does = λ k v rest may. hash_finishes k o now rest may }
