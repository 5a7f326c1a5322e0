-- The steps by which a thread finds or makes the monitor of an object whose mark has no bias pattern.
use Rattle.std.proofs.Common.{◌≡◌, ◌≢◌, ◌⊎◌, ℕ, ◌<◌, ◌==◌, eq-eqb, Bool, true, false, cond, length, Option, Some, None, refl, sym, ap, ◌∙◌, subst, inl}
use Rattle.std.proofs.lemmas.Option.{same_Some}
use Rattle.mark_word.specs.declared.mark.MarkForm.{MarkForm}
use Rattle.mark_word.specs.declared.mark.MarkForm.TheVariants.{Inflating, Neutral, Anonymous, Biased, Locked, Inflated, Marked}
use Rattle.mark_word.specs.declared.owner.OwnerForm.TheVariants.{Free, ByRecord}
use Rattle.mark_word.specs.Mark.{mark_of, read_mark}
use Rattle.mark_word.specs.Owner.{owner_of, read_owner}
use Rattle.mark_word.proofs.ReadingMarks.{read_mark-spells}
use Rattle.mark_word.proofs.ReadingOwners.{read_owner-owner_of}
use Rattle.core_world.specs.declared.answer.Progress.{Progress}
use Rattle.core_world.specs.declared.answer.Progress.TheVariants.{Done, Pending}
use Rattle.core_world.specs.declared.answer.PendingCause.{PendingCause}
use Rattle.core_world.specs.declared.answer.PendingCause.TheVariants as why
use Rattle.core_world.specs.declared.word_id.WordId.{WordId}
use Rattle.core_world.specs.declared.word_id.WordId.TheVariants as id
use Rattle.core_world.specs.declared.stage.Stage.{Stage}
use Rattle.core_world.specs.declared.stage.Stage.TheVariants.{Settled, Inflates}
use Rattle.core_world.specs.Words.Forms.{monitor_in, monitor_form, is_neutral, is_neutral_form, is_biased, is_biased_form}
use Rattle.core_world.specs.Threads.ThreadView.{ThreadView, Local, Still, local_of, last_seen}
use Rattle.core_world.specs.Locks.{marks}
use Rattle.core_world.specs.Trees.MonitorSteps.{prepare_steps, inflate_locked, inflate_neutral, inflate_with, inflate_by, inflate_at, inflate_steps}
use Rattle.core_world.specs.Trees.MonitorSteps.{claim_plan, fetch_plan, inflate_plan, name_neutral_plan, name_plan, prepare_plan}
use Rattle.core_world.specs.Words.Names.{same_name, its_monitor}
use Rattle.core_world.specs.Trees.Plans.{CallContext, load, done_with, pending_for, load_plan}
use Rattle.core_world.specs.Steps.{is_idle, known_hit}
use Rattle.core_world.specs.Trees.StepTree.{ask, ◌>>=◌}
use Rattle.core_world.specs.Clauses.WordForms.{IsMark, IsOwner}
use Rattle.core_world.proofs.Naming.{same_named}
use Rattle.core_world.specs.Threads.References.{HasReference}
use Rattle.core_locks.specs.Knowing.{SawInflated}
use Rattle.core_locks.proofs.monitor.NamesLaws.{inflated_read}
use Rattle.core_law.specs.Logic.{Heap, SoundWorldWith, Keeps, Does}
use Rattle.core_steps.proofs.Looks.{looks_running}
use Rattle.core_steps.proofs.Facts.{Unbiased, Knows}
use Rattle.core_law.proofs.Standing.{fits_here, away}
use Rattle.core_steps.proofs.monitor.MonitorRules.{claims_rule, fetches_rule, prepares_owner_rule, prepares_recursions_rule}
use Rattle.core_steps.proofs.monitor.MonitorRules.{prepares_header_rule, prepares_object_rule, inflates_rule, names_rule, names_neutral_rule}
use Rattle.core_steps.proofs.SeenSteps.{saw_newest, saw_any}
use Rattle.core_steps.proofs.enter_exit.StackExits.{unbiased_here}
use Rattle.core_steps.proofs.Trees.{answers, binds, hitting, swapping}

-- the word is of no monitor, so that no word of a monitor is it
apart : (n at : WordId) (m : ℕ) → its_monitor n ≡ None → its_monitor at ≡ Some m → same_name n at ≡ false
apart n at m none some = cases (same_name n at) refl
  where
    cases : (b : Bool) → same_name n at ≡ b → same_name n at ≡ false
    cases true e = let same = ap its_monitor (same_named n at e) in absurd (cc (same, none, some))
    cases false e = e

-- the parts of its knowledge that the steps of an inflation leave
pub record Parts : Type 0 where
  pub local : Local
  pub running : Bool
  pub requesting : Bool
  pub saved : ℕ
  pub draws : ℕ

abbrev parts_of : ThreadView → Parts
parts_of k = record { local = local_of k; running = k.running; requesting = k.requesting; saved = k.saved; draws = k.draws }

pub record Left (before after : Parts) : Type 0 where
  pub local : after.local ≡ before.local
  pub running : after.running ≡ before.running
  pub requesting : after.requesting ≡ before.requesting
  pub saved : after.saved ≡ before.saved
  pub draws : after.draws ≡ before.draws

left_as_is : (a : Parts) → Left a a
left_as_is a = record { local = refl; running = refl; requesting = refl; saved = refl; draws = refl }

module _ (heap : Heap) (e : CallContext) (o : ℕ) where
  -- what the thread counts on all the way
  pub record Works (k : ThreadView) : Type 0 where
    pub runs : k.running ≡ true
    pub still : k.moving ≡ Still
    pub object : o < length heap.shape.objects
    pub known : Knows heap k.log o
    pub mine : k.unfinished ≡ e.unfinished
    pub check : e.check ≡ k.checking

  -- of the recursions of monitors it saw in this call that they are 0, or nothing
  abbrev pub SawNone : ThreadView → Type 0
  SawNone k = (m r : ℕ) → last_seen (id.Recursions m) k.seen ≡ Some r → r ≡ 0

  -- of the displaced words of others it saw nothing
  abbrev pub Unseen : ThreadView → Type 0
  Unseen k = (u p : ℕ) → (last_seen (id.Displaced u p) k.seen ≡ None) ⊎ (u ≡ k.thread)

  -- the steps leave those parts; after them the thread has nothing in hand of the ring
  pub record Apart (k l : ThreadView) : Type 0 where
    pub left : Left (parts_of k) (parts_of l)
    pub open left use *
    pub still : l.moving ≡ Still
    pub mine : l.unfinished ≡ e.unfinished
    pub check : e.check ≡ l.checking

  -- after them the thread has its reference still
  known_still : (k l : ThreadView) → local_of l ≡ local_of k → Works k → HasReference heap.shape l o
  known_still k l same x = record { within = x.object; known = subst (λ z. Knows heap z.log o) (sym same) x.known }

  -- PREPARING the monitor m at this stage
  pub record Prepared (m header owner : ℕ) (k l : ThreadView) : Type 0 where
    pub header_is : last_seen (id.Header m) l.seen ≡ Some header
    pub owner_is : last_seen (id.Owner m) l.seen ≡ Some owner
    pub recursions_are : last_seen (id.Recursions m) l.seen ≡ Some 0
    pub object_is : last_seen (id.Object m) l.seen ≡ Some o
    pub none : SawNone l
    pub others : (n : WordId) → its_monitor n ≡ None → last_seen n l.seen ≡ last_seen n k.seen

  module _ (m header owner : ℕ) (k : ThreadView) where
    abbrev with_header : Stage → ℕ → ThreadView
    with_header stage n = known_hit heap.shape heap.start (prepare_plan e stage (id.Header m) header) n k

    abbrev with_owner : Stage → ℕ → ℕ → ThreadView
    with_owner stage n0 n = known_hit heap.shape heap.start (prepare_plan e stage (id.Owner m) owner) n (with_header stage n0)

    abbrev with_recursions : Stage → ℕ → ℕ → ℕ → ThreadView
    with_recursions stage n0 n1 n = known_hit heap.shape heap.start (prepare_plan e stage (id.Recursions m) 0) n (with_owner stage n0 n1)

    abbrev with_object : Stage → ℕ → ℕ → ℕ → ℕ → ThreadView
    with_object stage n0 n1 n2 n = known_hit heap.shape heap.start (prepare_plan e stage (id.Object m) o) n (with_recursions stage n0 n1 n2)

    prepared : (stage : Stage) (n0 n1 n2 n3 : ℕ) → is_idle heap.shape k ≡ false → is_idle heap.shape (with_header stage n0) ≡ false
        → is_idle heap.shape (with_owner stage n0 n1) ≡ false
        → is_idle heap.shape (with_recursions stage n0 n1 n2) ≡ false → SawNone k → Prepared m header owner k (with_object stage n0 n1 n2 n3)
    prepared stage n0 n1 n2 n3 i0 i1 i2 i3 nothing =
        let p0 = prepare_plan e stage (id.Header m) header in
        let p1 = prepare_plan e stage (id.Owner m) owner in
        let p2 = prepare_plan e stage (id.Recursions m) 0 in
        let p3 = prepare_plan e stage (id.Object m) o in
        let k1 = with_header stage n0 in
        let k2 = with_owner stage n0 n1 in
        let k3 = with_recursions stage n0 n1 n2 in
        let s0 = λ (n : WordId). saw_any heap p0 n0 k n i0 refl in
        let s1 = λ (n : WordId). saw_any heap p1 n1 k1 n i1 refl in
        let s2 = λ (n : WordId). saw_any heap p2 n2 k2 n i2 refl in
        let s3 = λ (n : WordId). saw_any heap p3 n3 k3 n i3 refl in
        record {
          header_is = s3 (id.Header m) ∙ s2 (id.Header m) ∙ s1 (id.Header m) ∙ saw_newest heap p0 n0 k;
          owner_is = s3 (id.Owner m) ∙ s2 (id.Owner m) ∙ saw_newest heap p1 n1 k1;
          recursions_are = s3 (id.Recursions m) ∙ saw_newest heap p2 n2 k2;
          object_is = saw_newest heap p3 n3 k3;
          none = λ a r saw. zero_seen a r (same_name (id.Recursions a) (id.Recursions m))
              (sym (s2 (id.Recursions a)) ∙ sym (s3 (id.Recursions a)) ∙ saw) (s1 (id.Recursions a)) (s0 (id.Recursions a));
          others = λ n is. s3 n ∙ past n (id.Object m) is refl _ _ ∙ s2 n ∙ past n (id.Recursions m) is refl _ _
              ∙ s1 n ∙ past n (id.Owner m) is refl _ _ ∙ s0 n ∙ past n (id.Header m) is refl _ _;
        }
      where
        past : (n at : WordId) → its_monitor n ≡ None → its_monitor at ≡ Some m → (a b : Option ℕ) → cond (same_name n at) a b ≡ b
        past n at none some a b = ap (λ (z : Bool). cond z a b) (apart n at m none some)

        zero_seen : (a r : ℕ) (b : Bool) → cond b (Some 0) (last_seen (id.Recursions a) (with_owner stage n0 n1).seen) ≡ Some r
            → last_seen (id.Recursions a) (with_owner stage n0 n1).seen ≡ last_seen (id.Recursions a) (with_header stage n0).seen
            → last_seen (id.Recursions a) (with_header stage n0).seen ≡ last_seen (id.Recursions a) k.seen → r ≡ 0
        zero_seen a r true saw d0 d1 = sym (same_Some _ _ saw)
        zero_seen a r false saw d0 d1 = nothing a r (sym (d0 ∙ d1) ∙ saw)

  -- any postcondition that holds of what is known after the four stores
  prepare_does : (stage : Stage) (m header owner : ℕ) (k : ThreadView) (Q : Bool → Unit {0} → ThreadView → Type 0) → Works k → k.kept ≡ Some m → k.stage ≡ stage
      → (SoundWorldWith heap k → IsOwner heap.shape (read_owner owner)) → SawNone k
      → ((l : ThreadView) → Apart k l → l.kept ≡ Some m → l.stage ≡ stage → Prepared m header owner k l → Q false tt l)
      → Does heap false (prepare_steps e stage o m header owner) k Q
  prepare_does stage m header owner k Q x kept at form none then_so =
      hitting heap false _ _ k _ (λ n. refl) (λ i. subst (λ z. Keeps heap (prepare_plan e z (id.Header m) header) k) at
      (prepares_header_rule heap k e m header (λ v. record { runs = x.runs; kept = kept; goes_on = inl (sym x.mine) }) (inl (sym x.mine)))) (λ n0 i0 was0.
      hitting heap false _ _ _ _ (λ n. refl) (λ i. prepares_owner_rule heap _ e m owner (λ v. record {
        prepares = record { runs = x.runs; kept = kept; goes_on = inl refl };
        owner = form was0.stands;
      }) (inl refl)) (λ n1 i1 was1.
      hitting heap false _ _ _ _ (λ n. refl) (λ i. prepares_recursions_rule heap _ e m 0 (λ v. record { runs = x.runs; kept = kept; goes_on = inl refl })
      (inl refl)) (λ n2 i2 was2.
      hitting heap false _ _ _ _ (λ n. refl) (λ i. prepares_object_rule heap _ e m o (λ v. record {
        prepares = record { runs = x.runs; kept = kept; goes_on = inl refl };
        object = record { within = x.object; known = x.known };
      }) (inl refl)) (λ n3 i3 was3.
      answers heap false _ _ _ (then_so (with_object m header owner k stage n0 n1 n2 n3)
      (record { left = left_as_is _; still = x.still; mine = refl; check = refl }) kept refl
      (prepared m header owner k stage n0 n1 n2 n3 i0 i1 i2 i3 none))))))

  -- what follows: the monitor is found, or made; or the inflation goes on in another call
  pub record FindsMonitor (k : ThreadView) (Q : Bool → Progress ℕ → ThreadView → Type 0) : Type 0 where
    pub found : (l : ThreadView) (m : ℕ) → Apart k l → l.stage ≡ Settled → SawInflated l o m → SawNone l → Q false (Done m) l
    pub pends : (l : ThreadView) (w : PendingCause) → Apart k l → l.stage ≡ Settled → Q false (Pending w) l

  -- of a step that leaves those parts, what follows it follows the whole
  from_there : (k l : ThreadView) (Q : Bool → Progress ℕ → ThreadView → Type 0) → Apart k l → FindsMonitor k Q → FindsMonitor l Q
  from_there k l Q a outs = record {
    found = λ y m b calm saw none. outs.found y m (then_apart y b) calm saw none;
    pends = λ y w b calm. outs.pends y w (then_apart y b) calm;
  }
    where
      then_apart : (y : ThreadView) → Apart l y → Apart k y
      then_apart y b = record {
        left = record {
          local = b.local ∙ a.local;
          running = b.running ∙ a.running;
          requesting = b.requesting ∙ a.requesting;
          saved = b.saved ∙ a.saved;
          draws = b.draws ∙ a.draws;
        };
        still = b.still;
        mine = b.mine;
        check = b.check;
      }

  -- a mark that names the monitor that the thread keeps reads so
  reads_kept : (k : ThreadView) (m : ℕ) → SoundWorldWith heap k → k.running ≡ true → k.kept ≡ Some m → monitor_in (mark_of (Inflated m)) ≡ Some m
  reads_kept k m v runs kept =
      ap monitor_form (inflated_read v.world v.objects k.thread m (fits_here heap k v runs) (away heap k v (λ s y. y.kept ≡ Some m) kept))

  -- NEUTRAL: the monitor gets the mark as header and no owner, and the mark is exchanged
  neutral_does : (m mark : ℕ) (k : ThreadView) (Q : Bool → Progress ℕ → ThreadView → Type 0) → FindsMonitor k Q → Works k → k.kept ≡ Some m → k.stage ≡ Settled
      → is_neutral mark ≡ true → SawNone k
      → Does heap false (inflate_neutral e o mark m) k Q
  neutral_does m mark k Q outs x kept calm neutral none =
      let exchange = name_neutral_plan e o mark m in
      binds heap false (prepare_steps e Settled o m mark (owner_of Free))
      (λ u. ask exchange >>= (λ n. cond (n == mark) (done_with m) (pending_for (why.Raced mark n)))) k Q (
      prepare_does Settled m mark (owner_of Free) k _ x kept calm
      (λ v. subst (IsOwner heap.shape) (sym (read_owner-owner_of Free tt)) tt) none (λ l a kept_l calm_l ready.
      swapping heap false exchange mark (mark_of (Inflated m)) (λ n. done_with m) (λ n. pending_for (why.Raced mark n)) l Q refl
      (λ i. names_neutral_rule heap l e o mark m (λ v. record {
        runs = a.running ∙ x.runs;
        calm = calm_l;
        ready = record { kept = kept_l; object = known_still k l a.local x; recursions = ready.recursions_are; its_object = ready.object_is };
        neutral = neutral;
        owner = ready.owner_is;
        header = ready.header_is;
        goes_on = inl (sym a.mine);
      }) (inl (sym a.mine)))
      (λ n i was h.
      let y = known_hit heap.shape heap.start exchange n l in
      answers heap false (Done m) y Q (
      outs.found y m (record { left = a.left; still = a.still; mine = refl; check = refl }) refl (
        cond (n == mark) (mark_of (Inflated m)) n,
        saw_newest heap exchange n l,
        ap (λ (b : Bool). monitor_in (cond b (mark_of (Inflated m)) n)) (eq-eqb n mark h) ∙ reads_kept l m was.stands (a.running ∙ x.runs) kept_l,
      )
      (λ b r saw. ready.none b r (sym (saw_any heap exchange n l (id.Recursions b) i refl) ∙ saw))))
      (λ n i was h. answers heap false _ _ Q (
      outs.pends _ _ (record { left = a.left; still = a.still; mine = a.mine; check = a.check }) calm_l))))

  -- LOCKED: the mark is exchanged for 0, and the record's displaced word becomes the header
  locked_does : (m mark u p : ℕ) (k : ThreadView) (Q : Bool → Progress ℕ → ThreadView → Type 0)
      → FindsMonitor k Q → Works k → k.kept ≡ Some m → k.stage ≡ Settled
      → read_mark mark ≡ Some (Locked u p) → u < heap.shape.threads
      → SawNone k → Unseen k → Does heap false (inflate_locked e o mark m u p) k Q
  locked_does m mark u p k Q outs x kept calm reads within none unseen =
      let out = inflate_plan e o mark u p in
      let look = load_plan e (Inflates o u p) (id.Displaced u p) in
      let name_it = name_plan e o m in
      let small = read_mark-spells mark (Locked u p) reads in
      let owner_reads : read_owner (owner_of (ByRecord u p)) ≡ Some (ByRecord u p) = read_owner-owner_of (ByRecord u p) small.0 in
      swapping heap false out mark 0 _ (λ n. pending_for (why.Raced mark n)) k Q refl
      (λ i. inflates_rule heap k e o mark u p (record { within = x.object; known = x.known })
      (λ v. record { runs = x.runs; calm = calm; locked = reads; unseen = unseen u p; goes_on = inl (sym x.mine) }) (inl (sym x.mine)))
      (λ n i was h.
      let k1 = known_hit heap.shape heap.start out n k in
      hitting heap false look _ k1 Q (λ n. refl) (λ j. looks_running heap k1 e _ (id.Displaced u p) refl x.runs refl refl (inl refl)
      (λ v. (within, small.0.1)) (inl refl) tt) (λ header j was1.
      let k2 = known_hit heap.shape heap.start look header k1 in
      binds heap false (prepare_steps e (Inflates o u p) o m header (owner_of (ByRecord u p))) (λ z. ask name_it >>= (λ n. done_with m)) k2 Q (
      prepare_does (Inflates o u p) m header (owner_of (ByRecord u p)) k2 _ (record {
        runs = x.runs;
        still = x.still;
        object = x.object;
        known = x.known;
        mine = refl;
        check = refl;
      }) kept refl
      (λ v. subst (IsOwner heap.shape) (sym owner_reads) within)
      (λ b r saw. none b r (sym (saw_any heap look header k1 (id.Recursions b) j refl ∙ saw_any heap out n k (id.Recursions b) i refl)
      ∙ saw)) (λ l a kept_l stage_l ready.
      hitting heap false name_it _ l Q (λ n. refl)
      (λ i. names_rule heap l e o m u p header (λ v. record {
        runs = a.running ∙ x.runs;
        stage = stage_l;
        ready = record { kept = kept_l; object = known_still k l a.local x; recursions = ready.recursions_are; its_object = ready.object_is };
        owner = (owner_of (ByRecord u p), ready.owner_is, owner_reads);
        displaced = ready.others (id.Displaced u p) refl ∙ saw_newest heap look header k1;
        header = ready.header_is;
        goes_on = inl (sym a.mine);
      }) (inl (sym a.mine)))
      (λ n3 i3 was3.
      let y = known_hit heap.shape heap.start name_it n3 l in
      answers heap false (Done m) y Q (
      outs.found y m (record { left = a.left; still = a.still; mine = refl; check = refl }) refl
      (mark_of (Inflated m), saw_newest heap name_it n3 l, reads_kept l m was3.stands (a.running ∙ x.runs) kept_l)
      (λ b r saw. ready.none b r (sym (saw_any heap name_it n3 l (id.Recursions b) i3 refl) ∙ saw))))))))
      (λ n i was h. answers heap false _ _ Q (
      outs.pends _ _ (record { left = left_as_is _; still = x.still; mine = x.mine; check = x.check }) calm))

  -- BY THE FORM of a mark with no bias pattern
  module _ (mark : ℕ) (k : ThreadView) (Q : Bool → Progress ℕ → ThreadView → Type 0) (outs : FindsMonitor k Q)
      (x : Works k) (calm : k.stage ≡ Settled) (none : SawNone k) (unseen : Unseen k) where
    with_does : (f : Option MarkForm) (m : ℕ) → read_mark mark ≡ f → IsMark heap.shape f → is_biased_form f ≡ false → monitor_form f ≡ None
        → f ≢ Some Inflating → k.kept ≡ Some m
        → Does heap false (inflate_with f e o mark m) k Q
    with_does None m reads form plain other whole kept = absurd form
    with_does (Some Inflating) m reads form plain other whole kept = absurd (whole refl)
    with_does (Some (Neutral hash age)) m reads form plain other whole kept =
        neutral_does m mark k Q outs x kept calm (ap is_neutral_form reads ∙ eq-eqb age 0 form) none
    with_does (Some (Anonymous epoch age)) m reads form plain other whole kept = absurd (cc plain)
    with_does (Some (Biased t epoch age)) m reads form plain other whole kept = absurd (cc plain)
    with_does (Some (Locked u p)) m reads form plain other whole kept = locked_does m mark u p k Q outs x kept calm reads form none unseen
    with_does (Some (Inflated a)) m reads form plain other whole kept = absurd (cc other)
    with_does (Some Marked) m reads form plain other whole kept = absurd form

  -- with the monitor that it keeps, or else with one that it claims
  by_does : (kept : Option ℕ) (mark : ℕ) (f : Option MarkForm) (k : ThreadView) (Q : Bool → Progress ℕ → ThreadView → Type 0) → FindsMonitor k Q → Works k
      → k.stage ≡ Settled → SawNone k → Unseen k
      → read_mark mark ≡ f → IsMark heap.shape f → is_biased_form f ≡ false → monitor_form f ≡ None
      → f ≢ Some Inflating → k.kept ≡ kept → Does heap false (inflate_by kept heap.shape e o mark) k Q
  by_does (Some m) mark f k Q outs x calm none unseen reads form plain other whole kept =
      subst (λ z. Does heap false (inflate_with z e o mark m) k Q) (sym reads)
      (with_does mark k Q outs x calm none unseen f m reads form plain other whole kept)
  by_does None mark f k Q outs x calm none unseen reads form plain other whole kept =
      let claim = claim_plan e in
      hitting heap false claim _ k Q (λ n. refl)
      (λ i. claims_rule heap k e (λ v. record { runs = x.runs; calm = calm; none = kept; still = x.still; goes_on = inl (sym x.mine) })
      (inl (sym x.mine))) (λ position i was.
      let k1 = known_hit heap.shape heap.start claim position k in
      let fetch = fetch_plan e heap.shape position in
      hitting heap false fetch _ k1 Q (λ n. refl) (λ j. fetches_rule heap k1 e position
      (λ v. record { runs = x.runs; calm = refl; claimed = refl; goes_on = inl refl }) (inl refl)) (λ m j was1.
      let l = known_hit heap.shape heap.start fetch m k1 in
      subst (λ z. Does heap false (inflate_with z e o mark m) l Q) (sym reads)
      (with_does mark l Q (from_there k l Q (record { left = left_as_is _; still = refl; mine = refl; check = refl }) outs)
      (record { runs = x.runs; still = refl; object = x.object; known = x.known; mine = refl; check = refl }) refl
      (λ b r saw. none b r (sym (saw_any heap fetch m k1 (id.Recursions b) j refl ∙ saw_any heap claim position k (id.Recursions b) i refl) ∙ saw))
      (λ u p. subst (λ z. (z ≡ None) ⊎ (u ≡ k.thread))
      (sym (saw_any heap fetch m k1 (id.Displaced u p) j refl ∙ saw_any heap claim position k (id.Displaced u p) i refl)) (unseen u p))
      f m reads form plain other whole refl)))

  at_does : (kept : Option ℕ) (mark : ℕ) (f : Option MarkForm) (k : ThreadView) (Q : Bool → Progress ℕ → ThreadView → Type 0) → FindsMonitor k Q → Works k
      → k.stage ≡ Settled → SawNone k → Unseen k
      → last_seen (id.Mark o) k.seen ≡ Some mark → read_mark mark ≡ f → IsMark heap.shape f
      → is_biased_form f ≡ false → k.kept ≡ kept → Does heap false (inflate_at f heap.shape e kept o mark) k Q
  at_does kept mark (Some Inflating) k Q outs x calm none unseen sees reads form plain same =
      answers heap false (Pending why.Inflating) k Q (
      outs.pends k why.Inflating (record { left = left_as_is _; still = x.still; mine = x.mine; check = x.check }) calm)
  at_does kept mark (Some (Inflated m)) k Q outs x calm none unseen sees reads form plain same =
      answers heap false (Done m) k Q (
      outs.found k m (record { left = left_as_is _; still = x.still; mine = x.mine; check = x.check }) calm (mark, sees, ap monitor_form reads) none)
  at_does kept mark None k Q outs x calm none unseen sees reads form plain same = absurd form
  at_does kept mark (Some (Neutral hash age)) k Q outs x calm none unseen sees reads form plain same =
      by_does kept mark (Some (Neutral hash age)) k Q outs x calm none unseen reads form plain refl (λ z. cc z) same
  at_does kept mark (Some (Anonymous epoch age)) k Q outs x calm none unseen sees reads form plain same = absurd (cc plain)
  at_does kept mark (Some (Biased t epoch age)) k Q outs x calm none unseen sees reads form plain same = absurd (cc plain)
  at_does kept mark (Some (Locked u p)) k Q outs x calm none unseen sees reads form plain same =
      by_does kept mark (Some (Locked u p)) k Q outs x calm none unseen reads form plain refl (λ z. cc z) same
  at_does kept mark (Some Marked) k Q outs x calm none unseen sees reads form plain same = absurd form

  -- the form of a mark that was found
  pub form_found : (k : ThreadView) (mark : ℕ) (v : SoundWorldWith heap k)
      → k.running ≡ true → v.world.words (id.Mark o) ≡ mark → IsMark heap.shape (read_mark mark)
  form_found k mark v runs found =
      subst (λ n. IsMark heap.shape (read_mark n)) found
      (subst (λ (z : Heap). IsMark z.shape (read_mark (marks v.world o))) v.is_of ((fits_here heap k v runs).forms.marks o))

  pub inflate_does : (kept : Option ℕ) (k : ThreadView) (Q : Bool → Progress ℕ → ThreadView → Type 0)
      → FindsMonitor k Q → Works k → k.stage ≡ Settled → SawNone k
      → Unseen k → Unbiased heap false k o → k.kept ≡ kept
      → Does heap false (inflate_steps heap.shape e kept o) k Q
  inflate_does kept k Q outs x calm none unseen unbiased same =
      let look = load e (id.Mark o) in
      hitting heap false look _ k Q (λ n. refl) (λ i. looks_running heap k e Settled (id.Mark o) refl x.runs (sym calm) x.check (inl (sym x.mine))
      (λ v. x.object) (inl (sym x.mine)) (λ free. x.known)) (λ mark i was.
      let l = known_hit heap.shape heap.start look mark k in
      at_does kept mark (read_mark mark) l Q (from_there k l Q (record { left = left_as_is _; still = x.still; mine = refl; check = refl }) outs)
      (record { runs = x.runs; still = x.still; object = x.object; known = x.known; mine = refl; check = refl }) refl
      (λ b r saw. none b r (sym (saw_any heap look mark k (id.Recursions b) i refl) ∙ saw))
      (λ u p. subst (λ z. (z ≡ None) ⊎ (u ≡ k.thread)) (sym (saw_any heap look mark k (id.Displaced u p) i refl)) (unseen u p))
      (saw_newest heap look mark k) refl (form_found k mark was.stands x.runs was.found)
      (ap is_biased (sym was.found) ∙ unbiased_here heap false k o was.stands x.runs unbiased) same)
