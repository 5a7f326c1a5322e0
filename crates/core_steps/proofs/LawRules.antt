-- The laws of core_locks, with those of bias_law and core_made beside them, as rules of the logic: what the thread knows is enough. A few rules turn
-- such laws into one for their plan, whatever they are; after them stand those on the safepoint word, the journal and lock records.
use Rattle.std.proofs.Common.{◌≡◌, ℕ, ◌+◌, ◌<◌, ◌≤◌, ◌==◌, max, eq-eqb, ne_eqb, eqb-true, Bool, true, cond}
use Rattle.std.proofs.Common.{List, length, Some, None, refl, sym, ap, ◌∙◌, subst, arith, inl, inr}
use Rattle.mark_word.specs.Mark.{mark_of, read_mark}
use Rattle.mark_word.specs.declared.mark.MarkForm.TheVariants.{Locked}
use Rattle.plain_monitor.specs.Limits.{most_holds}
use Rattle.plain_monitor.specs.declared.entry.Entry.{Entry}
use Rattle.plain_monitor.specs.declared.entry.Entry.TheVariants.{Put, Enter, Exit, Resume, New, Notify, NotifyAll, Print, Dump, Trap, Spent, Done}
use Rattle.plain_monitor.specs.declared.entry.Logged.{Logged}
use Rattle.plain_monitor.specs.declared.entry.Path.{Path}
use Rattle.plain_monitor.specs.declared.entry.Value.{Value}
use Rattle.plain_monitor.specs.declared.entry.Value.TheVariants.{Ref}
use Rattle.plain_monitor.specs.Made.{creates, needs, hands_on, refers}
use Rattle.std.specs.List.{AllByRecursion}
use Rattle.plain_monitor.specs.History.{last_stamp}
use Rattle.core_world.specs.declared.word_id.WordId.{WordId}
use Rattle.core_world.specs.declared.word_id.WordId.TheVariants as id
use Rattle.core_world.specs.declared.plan.LogEffect.TheVariants.{Quiet}
use Rattle.core_world.specs.declared.plan.StepPlan.{StepPlan}
use Rattle.core_world.specs.declared.stage.Stage.TheVariants.{Settled, BiasAcquired}
use Rattle.core_world.specs.Words.Shape.{Shape, IsInLimits, monitor_count}
use Rattle.core_world.specs.There.{IsThere}
use Rattle.core_world.specs.Threads.References.{HasReference, HasValue, making_in}
use Rattle.core_world.specs.Threads.ThreadView.{ThreadView, local_of}
use Rattle.core_world.specs.Trees.LockSteps.{displace_plan, seize_plan, hold_plan, store_ready_plan, log_enter_plan}
use Rattle.core_world.specs.Trees.LockSteps.{raise_stamp_plan, leave_plan, let_go_plan, clear_plan}
use Rattle.core_world.specs.Trees.Operations.{get_plan, put_plan, store_ended_plan}
use Rattle.core_world.specs.Trees.Plans.{CallContext, next_stamp}
use Rattle.core_world.specs.Trees.SafepointSteps.{publish_log_plan, stop_plan, resume_plan, request_plan, release_plan, halt_plan}
use Rattle.core_world.specs.Steps.{known_after, known_hit, known_miss, world_after}
use Rattle.core_world.specs.Threads.Stages.{revocation_in}
use Rattle.core_world.specs.Words.Acts.{hits}
use Rattle.core_world.specs.Words.Forms.{monitor_in, requester_in, names, hold_word}
use Rattle.core_world.specs.Trees.WaitSteps.{publish_plan}
use Rattle.core_world.specs.Valid.{Fits, IsValid}
use Rattle.core_world.specs.World.{World, logs}
use Rattle.core_world.specs.Clauses.WordForms.{IsMark}
use Rattle.core_world.specs.Locks.{marks}
use Rattle.plain_monitor.specs.Objects.{PlainObject}
use Rattle.core_world.proofs.enter_exit.OwnersShown.{inflated_form}
use Rattle.core_world.proofs.KnowledgeParts.{by_equal, each_with_known}
use Rattle.core_world.proofs.Readings.{names_none}
use Rattle.core_locks.specs.Knowing.{KeepsValid, Logs, LogsFound, SawInflated}
use Rattle.core_locks.specs.SafepointLaws.{MayStop, MayResume, MayRequest, MayRelease, MayReleaseTaking, MayHalt}
use Rattle.core_locks.specs.JournalLaws.{MayGet, MayPut, get_entry, MayTell, MayPublish, MayPublishLog, MayRaise, MayLogEnter, MayBeReady, MayEnd}
use Rattle.core_locks.specs.LockLaws.{MayDisplace, MaySeize, MayHold, MayLeave, MayClear, MayLetGo}
use Rattle.core_locks.proofs.safepoint.SafeStops.{stopping_valid, resuming_valid, requesting_valid}
use Rattle.core_locks.proofs.safepoint.SafeEnds.{releasing_valid, releasing_taking, halting_valid}
use Rattle.core_locks.proofs.telling.TouchSlots.{get_law, put_law}
use Rattle.core_locks.proofs.telling.Publishes.{publish_law}
use Rattle.core_locks.proofs.telling.PublishesAll.{publish_all_law}
use Rattle.core_locks.proofs.enter_exit.Displaces.{displaces}
use Rattle.core_locks.proofs.enter_exit.Seizes.{seizes}
use Rattle.core_locks.proofs.enter_exit.HoldLaw.{stored_valid}
use Rattle.core_locks.proofs.enter_exit.HoldCounts.{names_is}
use Rattle.core_locks.proofs.enter_exit.HoldCleared.{cleared_valid}
use Rattle.core_locks.proofs.enter_exit.EnterLogs.{logging_an_enter}
use Rattle.core_locks.proofs.enter_exit.TakenStamps.{enter_stamp}
use Rattle.core_locks.proofs.enter_exit.ExitHolds.{exits_by_a_hold_word}
use Rattle.core_locks.proofs.enter_exit.ExitMarks.{exits_by_the_mark, exit_misses}
use Rattle.core_locks.proofs.wait.RaiseStamps.{raising_valid}
use Rattle.core_locks.proofs.wait.WaitLaws.{ready_valid, ended_valid}
use Rattle.core_locks.proofs.LookOn.{may_look_safe}
use Rattle.core_law.specs.BiasLaw.{BiasLawHolds}
use Rattle.core_law.specs.WholeLaw.{WhollyValid}
use Rattle.bias_law.specs.Steps.{KeepsBiases, SawNone, WentBefore}
use Rattle.bias_law.proofs.enter_exit.EnterLogged.{enter_logged}
use Rattle.bias_law.proofs.enter_exit.HoldStored.{hold_stored}
use Rattle.bias_law.proofs.LoggedKinds as logged
use Rattle.bias_law.proofs.QuietKinds as quiet
use Rattle.core_law.specs.Takings.{StampsTaking, StampsNote, TakesExactly}
use Rattle.core_law.specs.Logic.{Heap, SoundWorldWith, Keeps}
use Rattle.core_world.proofs.There.{limits_there, kept_there}
use Rattle.core_law.proofs.Standing.{home, away, inside, valid_here}
use Rattle.core_law.specs.MadeLaw.{MadeLawHolds}
use Rattle.core_made.specs.Steps.{IsFairQuietly}
use Rattle.core_made.proofs.Quiets.{quiet_keeps}
use Rattle.core_steps.proofs.FairSteps.{KnowsBy, Begins, begins_none, works_making_none, Spares, KeepsShots, TakesAt, told}
use Rattle.core_steps.proofs.FairSteps.{Tells, Quietly, fair, fair_quietly, missed_made, quiet_made, told_made}
use Rattle.core_steps.proofs.FairLooks.{resume_missed}
use Rattle.core_law.proofs.Wholes.{All, all_unless, stops_all, was_asked, requester_is, kept_whole}

-- A step that logs nothing takes nothing, nor does one that tells what others may see.
quiet_exactly : (w : World) (t : ℕ) (p : StepPlan) → p.note ≡ Quiet → TakesExactly w t p
quiet_exactly w t p quiet = subst (StampsNote (logs w) (w.words p.at) (last_stamp (w.known t).log)) (sym quiet) tt

telling_takes_none : (s : Shape) (k : ThreadView) (e : Entry) → MayTell s k e → (all : List (List Logged)) (found last : ℕ) → StampsTaking all found last e
telling_takes_none s k (Enter o path) tells all found last = absurd tells
telling_takes_none s k (Resume o) tells all found last = absurd tells
telling_takes_none s k _ tells all found last = tt

-- a mark that names a monitor stays, so the monitor that a running thread saw named is one of the heap's
inflated_there : (w : World) (P : List PlainObject) (t o m : ℕ) → Fits w P → (w.known t).running ≡ true → SawInflated (w.known t) o m
    → m < monitor_count w.shape
inflated_there w P t o m v runs saw =
    let names : monitor_in (marks w o) ≡ Some m = ap monitor_in (v.seen.stays t (id.Mark o) saw.0 saw.1 (inl (runs, inr (inl (m, saw.2))))) ∙ saw.2 in
    subst (IsMark w.shape) (inflated_form (read_mark (marks w o)) m names) (v.forms.marks o)

-- so it tells of objects that the thread knows, and makes none
telling_takes : (s : Shape) (k : ThreadView) (e : Entry) → MayTell s k e → (at : WordId) → TakesAt e at
telling_takes s k (Enter o path) tells at = absurd tells
telling_takes s k (Resume o) tells at = absurd tells
telling_takes s k _ tells at = tt

telling_makes_none : (s : Shape) (k : ThreadView) (e : Entry) → MayTell s k e → creates e ≡ None
telling_makes_none s k (New o class) tells = absurd tells
telling_makes_none s k _ tells = refl

telling_needs : (s : Shape) (k : ThreadView) (e : Entry) → MayTell s k e → AllByRecursion (KnowsBy s k) (hands_on e) → AllByRecursion (KnowsBy s k) (needs e)
telling_needs s k (Notify o None) tells hands = (tells.1.known, tt)
telling_needs s k (NotifyAll o n) tells hands = (tells.1.known, tt)
telling_needs s k (Print value) tells hands = hands
telling_needs s k (Dump number) tells hands = tt
telling_needs s k (Trap fault index) tells hands = tt
telling_needs s k Spent tells hands = tt
telling_needs s k Done tells hands = tt
telling_needs s k _ tells hands = absurd tells

needs_value : (s : Shape) (k : ThreadView) (value : Value) → HasValue s k value → AllByRecursion (KnowsBy s k) (refers value)
needs_value s k (Ref o) has = (has.known, tt)
needs_value s k _ has = tt

max_left : (a b : ℕ) → a ≤ max a b
max_left a b = omega arith

-- a hold word names its object alone
hold_names : (s : Shape) (k : ThreadView) (e : CallContext) (o d p : ℕ) → IsInLimits s → MayHold s k e o d p → (found i : ℕ) → names i (hold_word o d) ≡ true
    → KnowsBy s k i
hold_names s k e o d p limits may found i h =
    let objects = limits.objects in
    let within = may.object.within in
    let depth = may.depth in
    let same : (o == i) ≡ true = sym (names_is i o d (omega (arith, objects, within)) (omega (arith, depth)) may.small) ∙ h in
    subst (KnowsBy s k) (eqb-true o i same) may.object.known

-- After a step that hits, and leaves its thread revoking nothing, every clause holds
fits_after : (w : World) (P : List PlainObject) (t : ℕ) (p : StepPlan) → All w P → (revocation_in (w.known t).stage ≡ None → revocation_in p.stage ≡ None)
    → hits p.act (w.words p.at) ≡ true → (Q : List PlainObject) → IsValid (world_after p t w) Q → Fits (world_after p t w) Q
fits_after w P t p a unrevoking hit Q valid = elim valid [
  | inl fits ↦ fits
  | inr s ↦
      let l = known_after w.shape w.start p (w.words p.at) (w.known t) in
      let is : l ≡ known_hit w.shape w.start p (w.words p.at) (w.known t) =
      ap (λ (b : Bool). cond b (known_hit w.shape w.start p (w.words p.at) (w.known t)) (known_miss w.shape w.start p (w.words p.at) (w.known t))) hit in
      let stage : revocation_in l.stage ≡ None = ap (λ (k : ThreadView). revocation_in k.stage) is ∙ unrevoking (a.fits.quiet.none_revokes t) in
      let none = each_with_known (λ u y. revocation_in y.stage ≡ None) t l w.known s.requester stage (λ d. a.fits.quiet.none_revokes s.requester) in
      let some = s.its_revocation in
      absurd (cc (none, some))
]

-- A step that logs an entry keeps all, with the laws
pub kept_telling : (w : World) (P : List PlainObject) (t : ℕ) (p : StepPlan) (a : All w P) → (revocation_in (w.known t).stage ≡ None
    → revocation_in p.stage ≡ None)
    → t < w.shape.threads → (e : Entry) → Logs w P t p e → KeepsShots p.own → Spares w.shape (w.known t) p.at p.act → Begins w.shape (w.known t) p.after
    → Tells w.shape (w.known t) p e (w.words p.at) → BiasLawHolds (world_after p t w) → WhollyValid (world_after p t w)
kept_telling w P t p a unrevoking within e h shots spares begins tells biases =
    kept_whole w P t p a unrevoking h.now h.valid biases
    (told_made w P a t p e h.now within shots spares begins tells h.taken (fits_after w P t p a unrevoking tells.hits h.now h.valid))

module _ (heap : Heap) (k : ThreadView) where
  -- the heap has the thread's own words,
  pub limits : SoundWorldWith heap k → IsInLimits heap.shape
  limits v = home heap k v (λ s y. IsInLimits s) (limits_there v.world v.objects (valid_here heap k v))

  -- where the thread runs, every clause holds
  pub runs_in_all : (v : SoundWorldWith heap k) → k.running ≡ true → All v.world v.objects
  runs_in_all v runs =
      all_unless v.world v.objects (λ s. stops_all v.world v.objects s k.thread (away heap k v (λ z y. y.running ≡ true) runs)) v.valid

  -- and those of a monitor that it keeps, or that a mark names which it saw
  pub kept_in : (m : ℕ) → k.running ≡ true → k.kept ≡ Some m → SoundWorldWith heap k → m < monitor_count heap.shape
  kept_in m runs kept v =
      home heap k v (λ s y. m < monitor_count s)
      (kept_there v.world v.objects (runs_in_all v runs).fits k.thread m (away heap k v (λ s y. y.kept ≡ Some m) kept))

  pub monitor_in_heap : (o m : ℕ) → k.running ≡ true → SawInflated k o m → SoundWorldWith heap k → m < monitor_count heap.shape
  monitor_in_heap o m runs saw v =
      home heap k v (λ s y. m < monitor_count s)
      (inflated_there v.world v.objects k.thread o m (runs_in_all v runs).fits
      (away heap k v (λ s y. y.running ≡ true) runs) (away heap k v (λ s y. SawInflated y o m) saw))

  -- and so it is at its reached safepoint, where it revokes no bias: in the middle of nothing, for one
  pub standing_in_all : (v : SoundWorldWith heap k) → k.reached ≡ true → revocation_in k.stage ≡ None → All v.world v.objects
  standing_in_all v reached unrevoking =
      all_unless v.world v.objects (λ s.
      let same = requester_is v.world v.objects s k.thread (away heap k v (λ z y. y.reached ≡ true) reached) in
      let none = ap (λ u. revocation_in (v.world.known u).stage) same ∙ away heap k v (λ z y. revocation_in y.stage ≡ None) unrevoking in
      let some = s.its_revocation in
      absurd (cc (none, some))) v.valid

  pub calm_in_all : (v : SoundWorldWith heap k) → k.reached ≡ true → k.stage ≡ Settled → All v.world v.objects
  calm_in_all v reached calm = standing_in_all v reached (ap revocation_in calm)

  -- whether the step revokes nothing, by its stage: that is another one, or where the thread stood
  abbrev pub Unrevoking : (ℕ → ThreadView → StepPlan) → Type 0
  Unrevoking plan = (t : ℕ) (y : ThreadView) → revocation_in y.stage ≡ None → revocation_in (plan t y).stage ≡ None

  -- and whether it stamps a taking as the logs ask for; a plan that takes nothing does, by what it notes
  abbrev pub Stamping : (ℕ → ThreadView → StepPlan) → Type 0
  Stamping plan = (v : SoundWorldWith heap k) → TakesExactly v.world k.thread (plan k.thread k)

  -- A law of a step that leaves the plain objects, with that of the biases and that of what is there, as a rule for the plan that the thread's
  -- knowledge makes, where every clause holds. Its premise may use that there is such a world.
  pub keeps_made : (May : Shape → ThreadView → Type 0) (plan : ℕ → ThreadView → StepPlan)
      → KeepsValid (λ w t. May w.shape (w.known t)) (λ w t. plan t (w.known t))
      → KeepsBiases (λ w t. May w.shape (w.known t)) (λ w t. plan t (w.known t)) → Unrevoking plan → Stamping plan
      → ((v : SoundWorldWith heap k) → All v.world v.objects)
      → (SoundWorldWith heap k → IsThere heap.shape k (plan k.thread k)) → (SoundWorldWith heap k → May heap.shape k)
      → ((v : SoundWorldWith heap k) → All v.world v.objects → May v.world.shape (v.world.known k.thread)
      → MadeLawHolds (world_after (plan k.thread (v.world.known k.thread)) k.thread v.world)) → Keeps heap (plan k.thread k) k
  keeps_made May plan law biases unrevoking exact all there may made = record {
    there = there;
    exact = exact;
    by = λ v.
        let a = all v in
        home heap k v (λ s y. May s y → WhollyValid (world_after (plan k.thread y) k.thread v.world))
        (λ m. kept_whole v.world v.objects k.thread (plan k.thread (v.world.known k.thread)) a (unrevoking k.thread (v.world.known k.thread)) v.objects
        (law v.world v.objects k.thread (inside heap k v) m (inl a.fits))
        (biases v.world v.objects k.thread (inside heap k v) m a.fits a.biases) (made v a m)) (may v);
  }

  -- so it is where the step is fair to what is there,
  pub keeps_in_all : (May : Shape → ThreadView → Type 0) (plan : ℕ → ThreadView → StepPlan)
      → KeepsValid (λ w t. May w.shape (w.known t)) (λ w t. plan t (w.known t))
      → KeepsBiases (λ w t. May w.shape (w.known t)) (λ w t. plan t (w.known t)) → Unrevoking plan → Stamping plan
      → ((v : SoundWorldWith heap k) → All v.world v.objects)
      → (SoundWorldWith heap k → IsThere heap.shape k (plan k.thread k)) → (SoundWorldWith heap k → May heap.shape k)
      → ((v : SoundWorldWith heap k) → All v.world v.objects → IsFairQuietly v.world k.thread (plan k.thread (v.world.known k.thread)))
      → Keeps heap (plan k.thread k) k
  keeps_in_all May plan law biases unrevoking exact all there may fair =
      keeps_made May plan law biases unrevoking exact all there may
      (λ v a m. quiet_keeps v.world k.thread (plan k.thread (v.world.known k.thread)) a.made (fair v a))

  -- and it is fair by what the thread knows
  pub fair_here : (plan : ℕ → ThreadView → StepPlan)
      → (SoundWorldWith heap k → Quietly heap.shape k (plan k.thread k)) → Begins heap.shape k (plan k.thread k).after
      → (v : SoundWorldWith heap k) → All v.world v.objects → IsFairQuietly v.world k.thread (plan k.thread (v.world.known k.thread))
  fair_here plan quietly begins v a =
      fair_quietly v.world v.objects a k.thread (plan k.thread (v.world.known k.thread))
      (away heap k v (λ s y. Quietly s y (plan k.thread y)) (quietly v)) (away heap k v (λ s y. Begins s y (plan k.thread y).after) begins)

  -- which takes nothing, as it logs nothing
  quiet_exactly_by : (plan : ℕ → ThreadView → StepPlan) → (SoundWorldWith heap k → Quietly heap.shape k (plan k.thread k)) → Stamping plan
  quiet_exactly_by plan quietly v = quiet_exactly v.world k.thread (plan k.thread k) (quietly v).0

  -- of a thread that runs
  pub keeps : (May : Shape → ThreadView → Type 0) (plan : ℕ → ThreadView → StepPlan) → KeepsValid (λ w t. May w.shape (w.known t)) (λ w t. plan t (w.known t))
      → KeepsBiases (λ w t. May w.shape (w.known t)) (λ w t. plan t (w.known t)) → Unrevoking plan
      → ((s : Shape) (y : ThreadView) → May s y → y.running ≡ true)
      → (SoundWorldWith heap k → IsThere heap.shape k (plan k.thread k)) → (SoundWorldWith heap k → May heap.shape k)
      → (SoundWorldWith heap k → Quietly heap.shape k (plan k.thread k)) → Begins heap.shape k (plan k.thread k).after → Keeps heap (plan k.thread k) k
  keeps May plan law biases unrevoking runs there may quietly begins =
      keeps_in_all May plan law biases unrevoking (quiet_exactly_by plan quietly) (λ v. runs_in_all v (runs heap.shape k (may v))) there may
      (fair_here plan quietly begins)

  -- whether it tells the entry that it logs as the law of what is there asks for
  abbrev pub Telling : (ℕ → ThreadView → StepPlan) → (ℕ → Entry) → Shape → ThreadView → Type 0
  Telling plan entry s y =
      KeepsShots (plan k.thread y).own × Spares s y (plan k.thread y).at (plan k.thread y).act
      × ((found : ℕ) → Tells s y (plan k.thread y) (entry found) found)

  -- and one of a step that logs an entry, which may be made of the word that it finds; and by which the biases may ask for more
  pub enters_in_log_with : (May : Shape → ThreadView → Type 0) (More : ThreadView → Type 0) (plan : ℕ → ThreadView → StepPlan) (entry : ℕ → Entry)
      → LogsFound (λ w t. May w.shape (w.known t)) (λ w t. plan t (w.known t)) entry
      → KeepsBiases (λ w t. May w.shape (w.known t) × More (w.known t)) (λ w t. plan t (w.known t)) → Unrevoking plan → Stamping plan
      → ((s : Shape) (y : ThreadView) → May s y → y.running ≡ true) → (SoundWorldWith heap k → IsThere heap.shape k (plan k.thread k))
      → (SoundWorldWith heap k → May heap.shape k × More k) → (SoundWorldWith heap k → Telling plan entry heap.shape k)
      → (making_in k.unfinished ≡ None → Begins heap.shape k (plan k.thread k).after) → Keeps heap (plan k.thread k) k
  enters_in_log_with May More plan entry law biases unrevoking exact runs there may tells begins = record {
    there = there;
    exact = exact;
    by = λ v.
        let a = runs_in_all v (runs heap.shape k (may v).0) in
        home heap k v (λ s y. May s y × More y → WhollyValid (world_after (plan k.thread y) k.thread v.world))
        (λ m.
        let h = law v.world v.objects k.thread (inside heap k v) m.0 (inl a.fits) in
        let p = plan k.thread (v.world.known k.thread) in
        let f = away heap k v (Telling plan entry) (tells v) in
        kept_telling v.world v.objects k.thread p a (unrevoking k.thread (v.world.known k.thread)) (inside heap k v) (entry (v.world.words p.at)) h f.0 f.1
        (away heap k v (λ s y. Begins s y (plan k.thread y).after) (begins ((tells v).2 0).works_for_it)) (f.2 (v.world.words p.at))
        (biases v.world v.objects k.thread (inside heap k v) m a.fits a.biases)) (may v);
  }

  pub enters_in_log : (May : Shape → ThreadView → Type 0) (plan : ℕ → ThreadView → StepPlan) (entry : ℕ → Entry)
      → LogsFound (λ w t. May w.shape (w.known t)) (λ w t. plan t (w.known t)) entry
      → KeepsBiases (λ w t. May w.shape (w.known t)) (λ w t. plan t (w.known t)) → Unrevoking plan → Stamping plan
      → ((s : Shape) (y : ThreadView) → May s y → y.running ≡ true)
      → (SoundWorldWith heap k → IsThere heap.shape k (plan k.thread k)) → (SoundWorldWith heap k → May heap.shape k)
      → (SoundWorldWith heap k → Telling plan entry heap.shape k) → (making_in k.unfinished ≡ None → Begins heap.shape k (plan k.thread k).after)
      → Keeps heap (plan k.thread k) k
  enters_in_log May plan entry law biases unrevoking exact runs there may tells begins =
      enters_in_log_with May (λ y. Unit {0}) plan entry law (λ w P t within m v biased. biases w P t within m.0 v biased) unrevoking exact runs there
      (λ v. (may v, tt)) tells begins

  -- THE SAFEPOINT WORD
  pub stops : (e : CallContext) → MayStop k e → Keeps heap (stop_plan e k.thread) k
  stops e may =
      keeps (λ s y. MayStop y e) (λ t y. stop_plan e t) (stopping_valid e) (quiet.stops e) (λ t y h. refl) (λ s y a. a.runs) (λ v. (tt, tt)) (λ v. may)
      (λ v. (refl, tt, inl may.runs)) (inl may.goes_on)

  pub resumes : (e : CallContext) (word : ℕ) → MayResume k e word → Keeps heap (resume_plan e k.thread word) k
  resumes e word may = record {
    there = λ v. (tt, tt);
    exact = λ v. tt;
    by = λ v.
        let m = away heap k v (λ s y. MayResume y e word) may in
        by_equal (v.world.words id.Safepoint) word
        (λ same.
        let a = all_unless v.world v.objects (λ s. was_asked v.world v.objects s (ap requester_in same ∙ may.unasked)) v.valid in
        kept_whole v.world v.objects k.thread (resume_plan e k.thread word) a (λ h. refl) v.objects
        (resuming_valid e word v.world v.objects k.thread (inside heap k v) m
        (inl a.fits)) (quiet.resumes e word v.world v.objects k.thread (inside heap k v) m a.fits a.biases)
        (quiet_made v.world v.objects a k.thread (resume_plan e k.thread word) (refl, tt, inr tt) (inl m.goes_on)))
        (λ other. record {
          objects = v.objects;
          is =
              resume_missed v.world v.objects k.thread (inside heap k v) e word
              (record { missed = ne_eqb (v.world.words id.Safepoint) word other; may = may_look_safe (v.world.known k.thread) }) (inl m.goes_on) v.valid;
        });
  }

  pub requests : (e : CallContext) (word : ℕ) → MayRequest k e word → Begins heap.shape k e.unfinished → Keeps heap (request_plan e k.thread word) k
  requests e word may begins =
      keeps (λ s y. MayRequest y e word) (λ t y. request_plan e t word) (requesting_valid e word) (quiet.requests e word) (λ t y h. refl) (λ s y a. a.runs)
      (λ v. (tt, tt)) (λ v. may) (λ v. (refl, tt, inr tt)) begins

  -- at its reached safepoint, in the middle of nothing
  pub keeps_calm : (May : Shape → ThreadView → Type 0) (plan : ℕ → ThreadView → StepPlan)
      → KeepsValid (λ w t. May w.shape (w.known t)) (λ w t. plan t (w.known t))
      → KeepsBiases (λ w t. May w.shape (w.known t)) (λ w t. plan t (w.known t)) → Unrevoking plan
      → k.reached ≡ true → k.stage ≡ Settled → (SoundWorldWith heap k → IsThere heap.shape k (plan k.thread k)) → (SoundWorldWith heap k → May heap.shape k)
      → (SoundWorldWith heap k → Quietly heap.shape k (plan k.thread k)) → Begins heap.shape k (plan k.thread k).after → Keeps heap (plan k.thread k) k
  keeps_calm May plan law biases unrevoking reached calm there may quietly begins =
      keeps_in_all May plan law biases unrevoking (quiet_exactly_by plan quietly) (λ v. calm_in_all v reached calm) there may (fair_here plan quietly begins)

  pub releases : (e : CallContext) → MayRelease k e → Keeps heap (release_plan e Settled k.thread) k
  releases e may =
      keeps_calm (λ s y. MayRelease y e) (λ t y. release_plan e Settled t) (releasing_valid e) (quiet.releases e) (λ t y h. refl) may.reached may.calm
      (λ v. (tt, tt)) (λ v. may) (λ v. (refl, tt, inr tt)) (inl may.goes_on)

  -- where it has given itself a bias
  pub releases_taking : (e : CallContext) (o : ℕ) → MayReleaseTaking k e o → Keeps heap (release_plan e (BiasAcquired o) k.thread) k
  releases_taking e o may =
      keeps_in_all (λ s y. MayReleaseTaking y e o) (λ t y. release_plan e (BiasAcquired o) t)
      (releasing_taking e o) (quiet.releases_taking e o) (λ t y h. refl) (λ v. tt)
      (λ v. standing_in_all v may.reached (ap revocation_in may.takes)) (λ v. (tt, tt)) (λ v. may)
      (fair_here (λ t y. release_plan e (BiasAcquired o) t) (λ v. (refl, tt, inr tt)) (inl may.goes_on))

  pub halts : (e : CallContext) → MayHalt heap.shape.threads k e → Keeps heap (halt_plan e k.thread) k
  halts e may =
      keeps_calm (λ s y. MayHalt s.threads y e) (λ t y. halt_plan e t) (halting_valid e) (quiet.halts e) (λ t y h. refl) may.reached may.calm (λ v. (tt, tt))
      (λ v. may) (λ v. (refl, tt, inr tt)) (inl may.goes_on)

  -- THE JOURNAL
  pub publishes_all : (e : CallContext) → MayPublishLog k e → Keeps heap (publish_log_plan e k.thread (length k.log)) k
  publishes_all e may =
      keeps (λ s y. MayPublishLog y e) (λ t y. publish_log_plan e t (length y.log)) (publish_all_law e) (quiet.publishes_all e) (λ t y h. refl)
      (λ s y a. a.runs) (λ v. (v.within, tt)) (λ v. may) (λ v. (refl, tt, tt)) (inl may.goes_on)

  pub gets : (e : CallContext) (o slot : ℕ) → (SoundWorldWith heap k → MayGet heap.shape k e o slot)
      → Begins heap.shape k e.unfinished → Keeps heap (get_plan e o slot) k
  gets e o slot may begins =
      enters_in_log (λ s y. MayGet s y e o slot) (λ t y. get_plan e o slot) (get_entry o slot) (get_law e o slot) (logged.gets e o slot)
      (λ t y h. refl) (λ v. tt) (λ s y a. a.touches.runs)
      (λ v. let a = (may v).touches in ((a.object.within, a.within), tt)) may
      (λ v. (tt, tt, λ n. told refl (λ log. refl) tt refl (ap making_in (may v).touches.nothing) ((may v).touches.object.known, tt))) (λ none. begins)

  pub puts : (e : CallContext) (o slot : ℕ) (value : Value)
      → (SoundWorldWith heap k → MayPut heap.shape k o slot value) → Keeps heap (put_plan e o slot value) k
  puts e o slot value may =
      enters_in_log (λ s y. MayPut s y o slot value) (λ t y. put_plan e o slot value) (λ n. Put o slot value) (put_law e o slot value)
      (logged.puts e o slot value) (λ t y h. refl) (λ v. tt) (λ s y a. a.touches.runs)
      (λ v. let a = (may v).touches in ((a.object.within, a.within), tt)) may
      (λ v. (
        tt,
        tt,
        λ n. told refl (λ log. refl) tt refl
            (ap making_in (may v).touches.nothing) ((may v).touches.object.known, needs_value heap.shape k value (may v).here),
      )) (begins_none heap.shape k None refl)

  -- a notify that wakes nobody has seen that the object has no bias
  pub publishes : (e : CallContext) (entry : Entry) → (SoundWorldWith heap k → MayPublish heap.shape k entry × SawNone k entry)
      → AllByRecursion (KnowsBy heap.shape k) (hands_on entry) → Keeps heap (publish_plan e k.thread entry (length k.log + 1)) k
  publishes e entry may hands =
      enters_in_log_with (λ s y. MayPublish s y entry) (λ y. SawNone y entry) (λ t y. publish_plan e t entry (length y.log + 1)) (λ n. entry)
      (publish_law e entry) (logged.publishes e entry) (λ t y h. refl) (λ v. telling_takes_none heap.shape k entry (may v).0.tells (logs v.world) _ _)
      (λ s y a. a.runs) (λ v. (v.within, tt)) may
      (λ v. let m = (may v).0 in let none = telling_makes_none heap.shape k entry m.tells in (
        tt,
        tt,
        λ n. told refl (λ log. refl)
            (telling_takes heap.shape k entry m.tells (id.Length k.thread)) none (works_making_none k entry none m.own_entry.operation)
            (telling_needs heap.shape k entry m.tells hands),
      )) (begins_none heap.shape k None refl)

  pub raises : (e : CallContext) (o : ℕ) → o < length heap.shape.objects → (SoundWorldWith heap k → MayRaise k e o) → Begins heap.shape k e.unfinished
      → Keeps heap (raise_stamp_plan e o (next_stamp (local_of k))) k
  raises e o object may begins =
      keeps (λ s y. MayRaise y e o) (λ t y. raise_stamp_plan e o (next_stamp (local_of y))) (raising_valid e o) (quiet.raises_stamp e o) (λ t y h. refl)
      (λ s y a. a.runs) (λ v. (object, tt)) may (λ v. (refl, tt, λ n. max_left n (next_stamp (local_of k)))) begins

  pub logs_enter : (e : CallContext) (o p : ℕ) (path : Path)
      → (SoundWorldWith heap k → MayLogEnter heap.shape k o p path) → Keeps heap (log_enter_plan e o path) k
  logs_enter e o p path may = enters_in_log (λ s y. MayLogEnter s y o p path) (λ t y. log_enter_plan e o path) (λ n. Enter o path) (logging_an_enter e o p path)
      (λ w P t within m v law. enter_logged w P t o p path e within m v law) (λ t y h. refl)
      (λ v s. enter_stamp v.world v.objects k.thread o p path s (inside heap k v) (away heap k v (λ z y. MayLogEnter z y o p path) (may v))
      (valid_here heap k v)) (λ s y a. a.runs) (λ v. ((may v).object.within, tt)) may
      (λ v. (
        tt,
        (λ n. omega arith),
        λ n. told refl (λ log. refl) refl refl
            (works_making_none k (Enter o path) refl (may v).own_entry.operation) ((may v).object.known, tt),
      )) (begins_none heap.shape k None refl)

  pub readies : (e : CallContext) → (SoundWorldWith heap k → MayBeReady k e)
      → Begins heap.shape k e.unfinished → Keeps heap (store_ready_plan e k.stage k.thread) k
  readies e may begins =
      keeps (λ s y. MayBeReady y e) (λ t y. store_ready_plan e y.stage t) (ready_valid e) (quiet.says_ready e) (λ t y h. h) (λ s y a. a.runs)
      (λ v. (v.within, tt)) may (λ v. (refl, tt, tt)) begins

  pub says_ended_rule : (e : CallContext) → (SoundWorldWith heap k → MayEnd k e) → Begins heap.shape k e.unfinished → Keeps heap (store_ended_plan e k.thread) k
  says_ended_rule e may begins =
      keeps (λ s y. MayEnd y e) (λ t y. store_ended_plan e t) (ended_valid e) (quiet.says_ended e) (λ t y h. refl) (λ s y a. a.runs) (λ v. (v.within, tt)) may
      (λ v. (refl, tt, tt)) begins

  -- LOCK RECORDS
  pub displaces_rule : (e : CallContext) (p d : ℕ) → (SoundWorldWith heap k → MayDisplace k e p) → Begins heap.shape k e.unfinished
      → Keeps heap (displace_plan e k.stage k.thread p d) k
  displaces_rule e p d may begins =
      keeps (λ s y. MayDisplace y e p) (λ t y. displace_plan e y.stage t p d) (displaces e p d) (quiet.displaces e p d) (λ t y h. h) (λ s y a. a.runs)
      (λ v. ((v.within, (may v).free.place), tt)) may (λ v. (refl, tt, tt)) begins

  pub seizes_rule : (e : CallContext) (o mark p : ℕ) → HasReference heap.shape k o
      → (SoundWorldWith heap k → MaySeize k e o mark p) → Begins heap.shape k e.unfinished
      → Keeps heap (seize_plan e k.thread o mark p) k
  seizes_rule e o mark p object may begins =
      keeps (λ s y. MaySeize y e o mark p) (λ t y. seize_plan e t o mark p) (seizes e o mark p) (quiet.seizes e o mark p) (λ t y h. refl) (λ s y a. a.runs)
      (λ v. (object.within, tt)) may (λ v. (refl, tt, object.known)) begins

  pub holds_rule : (e : CallContext) (o d p : ℕ) (path : Path)
      → (SoundWorldWith heap k → MayHold heap.shape k e o d p × WentBefore heap.biasing heap.shape k o p path) → Begins heap.shape k e.unfinished
      → Keeps heap (hold_plan e k.thread o d p path) k
  holds_rule e o d p path may begins = record {
    there = λ v. ((v.within, (may v).0.free.place), tt);
    exact = λ v. tt;
    by = λ v.
        let a = runs_in_all v (may v).0.runs in
        home heap k v (λ s y. MayHold s y e o d p × WentBefore heap.biasing s y o p path
        → WhollyValid (world_after (hold_plan e k.thread o d p path) k.thread v.world))
        (λ m.
        let before : WentBefore v.world.biasing v.world.shape (v.world.known k.thread) o p path =
        subst (λ (z : Heap). WentBefore z.biasing v.world.shape (v.world.known k.thread) o p path) (sym v.is_of) m.1 in
        kept_whole v.world v.objects k.thread (hold_plan e k.thread o d p path) a (λ h. refl) v.objects
        (stored_valid e o d p path v.world v.objects k.thread (inside heap k v) m.0 (inl a.fits))
        (hold_stored v.world v.objects k.thread e o d p path (inside heap k v)
        (record { runs = m.0.runs; goes_on = m.0.goes_on; before = before }) a.fits a.biases)
        (quiet_made v.world v.objects a k.thread (hold_plan e k.thread o d p path)
        (refl, tt, hold_names v.world.shape (v.world.known k.thread) e o d p a.fits.limits m.0)
        (away heap k v (λ s y. Begins s y e.unfinished) begins))) (may v);
  }

  pub leaves_rule : (e : CallContext) (o d p : ℕ) → (SoundWorldWith heap k → p < most_holds) → (SoundWorldWith heap k → MayLeave heap.shape k o d p)
      → Keeps heap (leave_plan e k.thread o p) k
  leaves_rule e o d p place may =
      enters_in_log (λ s y. MayLeave s y o d p) (λ t y. leave_plan e t o p) (λ n. Exit o) (exits_by_a_hold_word e o d p)
      (logged.exits_by_hold e o d p) (λ t y h. refl) (λ v. tt) (λ s y a. a.runs) (λ v. ((v.within, place v), tt)) may
      (λ v. (
        tt,
        (λ n i names. let none = names_none i in absurd (cc (names, none))),
        λ n. told refl (λ log. refl) tt refl
            (works_making_none k (Exit o) refl (may v).own_entry.operation) ((may v).object.known, tt),
      )) (begins_none heap.shape k None refl)

  pub clears_rule : (e : CallContext) (o p : ℕ) → (SoundWorldWith heap k → p < most_holds)
      → (SoundWorldWith heap k → MayClear k e o p) → Begins heap.shape k e.unfinished
      → Keeps heap (clear_plan e k.thread p) k
  clears_rule e o p place may begins =
      keeps (λ s y. MayClear y e o p) (λ t y. clear_plan e t p) (cleared_valid e o p) (quiet.clears e o p) (λ t y h. refl) (λ s y a. a.runs)
      (λ v. ((v.within, place v), tt)) may (λ v. (refl, tt, λ n i names. let none = names_none i in absurd (cc (names, none)))) begins

  -- whether the exchange hits or misses
  pub lets_go_rule : (e : CallContext) (o header stamp p : ℕ) → (SoundWorldWith heap k → MayLetGo heap.shape k o header stamp p)
      → Keeps heap (let_go_plan e o (mark_of (Locked k.thread p)) header p) k
  lets_go_rule e o header stamp p may = record {
    there = λ v. ((may v).object.within, tt);
    exact = λ v. tt;
    by = λ v.
        let a = away heap k v (λ s y. MayLetGo s y o header stamp p) (may v) in
        let all = runs_in_all v (may v).runs in
        let plan = let_go_plan e o (mark_of (Locked k.thread p)) header p in
        let law = logged.exits_by_mark e o header stamp p v.world v.objects k.thread (inside heap k v) a all.fits all.biases in
        let making = works_making_none (v.world.known k.thread) (Exit o) refl a.own_entry.operation in
        let nothing : Begins v.world.shape (v.world.known k.thread) None = begins_none v.world.shape (v.world.known k.thread) None refl making in
        by_equal (v.world.words (id.Mark o)) (mark_of (Locked k.thread p))
        (λ is.
        let h = exits_by_the_mark e o header stamp p v.world v.objects k.thread (inside heap k v) (a, is) (inl all.fits) in
        kept_telling v.world v.objects k.thread plan all (λ h. refl) (inside heap k v) (Exit o) h tt a.object.known nothing
        (record { hits = eq-eqb _ _ is; grows = λ log. refl; takes = tt; makes_none = refl; works_for_it = making; needs = (a.object.known, tt) }) law)
        (λ n. kept_whole v.world v.objects k.thread plan all (λ h. refl) v.objects
        (exit_misses e o header stamp p v.world v.objects k.thread (inside heap k v) (a, n) (inl all.fits)) law
        (missed_made v.world all.made k.thread plan (ne_eqb _ _ n) (fair v.world v.objects all k.thread plan tt a.object.known tt nothing)));
  }
