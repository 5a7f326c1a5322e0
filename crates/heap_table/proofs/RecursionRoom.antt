-- The recursions that an owner raises fit their word: the monitor is that of the object, so they count hold words, of which there are 64.
-- That follows from the sound worlds after the thread's next steps: the one that raises them, and those up to its new hold word.
use Rattle.std.proofs.Common.{◌≡◌, ℕ, ◌+◌, ◌^◌, ◌<◌, ◌≤◌, ◌||◌, eq-eqb, ne_eqb, eqb-true, Bool, true, false, cond, length}
use Rattle.std.proofs.Common.{slice_index, Option, Some, None, refl, sym, ap, ◌∙◌, subst, arith, inl, inr}
use Rattle.mark_word.specs.declared.mark.MarkForm.{MarkForm}
use Rattle.mark_word.specs.declared.mark.MarkForm.TheVariants.{Inflating, Neutral, Anonymous, Biased, Locked, Inflated, Marked}
use Rattle.mark_word.specs.declared.owner.OwnerForm.{OwnerForm}
use Rattle.mark_word.specs.declared.owner.OwnerForm.TheVariants.{Free, ByThread, ByRecord}
use Rattle.mark_word.specs.Mark.{read_mark}
use Rattle.mark_word.specs.Owner.{read_owner}
use Rattle.plain_monitor.specs.Limits.{most_holds}
use Rattle.plain_monitor.specs.Monitor.{is_thread}
use Rattle.plain_monitor.specs.declared.entry.Path.{Path}
use Rattle.plain_monitor.specs.declared.entry.Path.TheVariants.{MonitorAgain}
use Rattle.core_world.specs.declared.answer.Progress.{Progress}
use Rattle.core_world.specs.declared.word_id.WordId.TheVariants.{Displaced, Hold, Recursions}
use Rattle.core_world.specs.declared.plan.StepPlan.{StepPlan}
use Rattle.core_world.specs.declared.stage.Stage.{Stage}
use Rattle.core_world.specs.declared.stage.Stage.TheVariants.{Settled, BiasAcquired, RecursionsRaised, Enters}
use Rattle.core_world.specs.declared.heap_call.HeapCall.{HeapCall}
use Rattle.core_world.specs.Clauses.Safepoints.{IsQuiet}
use Rattle.core_world.specs.Due.{IsDue, IsNext}
use Rattle.core_world.specs.Locks.{Lock, Open, BiasedTo, OnRecord, OwnedBy, lock, lock_form, owner_lock, holder, who, has_epoch, owner_at}
use Rattle.core_world.specs.Locks.{marks, owner_words, prototype_of, inflations, displaced_words, hold_count, recursion_count}
use Rattle.core_world.specs.Steps.{known_after, world_after}
use Rattle.core_world.specs.Threads.ThreadView.{ThreadView, Local, local_of}
use Rattle.core_world.specs.Threads.Stages.{Inflation, bears, one_if, path_into, recursions_ahead, recursions_lowered, revocation_in}
use Rattle.core_world.specs.Trees.LockSteps.{displace_plan, hold_plan, hold_steps}
use Rattle.core_world.specs.Trees.MonitorSteps.{raise_count_plan, record_steps}
use Rattle.core_world.specs.Trees.Plans.{CallContext, load, free_place, done_with}
use Rattle.core_world.specs.Trees.StepTree.{StepTree, step, ◌>>=◌, ask}
use Rattle.core_world.specs.Valid.{Fits}
use Rattle.core_world.specs.Words.Forms.{hold_word, is_biased, is_biased_form, is_neutral, monitor_in, monitor_form, epoch_in}
use Rattle.core_world.specs.World.{World}
use Rattle.core_world.proofs.CallRests.{next_due, then_due}
use Rattle.core_world.proofs.KnowledgeParts.{by_equal}
use Rattle.core_world.proofs.bias.LookWhileRevoking.{forgotten}
use Rattle.core_world.proofs.enter_exit.OwnersShown.{fits_running, inflated_form, with_word_there}
use Rattle.core_law.specs.BiasLaw.{BiasLawHolds}
use Rattle.core_law.specs.WholeLaw.{LawsHold, WhollyValid}
use Rattle.core_law.specs.Logic.{Heap, heap_of}
use Rattle.core_law.specs.Sound.{Sound}
use Rattle.core_law.specs.HeapLaw.{HeapLaw}
use Rattle.core_law.proofs.NextSteps.{stands_here, stepping_sound, stepping_there}
use Rattle.core_law.proofs.Places.{number_few, room_here}
use Rattle.heap_table.specs.Parts.{IsDueOn}
use Rattle.heap_table.proofs.Lawful.{law_of}
use Rattle.heap_table.specs.Seen.{HeapSeen, PassSeen, IsOf}
use Rattle.heap_table.specs.Stepping.{HasStepped}
use Rattle.heap_table.proofs.Knows.{told_here}
use Rattle.heap_table.proofs.Parts.{rest_due}

-- WHAT A LOCK SAYS OF THE MARK
biased_mark : (f : Option MarkForm) (prototype : ℕ) (owners : ℕ → ℕ) (named : Option Inflation) (u : ℕ)
    → lock_form f prototype owners named ≡ BiasedTo u → is_biased_form f ≡ true
biased_mark None prototype owners named u e = absurd (cc e)
biased_mark (Some Inflating) prototype owners None u e = absurd (cc e)
biased_mark (Some Inflating) prototype owners (Some i) u e = absurd (cc e)
biased_mark (Some (Neutral hash age)) prototype owners named u e = absurd (cc e)
biased_mark (Some (Anonymous epoch age)) prototype owners named u e = absurd (cc e)
biased_mark (Some (Biased thread epoch age)) prototype owners named u e = refl
biased_mark (Some (Locked thread place)) prototype owners named u e = absurd (cc e)
biased_mark (Some (Inflated m)) prototype owners named u e = cases (read_owner (owners m)) e
  where
    cases : (g : Option OwnerForm) → owner_lock g ≡ BiasedTo u → is_biased_form (Some (Inflated m)) ≡ true
    cases None e = absurd (cc e)
    cases (Some Free) e = absurd (cc e)
    cases (Some (ByThread v)) e = absurd (cc e)
    cases (Some (ByRecord v p)) e = absurd (cc e)
biased_mark (Some Marked) prototype owners named u e = absurd (cc e)

-- the mark names a monitor whose owner is this thread
abbrev Names : Option MarkForm → (ℕ → ℕ) → ℕ → Type 0
Names f owners u = (m : ℕ) × (monitor_form f ≡ Some m) × (owner_lock (read_owner (owners m)) ≡ OwnedBy u)

owned_mark : (f : Option MarkForm) (prototype : ℕ) (owners : ℕ → ℕ) (named : Option Inflation) (u : ℕ)
    → lock_form f prototype owners named ≡ OwnedBy u → Names f owners u
owned_mark None prototype owners named u e = absurd (cc e)
owned_mark (Some Inflating) prototype owners None u e = absurd (cc e)
owned_mark (Some Inflating) prototype owners (Some i) u e = absurd (cc e)
owned_mark (Some (Neutral hash age)) prototype owners named u e = absurd (cc e)
owned_mark (Some (Anonymous epoch age)) prototype owners named u e = absurd (cc e)
owned_mark (Some (Biased thread epoch age)) prototype owners named u e = cases (has_epoch (epoch_in prototype) epoch) e
  where
    cases : (b : Bool) → cond b (BiasedTo thread) Open ≡ OwnedBy u → Names (Some (Biased thread epoch age)) owners u
    cases true e = absurd (cc e)
    cases false e = absurd (cc e)
owned_mark (Some (Locked thread place)) prototype owners named u e = absurd (cc e)
owned_mark (Some (Inflated m)) prototype owners named u e = (m, refl, e)
owned_mark (Some Marked) prototype owners named u e = absurd (cc e)

not_neutral : is_neutral 3 ≡ true → ⊥
unfolding read_mark
not_neutral e = cc e

or_true : (b c : Bool) → c ≡ true → (b || c) ≡ true
or_true true c e = refl
or_true false c e = e

-- a thread that stands in the middle of something other than a revocation or a bias that it takes runs, and every clause holds
record InMiddle (w : World) (v : WhollyValid w) (t : ℕ) : Type 0 where
  pub fits : Fits w v.objects
  pub law : BiasLawHolds w
  pub runs : (w.known t).running ≡ true

in_middle : (w : World) (v : WhollyValid w) (t : ℕ) (stage : Stage) → (w.known t).stage ≡ stage → (stage ≡ Settled → ⊥)
    → ((i : ℕ) → stage ≡ BiasAcquired i → ⊥) → revocation_in stage ≡ None → InMiddle w v t
in_middle w v t stage at some other none = elim v.is [
  | inl a ↦ record { fits = a.0; law = a.1.biases; runs = running (w.known t).running refl a.0 }
  | inr s ↦ absurd (by_equal t s.0.requester
      (λ e.
      let revokes = s.0.its_revocation in
      let not : revocation_in (w.known s.0.requester).stage ≡ None = ap (λ u. revocation_in (w.known u).stage) (sym e) ∙ ap revocation_in at ∙ none in
      cc (revokes, not))
      (λ n.
      let stopped : (w.known t).running ≡ false = (s.0.safe.safepoint s.0.requester (ap (λ (k : ThreadView). k.reached) s.0.knows ∙ s.0.reached)).1 t in
      let same = s.0.others t n in
      unquiet (sym at ∙ ap (λ (k : ThreadView). k.stage) same) (s.0.fits.quiet.quiet t (ap (λ (k : ThreadView). k.running) (sym same) ∙ stopped))))
]
  where
    unquiet : {b : Bool} {s : Stage} → stage ≡ s → IsQuiet b s → ⊥
    unquiet same (inl a) = some (same ∙ a)
    unquiet same (inr a) = other a.1.0 (same ∙ a.1.1)

    running : (b : Bool) → (w.known t).running ≡ b → Fits w v.objects → (w.known t).running ≡ true
    running true e a = e
    running false e a = absurd (unquiet (sym at) (a.quiet.quiet t e))

-- THE WORLD AFTER A STEP that is due
module _ {A : Type 0} (w : World) (t : ℕ) (within : t < w.shape.threads)
    (law : HeapLaw (heap_of w)) (sound : Sound w) (task : HeapCall) (p : StepPlan) (f : ℕ → StepTree A)
    (due : IsDue w.shape w.start w.biasing (w.known t) task (step p f)) (same : p.task ≡ task) where
  next : IsNext w.shape w.start w.biasing (w.known t) p
  next = next_due w.shape w.start w.biasing (w.known t) task p f due same

  sound_then : Sound (world_after p t w)
  sound_then = stepping_sound w t p within (law.begins p.task) sound next

  knows_then : (world_after p t w).known t ≡ known_after w.shape w.start p (w.words p.at) (w.known t)
  knows_then = told_here t (known_after w.shape w.start p (w.words p.at) (w.known t)) w.known

  due_after : IsDue w.shape w.start w.biasing ((world_after p t w).known t) task (f (w.words p.at))
  due_after = subst (λ (k : ThreadView). IsDue w.shape w.start w.biasing k task (f (w.words p.at))) (sym knows_then)
      (then_due w.shape w.start w.biasing (w.known t) task p f due same (w.words p.at))

-- THE LOCK WHERE THE THREAD IS ABOUT TO LOG AN ENTER BY THE MONITOR: the record that it has just made is no part of a stack lock
module _ (w : World) (v : WhollyValid w) (t o q d : ℕ) (at : (w.known t).stage ≡ Enters o q MonitorAgain) (low : d ≤ 64)
    (three : displaced_words w t q ≡ 3) (holds : w.words (Hold t q) ≡ hold_word o d) where
  middle : InMiddle w v t
  middle = in_middle w v t (Enters o q MonitorAgain) at (λ e. cc e) (λ i e. cc e) refl

  unbiased : is_biased (marks w o) ≡ false
  unbiased =
      let coming : path_into (w.known t).stage o ≡ Some MonitorAgain =
      ap (λ s. path_into s o) at ∙ ap (λ (b : Bool). cond b (Some MonitorAgain) None) (eq-eqb o o refl) in
      middle.law.marks.unbiased t o MonitorAgain coming refl

  mine : is_thread (who w o) t ≡ true
  mine = middle.fits.owners.same o t ∙ or_true (owner_at v.objects o t) (bears (w.known t).stage o) (ap (λ s. bears s o) at ∙ eq-eqb o o refl)

  no_record : (p : ℕ) → lock w o ≡ OnRecord t p → ⊥
  no_record p rests = by_equal q p
      (λ e.
      let neutral = subst (λ z. is_neutral (displaced_words w t z) ≡ true) (sym e) (middle.fits.records.header o t p rests) in
      not_neutral (subst (λ n. is_neutral n ≡ true) three neutral))
      (λ n.
      let stands : slice_index (w.known t).holds q ≡ hold_word o d = sym (middle.fits.holds.stored t q) ∙ holds in
      let none = middle.fits.records.others o t p q d rests stands low n in
      cc (sym none ∙ three))

  owned_by : lock w o ≡ OwnedBy t
  owned_by = cases (lock w o) refl
    where
      cases : (l : Lock) → lock w o ≡ l → l ≡ OwnedBy t
      cases Open e = absurd (cc (sym mine ∙ ap (λ (l : Lock). is_thread (holder l (λ u. hold_count o (w.known u).holds)) t) e))
      cases (BiasedTo u) e =
          let biased : is_biased (marks w o) ≡ true = biased_mark (read_mark (marks w o)) (prototype_of w o) (owner_words w) (inflations w o) u e in
          absurd (cc (unbiased, biased))
      cases (OnRecord u p) e =
          let own : u ≡ t = eqb-true u t (sym (ap (λ (l : Lock). is_thread (holder l (λ u. hold_count o (w.known u).holds)) t) e) ∙ mine) in
          absurd (no_record p (e ∙ ap (λ z. OnRecord z p) own))
      cases (OwnedBy u) e =
          let own : u ≡ t = eqb-true u t (sym (ap (λ (l : Lock). is_thread (holder l (λ u. hold_count o (w.known u).holds)) t) e) ∙ mine) in
          ap OwnedBy own

  names_owned : Names (read_mark (marks w o)) (owner_words w) t
  names_owned = owned_mark (read_mark (marks w o)) (prototype_of w o) (owner_words w) (inflations w o) t owned_by

-- the lock of an object whose mark names a monitor
lock_is : (w : World) (o m t : ℕ) → monitor_in (marks w o) ≡ Some m → owner_lock (read_owner (owner_words w m)) ≡ OwnedBy t → lock w o ≡ OwnedBy t
lock_is w o m t names own = ap (λ f. lock_form f (prototype_of w o) (owner_words w) (inflations w o)) (inflated_form (read_mark (marks w o)) m names) ∙ own

-- the steps of `monitor_again_steps` after its load, which found r
abbrev raising : CallContext → Local → ℕ → ℕ → ℕ → StepTree (Progress Path)
raising e k o m r = do
  _ ← ask (raise_count_plan e o m r)
  record_steps e (RecursionsRaised o) k o MonitorAgain

-- A calm thread is to raise the recursions of m from r, and then to take a hold of o by the monitor.
module _ (w : World) (t : ℕ) (within : t < w.shape.threads) (law : HeapLaw (heap_of w))
    (sound : Sound w) (e : CallContext) (o m r : ℕ) (calm : (w.known t).stage ≡ Settled)
    (due : IsDue w.shape w.start w.biasing (w.known t) e.task (raising e (local_of (w.known t)) o m r)) where
  -- its lowest free place, the depth of its new hold word, and how many of its records were made through the monitor
  abbrev q : ℕ
  q = free_place (w.known t).holds

  abbrev d : ℕ
  d = hold_count o (w.known t).holds + 1

  abbrev count : ℕ
  count = recursion_count o (displaced_words w t) (w.known t).holds

  abbrev raise : StepPlan
  raise = raise_count_plan e o m r

  abbrev raised : World
  raised = world_after raise t w

  raised_sound : Sound raised
  raised_sound = sound_then w t within law sound e.task raise _ due refl

  raised_knows : raised.known t ≡ known_after w.shape w.start raise (w.words (Recursions m)) (w.known t)
  raised_knows = knows_then w t within law sound e.task raise _ due refl

  abbrev displace : StepPlan
  displace = displace_plan e (RecursionsRaised o) (w.known t).thread q 3

  raised_due : IsDue w.shape w.start w.biasing (raised.known t) e.task (record_steps e (RecursionsRaised o) (local_of (w.known t)) o MonitorAgain)
  raised_due = due_after w t within law sound e.task raise _ due refl

  abbrev displaced : World
  displaced = world_after displace t raised

  displaced_sound : Sound displaced
  displaced_sound = sound_then raised t within law raised_sound e.task displace _ raised_due refl

  abbrev hold : StepPlan
  hold = hold_plan e (w.known t).thread o d q MonitorAgain

  displaced_due : IsDue w.shape w.start w.biasing (displaced.known t) e.task (hold_steps e (local_of (w.known t)) o MonitorAgain >>= done_with)
  displaced_due = due_after raised t within law raised_sound e.task displace _ raised_due refl

  abbrev held : World
  held = world_after hold t displaced

  held_sound : Sound held
  held_sound = sound_then displaced t within law displaced_sound e.task hold _ displaced_due refl

  held_at : (held.known t).stage ≡ Enters o q MonitorAgain
  held_at = ap (λ (y : ThreadView). y.stage) (knows_then displaced t within law displaced_sound e.task hold _ displaced_due refl)

  raised_at : (raised.known t).stage ≡ RecursionsRaised o
  raised_at = ap (λ (y : ThreadView). y.stage) raised_knows

  raised_middle : InMiddle raised raised_sound.valid t
  raised_middle = in_middle raised raised_sound.valid t (RecursionsRaised o) raised_at (λ e. cc e) (λ i e. cc e) refl

  runs : (w.known t).running ≡ true
  runs = ap (λ (y : ThreadView). y.running) (sym raised_knows) ∙ raised_middle.runs

  fits : Fits w sound.valid.objects
  fits = fits_running w sound.valid.objects t runs (forgotten LawsHold w sound.valid.objects sound.valid.is)

  number : (w.known t).thread ≡ t
  number = fits.numbered t

  place : q < most_holds
  place = (stepping_there raised t displace within (law.begins e.task) raised_sound
      (next raised t within law raised_sound e.task displace _ raised_due refl)).0.1

  room : d ≤ 64
  room = room_here (heap_of w) (w.known t) (stands_here w t within sound.valid) runs o place

  three : held.words (Displaced t q) ≡ 3
  three = subst (λ u. held.words (Displaced u q) ≡ 3) number (with_word_there (Displaced (w.known t).thread q) 3 raised.words)

  stands : held.words (Hold t q) ≡ hold_word o d
  stands = subst (λ u. held.words (Hold u q) ≡ hold_word o d) number
      (with_word_there (Hold (w.known t).thread q) (hold_word o d) displaced.words)

  named : Names (read_mark (marks w o)) (owner_words w) t
  named = names_owned held held_sound.valid t o q d held_at room three stands

  before : w.words (Recursions named.0) ≡ count
  before =
      let a = fits.recursions.owned o named.0 t named.1 (lock_is w o named.0 t named.1 named.2) (λ s. cc (sym s ∙ calm)) (λ s. cc (sym s ∙ calm)) in
      let up = ap (λ s. recursions_ahead s o) calm in
      let down = ap (λ s. recursions_lowered s o) calm in
      omega (arith, a, up, down)

  after : raised.words (Recursions named.0) ≡ count + 1
  after =
      let a = raised_middle.fits.recursions.owned o named.0 t named.1 (lock_is raised o named.0 t named.1 named.2)
      (λ s. cc (sym s ∙ raised_at)) (λ s. cc (sym s ∙ raised_at)) in
      let up : recursions_ahead (raised.known t).stage o ≡ 1 = ap (λ s. recursions_ahead s o) raised_at ∙ ap one_if (eq-eqb o o refl) in
      let down : recursions_lowered (raised.known t).stage o ≡ 0 = ap (λ s. recursions_lowered s o) raised_at in
      let same : recursion_count o (displaced_words w t) (raised.known t).holds ≡ count =
      ap (λ (y : ThreadView). recursion_count o (displaced_words w t) y.holds) raised_knows in
      omega (arith, a, up, down, same)

  pub raised_fits : r + 1 ≤ 65
  raised_fits =
      let most : count ≤ length (w.known t).holds = number_few _ 0 (w.known t).holds in
      let all = fits.holds.places t in
      by_equal named.0 m
      (λ same.
      let there : raised.words (Recursions named.0) ≡ r + 1 =
      ap (λ z. raised.words (Recursions z)) same ∙ with_word_there (Recursions m) (r + 1) w.words in
      omega (arith, there, after, most, all))
      (λ other.
      let still : raised.words (Recursions named.0) ≡ w.words (Recursions named.0) =
      ap (λ (b : Bool). cond b (r + 1) (w.words (Recursions named.0))) (ne_eqb named.0 m other) in
      absurd (omega (arith, still, before, after)))

-- so in a call of a heap they fit their word
pub recursion_room : (h : HeapSeen) (p q : PassSeen) (e : CallContext) (o m n : ℕ) → IsOf h p
    → IsDueOn h p e.task (step (load e (Recursions m)) (λ r. raising e (local_of p.known) o m r))
    → HasStepped h p q (load e (Recursions m)) n → n + 1 < 2 ^ 64
recursion_room h p q e o m n is_of due s =
    let look = load e (Recursions m) in
    let rest = rest_due h p e.task look _ due refl q n s in
    let local : local_of q.known ≡ local_of p.known = ap local_of s.known in
    let calm : q.known.stage ≡ Settled = ap (λ (y : ThreadView). y.stage) s.known in
    let real = s.heap.real in
    let at : real.world.known q.known.thread ≡ q.known = real.knew in
    let within : q.known.thread < real.world.shape.threads = subst (λ (z : Heap). q.known.thread < z.shape.threads) (sym real.is_of) s.heap.within in
    let here = subst (λ (x : Heap × ThreadView × Local). IsDue x.0.shape x.0.start x.0.biasing x.1 e.task (raising e x.2 o m n))
    (λ i. (sym real.is_of i, sym at i, (sym local ∙ ap local_of (sym at)) i)) rest in
    let a = raised_fits real.world q.known.thread within (subst HeapLaw (sym real.is_of) (law_of real.law)) real.sound e o m n
    (ap (λ (y : ThreadView). y.stage) at ∙ calm) here in
    omega (arith, a)
