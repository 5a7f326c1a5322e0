-- A step that logs an entry which makes no object keeps the law of what is there.
use Rattle.std.proofs.Common.{◌≡◌, ℕ, zero, suc, ◌+◌, ◌<◌, ◌≤◌, Bool, true, false, cond, List, [], ◌∷◌, ◌++◌, length, take}
use Rattle.std.proofs.Common.{slice_get, slice_set, slice_index, Option, Some, None, refl, sym, ap, ◌∙◌, subst, arith, inl, inr}
use Rattle.std.proofs.lemmas.Bool.{cases_lt}
use Rattle.std.proofs.lemmas.List.{get_or_past, take-append-le}
use Rattle.std.proofs.lemmas.Option.{same_Some, slice_get_within, get_or_from_slice_get}
use Rattle.std.specs.List.{AllByRecursion}
use Rattle.plain_monitor.specs.declared.entry.Logged.{Logged}
use Rattle.plain_monitor.specs.History.{log_of, last_stamp, appended, objects_after}
use Rattle.plain_monitor.specs.Made.{Numbering, is_there, needs, take_created, take_made, made_after, IsMadeInTime}
use Rattle.plain_monitor.specs.Monitor.{only_if}
use Rattle.plain_monitor.specs.Objects.{PlainObject, new_object, take_entry}
use Rattle.plain_monitor.proofs.Lists.{all_weaker}
use Rattle.plain_history.specs.Cuts.{cut_logs}
use Rattle.plain_history.specs.Known.{MayFollow, IsMadeBelow, IsKnown, SlotsAreKnown}
use Rattle.plain_history.specs.Stamps.{bound_of, IsAboveBounds, BoundsRise}
use Rattle.plain_history.specs.Tied.{bound_to}
use Rattle.plain_history.proofs.Bounds.{last_grows}
use Rattle.plain_history.proofs.MadeHistories.{made_with, known_may_follow, known_stays}
use Rattle.plain_history.proofs.SlotsKnown.{slots_stay_known, owner_knows}
use Rattle.core_world.specs.declared.word_id.WordId.TheVariants.{Mark, Stamp, Class}
use Rattle.core_world.specs.declared.plan.StepPlan.{StepPlan}
use Rattle.core_world.specs.Clauses.Stamps.{bound_stamp}
use Rattle.core_world.specs.Clauses.Waits.{last_entry}
use Rattle.core_world.specs.Locks.{marks}
use Rattle.core_world.specs.Steps.{known_hit, known_miss, world_after, is_taking}
use Rattle.core_world.specs.Threads.ThreadView.{ThreadView, DumpShot, last_seen}
use Rattle.core_world.specs.Valid.{Fits}
use Rattle.core_world.specs.Words.Acts.{word_after}
use Rattle.core_world.specs.World.{World, with_word_and_known, logs}
use Rattle.core_world.proofs.KnowledgeParts.{with_known_here, each_with_known, logs_grow, logs_length, log_at}
use Rattle.core_locks.proofs.KnownMore.{knows_more}
use Rattle.core_locks.proofs.wait.LeavesStamps.{last_bounded}
use Rattle.core_locks.proofs.Logging.{last_entry_more}
use Rattle.core_world.specs.Threads.References.{numbering, is_told, knows_by_log, is_on, making_in}
use Rattle.core_law.specs.MadeLaw.{there_after, IsAbsent, IsMaking, MadeLaw, stamp_words, MadeLawHolds}
use Rattle.core_made.specs.Steps.{is_there_in, knows_in, IsFairTelling}
use Rattle.core_made.proofs.Absent.{class_stays, stamp_rises, making_stays, absent_stays, word_listed, words_rise}
use Rattle.core_made.proofs.KnownByLog.{by_log_known, all_are_there, told_more, told_is_got, got_from_slot}
use Rattle.core_made.proofs.MarksSeen.{hit_marks}
use Rattle.core_made.proofs.Bounded.{above_last, above_found, taker_finds, teller_owns}

-- fronts stay as they are where a log grows past them
pub cut_grown : (cut : List ℕ) (all : List (List Logged)) (t : ℕ) (xs : List Logged) → length cut ≡ length all → slice_index cut t ≤ length (log_of all t)
    → cut_logs cut (slice_set all t (log_of all t ++ xs)) ≡ cut_logs cut all
cut_grown [] [] t xs e h = refl
cut_grown [] (log ∷ all) t xs e h = absurd (omega (arith, e))
cut_grown (n ∷ ns) [] t xs e h = refl
cut_grown (n ∷ ns) (log ∷ all) zero xs e h = ap (λ front. front ∷ cut_logs ns all) (take-append-le n log xs h)
cut_grown (n ∷ ns) (log ∷ all) (suc t) xs e h = ap (λ rest. take n log ∷ rest) (cut_grown ns all t xs (omega (arith, e)) h)

-- the log of each thread is what it knows to have logged
pub log_known : (x : World) (Q : List PlainObject) (u : ℕ) → Fits x Q → log_of (logs x) u ≡ (x.known u).log
log_known x Q u fits = elim (cases_lt u x.shape.threads) [
  | inl within ↦ log_at 0 x.shape.threads u u x.known (omega arith) within
  | inr far ↦
      let many = logs_length 0 x.shape.threads x.known in
      get_or_past (logs x) u [] (omega (arith, many, far)) ∙ ap (λ (k : ThreadView). k.log) (sym (fits.absent u far))
]

-- the stamp word of an object that is there
pub stamp_listed : (x : World) (Q : List PlainObject) (o : ℕ) (z : PlainObject) → Fits x Q → slice_get Q o ≡ Some z
    → slice_index (stamp_words x) o ≡ x.words (Stamp o)
stamp_listed x Q o z fits at =
    let a = slice_get_within Q o z at in
    let b = fits.sized in
    word_listed 0 (length x.shape.objects) o (λ j. x.words (Stamp j)) o (omega (arith, a, b)) (omega arith)

-- THE STEP OF A PLAN p of thread t, which hits and logs y: the plain objects P become Q
module _ (w : World) (P Q : List PlainObject) (t : ℕ) (p : StepPlan) (y : Logged) (within : t < w.shape.threads)
    (a : IsFairTelling w t p y) (taken : take_entry P t y.entry ≡ Some Q) (fits : Fits w P) (law : MadeLawHolds w) where
  abbrev n : Numbering
  n = numbering w.shape

  abbrev left : ℕ
  left = word_after p.act (w.words p.at)

  abbrev l : ThreadView
  l = known_hit w.shape w.start p (w.words p.at) (w.known t)

  abbrev x : World
  x = with_word_and_known p.at (word_after p.act (w.words p.at)) t (known_hit w.shape w.start p (w.words p.at) (w.known t)) w

  abbrev grown : List (List Logged)
  grown = appended (logs w) t y

  -- what was made before, and is afterwards
  abbrev made : List (List ℕ)
  made = law.made

  -- thread u knows the object before
  abbrev Knows : ℕ → ℕ → Type 0
  Knows u o = IsKnown n law.made (logs w) u o

  -- the bound of an object before, by its owner
  abbrev bound : ℕ → Option ℕ → ℕ
  bound o owner = bound_of (logs w) (stamp_words w) o owner

  -- THE LOGS
  logs_are : logs x ≡ grown
  logs_are = logs_grow w.shape.threads t y l w.known within a.grows

  many : t < length (logs w)
  many = let b = logs_length 0 w.shape.threads w.known in omega (arith, b, within)

  up : last_stamp (log_of (logs w) t) < y.stamp
  up =
      let b = ap last_stamp (log_at 0 w.shape.threads t t w.known (omega arith) within) in
      let c = above_last y.entry (w.words p.at) (last_stamp (w.known t).log) in
      let s = a.stamp in
      omega (arith, b, c, s)

  -- WHAT IS THERE stays, since the entry makes none and finds what it needs
  needs_known : AllByRecursion (Knows t) (needs y.entry)
  needs_known =
      all_weaker (λ o. knows_in w t o ≡ true) (Knows t) (by_log_known n made (logs w) law.in_time (w.known t).log t (law.known t)) (needs y.entry) a.needs

  made_stays : take_made n made t y.entry ≡ Some made
  made_stays = ap (take_created n made t y.entry) a.makes_none ∙ ap (λ b. only_if b made) (all_are_there n made (logs w) t (needs y.entry) needs_known)

  may_follow : MayFollow (logs w) t y
  may_follow =
      known_may_follow (logs w) t y many up
      (all_weaker (Knows t) (λ o. IsMadeBelow (logs w) o (last_stamp (log_of (logs w) t))) (λ o k. k.below) (needs y.entry) needs_known)

  in_time : made_after n grown ≡ Some made
  in_time = made_with n (logs w) t y made made fits.legal.rises law.in_time made_stays may_follow

  -- so it is where the shots cut the logs, which are no longer there
  cut_before : (u i : ℕ) (s : DumpShot) → slice_get (w.known u).shots i ≡ Some s → IsMadeInTime n (cut_logs s.cut grown)
  cut_before u i s h =
      let r = fits.shots.right u i s h in
      subst (IsMadeInTime n) (sym (cut_grown s.cut (logs w) t (y ∷ []) r.threads (r.within t))) (law.cut_in_time u i s h)

  cut_in_time : (u i : ℕ) (s : DumpShot) → slice_get (x.known u).shots i ≡ Some s → IsMadeInTime n (cut_logs s.cut grown)
  cut_in_time u i s = each_with_known (λ z k. slice_get k.shots i ≡ Some s → IsMadeInTime n (cut_logs s.cut grown)) t l w.known u
      (λ h. cut_before t i s (ap (λ ss. slice_get ss i) (sym a.fair.shots) ∙ h)) (λ d. cut_before u i s)

  -- THE WORDS of what isn't there stay, and each class word
  class_on : (o c : ℕ) → w.words (Class o) ≡ c → x.words (Class o) ≡ c
  class_on o c h = class_stays (is_there_in w) p.at left w.words o a.fair.spares ∙ h

  absent : (o : ℕ) → is_there n law.made o ≡ false → IsAbsent (λ u. (x.known u).unfinished) o (x.words (Class o)) (marks x o) (λ u. (x.known u).holds)
  absent o h =
      let before : is_there_in w o ≡ false = ap (λ m. there_after n m o) law.in_time ∙ h in
      absent_stays (is_there_in w) p.at p.act t l w.words w.known o a.fair.spares before (inl refl) a.fair.makes (law.absent o h)

  making : (u o : ℕ) → making_in (x.known u).unfinished ≡ Some o → IsMaking n law.made (λ i. x.words (Class i)) u o
  making u o h =
      let m = law.making u o (sym (making_stays t l w.known u a.fair.makes) ∙ h) in
      record { class_made = m.class_made; next = m.next; stored = class_on o (m.class_made + 1) m.stored }

  -- WHAT THREADS KNOW they know by the longer logs, and what the entry tells its thread it got from a slot of an object that it owns
  slots_before : SlotsAreKnown n made P (logs w) (stamp_words w)
  slots_before =
      let same : law.objects ≡ P = same_Some law.objects P (sym law.taken ∙ fits.taken) in
      subst (λ objects. SlotsAreKnown n made objects (logs w) (stamp_words w)) same law.slots

  known_on : (u o : ℕ) → Knows u o → IsKnown n made grown u o
  known_on u o k =
      known_stays n made made (logs w) t y o (last_stamp (log_of (logs w) u)) (last_stamp (log_of grown u)) fits.legal.rises many up made_stays k
      (last_grows (logs w) t u y many up)

  told_known : (o : ℕ) → is_told l.log o ≡ true → Knows t o
  told_known o told = elim (told_more (w.known t).log y o (ap (λ log. is_told log o) (sym a.grows) ∙ told)) [
    | inl before ↦ law.known t o before
    | inr new ↦
        let g = told_is_got y.entry o a.makes_none new in
        let s = got_from_slot P Q t g.object g.slot o (ap (take_entry P t) (sym g.is) ∙ taken) in
        owner_knows n made P (logs w) (stamp_words w) t g.object g.slot o s.x slots_before s.at s.owner s.has
  ]

  known : (u o : ℕ) → is_told (x.known u).log o ≡ true → IsKnown n made grown u o
  known u o = each_with_known (λ i k. is_told k.log o ≡ true → IsKnown n made grown i o) t l w.known u
      (λ h. known_on t o (told_known o h)) (λ d h. known_on u o (law.known u o h))

  still_knows : (o : ℕ) → knows_in w t o ≡ true → knows_by_log n l.log o ≡ true
  still_knows o h = ap (λ log. knows_by_log n log o) a.grows ∙ knows_more n (w.known t).log y o h

  unfinished : (u o : ℕ) → is_on (x.known u).unfinished o ≡ true → knows_by_log n (x.known u).log o ≡ true
  unfinished u o = each_with_known (λ i k. is_on k.unfinished o ≡ true → knows_by_log n k.log o ≡ true) t l w.known u
      (λ h. still_knows o (a.fair.begins o h)) (λ d. law.unfinished u o)

  saw : (u o s : ℕ) → (x.known u).reached ≡ false → last_seen (Mark o) (x.known u).seen ≡ Some s → knows_by_log n (x.known u).log o ≡ true
  saw u o s = each_with_known (λ i k. k.reached ≡ false → last_seen (Mark o) k.seen ≡ Some s → knows_by_log n k.log o ≡ true) t l w.known u
      (λ free h. still_knows o (hit_marks w law t p a.fair.looks a.fair.ends o s free h)) (λ d. law.saw u o s)

  -- THE SLOTS. The entry is above the bound of its object: its owner's last stamp, or the stamp word that it was stamped by
  owned : (o : ℕ) (z : PlainObject) → z.monitor.owner ≡ Some t → bound o z.monitor.owner < y.stamp
  owned o z own = let s = ap (bound o) own in omega (arith, s, up)

  unowned : (o : ℕ) (z : PlainObject) → is_taking y.entry ≡ true → bound_to y.entry ≡ Some o → slice_get P o ≡ Some z → z.monitor.owner ≡ None
      → bound o z.monitor.owner < y.stamp
  unowned o z taking b at free =
      let s = ap (bound o) free in
      let word = stamp_listed w P o z fits at in
      let found = ap w.words (a.takes o taking b) in
      let c = above_found y.entry (w.words p.at) (last_stamp (w.known t).log) taking in
      let g = a.stamp in
      omega (arith, s, word, found, c, g)

  above : IsAboveBounds P (logs w) (stamp_words w) t y
  above = record { thread = many; stamp = up; bound = λ o z b at. by_taking o z b at (is_taking y.entry) refl }
    where
      by_taking : (o : ℕ) (z : PlainObject) → bound_to y.entry ≡ Some o → slice_get P o ≡ Some z → (k : Bool) → is_taking y.entry ≡ k
          → bound o z.monitor.owner < y.stamp
      by_taking o z b at false e = owned o z (teller_owns P Q t y.entry o z e b taken at)
      by_taking o z b at true e = elim (taker_finds P Q t y.entry o z e b taken at) [ inl free ↦ unowned o z e b at free | inr own ↦ owned o z own ]

  -- AFTERWARDS the world fits: so the entry is within the bound of its object
  module _ (after : Fits x Q) where
    -- the bound of an object then, by its owner, as a fitting world has it
    abbrev bound_then : ℕ → Option ℕ → ℕ
    bound_then o owner = bound_stamp (λ u. (x.known u).log) (x.words (Stamp o)) owner

    bound_is : (o : ℕ) (z : PlainObject) (owner : Option ℕ) → slice_get Q o ≡ Some z → bound_then o owner ≡ bound_of grown (stamp_words x) o owner
    bound_is o z None at = sym (stamp_listed x Q o z after at)
    bound_is o z (Some u) at = ap last_stamp (sym (log_known x Q u after) ∙ ap (λ all. log_of all u) logs_are)

    last_is : last_entry (x.known t).log ≡ Some y
    last_is = ap (λ (k : ThreadView). last_entry k.log) (with_known_here t l w.known) ∙ ap last_entry a.grows ∙ last_entry_more (w.known t).log y

    rise : BoundsRise Q (logs w) (stamp_words w) (stamp_words x) t y
    rise = record {
      others = λ o d.
          words_rise 0 (length w.shape.objects) (λ j. w.words (Stamp j)) (λ j. x.words (Stamp j))
          (λ j. stamp_rises (is_there_in w) p.at left w.words j a.fair.spares) o;
      own = λ o z b at.
          let low = last_bounded x Q t o y after last_is b in
          let same = ap (λ (k : PlainObject). bound_then o k.monitor.owner) (get_or_from_slice_get Q o z (new_object 0) at) in
          let is = bound_is o z z.monitor.owner at in
          omega (arith, low, same, is);
    }

    slots : SlotsAreKnown n made Q grown (stamp_words x)
    slots =
        slots_stay_known n made made P Q (logs w) (stamp_words w) (stamp_words x) t y fits.legal.rises above taken made_stays needs_known rise slots_before

    pub told_law : MadeLawHolds x
    told_law =
        subst
        (λ all. MadeLaw n w.shape.objects all (stamp_words x) (λ o. x.words (Class o)) (marks x) (λ u. (x.known u).holds) (λ u. (x.known u).log)
        (λ u. (x.known u).unfinished) (λ u. (x.known u).shots) (λ u. (x.known u).seen) (λ u. (x.known u).reached))
        (sym logs_are)
        (record {
          made = made;
          in_time = in_time;
          cut_in_time = cut_in_time;
          classes = λ o c first is. class_on o (c + 1) (law.classes o c first is);
          absent = absent;
          making = making;
          known = known;
          unfinished = unfinished;
          saw = saw;
          objects = Q;
          taken = ap (objects_after w.shape.objects) (sym logs_are) ∙ after.taken;
          slots = slots;
        })

-- the world after the step, by whether it hits
abbrev after_by : World → ℕ → StepPlan → Bool → World
after_by w t p b =
    with_word_and_known p.at (word_after p.act (w.words p.at)) t
    (cond b (known_hit w.shape w.start p (w.words p.at) (w.known t)) (known_miss w.shape w.start p (w.words p.at) (w.known t))) w

pub telling_keeps : (w : World) (P Q : List PlainObject) (t : ℕ) (p : StepPlan) (y : Logged) → t < w.shape.threads
    → IsFairTelling w t p y → take_entry P t y.entry ≡ Some Q → Fits w P → Fits (world_after p t w) Q → MadeLawHolds w
    → MadeLawHolds (world_after p t w)
telling_keeps w P Q t p y within a taken fits after law =
    let hit : Fits (after_by w t p true) Q → MadeLawHolds (after_by w t p true) = told_law w P Q t p y within a taken fits law in
    subst (λ b. Fits (after_by w t p b) Q → MadeLawHolds (after_by w t p b)) (sym a.hits) hit after
