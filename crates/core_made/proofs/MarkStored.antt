-- The law of what is there after the store of a first mark, which logs the object's New: the object is there, and its thread knows it.
use Rattle.std.proofs.Common.{◌≡◌, ◌≢◌, ◌⊎◌, ℕ, zero, suc, ◌+◌, ◌<◌, ◌==◌, eqb-true, ne_eqb, Bool, true, false, cond, List, [], ◌∷◌}
use Rattle.std.proofs.Common.{length, slice_get, Option, Some, None, unwrap_or, refl, sym, ap, ◌∙◌, subst, arith, inl, inr}
use Rattle.std.proofs.lemmas.Option.{same_Some, unwrap_or-slice_get}
use Rattle.std.specs.List.{AllByRecursion}
use Rattle.plain_monitor.specs.declared.entry.Entry.TheVariants.{New}
use Rattle.plain_monitor.specs.declared.entry.Logged.{Logged}
use Rattle.plain_monitor.specs.Monitor.{free_monitor, only_if}
use Rattle.plain_monitor.specs.Objects.{PlainObject, new_object, new_objects}
use Rattle.plain_monitor.specs.History.{RisesAbove, last_stamp, log_of, appended, objects_after}
use Rattle.plain_monitor.specs.Made.{Numbering, is_there, may_create, take_made, made_after, IsMadeInTime}
use Rattle.plain_history.specs.Cuts.{cut_logs}
use Rattle.plain_history.specs.Known.{IsKnown}
use Rattle.plain_history.proofs.Bounds.{last_of_own, last_grows, rise_unbound}
use Rattle.plain_history.proofs.MadeHistories.{made_with, known_may_follow, made_new, known_stays, new_is_known}
use Rattle.plain_history.proofs.MadeSteps.{grown, there_more, MayCreate, creating, may_be_created}
use Rattle.plain_history.proofs.NotThere.{not_there_is_new}
use Rattle.plain_history.proofs.SlotsKnown.{slots_stay_known}
use Rattle.core_world.specs.declared.word_id.WordId.TheVariants.{Mark, Class}
use Rattle.core_world.specs.declared.heap_call.Unfinished.{Unfinished}
use Rattle.core_world.specs.Locks.{marks, monitor_of, object_of}
use Rattle.core_world.specs.Steps.{known_hit, seen_before, world_after}
use Rattle.core_world.specs.Threads.ThreadView.{ThreadView, DumpShot, StepMade, last_seen}
use Rattle.core_world.specs.Trees.CreateSteps.{make_plan}
use Rattle.core_world.specs.Trees.Plans.{CallContext}
use Rattle.core_world.specs.Valid.{Fits}
use Rattle.core_world.specs.World.{World, logs}
use Rattle.core_world.proofs.ActsLook.{seen_is_part}
use Rattle.core_world.proofs.Frames.{frame4}
use Rattle.core_world.proofs.KnowledgeParts.{by_equal, with_known_here, with_known_else, each_with_known, part_moves, logs_grow, logs_length, log_at}
use Rattle.core_locks.proofs.KnownMore.{knows_more}
use Rattle.core_locks.specs.Knowing.{Logs}
use Rattle.core_world.specs.Threads.References.{is_told, knows_by_log, numbering, is_on, making_in}
use Rattle.core_law.specs.MadeLaw.{MadeLaw, MadeLawHolds, is_there_by, there_after, stamp_words}
use Rattle.core_made.specs.Steps.{is_there_in}
use Rattle.core_made.specs.Making.{IsUnseen, IsFresh, IsFirstMark, StandsBeforeMark}
use Rattle.core_made.proofs.EntriesTold.{cut_grown}
use Rattle.core_made.proofs.Fair.{known_there}
use Rattle.core_made.proofs.FirstMarks.{makes_valid, made_fits}
use Rattle.core_made.proofs.KnownByLog.{told_more, knows_new}
use Rattle.core_made.proofs.NextNumbers.{next_is_absent, other_next, class_less}

-- an object that is as it was at first has nobody who waits on it, or was notified from it
free_at : (shape : List (ℕ × ℕ)) (o : ℕ) → monitor_of (new_objects shape) o ≡ free_monitor
free_at [] o = refl
free_at (x ∷ shape) zero = refl
free_at (x ∷ shape) (suc o) = free_at shape o

new_is_free : (objects : List PlainObject) (shape : List (ℕ × ℕ)) (o : ℕ) → slice_get objects o ≡ slice_get (new_objects shape) o
    → monitor_of objects o ≡ free_monitor
new_is_free objects shape o e =
    let same : object_of objects o ≡ object_of (new_objects shape) o =
    sym (unwrap_or-slice_get objects o (new_object 0)) ∙ ap (λ (r : Option PlainObject). unwrap_or r (new_object 0)) e
    ∙ unwrap_or-slice_get (new_objects shape) o (new_object 0) in
    ap (λ (x : PlainObject). x.monitor) same ∙ free_at shape o

-- THE LAW, over functions: thread t logs at this stamp that it has made its object
module _ {n : Numbering} {shape : List (ℕ × ℕ)} {logs : List (List Logged)} {stamps : List ℕ} {class mark : ℕ → ℕ}
    {holds : ℕ → List ℕ} {log : ℕ → List Logged} {under_way : ℕ → Option Unfinished} {shots : ℕ → List DumpShot} {seen : ℕ → List StepMade}
    {reached : ℕ → Bool} (law : MadeLaw n shape logs stamps class mark holds log under_way shots seen reached) (t o c s : ℕ)
    (is : making_in (under_way t) ≡ Some o) (classed : class o ≡ c + 1)
    (rises : AllByRecursion (RisesAbove 0) logs) (thread : t < length logs) (up : last_stamp (log_of logs t) < s) where
  abbrev y : Logged
  y = record { stamp = s; entry = New o c }

  abbrev made2 : List (List ℕ)
  made2 = grown law.made t c

  -- the class that the thread logs is the one of the class word
  may_make : may_create n law.made t (o, c) ≡ true
  may_make =
      let its = law.making t o is in
      let word = its.stored in
      let same : its.class_made ≡ c = omega (arith, word, classed) in
      ap (λ d. may_create n law.made t (o, d)) (sym same) ∙ its.next

  next : MayCreate n law.made t (o, c)
  next = creating n law.made t (o, c) may_make

  pub not_there : is_there n law.made o ≡ false
  not_there = next_is_absent n law.made t (o, c) next

  taken_made : take_made n law.made t (New o c) ≡ Some made2
  taken_made = ap (λ b. only_if b made2) may_make

  pub in_time : made_after n (appended logs t y) ≡ Some made2
  in_time = made_with n logs t y law.made made2 rises law.in_time taken_made (known_may_follow logs t y thread up tt)

  -- what isn't there afterwards wasn't there before, and is another object
  was_absent : (i : ℕ) → is_there n made2 i ≡ false → is_there n law.made i ≡ false
  was_absent i e = by_test (is_there n law.made i) refl
    where
      by_test : (b : Bool) → is_there n law.made i ≡ b → b ≡ false
      by_test false h = refl
      by_test true h = let there = there_more n law.made t c i next.thread h in absurd (cc (there, e))

  pub new_there : is_there n made2 o ≡ true
  new_there = (made_new n law.made made2 t (New o c) o taken_made refl).is

  is_other : (i : ℕ) → is_there n made2 i ≡ false → i ≢ o
  is_other i e same = let new = new_there in let not = ap (is_there n made2) (sym same) ∙ e in absurd (cc (new, not))

  -- what threads know
  known_on : (u i : ℕ) → IsKnown n law.made logs u i → IsKnown n made2 (appended logs t y) u i
  known_on u i k =
      known_stays n law.made made2 logs t y i (last_stamp (log_of logs u)) (last_stamp (log_of (appended logs t y) u)) rises thread up taken_made k
      (last_grows logs t u y thread up)

  new_known : IsKnown n made2 (appended logs t y) t o
  new_known =
      let last = last_of_own logs t y thread in
      new_is_known n law.made made2 logs t y o (last_stamp (log_of (appended logs t y) t)) rises thread up law.in_time taken_made refl (omega (arith, last))

  -- a thread that makes another object isn't this one
  other_maker : (u i : ℕ) → i ≢ o → making_in (under_way u) ≡ Some i → u ≢ t
  other_maker u i other e same = other (sym (same_Some o i (sym is ∙ ap (λ z. making_in (under_way z)) (sym same) ∙ e)))

  pub mark_stored : (mark2 : ℕ → ℕ) (log2 : ℕ → List Logged) (under_way2 : ℕ → Option Unfinished) (seen2 : ℕ → List StepMade)
      → ((i : ℕ) → i ≢ o → mark2 i ≡ mark i)
      → ((u i : ℕ) → is_told (log2 u) i ≡ true → (is_told (log u) i ≡ true) ⊎ ((u ≡ t) × (i ≡ o)))
      → making_in (under_way2 t) ≡ None → ((u : ℕ) → u ≢ t → making_in (under_way2 u) ≡ making_in (under_way u))
      → ((u i : ℕ) → is_on (under_way2 u) i ≡ true → knows_by_log n (log2 u) i ≡ true)
      → ((u i v : ℕ) → reached u ≡ false → last_seen (Mark i) (seen2 u) ≡ Some v → knows_by_log n (log2 u) i ≡ true)
      → ((u k : ℕ) (z : DumpShot) → slice_get (shots u) k ≡ Some z → IsMadeInTime n (cut_logs z.cut (appended logs t y)))
      → objects_after shape (appended logs t y) ≡ Some law.objects
      → MadeLaw n shape (appended logs t y) stamps class mark2 holds log2 under_way2 shots seen2 reached
  mark_stored mark2 log2 under_way2 seen2 marked told none theirs begins sees cuts taken = record {
    made = made2;
    in_time = in_time;
    cut_in_time = cuts;
    classes = λ i d past e. elim (class_less n law.made t o c i d next e) [
      | inl a ↦ ap class a.0 ∙ classed ∙ ap (λ k. k + 1) (sym a.1)
      | inr a ↦ law.classes i d past a
    ];
    absent = λ i e.
        let other = is_other i e in
        let was = law.absent i (was_absent i e) in
        record {
          classless = elim was.classless [ inl h ↦ inl h | inr h ↦ inr (h.0, theirs h.0 (other_maker h.0 i other h.1) ∙ h.1) ];
          neutral = marked i other ∙ was.neutral;
          unheld = was.unheld;
        };
    making = λ u i e. by_equal u t
        (λ same. let ended = ap (λ z. making_in (under_way2 z)) same ∙ none in absurd (cc (ended, e)))
        (λ ne.
        let was = law.making u i (sym (theirs u ne) ∙ e) in
        let p : ℕ × ℕ = (i, was.class_made) in
        record {
          class_made = was.class_made;
          next = may_be_created n made2 u p (other_next n law.made t c u p ne (creating n law.made u p was.next));
          stored = was.stored;
        });
    known = λ u i h. elim (told u i h) [
      | inl a ↦ known_on u i (law.known u i a)
      | inr a ↦ subst (λ z. IsKnown n made2 (appended logs t y) z i) (sym a.0) (subst (IsKnown n made2 (appended logs t y) t) (sym a.1) new_known)
    ];
    unfinished = begins;
    saw = sees;
    objects = law.objects;
    taken = taken;
    slots = slots_stay_known n law.made made2 law.objects law.objects logs stamps stamps t y rises
        (record { thread = thread; stamp = up; bound = λ i x b. absurd (cc b) }) refl taken_made tt (rise_unbound law.objects logs stamps t y refl) law.slots;
  }

-- IN A WORLD
module _ (e : CallContext) (o c m : ℕ) (w : World) (P : List PlainObject) (t : ℕ) (within : t < w.shape.threads)
    (stands : StandsBeforeMark (w.known t) o c) (first : IsFirstMark w m) (v : Fits w P) (law : MadeLawHolds w) where
  abbrev n : Numbering
  n = numbering w.shape

  abbrev told : Logged
  told = record { stamp = last_stamp (w.known t).log + 1; entry = New o c }

  abbrev l : ThreadView
  l = known_hit w.shape w.start (make_plan e o c m) (w.words (Mark o)) (w.known t)

  abbrev x : World
  x = world_after (make_plan e o c m) t w

  logs_are : logs x ≡ appended (logs w) t told
  logs_are = logs_grow w.shape.threads t told l w.known within refl

  many : t < length (logs w)
  many = let b = logs_length 0 w.shape.threads w.known in omega (arith, b, within)

  up : last_stamp (log_of (logs w) t) < last_stamp (w.known t).log + 1
  up = let b = ap last_stamp (log_at 0 w.shape.threads t t w.known (omega arith) within) in omega (arith, b)

  -- the thread still sees the class word that it has stored
  classed : w.words (Class o) ≡ c + 1
  classed = v.seen.stays t (Class o) (c + 1) stands.saw (inl (stands.may.runs, λ z. omega (arith, z)))

  absent : is_there n law.made o ≡ false
  absent = not_there law t o c (last_stamp (w.known t).log + 1) stands.making classed v.legal.rises many up

  -- No thread that runs or asks has seen the object's mark: it would know the object, which isn't there; but where its safepoint is reached nobody runs.
  unseen : IsUnseen w o
  unseen u s saw asks = by_reached (w.known u).reached refl
    where
      by_reached : (b : Bool) → (w.known u).reached ≡ b → ⊥
      by_reached true e = let stopped = (v.safe.safepoint u e).1 t in let runs = stands.may.runs in absurd (cc (stopped, runs))
      by_reached false e =
          let there = known_there w law u o (law.saw u o s e saw) in
          let isnt = ap (λ made. there_after n made o) law.in_time ∙ absent in
          absurd (cc (there, isnt))

  -- what the law says of the object, which isn't there yet
  fresh : IsFresh w P o
  fresh =
      let free = new_is_free P w.shape.objects o (not_there_is_new n w.shape.objects (logs w) law.made P o law.in_time v.taken absent) in
      record {
        mark = (law.absent o absent).neutral;
        unheld = (law.absent o absent).unheld;
        nobody = (ap (λ m. m.waits) free, ap (λ m. m.called) free);
        unseen = unseen;
      }

  pub logs_it : Logs w P t (make_plan e o c m) (New o c)
  logs_it = makes_valid e o c m w P t within stands.may fresh classed first v

  -- the thread has seen the mark by this step, and knows the object by its New; of other marks it has seen no more than before
  own_marks : (i s : ℕ) → (w.known t).reached ≡ false → (b : Bool) → (i == o) ≡ b
      → cond b (Some m) (last_seen (Mark i) (seen_before w.shape (w.known t))) ≡ Some s → knows_by_log n l.log i ≡ true
  own_marks i s free true e h = knows_new n (w.known t).log told i e
  own_marks i s free false e h = knows_more n (w.known t).log told i (law.saw t i s free (seen_is_part w.shape (w.known t) (Mark i) s h))

  sees : (u i s : ℕ) → (w.known u).reached ≡ false → last_seen (Mark i) (x.known u).seen ≡ Some s → knows_by_log n (x.known u).log i ≡ true
  sees u i s = each_with_known (λ z k. (w.known z).reached ≡ false → last_seen (Mark i) k.seen ≡ Some s → knows_by_log n k.log i ≡ true) t l w.known u
      (λ free h. own_marks i s free (i == o) refl h) (λ d. law.saw u i s)

  mark_else : (i : ℕ) → i ≢ o → marks x i ≡ marks w i
  mark_else i d = ap (λ (b : Bool). cond b m (marks w i)) (ne_eqb i o d)

  tells_new : (u i : ℕ) → is_told (x.known u).log i ≡ true → (is_told (w.known u).log i ≡ true) ⊎ ((u ≡ t) × (i ≡ o))
  tells_new u i = each_with_known (λ z k. is_told k.log i ≡ true → (is_told (w.known z).log i ≡ true) ⊎ ((z ≡ t) × (i ≡ o))) t l w.known u
      (λ h. elim (told_more (w.known t).log told i h) [ inl a ↦ inl a | inr a ↦ inr (refl, eqb-true i o a) ]) (λ d h. inl h)

  cuts : (u k : ℕ) (z : DumpShot) → slice_get (w.known u).shots k ≡ Some z → IsMadeInTime n (cut_logs z.cut (appended (logs w) t told))
  cuts u k z h =
      let r = v.shots.right u k z h in
      subst (IsMadeInTime n) (sym (cut_grown z.cut (logs w) t (told ∷ []) r.threads (r.within t))) (law.cut_in_time u k z h)

  objects_stay : objects_after w.shape.objects (appended (logs w) t told) ≡ Some law.objects
  objects_stay =
      let same : law.objects ≡ P = same_Some law.objects P (sym law.taken ∙ v.taken) in
      ap (objects_after w.shape.objects) (sym logs_are) ∙ (made_fits w P t e o c m within stands.may fresh classed first v).taken ∙ ap Some (sym same)

  -- the object is there then
  pub there_now : is_there_in x o ≡ true
  there_now =
      let stamp = last_stamp (w.known t).log + 1 in
      let time = in_time law t o c stamp stands.making classed v.legal.rises many up in
      ap (λ ls. is_there_by n ls o) logs_are ∙ ap (λ made. there_after n made o) time ∙ new_there law t o c stamp stands.making classed v.legal.rises many up

  pub mark_keeps : MadeLawHolds x
  mark_keeps =
      frame4
      (λ ls f s r. MadeLaw n w.shape.objects ls (stamp_words w) (λ i. w.words (Class i)) (marks x) f (λ u. (x.known u).log)
      (λ u. (x.known u).unfinished) s (λ u. (x.known u).seen) r)
      (sym logs_are) (part_moves (λ k. k.holds) t l w.known refl) (part_moves (λ k. k.shots) t l w.known refl)
      (part_moves (λ k. k.reached) t l w.known refl)
      (mark_stored law t o c (last_stamp (w.known t).log + 1) stands.making classed v.legal.rises many up (marks x) (λ u. (x.known u).log)
      (λ u. (x.known u).unfinished) (λ u. (x.known u).seen) mark_else tells_new
      (ap (λ (k : ThreadView). making_in k.unfinished) (with_known_here t l w.known))
      (λ u d. ap (λ (k : ThreadView). making_in k.unfinished) (with_known_else t l w.known u d))
      (λ u i. each_with_known (λ z k. is_on k.unfinished i ≡ true → knows_by_log n k.log i ≡ true) t l w.known u
      (λ h. absurd (cc h)) (λ d. law.unfinished u i))
      sees cuts objects_stay)

-- THE LAW OF THE STEP
pub mark_keeps_law : (e : CallContext) (o c m : ℕ) (w : World) (P : List PlainObject) (t : ℕ) → t < w.shape.threads
    → StandsBeforeMark (w.known t) o c → IsFirstMark w m → Fits w P → MadeLawHolds w
    → Logs w P t (make_plan e o c m) (New o c) × MadeLawHolds (world_after (make_plan e o c m) t w)
mark_keeps_law e o c m w P t within stands first v law =
    (logs_it e o c m w P t within stands first v law, mark_keeps e o c m w P t within stands first v law)
