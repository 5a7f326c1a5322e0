-- The law of what is there after a step that logs nothing.
use Rattle.std.proofs.Common.{◌≡◌, ℕ, ◌≤◌, Bool, true, false, cond, List, length, slice_index}
use Rattle.std.proofs.Common.{slice_get, Option, Some, None, refl, sym, ap, ◌∙◌, arith, inl, inr}
use Rattle.plain_monitor.specs.declared.entry.Logged.{Logged}
use Rattle.plain_monitor.specs.Objects.{PlainObject}
use Rattle.plain_monitor.specs.Made.{Numbering, is_there, IsMadeInTime}
use Rattle.plain_history.specs.Cuts.{cut_logs}
use Rattle.plain_history.specs.Known.{makes, IsKnownAt, SlotsAreKnown}
use Rattle.plain_history.specs.Stamps.{bound_of}
use Rattle.plain_monitor.specs.Order.{order}
use Rattle.plain_monitor.proofs.Lists.{all_weaker}
use Rattle.core_world.specs.declared.heap_call.Unfinished.{Unfinished}
use Rattle.core_world.specs.Threads.ThreadView.{DumpShot, StepMade, last_seen}
use Rattle.core_world.specs.Locks.{hold_count}
use Rattle.core_world.specs.declared.word_id.WordId.{WordId}
use Rattle.core_world.specs.declared.word_id.WordId.TheVariants.{Mark, Stamp, Class}
use Rattle.core_world.specs.declared.plan.StepPlan.{StepPlan}
use Rattle.core_world.specs.Locks.{marks}
use Rattle.core_world.specs.Steps.{known_hit, known_miss, world_after}
use Rattle.core_world.specs.Threads.ThreadView.{ThreadView}
use Rattle.core_world.specs.Words.Acts.{word_after, hits}
use Rattle.core_world.specs.World.{World, with_word_and_known, logs}
use Rattle.core_world.proofs.Frames.{frame2}
use Rattle.core_world.proofs.KnowledgeParts.{each_with_known, part_moves, logs_stay}
use Rattle.core_world.specs.Threads.References.{knows_by_log, numbering, is_on, making_in}
use Rattle.core_law.specs.MadeLaw.{MadeLaw, MadeLawHolds, there_after, stamp_words}
use Rattle.core_made.specs.Steps.{SparesAbsent, IsFair, IsFairQuietly, is_there_in, knows_in}
use Rattle.core_made.proofs.Absent.{mark_stays, class_stays, stamp_rises, unheld_after, words_rise, making_stays}
use Rattle.core_made.proofs.MarksSeen.{missed_marks, hit_marks}

-- what is known at a stamp is known at each greater one
pub known_later : (n : Numbering) (made : List (List ℕ)) (logs : List (List Logged)) (o s r : ℕ) → s ≤ r → IsKnownAt n made logs o s → IsKnownAt n made logs o r
known_later n made logs o s r le k = record {
  there = k.there;
  below = all_weaker (λ x. makes x.1.entry ≡ Some o → x.1.stamp ≤ s) (λ x. makes x.1.entry ≡ Some o → x.1.stamp ≤ r)
      (λ x f e. let a = f e in omega (arith, a, le)) (order logs) k.below;
}

pub slots_later : (n : Numbering) (made : List (List ℕ)) (objects : List PlainObject) (logs : List (List Logged)) (kept now : List ℕ)
    → ((o : ℕ) → slice_index kept o ≤ slice_index now o) → SlotsAreKnown n made objects logs kept → SlotsAreKnown n made objects logs now
slots_later n made objects logs kept now le known p i o x at slot =
    known_later n made logs o (bound_of logs kept p x.monitor.owner) (bound_of logs now p x.monitor.owner) (higher x.monitor.owner)
    (known p i o x at slot)
  where
    higher : (owner : Option ℕ) → bound_of logs kept p owner ≤ bound_of logs now p owner
    higher None = le p
    higher (Some u) = omega arith

-- THE LAW, over functions: the logs stay
module _ {n : Numbering} {shape : List (ℕ × ℕ)} {logs : List (List Logged)} {stamps now : List ℕ}
    {class mark class2 mark2 : ℕ → ℕ} {holds holds2 : ℕ → List ℕ} {log : ℕ → List Logged}
    {under_way under_way2 : ℕ → Option Unfinished} {shots shots2 : ℕ → List DumpShot} {seen seen2 : ℕ → List StepMade} {reached reached2 : ℕ → Bool}
    (law : MadeLaw n shape logs stamps class mark holds log under_way shots seen reached) where
  pub law_stays : ((o : ℕ) → slice_index stamps o ≤ slice_index now o) → ((o : ℕ) → class2 o ≡ class o)
      → ((o : ℕ) → is_there n law.made o ≡ false → mark2 o ≡ mark o)
      → ((o : ℕ) → is_there n law.made o ≡ false → (t : ℕ) → hold_count o (holds2 t) ≡ 0)
      → ((t : ℕ) → making_in (under_way2 t) ≡ making_in (under_way t))
      → ((t o : ℕ) → is_on (under_way2 t) o ≡ true → knows_by_log n (log t) o ≡ true)
      → ((t o v : ℕ) → reached2 t ≡ false → last_seen (Mark o) (seen2 t) ≡ Some v → knows_by_log n (log t) o ≡ true)
      → ((t i : ℕ) (s : DumpShot) → slice_get (shots2 t) i ≡ Some s → IsMadeInTime n (cut_logs s.cut logs))
      → MadeLaw n shape logs now class2 mark2 holds2 log under_way2 shots2 seen2 reached2
  law_stays stamped classed marked held still_makes begins sees cuts = record {
    made = law.made;
    in_time = law.in_time;
    cut_in_time = cuts;
    classes = λ o c past e. classed o ∙ law.classes o c past e;
    absent = λ o e. record {
      classless = elim (law.absent o e).classless [ inl h ↦ inl (classed o ∙ h) | inr h ↦ inr (h.0, still_makes h.0 ∙ h.1) ];
      neutral = marked o e ∙ (law.absent o e).neutral;
      unheld = held o e;
    };
    making = λ t o e.
        let was = law.making t o (sym (still_makes t) ∙ e) in
        record { class_made = was.class_made; next = was.next; stored = classed o ∙ was.stored };
    known = law.known;
    unfinished = begins;
    saw = sees;
    objects = law.objects;
    taken = law.taken;
    slots = slots_later n law.made law.objects logs stamps now stamped law.slots;
  }

-- IN A WORLD whose word at a name becomes v, and whose thread t then knows l
module _ (w : World) (at : WordId) (v t : ℕ) (l : ThreadView) (law : MadeLawHolds w)
    (same_log : l.log ≡ (w.known t).log) (spares : SparesAbsent (is_there_in w) at (w.words at) v)
    (held : (o : ℕ) → is_there_in w o ≡ false → hold_count o (w.known t).holds ≡ 0 → hold_count o l.holds ≡ 0)
    (still_makes : making_in l.unfinished ≡ making_in (w.known t).unfinished)
    (begins : (o : ℕ) → is_on l.unfinished o ≡ true → knows_in w t o ≡ true)
    (sees : (o s : ℕ) → l.reached ≡ false → last_seen (Mark o) l.seen ≡ Some s → knows_in w t o ≡ true)
    (cuts : (i : ℕ) (s : DumpShot) → slice_get l.shots i ≡ Some s → IsMadeInTime (numbering w.shape) (cut_logs s.cut (logs w))) where
  abbrev x : World
  x = with_word_and_known at v t l w

  abbrev n : Numbering
  n = numbering w.shape

  -- what the logs say is there
  not_there : (o : ℕ) → is_there n law.made o ≡ false → is_there_in w o ≡ false
  not_there o e = ap (λ m. there_after n m o) law.in_time ∙ e

  -- with these logs, and logged by each thread
  abbrev Law : List (List Logged) → (ℕ → List Logged) → Type 0
  Law ls f =
      MadeLaw n w.shape.objects ls (stamp_words x) (λ o. x.words (Class o)) (marks x) (λ u. (x.known u).holds) f (λ u. (x.known u).unfinished)
      (λ u. (x.known u).shots) (λ u. (x.known u).seen) (λ u. (x.known u).reached)

  pub quiet_world : MadeLawHolds x
  quiet_world =
      frame2 Law (sym (logs_stay 0 w.shape.threads t l w.known same_log)) (part_moves (λ k. k.log) t l w.known (sym same_log))
      (law_stays law
      (words_rise 0 (length w.shape.objects) (λ o. w.words (Stamp o)) (λ o. x.words (Stamp o)) (λ o. stamp_rises (is_there_in w) at v w.words o spares))
      (λ o. class_stays (is_there_in w) at v w.words o spares)
      (λ o e. mark_stays (is_there_in w) at v w.words o spares (not_there o e))
      (λ o e u. each_with_known (λ u k. hold_count o k.holds ≡ 0) t l w.known u
      (held o (not_there o e) ((law.absent o e).unheld t)) (λ d. (law.absent o e).unheld u))
      (λ u. making_stays t l w.known u still_makes)
      (λ u o. each_with_known (λ u k. is_on k.unfinished o ≡ true → knows_by_log n (w.known u).log o ≡ true) t l w.known u (begins o) (λ d. law.unfinished u o))
      (λ u o s. each_with_known (λ u k. k.reached ≡ false → last_seen (Mark o) k.seen ≡ Some s → knows_by_log n (w.known u).log o ≡ true) t l w.known u
      (sees o s) (λ d. law.saw u o s))
      (λ u i s. each_with_known (λ u k. slice_get k.shots i ≡ Some s → IsMadeInTime n (cut_logs s.cut (logs w))) t l w.known u
      (cuts i s) (λ d. law.cut_in_time u i s)))

-- THE STEP OF A PLAN
module _ (w : World) (t : ℕ) (p : StepPlan) (law : MadeLawHolds w) where
  abbrev hit : ThreadView
  hit = known_hit w.shape w.start p (w.words p.at) (w.known t)

  abbrev miss : ThreadView
  miss = known_miss w.shape w.start p (w.words p.at) (w.known t)

  abbrev with : Bool → World
  with b = with_word_and_known p.at (word_after p.act (w.words p.at)) t (cond b hit miss) w

  -- a fair step that misses leaves all but what was seen
  missed_keeps : IsFair w t p → MadeLawHolds (with false)
  missed_keeps a =
      quiet_world w p.at (word_after p.act (w.words p.at)) t miss law refl a.spares (λ o e h. h) refl (law.unfinished t)
      (missed_marks w law t p a.looks) (law.cut_in_time t)

  -- one that hits, and logs nothing
  hit_keeps : IsFairQuietly w t p → MadeLawHolds (with true)
  hit_keeps a =
      quiet_world w p.at (word_after p.act (w.words p.at)) t hit law a.log a.fair.spares
      (λ o e h. unheld_after (is_there_in w) p.at p.act (w.words p.at) (w.known t) o a.fair.spares e h)
      a.fair.makes a.fair.begins (hit_marks w law t p a.fair.looks a.fair.ends)
      (λ i s e. law.cut_in_time t i s (ap (λ ss. slice_get ss i) (sym a.fair.shots) ∙ e))

  pub quiet_keeps : IsFairQuietly w t p → MadeLawHolds (world_after p t w)
  quiet_keeps a = by_test (hits p.act (w.words p.at))
    where
      by_test : (b : Bool) → MadeLawHolds (with b)
      by_test true = hit_keeps a
      by_test false = missed_keeps a.fair
