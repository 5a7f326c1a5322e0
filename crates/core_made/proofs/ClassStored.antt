-- The law of what is there after the store of a class word: the object still isn't there, and its thread is making it.
use Rattle.std.proofs.Common.{◌≡◌, ◌≢◌, ℕ, ◌+◌, ◌<◌, eq-eqb, ne_eqb, Bool, true, false, cond, ◌&&◌, ◌==◌, List}
use Rattle.std.proofs.Common.{length, Option, Some, None, refl, sym, ap, ◌∙◌, subst, arith, inl, inr}
use Rattle.std.proofs.lemmas.Option.{same_Some}
use Rattle.plain_monitor.specs.declared.entry.Logged.{Logged}
use Rattle.plain_monitor.specs.Objects.{PlainObject}
use Rattle.plain_monitor.specs.Limits.{most_made}
use Rattle.plain_monitor.specs.Made.{Numbering, made_number, is_there, made_by, may_create}
use Rattle.plain_history.specs.Known.{news}
use Rattle.plain_history.proofs.MadeSteps.{MayCreate, creating, may_be_created}
use Rattle.plain_history.proofs.SlotsKnown.{made_by_log}
use Rattle.core_world.specs.declared.word_id.WordId.TheVariants.{Mark, Class}
use Rattle.core_world.specs.declared.heap_call.Operation.{Operation}
use Rattle.core_world.specs.declared.heap_call.Operation.TheVariants as op
use Rattle.core_world.specs.declared.heap_call.Unfinished.{Unfinished}
use Rattle.core_world.specs.Locks.{marks}
use Rattle.core_world.specs.Steps.{known_hit, world_after}
use Rattle.core_world.specs.Threads.ThreadView.{ThreadView, DumpShot, StepMade, last_seen}
use Rattle.core_world.specs.Trees.CreateSteps.{class_plan}
use Rattle.core_world.specs.Trees.Plans.{CallContext}
use Rattle.core_world.specs.Valid.{Fits}
use Rattle.core_world.specs.World.{World, logs}
use Rattle.core_world.proofs.ActsLook.{seen_is_part}
use Rattle.core_world.proofs.Frames.{frame5}
use Rattle.core_world.proofs.KnowledgeParts.{by_equal, with_known_here, with_known_else, each_with_known, part_moves, logs_stay, log_at}
use Rattle.core_world.specs.Threads.References.{knows_by_log, numbering, has_object, is_on, made_by_op, making_in}
use Rattle.core_law.specs.MadeLaw.{MadeLaw, MadeLawHolds, stamp_words}
use Rattle.core_made.specs.Making.{IsClassless, MayStoreClass, IsNext}
use Rattle.core_made.proofs.ClassWords.{class_valid}
use Rattle.core_made.proofs.NextNumbers.{rows_are, next_is_made, next_is_absent, one_maker, class_is_there}
use Rattle.core_made.proofs.Numbers.{first_is_declared}

-- the making of an object is an operation on none that is there
not_on_op : (op : Operation) (o made i : ℕ) → made_by_op op o ≡ Some made → (has_object op && (o == i)) ≡ false
not_on_op op.Create o made i h = refl
not_on_op _ o made i h = absurd (cc h)

pub making_is_on_none : (u : Option Unfinished) (made i : ℕ) → making_in u ≡ Some made → is_on u i ≡ false
making_is_on_none None made i h = refl
making_is_on_none (Some u) made i h = not_on_op u.op u.object made i h

-- THE LAW, over functions
module _ {n : Numbering} {shape : List (ℕ × ℕ)} {logs : List (List Logged)} {stamps : List ℕ} {class mark : ℕ → ℕ}
    {holds : ℕ → List ℕ} {log : ℕ → List Logged} {under_way : ℕ → Option Unfinished} {shots : ℕ → List DumpShot} {seen : ℕ → List StepMade}
    {reached : ℕ → Bool} (law : MadeLaw n shape logs stamps class mark holds log under_way shots seen reached) (t o c : ℕ)
    (none : making_in (under_way t) ≡ None)
    (next : MayCreate n law.made t (o, c)) where
  absent : is_there n law.made o ≡ false
  absent = next_is_absent n law.made t (o, c) next

  -- no other thread makes the object
  unmade : (u : ℕ) → making_in (under_way u) ≡ Some o → ⊥
  unmade u e =
      let m = law.making u o e in
      let same : u ≡ t = one_maker n law.made t u o c m.class_made next (creating n law.made u (o, m.class_made) m.next) in
      let is = sym (ap (λ z. making_in (under_way z)) same) ∙ e in
      absurd (cc (is, none))

  -- so its class word is 0
  pub no_class : class o ≡ 0
  no_class = elim (law.absent o absent).classless [ inl h ↦ h | inr h ↦ absurd (unmade h.0 h.1) ]

  pub class_stored : (class2 : ℕ → ℕ) (under_way2 : ℕ → Option Unfinished) (seen2 : ℕ → List StepMade) → class2 o ≡ c + 1
      → ((i : ℕ) → i ≢ o → class2 i ≡ class i) → making_in (under_way2 t) ≡ Some o
      → ((u : ℕ) → u ≢ t → making_in (under_way2 u) ≡ making_in (under_way u))
      → ((u i : ℕ) → is_on (under_way2 u) i ≡ true → knows_by_log n (log u) i ≡ true)
      → ((u i v : ℕ) → reached u ≡ false → last_seen (Mark i) (seen2 u) ≡ Some v → knows_by_log n (log u) i ≡ true)
      → MadeLaw n shape logs stamps class2 mark holds log under_way2 shots seen2 reached
  class_stored class2 under_way2 seen2 stored others mine theirs begins sees = record {
    made = law.made;
    in_time = law.in_time;
    cut_in_time = law.cut_in_time;
    classes = λ i d past e. by_equal i o
        (λ s. let there = class_is_there n law.made i d e in let not_there = ap (is_there n law.made) s ∙ absent in absurd (cc (there, not_there)))
        (λ ne. others i ne ∙ law.classes i d past e);
    absent = λ i e. record {
      classless = by_equal i o
          (λ s. inr (t, mine ∙ ap Some (sym s)))
          (λ ne. elim (law.absent i e).classless [
            | inl h ↦ inl (others i ne ∙ h)
            | inr h ↦ inr (h.0, theirs h.0 (λ s. let is = sym (ap (λ z. making_in (under_way z)) s) ∙ h.1 in absurd (cc (is, none))) ∙ h.1)
          ]);
      neutral = (law.absent i e).neutral;
      unheld = (law.absent i e).unheld;
    };
    making = λ u i e. by_equal u t
        (λ s.
        let same : o ≡ i = same_Some o i (sym mine ∙ ap (λ z. making_in (under_way2 z)) (sym s) ∙ e) in
        let may : may_create n law.made u (i, c) ≡ true =
        ap (λ z. may_create n law.made z (i, c)) s ∙ ap (λ j. may_create n law.made t (j, c)) (sym same)
        ∙ may_be_created n law.made t (o, c) next in
        record { class_made = c; next = may; stored = ap class2 (sym same) ∙ stored })
        (λ ne.
        let before = sym (theirs u ne) ∙ e in
        let was = law.making u i before in
        record { class_made = was.class_made; next = was.next; stored = others i (λ s. unmade u (before ∙ ap Some s)) ∙ was.stored });
    known = law.known;
    unfinished = begins;
    saw = sees;
    objects = law.objects;
    taken = law.taken;
    slots = law.slots;
  }

-- IN A WORLD
module _ (e : CallContext) (o c : ℕ) (w : World) (P : List PlainObject) (t : ℕ) (within : t < w.shape.threads)
    (none : making_in (w.known t).unfinished ≡ None) (next : IsNext (numbering w.shape) (w.known t).log t o c) (v : Fits w P) (law : MadeLawHolds w) where
  abbrev n : Numbering
  n = numbering w.shape

  may_create_it : MayCreate n law.made t (o, c)
  may_create_it =
      let rows = rows_are n (logs w) law.made law.in_time in
      let row : made_by law.made t ≡ news (w.known t).log =
      made_by_log n (logs w) law.made t v.legal.rises law.in_time ∙ ap news (log_at 0 w.shape.threads t t w.known (omega arith) within) in
      record {
        thread = omega (arith, rows, within);
        room = subst (λ (r : List ℕ). length r < most_made) (sym row) next.room;
        class = next.class;
        number = next.number ∙ ap (λ (r : List ℕ). made_number n t (length r)) (sym row);
      }

  pub no_class_yet : IsClassless w o
  no_class_yet =
      let first = first_is_declared w.shape v.limits in
      let past = next_is_made n law.made t (o, c) may_create_it in
      record { undeclared = omega (arith, first, past); word = no_class law t o c none may_create_it }

  abbrev l : ThreadView
  l = known_hit w.shape w.start (class_plan e o c) (w.words (Class o)) (w.known t)

  abbrev x : World
  x = world_after (class_plan e o c) t w

  class_here : x.words (Class o) ≡ c + 1
  class_here = ap (λ (b : Bool). cond b (c + 1) (w.words (Class o))) (eq-eqb o o refl)

  class_else : (i : ℕ) → i ≢ o → x.words (Class i) ≡ w.words (Class i)
  class_else i d = ap (λ (b : Bool). cond b (c + 1) (w.words (Class i))) (ne_eqb i o d)

  -- the step is on no mark
  sees : (u i s : ℕ) → (w.known u).reached ≡ false → last_seen (Mark i) (x.known u).seen ≡ Some s → knows_by_log n (w.known u).log i ≡ true
  sees u i s = each_with_known (λ z k. (w.known z).reached ≡ false → last_seen (Mark i) k.seen ≡ Some s → knows_by_log n (w.known z).log i ≡ true) t l w.known u
      (λ free saw. law.saw t i s free (seen_is_part w.shape (w.known t) (Mark i) s saw)) (λ d. law.saw u i s)

  -- what the thread has unfinished is the making of the object, which is an operation on none that is there
  begins : making_in e.unfinished ≡ Some o → (u i : ℕ) → is_on (x.known u).unfinished i ≡ true → knows_by_log n (w.known u).log i ≡ true
  begins mine u i = each_with_known (λ z k. is_on k.unfinished i ≡ true → knows_by_log n (w.known z).log i ≡ true) t l w.known u
      (λ on. let off = making_is_on_none e.unfinished o i mine in absurd (cc (on, off))) (λ d. law.unfinished u i)

  pub class_keeps : making_in e.unfinished ≡ Some o → MadeLawHolds x
  class_keeps mine =
      frame5
      (λ ls f g s r. MadeLaw n w.shape.objects ls (stamp_words w) (λ i. x.words (Class i)) (marks w) f g
      (λ u. (x.known u).unfinished) s (λ u. (x.known u).seen) r)
      (sym (logs_stay 0 w.shape.threads t l w.known refl)) (part_moves (λ k. k.holds) t l w.known refl) (part_moves (λ k. k.log) t l w.known refl)
      (part_moves (λ k. k.shots) t l w.known refl) (part_moves (λ k. k.reached) t l w.known refl)
      (class_stored law t o c none may_create_it (λ i. x.words (Class i)) (λ u. (x.known u).unfinished) (λ u. (x.known u).seen) class_here class_else
      (ap (λ (k : ThreadView). making_in k.unfinished) (with_known_here t l w.known) ∙ mine)
      (λ u d. ap (λ (k : ThreadView). making_in k.unfinished) (with_known_else t l w.known u d)) (begins mine) sees)

-- THE LAW OF THE STEP
pub class_keeps_law : (e : CallContext) (o c : ℕ) (w : World) (P : List PlainObject) (t : ℕ) → t < w.shape.threads
    → MayStoreClass (w.known t) e → making_in (w.known t).unfinished ≡ None → making_in e.unfinished ≡ Some o
    → IsNext (numbering w.shape) (w.known t).log t o c → Fits w P → MadeLawHolds w
    → Fits (world_after (class_plan e o c) t w) P × MadeLawHolds (world_after (class_plan e o c) t w)
class_keeps_law e o c w P t within may none mine next v law =
    let less = no_class_yet e o c w P t within none next v law in
    (class_valid e o c w P t within may less next.class v, class_keeps e o c w P t within none next v law mine)
