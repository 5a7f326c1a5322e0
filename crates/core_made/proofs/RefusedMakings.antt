-- Steps that are almost those by which a thread makes an object, and lead to no valid world, or to none of which the law of what is there holds.
use Rattle.std.proofs.Common.{◌≡◌, ◌≢◌, ◌⊎◌, ℕ, ◌+◌, ◌<◌, ◌≤◌, nat_lt, ◌||◌, eq-eqb, Bool, true, false, cond}
use Rattle.std.proofs.Common.{List, length, is_some, Option, Some, None, refl, sym, ap, ◌∙◌, arith, inl, inr}
use Rattle.std.proofs.lemmas.Bool.Decides.{nat_tests}
use Rattle.std.specs.List.{list_any}
use Rattle.mark_word.specs.Mark.{read_mark}
use Rattle.mark_word.specs.declared.mark.MarkForm.TheVariants.{Anonymous}
use Rattle.plain_monitor.specs.declared.entry.Entry.TheVariants.{New}
use Rattle.plain_monitor.specs.declared.entry.Logged.{Logged}
use Rattle.plain_monitor.specs.History.{last_stamp, appended, run_all}
use Rattle.plain_monitor.specs.Made.{Numbering, first_made, class_if_there, is_there, made_number, made_by, take_made, nothing_made}
use Rattle.plain_monitor.specs.Order.{order, insert_ordered}
use Rattle.plain_monitor.proofs.Appending.{order_appended}
use Rattle.plain_monitor.specs.Objects.{PlainObject}
use Rattle.plain_history.specs.Known.{news}
use Rattle.plain_history.proofs.MadeSteps.{creating, maker_of_new}
use Rattle.plain_history.proofs.SlotsKnown.{made_by_log}
use Rattle.plain_history.proofs.StoreParts.{there_has_class}
use Rattle.core_world.specs.declared.word_id.WordId.TheVariants.{Mark, Class}
use Rattle.core_world.specs.Locks.{marks}
use Rattle.core_world.specs.Steps.{known_hit, world_after}
use Rattle.core_world.specs.Threads.ThreadView.{ThreadView, last_seen}
use Rattle.core_world.specs.Trees.CreateSteps.{class_plan, make_plan}
use Rattle.core_world.specs.Trees.Plans.{CallContext}
use Rattle.core_world.specs.Valid.{Fits}
use Rattle.core_world.specs.Words.Forms.{is_biased, is_biased_form}
use Rattle.core_world.specs.World.{World, with_known, logs}
use Rattle.core_world.proofs.KnowledgeParts.{with_known_here, with_known_else, log_at, logs_grow, logs_length}
use Rattle.core_world.specs.Threads.References.{numbering, making_in}
use Rattle.core_law.specs.MadeLaw.{MadeLawHolds}
use Rattle.core_made.specs.Making.{IsClassless}
use Rattle.core_made.proofs.ClassWords.{has_no_class}
use Rattle.core_made.proofs.NewsLogged.{makes_it, there_with_all, first_there}
use Rattle.core_made.proofs.OnlyMaker.{IsOnlyMaker, only_maker}

-- FIRST MARKS
module _ (e : CallContext) (o c m epoch : ℕ) (w : World) (P : List PlainObject) (t : ℕ) (reads : read_mark m ≡ Some (Anonymous epoch 0))
    (v : Fits (world_after (make_plan e o c m) t w) P) where
  -- the mark has the bias pattern then
  biased : is_biased (marks (world_after (make_plan e o c m) t w) o) ≡ true
  biased = ap is_biased (ap (λ (b : Bool). cond b m (w.words (Mark o))) (eq-eqb o o refl)) ∙ ap is_biased_form reads

  -- so a thread that has seen it without would go wrong
  seen_first : (u s : ℕ) → u ≢ t → last_seen (Mark o) (w.known u).seen ≡ Some s → is_biased s ≡ false
      → ((w.known u).running ≡ true) ⊎ ((w.known u).requesting ≡ true) → ⊥
  seen_first u s other saw plain asks =
      let l : ThreadView = known_hit w.shape w.start (make_plan e o c m) (w.words (Mark o)) (w.known t) in
      let same : with_known t l w.known u ≡ w.known u = with_known_else t l w.known u other in
      let now : is_biased (marks (world_after (make_plan e o c m) t w) o) ≡ false =
      v.seen.unbiased u o s (ap (λ (k : ThreadView). last_seen (Mark o) k.seen) same ∙ saw)
      (elim asks [ inl a ↦ inl (ap (λ (k : ThreadView). k.running) same ∙ a) | inr a ↦ inr (ap (λ (k : ThreadView). k.requesting) same ∙ a) ]) plain in
      let yes = biased in
      absurd (cc (now, yes))

  -- and the object's class has to be stored
  unclassed_first : IsClassless w o → ⊥
  unclassed_first less = let there = v.seen.classed o biased in let no = has_no_class w o less in absurd (cc (there, no))

pub seen_refuses : (e : CallContext) (o c m epoch : ℕ) (w : World) (P : List PlainObject) (t u s : ℕ) → u ≢ t
    → last_seen (Mark o) (w.known u).seen ≡ Some s → is_biased s ≡ false
    → ((w.known u).running ≡ true) ⊎ ((w.known u).requesting ≡ true) → read_mark m ≡ Some (Anonymous epoch 0) → Fits (world_after (make_plan e o c m) t w) P → ⊥
seen_refuses e o c m epoch w P t u s other saw plain asks reads v = seen_first e o c m epoch w P t reads v u s other saw plain asks

pub unclassed_refuses : (e : CallContext) (o c m epoch : ℕ) (w : World) (P : List PlainObject) (t : ℕ) → IsClassless w o
    → read_mark m ≡ Some (Anonymous epoch 0) → Fits (world_after (make_plan e o c m) t w) P → ⊥
unclassed_refuses e o c m epoch w P t less reads v = unclassed_first e o c m epoch w P t reads v less

-- CLASS WORDS
class_after : (e : CallContext) (o c : ℕ) (w : World) (t : ℕ) → (world_after (class_plan e o c) t w).words (Class o) ≡ c + 1
class_after e o c w t = ap (λ (b : Bool). cond b (c + 1) (w.words (Class o))) (eq-eqb o o refl)

pub no_such_class : (e : CallContext) (o c : ℕ) (w : World) (P : List PlainObject) (t : ℕ) → w.shape.classes ≤ c
    → Fits (world_after (class_plan e o c) t w) P → ⊥
no_such_class e o c w P t past v = let few = v.forms.classes o in let is = class_after e o c w t in absurd (omega (arith, few, is, past))

pub seen_class_stays : (e : CallContext) (o c : ℕ) (w : World) (P : List PlainObject) (t u s : ℕ) → u ≢ t
    → last_seen (Class o) (w.known u).seen ≡ Some s → (w.known u).running ≡ true → s ≢ 0 → s ≢ c + 1 → Fits (world_after (class_plan e o c) t w) P → ⊥
seen_class_stays e o c w P t u s other saw runs some differs v =
    let l : ThreadView = known_hit w.shape w.start (class_plan e o c) (w.words (Class o)) (w.known t) in
    let same : with_known t l w.known u ≡ w.known u = with_known_else t l w.known u other in
    let its = ap (λ (k : ThreadView). last_seen (Class o) k.seen) same ∙ saw in
    let is = v.seen.stays u (Class o) s its (inl (ap (λ (k : ThreadView). k.running) same ∙ runs, some)) in
    differs (sym is ∙ class_after e o c w t)

-- OUT OF TURN
pub out_of_turn : (e : CallContext) (o c : ℕ) (w : World) (P : List PlainObject) (t : ℕ) → t < w.shape.threads → making_in e.unfinished ≡ Some o
    → o ≢ made_number (numbering w.shape) t (length (news (w.known t).log))
    → Fits (world_after (class_plan e o c) t w) P → MadeLawHolds (world_after (class_plan e o c) t w) → ⊥
out_of_turn e o c w P t within mine other v law =
    let x : World = world_after (class_plan e o c) t w in
    let n : Numbering = numbering w.shape in
    let l : ThreadView = known_hit w.shape w.start (class_plan e o c) (w.words (Class o)) (w.known t) in
    let own : (x.known t).log ≡ (w.known t).log = ap (λ (k : ThreadView). k.log) (with_known_here t l w.known) in
    let row : made_by law.made t ≡ news (w.known t).log =
    made_by_log n (logs x) law.made t v.legal.rises law.in_time ∙ ap news (log_at 0 w.shape.threads t t x.known (omega arith) within ∙ own) in
    let making = law.making t o (ap (λ (k : ThreadView). making_in k.unfinished) (with_known_here t l w.known) ∙ mine) in
    let may = creating n law.made t (o, making.class_made) making.next in
    other (may.number ∙ ap (λ (r : List ℕ). made_number n t (length r)) row)

-- nor is a first mark stored by a thread that isn't making the object
module _ (e : CallContext) (o c m : ℕ) (w : World) (P : List PlainObject) (t : ℕ) (within : t < w.shape.threads)
    (unmade : making_in (w.known t).unfinished ≢ Some o) (v : Fits w P) (before : MadeLawHolds w)
    (law : MadeLawHolds (world_after (make_plan e o c m) t w)) where
  abbrev n : Numbering
  n = numbering w.shape

  abbrev told : Logged
  told = record { stamp = last_stamp (w.known t).log + 1; entry = New o c }

  abbrev l : ThreadView
  l = known_hit w.shape w.start (make_plan e o c m) (w.words (Mark o)) (w.known t)

  abbrev x : World
  x = world_after (make_plan e o c m) t w

  logs_are : logs x ≡ appended (logs w) t told
  logs_are = logs_grow w.shape.threads t told l w.known within refl

  order_is : order (logs x) ≡ insert_ordered (t, told) (order (logs w))
  order_is =
      let many = logs_length 0 w.shape.threads w.known in
      let last = ap last_stamp (log_at 0 w.shape.threads t t w.known (omega arith) within) in
      ap order logs_are ∙ order_appended (logs w) t told v.legal.rises (omega (arith, many, within)) (omega (arith, last))

  -- its New makes the object, and no other entry does: so the object wasn't there
  only : IsOnlyMaker n o (t, told) (order (logs w)) law.made
  only = only_maker n (t, told) (order (logs w)) (nothing_made n) law.made o refl
      (ap (run_all (take_made n) (nothing_made n)) (sym order_is) ∙ law.in_time)

  was_absent : is_there n before.made o ≡ false
  was_absent =
      let late = only.late in
      let undeclared : nat_lt o (first_made n) ≡ false = grind (arith, nat_tests, late) in
      let any : Bool = list_any (λ (y : ℕ × Logged). makes_it o y.1) (order (logs w)) in
      there_with_all n (order (logs w)) (nothing_made n) before.made o before.in_time
      ∙ ap (λ b. b || any) (first_there n o ∙ undeclared) ∙ only.alone

  -- afterwards it has a class, which its class word says: so that stood before
  classed : w.words (Class o) ≢ 0
  classed none = by_class (class_if_there n law.made o) refl (there_has_class n law.made o ∙ only.there)
    where
      by_class : (k : Option ℕ) → class_if_there n law.made o ≡ k → is_some k ≡ true → ⊥
      by_class None is some = absurd (cc some)
      by_class (Some d) is some = let word = law.classes o d only.late is in absurd (omega (arith, word, none))

  -- then a thread was making it, the one that has its number
  pub unmade_first : ⊥
  unmade_first = elim (before.absent o was_absent).classless [
    | inl none ↦ classed none
    | inr made ↦
        let its = before.making made.0 o made.1 in
        let may = creating n before.made made.0 (o, its.class_made) its.next in
        let maker = (maker_of_new (first_made n) made.0 (length (made_by before.made made.0)) o may.room may.number).0 in
        unmade (ap (λ u. making_in (w.known u).unfinished) (sym only.maker ∙ maker) ∙ made.1)
  ]

pub unmade_refuses : (e : CallContext) (o c m : ℕ) (w : World) (P : List PlainObject) (t : ℕ) → t < w.shape.threads
    → making_in (w.known t).unfinished ≢ Some o → Fits w P → MadeLawHolds w → MadeLawHolds (world_after (make_plan e o c m) t w) → ⊥
unmade_refuses e o c m w P t within unmade v before law = unmade_first e o c m w P t within unmade v before law
