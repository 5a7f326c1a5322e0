-- A thread exchanges a neutral mark without a hash for the same with its next draw.
use Rattle.core_locks.proofs.Prelude.{◌≡◌, ◌≢◌, ℕ, ◌<◌, ◌==◌, eq-eqb, ne_eqb, Bool, true, cond, List, Some, refl, sym, ap, ◌∙◌, subst, inl}
use Rattle.core_locks.proofs.Prelude.{eqb-true, same_Some, read_mark, mark_of, Neutral, PlainObject, Mark, is_neutral, hash_in}
use Rattle.core_locks.proofs.Prelude.{monitor_in, hash_form, is_neutral_form, word_after, ThreadView, World, with_word_and_known, lock, lock_form}
use Rattle.core_locks.proofs.Prelude.{header, header_form, marks, displaced_words, headers, owner_words, prototype_of, inflations, owner_at}
use Rattle.core_locks.proofs.Prelude.{hash_at, waits_at, inflated_to, CallContext, seen_before, Fits, SeenFit}
use Rattle.core_locks.proofs.Prelude.{CompareExchange, IsMark, NextDraw, fits_running, seen_is_part, Spares, seen_moves, counts_more, miss_valid}
use Rattle.core_locks.proofs.Prelude.{unwaited_fits, Logs, LogsValid, KeepsValid, MayHash, IsItsNext, MayDrawInMark, draw_plan}
use Rattle.plain_monitor.specs.declared.entry.Entry.TheVariants as entry
use Rattle.core_locks.proofs.Clauses.{Parts, parts_of, seen, forms, biases, inflating, recursions, hashes, classes, AllHold}
use Rattle.core_locks.proofs.hash.HashDraws.{Drawing, IsBlank, plan as its_plan, l as its_known, Q as objects, y as its_entry}
use Rattle.core_locks.proofs.hash.HashDraws.{spells, telling_it, exchanged, slots_drawn, draws_law, biases_drawn, hashes_drawn}
use Rattle.core_locks.proofs.telling.Tells.{IsTelling, told_parts, told_are, told_step}
use Rattle.core_locks.proofs.MarkMeanings.{forms_marked, each_set, IsBare, neutral_bare, neutral_some, neutral_lock, neutral_header}
use Rattle.core_locks.proofs.MarkChanges.{names_same, bias_back, bias_forth, bias_before, zero_back, zero_forth, mark_back}
use Rattle.core_locks.proofs.MarkChanges.{mark_spares, recursions_by_marks, classes_by_marks, inflating_by_marks}
use Rattle.core_locks.proofs.Steps.{none_reached, telling, IsStep, next, step_fits, seen_next}

module _ (w : World) (P : List PlainObject) (t : ℕ) (e : CallContext) (draw : NextDraw) (o mark : ℕ)
    (within : t < w.shape.threads) (may : MayHash w.shape (w.known t) o) (bare : IsBlank mark)
    (its : IsItsNext w.start (w.known t) draw) (v : Fits w P) (hit : (w.words (Mark o) == mark) ≡ true) where
  was : marks w o ≡ mark
  was = eqb-true (marks w o) mark hit

  was_neutral : is_neutral (marks w o) ≡ true
  was_neutral = ap is_neutral was ∙ bare.neutral

  -- it is the header, so the object has no hash
  hashless : hash_at P o ≡ 0
  hashless = sym (v.hashes.stands o (marks w o) (neutral_header (marks w o) (displaced_words w) (headers w) (inflations w o) was_neutral))
      ∙ ap hash_in was ∙ bare.none

  -- the new mark, and what the thread knows then
  abbrev new : ℕ
  new = mark_of (Neutral draw.value 0)

  abbrev m : ℕ
  m = word_after (CompareExchange mark (mark_of (Neutral draw.value 0))) (w.words (Mark o))

  drawing : Drawing w P t e draw o mark (Mark o)
  drawing = record { within = within; may = may; its = its; fits = v; hashless = hashless; hit = hit }

  abbrev l : ThreadView
  l = its_known drawing

  abbrev x : World
  x = with_word_and_known (Mark o) m t l w

  tells : IsTelling w P (objects drawing) t (its_entry drawing) l
  tells = telling_it drawing

  spelled : read_mark m ≡ Some (Neutral draw.value 0)
  spelled = spells drawing

  now_neutral : is_neutral m ≡ true
  now_neutral = ap is_neutral_form spelled

  old_bare : IsBare (marks w o)
  old_bare = neutral_bare (marks w o) was_neutral

  new_bare : IsBare m
  new_bare = neutral_bare m now_neutral

  names : (i : ℕ) → monitor_in (marks w i) ≡ monitor_in (marks x i)
  names = names_same w o m t l (old_bare.unnamed ∙ sym new_bare.unnamed)

  step : IsStep w t l telling
  step = record { within = within; mine = refl; others = λ k. refl }

  abbrev z : World
  z = next w t l telling x.words

  -- the lock is open before and afterwards, and the header is the mark
  lock_at : (i : ℕ) → lock z i ≡ lock w i
  lock_at i = each_set (λ j y. lock_form (read_mark y) (prototype_of w j) (owner_words w) (inflations w j) ≡ lock w j) o m (marks w) i
      (neutral_lock m (prototype_of w o) (owner_words w) (inflations w o) now_neutral
      ∙ sym (neutral_lock (marks w o) (prototype_of w o) (owner_words w) (inflations w o) was_neutral)) (λ d. refl)

  header_here : (h : ℕ) → header z o ≡ Some h → hash_in h ≡ draw.value
  header_here h g =
      let at : marks z o ≡ m = ap (λ (b : Bool). cond b m (marks w o)) (eq-eqb o o refl) in
      let is : header z o ≡ Some m = ap (λ y. header_form (read_mark y) y (displaced_words w) (headers w) (inflations w o)) at
      ∙ neutral_header m (displaced_words w) (headers w) (inflations w o) now_neutral in
      ap hash_in (same_Some h m (sym g ∙ is)) ∙ ap hash_form spelled

  header_else : (i : ℕ) → i ≢ o → header z i ≡ header w i
  header_else i d = ap (λ (b : Bool). header_form (read_mark (cond b m (marks w i)))
      (cond b m (marks w i)) (displaced_words w) (headers w) (inflations w i)) (ne_eqb i o d)

  -- WHAT WAS SEEN
  spares : Spares (Mark o) m t l w (owner_at P) (owner_at P) (waits_at P) (waits_at P)
  spares =
      mark_spares w o m t l (owner_at P) (owner_at P) (waits_at P) (waits_at P) old_bare
      (neutral_some (marks w o) was_neutral) new_bare v.inflating.zero (λ u i d h. h) (λ u i d h g. g)
      (none_reached w P t l v may.runs refl) v.seen.classed

  seen_law : SeenFit x P
  seen_law =
      seen_moves (its_plan drawing) (w.words (Mark o)) t l w (owner_at P) (owner_at P) (waits_at P) (waits_at P) (seen_before w.shape (w.known t)) refl
      (counts_more (Mark o) m t l w (owner_at P) (owner_at P) (waits_at P) (waits_at P) (seen_before w.shape (w.known t)) (seen_is_part w.shape (w.known t))
      (mark_back w o m t l (w.known t) l (owner_at P) (owner_at P) t (λ i a n. names i ∙ n) refl refl refl (λ a. a) refl (λ i h. h) (λ i a n h. h))
      (λ a h. inl h) (λ a r h. absurd (cc h))
      (λ i h r own n. unwaited_fits w P v i (ap (λ j. monitor_in (marks w j)) (eqb-true i o h) ∙ old_bare.unnamed))
      (λ i h g. g) spares (λ u i h g. g) v.seen)
      spares v.seen

  abbrev drawn_parts : Parts
  drawn_parts = record (told_parts step tells x.words) { inflated = inflated_to w; lock = lock w }

  parts : parts_of z (objects drawing) ≡ drawn_parts
  parts = told_are step tells x.words
      ∙ (λ j. record (told_parts step tells x.words) { inflated = λ i. sym (names i) j; lock = λ i. lock_at i j })

  all_after : AllHold drawn_parts
  all_after seen = seen_next step x.words P seen_law
  all_after forms = forms_marked o m v.forms (subst (IsMark w.shape) (sym spelled) refl)
  all_after biases = biases_drawn drawing (marks x) (bias_back w o m t l new_bare.unbiased)
  all_after inflating = inflating_by_marks (marks w) (marks x) _ _ (zero_back w o m t l (neutral_some m now_neutral))
      (zero_forth w o m t l (neutral_some (marks w o) was_neutral)) v.inflating
  all_after recursions = recursions_by_marks (marks w) (marks x) names _ (lock w) (lock w) _ _ _ _ _ _ (λ i u g. g) (λ i a n. refl) v.recursions
  all_after hashes = hashes_drawn drawing (marks x) (header z) (bias_before w o m t l old_bare.unbiased) header_here header_else
  all_after classes = classes_by_marks w.biasing _ _ _ (marks w) (marks x) _ _ (bias_forth w o m t l new_bare.unbiased) v.classes
  all_after c = told_step step tells v (slots_drawn drawing) (draws_law drawing) c

  pub drawn_logs : Logs w P t (draw_plan e draw (Mark o) o mark) (entry.Hash o draw.value (Some draw.number))
  drawn_logs = exchanged drawing (step_fits step x.words (objects drawing) drawn_parts parts all_after)

-- THE LAW, where the exchange hits;
pub draws_mark : (e : CallContext) (draw : NextDraw) (o mark : ℕ)
    → LogsValid (λ w t. MayDrawInMark w.start w.shape (w.known t) draw o mark × (w.words (Mark o) ≡ mark))
    (λ w t. draw_plan e draw (Mark o) o mark) (entry.Hash o draw.value (Some draw.number))
draws_mark e draw o mark w P t within may is =
    let draws = may.0.draws in
    let bare = may.0.hashless in
    let v = fits_running w P t draws.hashes.runs is in
    -- each mark's age is 0
    let young : IsMark w.shape (Some (Neutral 0 bare.0)) = subst (IsMark w.shape) (ap read_mark may.1 ∙ bare.1) (v.forms.marks o) in
    let blank : IsBlank mark = record { neutral = ap is_neutral_form bare.1 ∙ eq-eqb bare.0 0 young; none = ap hash_form bare.1 } in
    drawn_logs w P t e draw o mark within draws.hashes blank draws.next v (eq-eqb (w.words (Mark o)) mark may.1)

-- and where it misses
pub draw_misses_mark : (e : CallContext) (draw : NextDraw) (o mark : ℕ)
    → KeepsValid (λ w t. MayDrawInMark w.start w.shape (w.known t) draw o mark × (w.words (Mark o) ≢ mark)) (λ w t. draw_plan e draw (Mark o) o mark)
draw_misses_mark e draw o mark w P t within may is =
    miss_valid w P t (draw_plan e draw (Mark o) o mark) within
    (record {
      missed = ne_eqb (w.words (Mark o)) mark may.1;
      may = record { outside = λ stopped. absurd (cc (stopped, may.0.draws.hashes.runs)); found = λ r a h. absurd (cc h) };
    }) is
