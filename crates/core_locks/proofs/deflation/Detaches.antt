-- A thread at its reached safepoint stores the header of an idle monitor as the mark of its object: the monitor is the thread's to give back.
use Rattle.core_locks.proofs.Prelude.{◌≡◌, ◌≢◌, ◌⊎◌, ℕ, ◌%◌, ◌^◌, ◌<◌, true, false, List, length, Some, None}
use Rattle.core_locks.proofs.Prelude.{refl, sym, ap, ◌∙◌, subst, arith, inl, inr, same_Some, is_some, read_mark, Inflated, Free, read_owner}
use Rattle.core_locks.proofs.Prelude.{owner_of, read_owner-owner_of, is_listed, cases_lt, PlainObject, Mark, Waiting, Owner, Header, Claim}
use Rattle.core_locks.proofs.Prelude.{End, Ring, StepPlan, Resumes, is_biased, is_neutral, monitor_in, waits_on, says_notified, enters_on}
use Rattle.core_locks.proofs.Prelude.{ThreadView, Moving, Still, Fetches, Returns, World, with_known, lock, lock_form, header, header_form}
use Rattle.core_locks.proofs.Prelude.{owner_lock, marks, prototype_of, owner_words, headers, displaced_words, inflations, inflated_to}
use Rattle.core_locks.proofs.Prelude.{waits_at, notified_at, CallContext, Fits, MonitorsAreClaimed, claimed_or_kept, given_back, IsMark}
use Rattle.core_locks.proofs.Prelude.{IsUnfinished, by_equal, each_with_known, inflated_form, is_biased_form}
use Rattle.core_locks.proofs.Prelude.{mark_zero, no_wait, no_told, no_entering, KeepsValid, monitor_count, ring_bits}
use Rattle.core_world.specs.declared.heap_call.Operation.TheVariants as op
use Rattle.core_world.specs.Clauses.Claims.{Place, With, At, Leaves, InRing}
use Rattle.core_world.specs.Trees.DeflateSteps.{detach_plan}
use Rattle.core_locks.specs.DeflationLaws.{MayDetach}
use Rattle.core_locks.proofs.monitor.Places.{one_object, one_leaver, one_returned, with_more}
use Rattle.core_locks.proofs.monitor.Moved.{moved, Moves, moves_from, moving_here, moving_else, moves_law, as_many, one_more}
use Rattle.core_locks.proofs.Clauses.{parts_with, parts_are, seen, forms, biases, inflating, monitors}
use Rattle.core_locks.proofs.Clauses.{recursions, hashes, waits, claims, moves, classes, AllHold}
use Rattle.core_locks.proofs.MarkChanges.{mark_here, mark_else, bias_back, bias_forth, bias_before, zero_back}
use Rattle.core_locks.proofs.MarkChanges.{zero_forth, biases_by_marks, hashes_by_marks, classes_by_marks, inflating_by_marks}
use Rattle.core_locks.proofs.MarkMeanings.{forms_marked, neutral_is, neutral_bare, neutral_some, neutral_lock, neutral_header}
use Rattle.core_locks.proofs.OwnSeen.{left_with, hit_world}
use Rattle.core_locks.proofs.safepoint.Standing.{standing_seen, standing_step, fits_standing}
use Rattle.core_locks.proofs.Steps.{handling, IsStep, next, step_fits, seen_next, waits_go_on}

module _ (w : World) (P : List PlainObject) (t : ℕ) (e : CallContext) (o m new : ℕ)
    (within : t < w.shape.threads) (may : MayDetach w.shape (w.known t) e o m new) (v : Fits w P) where
  abbrev plan : StepPlan
  plan = detach_plan e (w.known t).stage o m new

  abbrev l : ThreadView
  l = left_with w t plan

  abbrev x : World
  x = hit_world w t plan

  reached : (w.known t).reached ≡ true
  reached = may.stands.reached

  -- WHAT IS THERE
  named : monitor_in (marks w o) ≡ Some m
  named = let saw = may.inflated in ap monitor_in (v.seen.stands t (Mark o) saw.0 reached saw.1) ∙ saw.2

  form : read_mark (marks w o) ≡ Some (Inflated m)
  form = inflated_form (read_mark (marks w o)) m named

  open_word : owner_words w m ≡ owner_of Free
  open_word = v.seen.stands t (Owner m) (owner_of Free) reached may.owner

  head_is : headers w m ≡ new
  head_is = v.seen.stands t (Header m) new reached may.its_header

  neutral : is_neutral new ≡ true
  neutral = ap is_neutral (sym head_is) ∙ v.monitors.neutral o m named

  untouched : (u : ℕ) → (waits_on (w.words (Waiting u)) o ≡ false)
      × (says_notified (w.words (Waiting u)) o ≡ false) × (enters_on (w.words (Waiting u)) o ≡ false)
  untouched u = elim (cases_lt u w.shape.threads) [
    | inl h ↦
        let saw = may.untouched u h in
        let is = v.seen.stands t (Waiting u) saw.0 reached saw.1 in
        (ap (λ n. waits_on n o) is ∙ saw.2, ap (λ n. says_notified n o) is ∙ saw.3, ap (λ n. enters_on n o) is ∙ saw.4)
    | inr h ↦
        let own : (w.known u).wait ≡ 0 = ap (λ (k : ThreadView). k.wait) (v.absent u h) in
        let is : w.words (Waiting u) ≡ 0 = elim (v.waits.stored u) [
          | inl a ↦ a ∙ own
          | inr a ↦ let some = ap (λ n. waits_on n a.0) (sym own) ∙ a.1 in absurd (cc (some, no_wait a.0))
        ] in
        (ap (λ n. waits_on n o) is ∙ no_wait o, ap (λ n. says_notified n o) is ∙ no_told o, ap (λ n. enters_on n o) is ∙ no_entering o)
  ]

  unresuming : (u : ℕ) → (w.known u).stage ≡ Resumes o → ⊥
  unresuming u h = elim (v.quiet.quiet u ((v.safe.safepoint t reached).1 u)) [
    | inl a ↦ absurd (cc (a, h))
    | inr a ↦ (let taking = a.1.1 in absurd (cc (taking, h)))
  ]

  -- nobody waits on the object or was notified from it
  nobody : (u : ℕ) → (is_listed (waits_at P o) u ≡ true) ⊎ (is_listed (notified_at P o) u ≡ true) → ⊥
  nobody u (inl h) = let b = untouched u in elim (v.waits.waiting u o h) [
    | inl a ↦ let no = b.0 in absurd (cc (a, no))
    | inr a ↦ let no = b.1 in let told = a.0 in absurd (cc (told, no))
  ]
  nobody u (inr h) = let b = untouched u in elim (v.waits.notified u o h) [
    | inl a ↦ let no = b.1 in absurd (cc (a, no))
    | inr a ↦ absurd (unresuming u a.1)
  ]

  -- MARKS
  new_some : new ≢ 0
  new_some = neutral_some new neutral

  was_some : marks w o ≢ 0
  was_some h = absurd (cc (sym form ∙ ap read_mark h ∙ mark_zero))

  here : monitor_in (marks x o) ≡ None
  here = ap monitor_in (mark_here w o new t l) ∙ (neutral_bare new neutral).unnamed

  -- a mark that names a monitor afterwards is another object's, and named it before
  back : (i a : ℕ) → inflated_to x i ≡ Some a → (i ≢ o) × (inflated_to w i ≡ Some a)
  back i a h = by_equal i o (λ s. let none = ap (inflated_to x) s ∙ here in absurd (cc (none, h)))
      (λ d. (d, ap monitor_in (sym (mark_else w o new t l i d)) ∙ h))

  forth : (i a : ℕ) → i ≢ o → inflated_to w i ≡ Some a → inflated_to x i ≡ Some a
  forth i a d h = ap monitor_in (mark_else w o new t l i d) ∙ h

  was_unbiased : is_biased (marks w o) ≡ false
  was_unbiased = ap is_biased_form form

  unbiased : is_biased new ≡ false
  unbiased = (neutral_bare new neutral).unbiased

  biased : (i : ℕ) → is_biased (marks x i) ≡ true → is_biased (marks w i) ≡ true
  biased i h = (bias_back w o new t l unbiased i h).1

  step : IsStep w t l handling
  step = record { within = within; mine = refl; others = λ k. refl }

  abbrev z : World
  z = next w t l handling x.words

  locks : (i : ℕ) → lock z i ≡ lock w i
  locks i = by_equal i o
      (λ s.
      ap (lock z) s ∙ (λ j. lock_form (read_mark (mark_here w o new t l j)) (prototype_of w o) (owner_words w) (inflations w o))
      ∙ neutral_lock new (prototype_of w o) (owner_words w) (inflations w o) neutral
      ∙ sym (ap (lock w) s ∙ ap (λ f. lock_form f (prototype_of w o) (owner_words w) (inflations w o)) form
      ∙ ap (λ n. owner_lock (read_owner n)) open_word ∙ ap owner_lock (read_owner-owner_of Free tt)))
      (λ d. λ j. lock_form (read_mark (mark_else w o new t l i d j)) (prototype_of w i) (owner_words w) (inflations w i))

  heads : (i : ℕ) → header z i ≡ header w i
  heads i = by_equal i o
      (λ s.
      ap (header z) s ∙ (λ j. header_form (read_mark (mark_here w o new t l j)) (mark_here w o new t l j) (displaced_words w)
      (headers w) (inflations w o)) ∙ neutral_header new (displaced_words w) (headers w) (inflations w o) neutral
      ∙ ap Some (sym head_is) ∙ sym (ap (header w) s ∙ ap (λ f. header_form f (marks w o) (displaced_words w) (headers w) (inflations w o)) form))
      (λ d. λ j. header_form (read_mark (mark_else w o new t l i d j)) (mark_else w o new t l i d j) (displaced_words w) (headers w) (inflations w i))

  -- WHERE MONITORS ARE
  abbrev bits : ℕ
  bits = ring_bits w.shape

  abbrev ring : ℕ → ℕ
  ring q = w.words (Ring q)

  was_there : (m < monitor_count w.shape) × (v.claims.place m ≡ At o)
  was_there = v.claims.names o m named

  abbrev place : ℕ → Place
  place = moved v.claims.place m (Leaves t)

  move : Moves v.claims.place m (At o) (Leaves t)
  move = moves_from v.claims.place m (At o) (Leaves t) was_there.1

  open move use {place_here, place_else, stays_at, was_at}

  not_mine : (u : ℕ) (b : Moving) → (w.known u).moving ≡ b → (Still ≡ b → ⊥) → u ≢ t
  not_mine u b h other s = other (sym may.still ∙ ap (λ z. (w.known z).moving) (sym s) ∙ h)

  claims_law : MonitorsAreClaimed w.shape.threads (length w.shape.objects) (monitor_count w.shape) bits
      (w.words Claim) (w.words End) ring (inflated_to x) (λ u. (w.known u).kept) (λ u. (with_known t l w.known u).moving)
  claims_law = record {
    first = v.claims.first;
    ringed = v.claims.ringed;
    claim_word = v.claims.claim_word;
    end_word = v.claims.end_word;
    place = place;
    keeps = λ u a h. let b = v.claims.keeps u a h in (b.0, stays_at a (With u) b.1 (λ q. cc q));
    fetches = λ u p. each_with_known (λ u y. y.moving ≡ Fetches p → ((w.known u).kept ≡ None)
        × (ring (p % 2 ^ bits) < monitor_count w.shape) × (place (ring (p % 2 ^ bits)) ≡ With u)) t l w.known u (λ h. absurd (cc h))
        (λ d h. let b = v.claims.fetches u p h in (b.0, b.1, stays_at (ring (p % 2 ^ bits)) (With u) b.2 (λ q. cc q)));
    names = λ i a h. let b = back i a h in let c = v.claims.names i a b.1 in (c.0, stays_at a (At i) c.1 (λ q. b.0 (sym (one_object o i q))));
    returns = λ u a. each_with_known (λ u y. y.moving ≡ Returns a → (a < monitor_count w.shape) × (place a ≡ Leaves u)) t l w.known u
        (λ h. let is : a ≡ m = sym (one_returned m a h) in (omega (arith, is, was_there.0), place_here a is))
        (λ d h. let b = v.claims.returns u a h in (b.0, stays_at a (Leaves u) b.1 (λ q. cc q)));
    stands = λ p low high. let b = v.claims.stands p low high in (b.0, stays_at (ring (p % 2 ^ bits)) (InRing p) b.1 (λ q. cc q));
    kept_there = λ u a h q. elim (v.claims.kept_there u a h (was_at a (With u) q (λ z. cc z)).1) [
      | inl b ↦ inl b
      | inr b ↦ inr (b.0, moving_else w t l u (not_mine u (Fetches b.0) b.1 (λ z. cc z)) ∙ b.1, b.2)
    ];
    named_there = λ i a h q.
        let b = was_at a (At i) q (λ z. cc z) in
        let c = v.claims.named_there i a h b.1 in
        forth i a (λ s. b.0 (same_Some _ _ (sym c ∙ ap (inflated_to w) s ∙ named))) c;
    returned_there = λ u a h q. by_equal a m
        (λ s. let is : u ≡ t = sym (one_leaver t u (sym (place_here a s) ∙ q)) in
        ap (λ z. (with_known t l w.known z).moving) is ∙ moving_here w t l ∙ ap Returns (sym s))
        (λ d. let b = v.claims.returned_there u a h (sym (place_else a d) ∙ q) in moving_else w t l u (not_mine u (Returns a) b (λ z. cc z)) ∙ b);
    ringed_there = λ p a h q. v.claims.ringed_there p a h (was_at a (InRing p) q (λ z. cc z)).1;
    counted =
        let hands = as_many w t l w.shape.threads (λ u y. claimed_or_kept y.moving (w.known u).kept)
        (ap (λ b. is_some (claimed_or_kept b (w.known t).kept)) (sym may.still)) in
        let leaves = one_more w t l w.shape.threads (λ u y. given_back y.moving) within (ap (λ b. is_some (given_back b)) may.still) refl in
        let fewer = with_more (length w.shape.objects) o (inflated_to x) (inflated_to w) may.object (ap is_some here)
        (ap is_some named) (λ i d. ap (λ n. is_some (monitor_in n)) (sym (mark_else w o new t l i d))) in
        omega (arith, hands, leaves, fewer, v.claims.counted);
  }

  all_after : AllHold (parts_with w z P (inflated_to x) (lock w) (header w))
  all_after seen = seen_next step x.words P
      (standing_seen w P t plan (search (may.stands.reached, may.stands.unrevoking, bias_forth w o new t l unbiased, biased)) v)
  all_after forms = forms_marked o new v.forms (subst (IsMark w.shape) (sym (neutral_is new neutral).1) refl)
  all_after biases = biases_by_marks (marks w) (marks x) (lock w) (lock w) _ _ _ _ biased (λ i u g b. g) v.biases
  all_after inflating = inflating_by_marks (marks w) (marks x) _ _ (zero_back w o new t l new_some) (zero_forth w o new t l was_some) v.inflating
  all_after monitors = record {
    own = λ i a n. v.monitors.own i a (back i a n).1;
    neutral = λ i a n. v.monitors.neutral i a (back i a n).1;
    alone = λ i j a n k. v.monitors.alone i j a (back i a n).1 (back j a k).1;
  }
  all_after recursions = record {
    first = v.recursions.first;
    others = v.recursions.others;
    owned = λ i a u n. v.recursions.owned i a u (back i a n).1;
    waiting = v.recursions.waiting;
    on_record = λ i a u q n. v.recursions.on_record i a u q (back i a n).1;
    free = λ i a n. v.recursions.free i a (back i a n).1;
    thread_owns = v.recursions.thread_owns;
  }
  all_after hashes = hashes_by_marks (marks w) (marks x) (lock w) (lock w) _ _ _ _ (bias_before w o new t l was_unbiased) (λ i u q r. r) v.hashes
  all_after waits =
      let b = waits_go_on step P may.stands.goes_on v in
      let entering : (u i : ℕ) → enters_on (w.words (Waiting u)) i ≡ true
      → IsUnfinished (with_known t l w.known u).unfinished op.Enter i × ((a : ℕ) × (inflated_to x i ≡ Some a)) =
      λ u i h. let c = b.entering u i h in (
        c.0,
        (
          c.1.0,
          forth i c.1.0 (λ s. let no = (untouched u).2 in
              let yes = ap (λ j. enters_on (w.words (Waiting u)) j) (sym s) ∙ h in absurd (cc (yes, no))) c.1.1,
        ),
      ) in
      let inflated : (i u : ℕ) → (is_listed (waits_at P i) u ≡ true) ⊎ (is_listed (notified_at P i) u ≡ true) → (a : ℕ) × (inflated_to x i ≡ Some a) =
      λ i u h. let c = b.inflated i u h in
      (c.0, forth i c.0 (λ s. nobody u (subst (λ j. (is_listed (waits_at P j) u ≡ true) ⊎ (is_listed (notified_at P j) u ≡ true)) s h)) c.1) in
      search (entering, inflated, b)
  all_after claims = claims_law
  all_after moves = moves_law w t l P (λ p h. absurd (cc h)) (λ a h. reached) v
  all_after classes = classes_by_marks w.biasing _ _ _ (marks w) (marks x) _ _ (bias_forth w o new t l unbiased) v.classes
  all_after c = standing_step step P may.stands.goes_on reached v c

  detached_fits : Fits x P
  detached_fits = step_fits step x.words P (parts_with w z P (inflated_to x) (lock w) (header w))
      (parts_are w z P (inflated_to x) (lock w) (header w) refl (λ u. refl) refl (λ j. λ i. locks i j) (λ j. λ i. heads i j)) all_after

-- the law
pub detaches : (e : CallContext) (o m new : ℕ) → KeepsValid (λ w t. MayDetach w.shape (w.known t) e o m new) (λ w t. detach_plan e (w.known t).stage o m new)
detaches e o m new w P t within may valid = inl (detached_fits w P t e o m new within may (fits_standing w P t may.stands.reached may.stands.unrevoking valid))
