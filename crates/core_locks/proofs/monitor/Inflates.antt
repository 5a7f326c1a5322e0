-- A thread exchanges a mark that names a lock record for 0: it is in the middle of the inflation of the object's lock from then on.
use Rattle.core_locks.proofs.Prelude.{◌≡◌, ◌≢◌, ◌⊎◌, ℕ, ◌<◌, ◌==◌, ◌||◌, eq-eqb, Bool, true, false, cond, List, Some, None, refl, sym}
use Rattle.core_locks.proofs.Prelude.{ap, ◌∙◌, subst, inl, inr, eqb-true, same_Some, read_mark, Locked, PlainObject, WordId, Mark, Displaced}
use Rattle.core_locks.proofs.Prelude.{StepPlan, Settled, Inflates, is_biased, monitor_in, is_biased_form, monitor_form, Inflation}
use Rattle.core_locks.proofs.Prelude.{inflation_in, bears, revocation_in, word_after, same_name, ThreadView, last_seen, World, with_known}
use Rattle.core_locks.proofs.Prelude.{record_lock, lock, lock_form, header, header_form, marks, displaced_words, headers, owner_words}
use Rattle.core_locks.proofs.Prelude.{prototype_of, inflations, owner_at, inflated_to, is_for, record_header, Stays, CallContext, Fits}
use Rattle.core_locks.proofs.Prelude.{CompareExchange, InflationsAreOne, IsMark, by_equal, each_with_known, with_known_here, mark_zero}
use Rattle.core_locks.proofs.Prelude.{fits_running, stays_back, unwaited_fits, KeepsValid, MayInflate, inflate_plan}
use Rattle.core_locks.proofs.Clauses.{parts_with, parts_are, seen, forms, biases, inflating, recursions, hashes, classes, AllHold}
use Rattle.core_locks.proofs.EvenSteps.{IsEven, even_by, even_step}
use Rattle.core_locks.proofs.monitor.InflationOf.{inflation_else, is_other, inflation_here}
use Rattle.core_locks.proofs.MarkChanges.{names_same, mark_here, mark_else, mark_back, bias_back, bias_forth}
use Rattle.core_locks.proofs.MarkChanges.{bias_before, biases_by_marks, hashes_by_marks, classes_by_marks, recursions_by_marks}
use Rattle.core_locks.proofs.MarkMeanings.{forms_marked, IsBare, locked_bare, locked_some, locked_lock, locked_header}
use Rattle.core_locks.proofs.monitor.MonitorSeen.{stays_nearly, monitor_seen}
use Rattle.core_locks.proofs.monitor.Names.{uncounted_mark}
use Rattle.core_locks.proofs.OwnSeen.{left_with, hit_world}
use Rattle.core_locks.proofs.Steps.{IsAside, aside_by, recursions_stand, turning, IsStep, next, step_fits, seen_next}
use Rattle.core_locks.proofs.monitor.SwapLaws.{swap_valid}

-- a thread that comes to be in the middle of an inflation counts besides on that object's mark and on the record's displaced word
stays_inflating : (w : World) (k : ThreadView) (owner : ℕ → ℕ → Bool) (y o u p : ℕ) → revocation_in k.stage ≡ None → ((i : ℕ) → bears k.stage i ≡ false)
    → (n : WordId) (s : ℕ) → Stays w (record k { stage = Inflates o u p }) owner y n s → Stays w k owner y n s ⊎ ((n ≡ Mark o) ⊎ (n ≡ Displaced u p))
stays_inflating w k owner y o u p none_revokes unborne = stays_nearly {w = w} {x = w} {k = k}
    {y = record k { stage = Inflates o u p }} {owner = owner} {u = y} (λ n. (n ≡ Mark o) ⊎ (n ≡ Displaced u p)) (record {
      run = λ h. h;
      ask = λ h. h;
      not_revoking = λ h. none_revokes;
      prototype = refl;
      inflates = λ j h. let is : record { object = o; thread = u; place = p } ≡ j = same_Some _ _ h in
          inr (inl (λ c. Mark (sym is c).object), inr (λ c. Displaced (sym is c).thread (sym is c).place));
      kept = λ a h. inl h;
      held = λ i a r n h. inl (n, ap (λ (b : Bool). owner i y || b) (unborne i) ∙ h);
    })

module _ (w : World) (P : List PlainObject) (t : ℕ) (e : CallContext) (o mark u p : ℕ) (within : t < w.shape.threads)
    (may : MayInflate (w.known t) e o mark u p) (hit : (w.words (Mark o) == mark) ≡ true) (v : Fits w P) where
  abbrev plan : StepPlan
  plan = inflate_plan e o mark u p

  abbrev l : ThreadView
  l = left_with w t plan

  abbrev x : World
  x = hit_world w t plan

  abbrev m : ℕ
  m = word_after (CompareExchange mark 0) (w.words (Mark o))

  abbrev mine : Inflation
  mine = record { object = o; thread = u; place = p }

  zero_now : m ≡ 0
  zero_now = ap (λ (b : Bool). cond b 0 (w.words (Mark o))) hit

  form : read_mark (marks w o) ≡ Some (Locked u p)
  form = ap read_mark (eqb-true (marks w o) mark hit) ∙ may.locked

  old : IsBare (marks w o)
  old = locked_bare (marks w o) u p form

  new : IsBare m
  new = record { unnamed = ap monitor_in zero_now ∙ ap monitor_form mark_zero; unbiased = ap is_biased zero_now ∙ ap is_biased_form mark_zero }

  some : marks w o ≢ 0
  some = locked_some (marks w o) u p form

  names : (i : ℕ) → monitor_in (marks w i) ≡ monitor_in (marks x i)
  names = names_same w o m t l (old.unnamed ∙ sym new.unnamed)

  before : IsEven (w.known t).stage
  before = subst IsEven (sym may.calm) (even_by Settled refl)

  now : IsEven (Inflates o u p)
  now = even_by (Inflates o u p) refl

  step : IsStep w t l turning
  step = record { within = within; mine = refl; others = λ k. refl }

  abbrev z : World
  z = next w t l turning x.words

  -- INFLATIONS. That of o is this one, and the others stay.
  alone : (y : ℕ) (i : Inflation) → inflation_in (w.known y).stage ≡ Some i → i.object ≢ o
  alone y i is s = some (ap (marks w) (sym s) ∙ v.inflating.zero y i is)

  its : inflations z o ≡ Some mine
  its = inflation_here o w.shape.threads t (λ y. inflation_in (with_known t l w.known y).stage) mine within
      (ap (λ (k : ThreadView). inflation_in k.stage) (with_known_here t l w.known)) refl
      (λ y i. each_with_known (λ y k. inflation_in k.stage ≡ Some i → i.object ≡ o → y ≡ t) t l w.known y (λ c s. refl) (λ d is s. absurd (alone y i is s)))

  else_ : (i : ℕ) → i ≢ o → inflations z i ≡ inflations w i
  else_ i d = inflation_else i w.shape.threads (λ y. inflation_in (w.known y).stage) (λ y. inflation_in (with_known t l w.known y).stage)
      (λ y a. each_with_known (λ y k. is_for i (inflation_in k.stage) a ≡ is_for i (inflation_in (w.known y).stage) a) t l w.known y
      (is_other i mine a (λ s. d (sym s)) ∙ sym (ap (λ s. is_for i (inflation_in s) a) may.calm)) (λ c. refl))

  locks : (i : ℕ) → lock z i ≡ lock w i
  locks i = by_equal i o
      (λ s.
      ap (lock z) s ∙ (λ j. lock_form (read_mark (mark_here w o m t l j)) (prototype_of w o) (owner_words w) (inflations z o))
      ∙ ap (λ n. lock_form (read_mark n) (prototype_of w o) (owner_words w) (inflations z o)) zero_now
      ∙ ap (λ f. lock_form f (prototype_of w o) (owner_words w) (inflations z o)) mark_zero ∙ ap record_lock its
      ∙ sym (ap (lock w) s ∙ locked_lock (marks w o) u p (prototype_of w o) (owner_words w) (inflations w o) form))
      (λ d. λ j. lock_form (read_mark (mark_else w o m t l i d j)) (prototype_of w i) (owner_words w) (else_ i d j))

  heads : (i : ℕ) → header z i ≡ header w i
  heads i = by_equal i o
      (λ s.
      ap (header z) s ∙ (λ j. header_form (read_mark (mark_here w o m t l j)) (mark_here w o m t l j) (displaced_words w) (headers w) (inflations z o))
      ∙ ap (λ n. header_form (read_mark n) n (displaced_words w) (headers w) (inflations z o)) zero_now
      ∙ ap (λ f. header_form f 0 (displaced_words w) (headers w) (inflations z o)) mark_zero ∙ ap (λ y. record_header y (displaced_words w)) its
      ∙ sym (ap (header w) s ∙ locked_header (marks w o) u p (displaced_words w) (headers w) (inflations w o) form))
      (λ d. λ j. header_form (read_mark (mark_else w o m t l i d j)) (mark_else w o m t l i d j) (displaced_words w) (headers w) (else_ i d j))

  one_law : InflationsAreOne (marks x) (λ y. inflation_in (with_known t l w.known y).stage) (inflations z)
  one_law = record {
    some = λ i g. by_equal i o
        (λ s. (t, mine, ap (λ (k : ThreadView). inflation_in k.stage) (with_known_here t l w.known), sym s, ap (inflations z) s ∙ its))
        (λ d.
        let one = v.inflating.some i (sym (mark_else w o m t l i d) ∙ g) in (
          one.0,
          one.1,
          each_with_known (λ y k. inflation_in (w.known y).stage ≡ Some one.1 → inflation_in k.stage ≡ Some one.1) t l w.known one.0
              (λ c. let none = ap inflation_in may.calm in absurd (cc (none, c))) (λ _ b. b) one.2,
          one.3,
          else_ i d ∙ one.4,
        ));
    zero = λ y i. each_with_known (λ y k. inflation_in k.stage ≡ Some i → marks x i.object ≡ 0) t l w.known y
        (λ c. ap (marks x) (ap (λ (j : Inflation). j.object) (sym (same_Some _ _ c))) ∙ mark_here w o m t l ∙ zero_now)
        (λ d is. mark_else w o m t l i.object (alone y i is) ∙ v.inflating.zero y i is);
    one = λ y b i j f g s. elim (which y i f) [
      | inl a ↦ elim (which b j g) [ inl c ↦ a.0 ∙ sym c.0 | inr c ↦ absurd (alone b j c (sym s ∙ a.1)) ]
      | inr a ↦ elim (which b j g) [ inl c ↦ absurd (alone y i a (s ∙ c.1)) | inr c ↦ v.inflating.one y b i j a c s ]
    ];
  }
    where
      which : (y : ℕ) (i : Inflation) → inflation_in (with_known t l w.known y).stage ≡ Some i
          → ((y ≡ t) × (i.object ≡ o)) ⊎ (inflation_in (w.known y).stage ≡ Some i)
      which y i = each_with_known (λ y k. inflation_in k.stage ≡ Some i → ((y ≡ t) × (i.object ≡ o)) ⊎ (inflation_in (w.known y).stage ≡ Some i)) t l w.known y
          (λ c. inl (refl, ap (λ (j : Inflation). j.object) (sym (same_Some _ _ c)))) (λ d c. inr c)

  -- what it saw of other words, and counts on from now on, stands
  saw_mine : (n : WordId) (s : ℕ) → last_seen n (w.known t).seen ≡ Some s → same_name n (Mark o) ≡ false → Stays x l (owner_at P) t n s → w.words n ≡ s
  saw_mine n s saw d g = elim (stays_inflating w (w.known t) (owner_at P) t o u p (v.quiet.none_revokes t) before.unborne n s
      (stays_back w x (record (w.known t) { stage = Inflates o u p }) l (owner_at P) (owner_at P) t
      (mark_back w o m t l (record (w.known t) { stage = Inflates o u p }) l (owner_at P) (owner_at P) t
      (λ i a h. names i ∙ h) refl refl refl (λ a. a) refl (λ i h. h) (λ i a h b. b)) n s g)) [
        | inl a ↦ v.seen.stays t n s saw a
        | inr a ↦ elim a [
          | inl b ↦ (let same : same_name n (Mark o) ≡ true = ap (λ y. same_name y (Mark o)) b ∙ eq-eqb o o refl in absurd (cc (same, d)))
          | inr b ↦
              let saw_it = ap (λ y. last_seen y (w.known t).seen) (sym b) ∙ saw in
              elim may.unseen [
                | inl c ↦ absurd (cc (c, saw_it))
                | inr c ↦ ap w.words b ∙ v.seen.stays t (Displaced u p) s saw_it (inl (may.runs, inl (c ∙ v.numbered t)))
              ]
        ]
      ]

  all_after : AllHold (parts_with w z P (inflated_to w) (lock w) (header w))
  all_after seen = seen_next step x.words P (monitor_seen w P t plan (record {
    runs = may.runs;
    seen = refl;
    running = refl;
    requesting = refl;
    reached = refl;
    mine = saw_mine;
    kept = λ a h. inl h;
    fresh = λ a is. absurd (cc is);
    others = λ y n s d saw g. stays_back w x (w.known y) (w.known y) (owner_at P) (owner_at P) y
        (mark_back w o m t l (w.known y) (w.known y) (owner_at P) (owner_at P) y
        (λ i a h. names i ∙ h) refl refl refl (λ a. a) refl (λ i h. h) (λ i a h b. b)) n s g;
    uncounted = λ y s d. uncounted_mark w (w.known y) (owner_at P) y o s old.unnamed old.unbiased (λ i. alone y i.0 i.1 i.2);
    unbiased = bias_forth w o m t l new.unbiased;
    biased = λ i h. (bias_back w o m t l new.unbiased i h).1;
    there = λ i h. h;
    names = λ i a h. sym (names i) ∙ h;
    waits = λ y i h. h;
    idle = λ i is none. unwaited_fits w P v i (ap (λ j. monitor_in (marks w j)) (eqb-true i o is) ∙ old.unnamed);
  }) v)
  all_after forms = forms_marked o m v.forms (subst (IsMark w.shape) (sym (ap read_mark zero_now ∙ mark_zero)) tt)
  all_after biases = biases_by_marks (marks w) (marks x) (lock w) (lock w) _ _ _ _ (λ i b. (bias_back w o m t l new.unbiased i b).1) (λ i y g b. g) v.biases
  all_after inflating = one_law
  all_after recursions = recursions_stand step (subst IsAside (sym may.calm) (aside_by Settled refl)) (aside_by (Inflates o u p) refl)
      (recursions_by_marks (marks w) (marks x) names _ (lock w) (lock w) _ _ _ _ _ _ (λ i y g. g) (λ i a n. refl) v.recursions)
  all_after hashes = hashes_by_marks (marks w) (marks x) (lock w) (lock w) _ _ _ _ (bias_before w o m t l old.unbiased) (λ i u q r. r) v.hashes
  all_after classes = classes_by_marks w.biasing _ _ _ (marks w) (marks x) _ _ (bias_forth w o m t l new.unbiased) v.classes
  all_after c = even_step step before now P may.goes_on may.runs v c

  inflates_fits : Fits x P
  inflates_fits =
      step_fits step x.words P (parts_with w z P (inflated_to w) (lock w) (header w))
      (parts_are w z P (inflated_to w) (lock w) (header w) refl (λ y. refl) (λ j. λ i. sym (names i) j) (λ j. λ i. locks i j) (λ j. λ i. heads i j)) all_after

-- the law
pub inflates_locked : (e : CallContext) (o mark u p : ℕ) → KeepsValid (λ w t. MayInflate (w.known t) e o mark u p) (λ w t. inflate_plan e o mark u p)
inflates_locked e o mark u p w P t within may valid =
    swap_valid w P t (inflate_plan e o mark u p) within
    (record { outside = λ stopped. let runs = may.runs in absurd (cc (stopped, runs)); found = λ r a is. absurd (cc is) })
    (λ hit. inflates_fits w P t e o mark u p within may hit (fits_running w P t may.runs valid)) valid
