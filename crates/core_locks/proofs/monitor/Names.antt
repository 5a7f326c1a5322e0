-- A thread makes the mark of an object name the monitor that it keeps, which is ready for it: by the store that ends an inflation, or by an exchange
-- of a neutral mark.
use Rattle.core_locks.proofs.Prelude.{◌≡◌, ◌≢◌, ◌⊎◌, ℕ, ◌+◌, ◌<◌, ◌||◌, Bool, true, false, List, length, Option, Some, None, refl, sym, ap, ◌∙◌}
use Rattle.core_locks.proofs.Prelude.{subst, arith, inl, inr, same_Some, MarkForm, read_mark, Inflated, Biased, is_listed, PlainObject, WordId}
use Rattle.core_locks.proofs.Prelude.{Mark, Waiting, Owner, Recursions, Object, Claim, StepPlan, Settled, Resumes, Waits, OwnerConverted, is_biased}
use Rattle.core_locks.proofs.Prelude.{is_neutral, monitor_in, enters_on, is_biased_form, monitor_form, Inflation, inflation_in, bears}
use Rattle.core_locks.proofs.Prelude.{recursions_ahead, recursions_lowered, revocation_in, word_after, its_monitor, ThreadView, last_seen, World}
use Rattle.core_locks.proofs.Prelude.{with_known, OwnedBy, lock, header, marks, displaced_words, headers, prototype_of, inflations, recursion_count}
use Rattle.core_locks.proofs.Prelude.{owner_at, waits_at, notified_at, inflated_to, Stays, IsValidBias, InMiddleOf, RecursionsFit, CallContext}
use Rattle.core_locks.proofs.Prelude.{quiet_plan, with_own, Fits, SeenFit, IsUnfinished, InflationsAreOne, MonitorsAreClaimed, monitor_count}
use Rattle.core_locks.proofs.Prelude.{IsMark, Act, by_equal, each_with_known, GoesOn, KeptMonitorIsReady, ◌%◌, ◌^◌}
use Rattle.core_locks.proofs.Prelude.{is_some, End, Ring, Moving, Still, Fetches, Returns, ring_bits}
use Rattle.core_world.specs.declared.plan.LocalEffect.TheVariants as own
use Rattle.core_world.specs.declared.heap_call.Operation.TheVariants as op
use Rattle.core_world.specs.Clauses.Claims.{Place, With, At, Leaves, InRing, MonitorsAreClaimed, claimed_or_kept}
use Rattle.core_locks.proofs.monitor.Places.{one_holder, one_object, kept_once, kept_apart, with_more}
use Rattle.core_locks.proofs.monitor.Moved.{moved, Moves, moves_from, one_fewer}
use Rattle.core_locks.proofs.Clauses.{parts_with, parts_are, seen, forms, biases, inflating, monitors, recursions, hashes, waits, claims, classes, AllHold}
use Rattle.core_locks.proofs.EvenSteps.{IsEven, even_by, even_step, held_even}
use Rattle.core_locks.proofs.MarkChanges.{mark_here, mark_else, bias_back, bias_forth, bias_before, biases_by_marks, hashes_by_marks, classes_by_marks}
use Rattle.core_locks.proofs.MarkMeanings.{forms_marked}
use Rattle.core_locks.proofs.monitor.MonitorSeen.{stays_nearly, monitor_seen}
use Rattle.core_locks.proofs.OwnSeen.{left_with, hit_world}
use Rattle.core_locks.proofs.Steps.{spending, IsStep, next, step_fits, seen_next}

-- Where the mark of o comes to name m, who has the lock of o counts besides on the owner and the recursions of m.
pub stays_newly : (w x : World) (k y : ThreadView) (owner : ℕ → ℕ → Bool) (u o m : ℕ) → revocation_in k.stage ≡ None
    → prototype_of x ≡ prototype_of w → y.running ≡ k.running → y.requesting ≡ k.requesting
    → ((i : Inflation) → inflation_in y.stage ≡ Some i → inflation_in k.stage ≡ Some i) → ((a : ℕ) → y.kept ≡ Some a → k.kept ≡ Some a)
    → ((i : ℕ) → (owner i u || bears y.stage i) ≡ true → (owner i u || bears k.stage i) ≡ true)
    → ((i a : ℕ) → i ≢ o → monitor_in (marks x i) ≡ Some a → monitor_in (marks w i) ≡ Some a) → monitor_in (marks x o) ≡ Some m
    → (n : WordId) (s : ℕ) → Stays x y owner u n s → Stays w k owner u n s ⊎ ((k.running ≡ true) × ((n ≡ Owner m) ⊎ (n ≡ Recursions m)))
stays_newly w x k y owner u o m none_revokes prototype run ask inflates kept held names here =
    stays_nearly {w = w} {x = x} {k = k} {y = y} {owner = owner} {u = u} (λ n. (k.running ≡ true) × ((n ≡ Owner m) ⊎ (n ≡ Recursions m))) (record {
      run = λ h. sym run ∙ h;
      ask = λ h. sym ask ∙ h;
      not_revoking = λ h. none_revokes;
      prototype = prototype;
      inflates = λ i h. inl (inflates i h);
      kept = λ a h. inl (kept a h);
      held = λ i a r n h. by_equal i o
          (λ s. let same : a ≡ m = same_Some _ _ (sym n ∙ ap (λ j. monitor_in (marks x j)) s ∙ here) in
          inr ((sym run ∙ r, inl (ap Owner same)), (sym run ∙ r, inr (ap Recursions same))))
          (λ d. inl (names i a d n, held i h));
    })

-- nobody counts on a mark that names no monitor and has no bias, but who inflates it
pub uncounted_mark : (w : World) (k : ThreadView) (owner : ℕ → ℕ → Bool) (u o s : ℕ)
    → monitor_in (marks w o) ≡ None → is_biased (marks w o) ≡ false → (InMiddleOf k (λ i. i.object ≡ o) → ⊥)
    → Stays w k owner u (Mark o) s → marks w o ≡ s → ⊥
uncounted_mark w k owner u o s unnamed unbiased apart stays is = elim stays [
  | inl a ↦ elim a.1 [
    | inl b ↦ no_bias (prototype_of w o) (read_mark s) (ap is_biased (sym is) ∙ unbiased) b
    | inr b ↦ elim b [
      | inl c ↦ (let none = ap monitor_in (sym is) ∙ unnamed in let some = c.1 in absurd (cc (none, some)))
      | inr c ↦ elim c [ inl f ↦ apart f | inr f ↦ (let none = ap is_biased (sym is) ∙ unbiased in let some = f.0 in absurd (cc (none, some))) ]
    ]
  ]
  | inr a ↦ no_bias (prototype_of w o) (read_mark s) (ap is_biased (sym is) ∙ unbiased) a.2
]
  where
    no_bias : (prototype : ℕ) (f : Option MarkForm) → is_biased_form f ≡ false → IsValidBias f prototype → ⊥
    no_bias prototype (Some (Biased thread epoch age)) e h = absurd (cc e)
    no_bias prototype _ e h = h

module _ (w : World) (P : List PlainObject) (t : ℕ) (e : CallContext) (o m : ℕ) (act : Act) (within : t < w.shape.threads) (v : Fits w P)
    (runs : (w.known t).running ≡ true) (goes_on : GoesOn (w.known t) e) (ready : KeptMonitorIsReady w.shape (w.known t) o m)
    (form : read_mark (word_after act (w.words (Mark o))) ≡ Some (Inflated m)) (before : IsEven (w.known t).stage)
    (level : (i : ℕ) → (recursions_ahead (w.known t).stage i ≡ 0) × (recursions_lowered (w.known t).stage i ≡ 0))
    (unnamed : monitor_in (marks w o) ≡ None) (unbiased : is_biased (marks w o) ≡ false) (not_thread_owned : (u : ℕ) → lock w o ≡ OwnedBy u → ⊥)
    (neutral : is_neutral (headers w m) ≡ true) (apart : (u : ℕ) → u ≢ t → InMiddleOf (w.known u) (λ i. i.object ≡ o) → ⊥) where
  abbrev plan : StepPlan
  plan = with_own own.DropClaim (quiet_plan e (Mark o) act)

  abbrev l : ThreadView
  l = left_with w t plan

  abbrev x : World
  x = hit_world w t plan

  abbrev mark : ℕ
  mark = word_after act (w.words (Mark o))

  here : monitor_in (marks x o) ≡ Some m
  here = ap monitor_in (mark_here w o mark t l) ∙ ap monitor_form form

  new_unbiased : is_biased mark ≡ false
  new_unbiased = ap is_biased_form form

  names : (i a : ℕ) → i ≢ o → monitor_in (marks x i) ≡ Some a → monitor_in (marks w i) ≡ Some a
  names i a d h = ap monitor_in (sym (mark_else w o mark t l i d)) ∙ h

  forth : (i a : ℕ) → monitor_in (marks w i) ≡ Some a → monitor_in (marks x i) ≡ Some a
  forth i a h = by_equal i o (λ s. let none = ap (λ j. monitor_in (marks w j)) s ∙ unnamed in absurd (cc (none, h)))
      (λ d. ap monitor_in (mark_else w o mark t l i d) ∙ h)

  -- each mark that names a monitor afterwards is o's, which names m, or named it before
  which : (i a : ℕ) → monitor_in (marks x i) ≡ Some a → ((i ≡ o) × (a ≡ m)) ⊎ ((i ≢ o) × (monitor_in (marks w i) ≡ Some a))
  which i a h = by_equal i o (λ s. inl (s, same_Some _ _ (sym h ∙ ap (λ j. monitor_in (marks x j)) s ∙ here))) (λ d. inr (d, names i a d h))

  -- the words of m
  count_is : w.words (Recursions m) ≡ 0
  count_is = v.seen.stays t (Recursions m) 0 ready.recursions (inl (runs, inl ready.kept))

  object_is : w.words (Object m) ≡ o
  object_is = v.seen.stays t (Object m) o ready.its_object (inl (runs, ready.kept))

  now : IsEven Settled
  now = even_by Settled refl

  step : IsStep w t l spending
  step = record { within = within; mine = refl; others = λ k. refl }

  abbrev z : World
  z = next w t l spending x.words

  small : m < monitor_count w.shape
  small = (v.claims.keeps t m ready.kept).0

  -- nobody else has seen a word of m
  unmet : (u : ℕ) (n : WordId) (s : ℕ) → u ≢ t → (w.known u).running ≡ true → last_seen n (w.known u).seen ≡ Some s → its_monitor n ≡ Some m → ⊥
  unmet u n s d r e is = elim (v.seen.monitors u m s r (n, is, e)) [
    | inl a ↦ d (kept_once v.claims u t m a ready.kept)
    | inr a ↦ kept_apart v.claims t a.0 m ready.kept a.1
  ]

  seen_law : SeenFit x P
  seen_law = monitor_seen w P t plan (record {
    runs = runs;
    seen = refl;
    running = refl;
    requesting = refl;
    reached = refl;
    mine = λ n s saw d g. elim (stays_newly w x (w.known t) l (owner_at P) t o m
        (v.quiet.none_revokes t) refl refl refl (λ i c. absurd (cc c)) (λ a c. absurd (cc c))
        (λ i. held_even step before now (owner_at P) i 0) names here n s g) [
          | inl a ↦ v.seen.stays t n s saw a
          | inr a ↦ elim a.1 [
            | inl b ↦ ap w.words b ∙ v.seen.stays t (Owner m) s (ap (λ y. last_seen y (w.known t).seen) (sym b) ∙ saw) (inl (runs, inl ready.kept))
            | inr b ↦ ap w.words b ∙ v.seen.stays t (Recursions m) s (ap (λ y. last_seen y (w.known t).seen) (sym b) ∙ saw) (inl (runs, inl ready.kept))
          ]
        ];
    kept = λ a h. inr (o, here ∙ sym ready.kept ∙ h);
    fresh = λ a is. absurd (cc is);
    others = λ u n s d saw g. elim (stays_newly w x (w.known u) (w.known u) (owner_at P) u o m
        (v.quiet.none_revokes u) refl refl refl (λ i c. c) (λ a c. c) (λ i c. c) names here n s g) [
          | inl a ↦ a
          | inr a ↦ absurd (unmet u n s d a.0 saw (elim a.1 [ inl b ↦ ap its_monitor b | inr b ↦ ap its_monitor b ]))
        ];
    uncounted = λ u s d. uncounted_mark w (w.known u) (owner_at P) u o s unnamed unbiased (apart u d);
    unbiased = bias_forth w o mark t l new_unbiased;
    biased = λ i h. (bias_back w o mark t l new_unbiased i h).1;
    there = λ i h. h;
    names = forth;
    waits = λ u i h. h;
    idle = λ i is none. let some = ap monitor_form form in absurd (cc (none, some));
  }) v

  kept_else : (u : ℕ) → u ≢ t → (with_known t l w.known u).kept ≡ (w.known u).kept
  kept_else u d = each_with_known (λ u y. u ≢ t → y.kept ≡ (w.known u).kept) t l w.known u (λ d. absurd (d refl)) (λ d e. refl) d

  kept_back : (u a : ℕ) → (with_known t l w.known u).kept ≡ Some a → (u ≢ t) × ((w.known u).kept ≡ Some a)
  kept_back u a = each_with_known (λ u y. y.kept ≡ Some a → (u ≢ t) × ((w.known u).kept ≡ Some a)) t l w.known u (λ h. absurd (cc h)) (λ d h. (d, h))

  abbrev bits : ℕ
  bits = ring_bits w.shape

  abbrev ring : ℕ → ℕ
  ring q = w.words (Ring q)

  mine_there : (m < monitor_count w.shape) × (v.claims.place m ≡ With t)
  mine_there = v.claims.keeps t m ready.kept

  abbrev place : ℕ → Place
  place = moved v.claims.place m (At o)

  move : Moves v.claims.place m (With t) (At o)
  move = moves_from v.claims.place m (With t) (At o) mine_there.1

  open move use {place_here, place_else, stays_at, was_at}

  -- a thread that keeps a monitor has claimed no position
  no_position : (b : Moving) → (w.known t).moving ≡ b → (is_some (claimed_or_kept b None) ≡ false) × (is_some (claimed_or_kept b (w.known t).kept) ≡ true)
  no_position Still g = (refl, ap is_some ready.kept)
  no_position (Fetches p) g = let none = (v.claims.fetches t p g).0 in let some = ready.kept in absurd (cc (none, some))
  no_position (Returns a) g = (refl, ap is_some ready.kept)

  claims_law : MonitorsAreClaimed w.shape.threads (length w.shape.objects) (monitor_count w.shape) bits
      (w.words Claim) (w.words End) ring (inflated_to x) (λ u. (with_known t l w.known u).kept) (λ u. (w.known u).moving)
  claims_law = record {
    first = v.claims.first;
    ringed = v.claims.ringed;
    claim_word = v.claims.claim_word;
    end_word = v.claims.end_word;
    place = place;
    keeps = λ u a h. let b = kept_back u a h in let c = v.claims.keeps u a b.1 in (c.0, stays_at a (With u) c.1 (λ q. b.0 (sym (one_holder t u q))));
    fetches = λ u p h. let c = v.claims.fetches u p h in
        let other : u ≢ t = λ s. let none = c.0 in let some = ap (λ y. (w.known y).kept) s ∙ ready.kept in absurd (cc (none, some)) in
        (kept_else u other ∙ c.0, c.1, stays_at (ring (p % 2 ^ bits)) (With u) c.2 (λ q. other (sym (one_holder t u q))));
    names = λ i a h. elim (which i a h) [
      | inl s ↦ (omega (arith, mine_there.0, s.1), place_here a s.1 ∙ ap At (sym s.0))
      | inr s ↦ let c = v.claims.names i a s.1 in (c.0, stays_at a (At i) c.1 (λ q. cc q))
    ];
    returns = λ u a h. let c = v.claims.returns u a h in (c.0, stays_at a (Leaves u) c.1 (λ q. cc q));
    stands = λ p low high. let c = v.claims.stands p low high in (c.0, stays_at (ring (p % 2 ^ bits)) (InRing p) c.1 (λ q. cc q));
    kept_there = λ u a h q. let c = was_at a (With u) q (λ z. cc z) in elim (v.claims.kept_there u a h c.1) [
      | inl b ↦ inl (kept_else u (λ s. c.0 (same_Some _ _ (sym b ∙ ap (λ y. (w.known y).kept) s ∙ ready.kept))) ∙ b)
      | inr b ↦ inr b
    ];
    named_there = λ i a h q. by_equal a m
        (λ s. let is : o ≡ i = one_object o i (sym (place_here a s) ∙ q) in ap (inflated_to x) (sym is) ∙ here ∙ ap Some (sym s))
        (λ d. forth i a (v.claims.named_there i a h (sym (place_else a d) ∙ q)));
    returned_there = λ u a h q. v.claims.returned_there u a h (was_at a (Leaves u) q (λ z. cc z)).1;
    ringed_there = λ p a h q. v.claims.ringed_there p a h (was_at a (InRing p) q (λ z. cc z)).1;
    counted =
        let free = no_position (w.known t).moving refl in
        let less = one_fewer w t l w.shape.threads (λ u y. claimed_or_kept (w.known u).moving y.kept) within free.1 free.0 in
        let more = with_more (length w.shape.objects) o (inflated_to w) (inflated_to x) ready.object.within
        (ap is_some unnamed) (ap is_some here) (λ i d. ap (λ z. is_some (monitor_in z)) (mark_else w o mark t l i d)) in
        omega (arith, less, more, v.claims.counted);
  }

  recursions_law : RecursionsFit (marks x) (λ a. w.words (Recursions a)) (lock w) (λ u. (w.known u).holds)
      (λ u. (with_known t l w.known u).stage) (λ u. (w.known u).saved) (displaced_words w) (waits_at P) (notified_at P)
  recursions_law = record {
    first = v.recursions.first;
    others = v.recursions.others;
    owned = λ i a u n. elim (which i a n) [
      | inl s ↦ (λ g b c. absurd (not_thread_owned u (ap (lock w) (sym s.0) ∙ g)))
      | inr s ↦ each_with_known (λ u y. lock w i ≡ OwnedBy u → (y.stage ≡ Waits i → ⊥) → (y.stage ≡ Resumes i → ⊥)
          → w.words (Recursions a) + recursions_lowered y.stage i
          ≡ recursion_count i (displaced_words w u) (w.known u).holds + recursions_ahead y.stage i) t l w.known u
          (λ g b c. let was = v.recursions.owned i a t s.1 g (before.plain.waits i) (before.plain.resumes i) in
          let flat = level i in omega (arith, was, flat.0, flat.1))
          (λ d. v.recursions.owned i a u s.1)
    ];
    waiting = v.recursions.waiting;
    on_record = λ i a u q n g. elim (which i a n) [ inl s ↦ ap (λ k. w.words (Recursions k)) s.1 ∙ count_is | inr s ↦ v.recursions.on_record i a u q s.1 g ];
    free = λ i a n g. elim (which i a n) [ inl s ↦ ap (λ k. w.words (Recursions k)) s.1 ∙ count_is | inr s ↦ v.recursions.free i a s.1 g ];
    thread_owns = λ i u. each_with_known (λ u y. y.stage ≡ OwnerConverted i → recursion_count i (displaced_words w u) (w.known u).holds ≡ 0)
        t l w.known u (λ h. absurd (cc h)) (λ d. v.recursions.thread_owns i u);
  }

  all_after : InflationsAreOne (marks x) (λ u. inflation_in (with_known t l w.known u).stage) (inflations z)
      → AllHold (parts_with w z P (inflated_to x) (lock w) (header w))
  all_after one_law seen = seen_next step x.words P seen_law
  all_after one_law forms = forms_marked o mark v.forms (subst (IsMark w.shape) (sym form) small)
  all_after one_law biases =
      biases_by_marks (marks w) (marks x) (lock w) (lock w) _ _ _ _ (λ i b. (bias_back w o mark t l new_unbiased i b).1) (λ i u g b. g) v.biases
  all_after one_law inflating = one_law
  all_after one_law monitors = record {
    own = λ i a n. elim (which i a n) [ inl s ↦ ap (λ k. w.words (Object k)) s.1 ∙ object_is ∙ sym s.0 | inr s ↦ v.monitors.own i a s.1 ];
    neutral = λ i a n. elim (which i a n) [ inl s ↦ ap (λ k. is_neutral (headers w k)) s.1 ∙ neutral | inr s ↦ v.monitors.neutral i a s.1 ];
    alone = λ i j a n k. elim (which i a n) [
      | inl s ↦ elim (which j a k) [ inl r ↦ s.0 ∙ sym r.0 | inr r ↦ absurd (kept_apart v.claims t j m ready.kept (r.1 ∙ ap Some s.1)) ]
      | inr s ↦ elim (which j a k) [ inl r ↦ absurd (kept_apart v.claims t i m ready.kept (s.1 ∙ ap Some r.1)) | inr r ↦ v.monitors.alone i j a s.1 r.1 ]
    ];
  }
  all_after one_law recursions = recursions_law
  all_after one_law hashes = hashes_by_marks (marks w) (marks x) (lock w) (lock w) _ _ _ _ (bias_before w o mark t l unbiased) (λ i u q r. r) v.hashes
  all_after one_law waits =
      let b = even_step step before now P goes_on runs v waits in
      let entering : (u i : ℕ) → enters_on (w.words (Waiting u)) i ≡ true → IsUnfinished (with_known t l w.known u).unfinished op.Enter i
      × ((a : ℕ) × (inflated_to x i ≡ Some a)) = λ u i h. let c = b.entering u i h in (c.0, (c.1.0, forth i c.1.0 c.1.1)) in
      let inflated : (i u : ℕ) → (is_listed (waits_at P i) u ≡ true) ⊎ (is_listed (notified_at P i) u ≡ true)
      → (a : ℕ) × (inflated_to x i ≡ Some a) = λ i u h. let c = b.inflated i u h in (c.0, forth i c.0 c.1) in
      search (entering, inflated, b)
  all_after one_law claims = claims_law
  all_after one_law classes = classes_by_marks w.biasing _ _ _ (marks w) (marks x) _ _ (bias_forth w o mark t l new_unbiased) v.classes
  all_after one_law c = even_step step before now P goes_on runs v c

  pub named_fits : lock z ≡ lock w → header z ≡ header w
      → InflationsAreOne (marks x) (λ u. inflation_in (with_known t l w.known u).stage) (inflations z) → Fits x P
  named_fits locks heads one_law =
      step_fits step x.words P (parts_with w z P (inflated_to x) (lock w) (header w))
      (parts_are w z P (inflated_to x) (lock w) (header w) refl (λ u. refl) refl locks heads) (all_after one_law)
