-- A thread stores the first mark of an object that it makes, and logs its New.
use Rattle.core_locks.proofs.Prelude.{◌≡◌, ◌≢◌, ℕ, ◌<◌, ◌||◌, eq-eqb, ne_eqb, Bool, true, false, cond, List, [], Option, Some, None, refl, sym, ap}
use Rattle.core_locks.proofs.Prelude.{◌∙◌, subst, arith, inl, inr, same_Some, read_mark, Neutral, read_mark-mark_of, PlainObject, Logged, last_stamp}
use Rattle.core_locks.proofs.Prelude.{New, Mark, StepPlan, Stage, is_biased, is_neutral, monitor_in, hash_in, is_biased_form, monitor_form, hash_form}
use Rattle.core_locks.proofs.Prelude.{is_neutral_form, ThreadView, World, with_word_and_known, with_known, logs_from, marks, lock, lock_form, header}
use Rattle.core_locks.proofs.Prelude.{header_form, Open, displaced_words, headers, owner_words, inflations, prototype_of, inflated_to, hash_at}
use Rattle.core_locks.proofs.Prelude.{waits_at, notified_at, owner_at, Fits, SeenFit, IsValidBias, CallContext, with_stage, world_after, known_hit}
use Rattle.core_locks.proofs.Prelude.{seen_before, BiasedAreFree, HashesFit, BiasedTo, hold_count, last_seen, eqb-true, ◌+◌, ClassesFit, DrawsFit}
use Rattle.core_locks.proofs.Prelude.{IsMark, by_equal, seen_is_part, stays_back, Stays, mark_zero, unwaited_fits, Logs, bulk_rebiases, bulk_revokes}
use Rattle.core_locks.proofs.Prelude.{Prototype, Revocations, LastBulk, has_class, nat_lt, not, or-true, Class, Spares, seen_moves, counts_more}
use Rattle.core_locks.proofs.Clauses.{Parts, parts_of, seen, forms, biases, inflating, recursions, hashes, classes, AllHold}
use Rattle.core_locks.proofs.telling.TellTaken.{IsFreeToTell, IsTaken, unbound_taken}
use Rattle.core_locks.proofs.telling.Tells.{IsTelling, tells_so, still_parts, still_are, told_step}
use Rattle.core_locks.proofs.hash.Drawing.{draws_counted, draws_still}
use Rattle.core_locks.proofs.MarkMeanings.{forms_marked, each_set, IsBare, bare_unnamed, bare_unbiased}
use Rattle.core_locks.proofs.MarkMeanings.{neutral_bare, neutral_some, neutral_lock, neutral_header}
use Rattle.core_locks.proofs.MarkChanges.{names_same, zero_back, zero_forth, mark_back, recursions_by_marks, inflating_by_marks}
use Rattle.core_locks.proofs.Steps.{none_reached, telling, IsStep, next, step_fits, seen_next}
use Rattle.core_world.specs.Trees.CreateSteps.{make_plan}
use Rattle.core_made.specs.Making.{IsFresh, IsFirstMark, MayMake}

-- WHAT A FIRST MARK MEANS: nobody has the lock, and there is no header, or one without a hash
module _ (w : World) (m : ℕ) where
  first_lock : IsFirstMark w m → (prototype o : ℕ) → lock_form (read_mark m) prototype (owner_words w) (inflations w o) ≡ Open
  first_lock (inl e) prototype o = ap (λ f. lock_form f prototype (owner_words w) (inflations w o)) e
  first_lock (inr e) prototype o = ap (λ f. lock_form f prototype (owner_words w) (inflations w o)) e.1.1

  first_unnamed : IsFirstMark w m → monitor_in m ≡ None
  first_unnamed (inl e) = ap monitor_form e
  first_unnamed (inr e) = ap monitor_form e.1.1

  first_some : IsFirstMark w m → m ≢ 0
  first_some (inl e) z = absurd (cc (sym e ∙ ap read_mark z ∙ mark_zero))
  first_some (inr e) z = absurd (cc (sym e.1.1 ∙ ap read_mark z ∙ mark_zero))

  first_form : IsFirstMark w m → IsMark w.shape (read_mark m)
  first_form (inl e) = subst (IsMark w.shape) (sym e) refl
  first_form (inr e) = subst (IsMark w.shape) (sym e.1.1) refl

  first_header : IsFirstMark w m → (o h : ℕ) → header_form (read_mark m) m (displaced_words w) (headers w) (inflations w o) ≡ Some h → hash_in h ≡ 0
  first_header (inl e) o h g =
      ap hash_in (same_Some h m (sym g ∙ ap (λ f. header_form f m (displaced_words w) (headers w) (inflations w o)) e)) ∙ ap hash_form e
  first_header (inr e) o h g = let none = ap (λ f. header_form f m (displaced_words w) (headers w) (inflations w o)) e.1.1 in absurd (cc (g, none))

  first_plain : IsFirstMark w m → w.biasing ≡ false → is_biased m ≡ false
  first_plain (inl e) off = ap is_biased_form e
  first_plain (inr e) off = let on = e.0 in absurd (cc (on, off))

module _ (w : World) (P : List PlainObject) (t : ℕ) (e : CallContext) (o c m : ℕ) (within : t < w.shape.threads) (may : MayMake (w.known t) o c)
    (fresh : IsFresh w P o) (classed : w.words (Class o) ≡ c + 1) (first : IsFirstMark w m) (v : Fits w P) where
  was_read : read_mark (marks w o) ≡ Some (Neutral 0 0)
  was_read = ap read_mark fresh.mark ∙ read_mark-mark_of (Neutral 0 0) (omega arith, omega arith)

  was_neutral : is_neutral (marks w o) ≡ true
  was_neutral = ap is_neutral_form was_read

  old : IsBare (marks w o)
  old = neutral_bare (marks w o) was_neutral

  -- the object has no hash
  hashless : hash_at P o ≡ 0
  hashless =
      sym (v.hashes.stands o (marks w o) (neutral_header (marks w o) (displaced_words w) (headers w) (inflations w o) was_neutral))
      ∙ ap hash_form was_read

  -- the object's class is stored, so that its mark may have the bias pattern
  is_classed : has_class w.shape w.words o ≡ true
  is_classed =
      ap (λ (b : Bool). nat_lt o w.shape.declared || not b) (ne_eqb (w.words (Class o)) 0 (λ z. omega (arith, classed, z)))
      ∙ or-true (nat_lt o w.shape.declared)

  free : IsFreeToTell (w.known t)
  free = record { runs = may.runs; calm = may.calm; ready = may.ready; room = may.room }

  abbrev plan : StepPlan
  plan = with_stage (w.known t).stage (make_plan e o c m)

  abbrev y : Logged
  y = record { stamp = last_stamp (w.known t).log + 1; entry = New o c }

  abbrev l : ThreadView
  l = known_hit w.shape w.start plan (w.words (Mark o)) (w.known t)

  abbrev x : World
  x = with_word_and_known (Mark o) m t l w

  step : IsStep w t l telling
  step = record { within = within; mine = refl; others = λ k. refl }

  abbrev z : World
  z = next w t l telling x.words

  taken : IsTaken P P t (New o c)
  taken = unbound_taken P t (New o c) refl refl refl

  tells : IsTelling w P P t y l
  tells = tells_so v within free refl refl taken may.own

  drawn : DrawsFit w.start (logs_from 0 w.shape.threads (with_known t l w.known)) (λ u. (with_known t l w.known u).log)
      (λ u. (with_known t l w.known u).draws) (hash_at P)
  drawn = draws_still w P P t y l v tells.logs (draws_counted (New o c) (w.known t).draws) taken.undrawn

  names : (i : ℕ) → monitor_in (marks w i) ≡ monitor_in (marks x i)
  names = names_same w o m t l (old.unnamed ∙ sym (first_unnamed w m first))

  lock_at : (i : ℕ) → lock z i ≡ lock w i
  lock_at i = each_set (λ j n. lock_form (read_mark n) (prototype_of w j) (owner_words w) (inflations w j) ≡ lock w j) o m (marks w) i
      (first_lock w m first (prototype_of w o) o ∙ sym (neutral_lock (marks w o) (prototype_of w o) (owner_words w) (inflations w o) was_neutral))
      (λ a. refl)

  header_else : (i : ℕ) → i ≢ o → header z i ≡ header w i
  header_else i a =
      let of_mark : ℕ → Option ℕ = λ n. header_form (read_mark n) n (displaced_words w) (headers w) (inflations w i) in
      ap (λ (b : Bool). of_mark (cond b m (marks w i))) (ne_eqb i o a)

  header_here : (h : ℕ) → header z o ≡ Some h → hash_in h ≡ hash_at P o
  header_here h g =
      let at : marks z o ≡ m = ap (λ (b : Bool). cond b m (marks w o)) (eq-eqb o o refl) in
      first_header w m first o h (sym (ap (λ n. header_form (read_mark n) n (displaced_words w) (headers w) (inflations w o)) at) ∙ g) ∙ sym hashless

  -- WHAT WAS SEEN. Nobody counts on the mark that was there: it names no monitor, has no bias pattern and isn't 0
  uncounted : (u s : ℕ) → Stays w (w.known u) (owner_at P) u (Mark o) s → w.words (Mark o) ≡ s → ⊥
  uncounted u s st is =
      let unbiased : IsValidBias (read_mark s) (prototype_of w o) → ⊥ =
      λ b. bare_unbiased (marks w o) (prototype_of w o) old (subst (λ n. IsValidBias (read_mark n) (prototype_of w o)) (sym is) b) in
      elim st [
        | inl a ↦ elim a.1 [
          | inl b ↦ unbiased b
          | inr b ↦ elim b [
            | inl c ↦ bare_unnamed (marks w o) c.0 old (ap monitor_in is ∙ c.1)
            | inr c ↦ elim c [
              | inl f ↦ neutral_some (marks w o) was_neutral (ap (marks w) (sym f.2) ∙ v.inflating.zero u f.0 f.1)
              | inr f ↦ let bare = old.unbiased in let bias = ap is_biased is ∙ f.0 in absurd (cc (bare, bias))
            ]
          ]
        ]
        | inr a ↦ unbiased a.2
      ]

  -- and no thread goes by what it saw there
  spares : Spares (Mark o) m t l w (owner_at P) (owner_at P) (waits_at P) (waits_at P)
  spares = record {
    before = λ u n s a f g.
        stays_back w x (w.known u) (w.known u) (owner_at P) (owner_at P) u
        (mark_back w o m t l (w.known u) (w.known u) (owner_at P) (owner_at P) u (λ i k h. names i ∙ h) refl refl refl (λ k. k) refl (λ i h. h)
        (λ i k h b. b)) n s g;
    owned = λ u i a h. h;
    word = λ u s a st is. absurd (uncounted u s st is);
    bias = λ u i s saw asks. each_set (λ j n. last_seen (Mark j) (w.known u).seen ≡ Some s → is_biased (marks w j) ≡ false → is_biased n ≡ false)
        o m (marks w) i (λ h b. absurd (fresh.unseen u s h asks)) (λ a h b. b) saw;
    there = λ i h. h;
    classed = λ i. each_set (λ j n. is_biased n ≡ true → has_class w.shape w.words j ≡ true) o m (marks w) i
        (λ b. is_classed) (λ a. v.seen.classed i);
    waits = λ u i j a f h. h;
    unwaited = λ u i a h g. g;
    unreached = none_reached w P t l v may.runs refl;
    names = λ i a f. sym (names i) ∙ f;
  }

  seen_law : SeenFit x P
  seen_law =
      seen_moves plan (w.words (Mark o)) t l w (owner_at P) (owner_at P) (waits_at P) (waits_at P) (seen_before w.shape (w.known t)) refl
      (counts_more (Mark o) m t l w (owner_at P) (owner_at P) (waits_at P) (waits_at P) (seen_before w.shape (w.known t)) (seen_is_part w.shape (w.known t))
      (mark_back w o m t l (w.known t) l (owner_at P) (owner_at P) t (λ i a n. names i ∙ n) refl refl refl (λ a. a) refl (λ i h. h) (λ i a n h. h))
      (λ a h. inl h) (λ a r h. absurd (cc h))
      (λ i h r own n. unwaited_fits w P v i (ap (λ j. monitor_in (marks w j)) (eqb-true i o h) ∙ old.unnamed))
      (λ i h g. g) spares (λ u i h g. g) v.seen)
      spares v.seen

  -- THE CLAUSES
  abbrev made_parts : Parts
  made_parts = record (still_parts step tells x.words) { inflated = inflated_to w; lock = lock w }

  parts : parts_of z P ≡ made_parts
  parts = still_are step tells refl x.words ∙ (λ j. record (still_parts step tells x.words) { inflated = λ i. sym (names i) j; lock = λ i. lock_at i j })

  biases_law : BiasedAreFree (marks x) (lock w) (λ u. (w.known u).holds) (hash_at P) (waits_at P) (notified_at P)
  biases_law = record {
    hashless = λ i. each_set (λ j n. is_biased n ≡ true → hash_at P j ≡ 0) o m (marks w) i (λ b. hashless) (λ a. v.biases.hashless i);
    nobody = λ i. each_set (λ j n. is_biased n ≡ true → (waits_at P j ≡ []) × (notified_at P j ≡ [])) o m (marks w) i
        (λ b. fresh.nobody) (λ a. v.biases.nobody i);
    unheld = λ i u. each_set (λ j n. is_biased n ≡ true → (lock w j ≡ BiasedTo u → ⊥) → hold_count j (w.known u).holds ≡ 0) o m (marks w) i
        (λ b g. fresh.unheld u) (λ a. v.biases.unheld i u);
  }

  hashes_law : HashesFit (marks x) (lock w) (header z) (λ u. (w.known u).holds) (displaced_words w) (hash_at P)
  hashes_law = record {
    stands = λ i h g. by_equal i o
        (λ s. header_here h (ap (header z) (sym s) ∙ g) ∙ ap (hash_at P) (sym s))
        (λ a. v.hashes.stands i h (sym (header_else i a) ∙ g));
    records = λ i u p f b n. v.hashes.records i u p f
        (each_set (λ j k. is_biased k ≡ false → is_biased (marks w j) ≡ false) o m (marks w) i (λ g. old.unbiased) (λ a g. g) b) n;
    on_record = v.hashes.on_record;
  }

  classes_law : ClassesFit w.biasing (λ a. w.words (Prototype a)) (λ a. w.words (Revocations a)) (λ a. w.words (LastBulk a)) (marks x)
      (bulk_rebiases w.shape.threads (λ u. (w.known u).counts)) (bulk_revokes w.shape.threads (λ u. (w.known u).counts))
  classes_law = record {
    plain = v.classes.plain;
    unbiased = λ off i. each_set (λ j n. is_biased n ≡ false) o m (marks w) i (first_plain w m first off) (λ a. v.classes.unbiased off i);
    few = v.classes.few;
    prototypes = v.classes.prototypes;
  }

  all_after : AllHold made_parts
  all_after seen = seen_next step x.words P seen_law
  all_after forms = forms_marked o m v.forms (first_form w m first)
  all_after biases = biases_law
  all_after inflating =
      inflating_by_marks (marks w) (marks x) _ _ (zero_back w o m t l (first_some w m first))
      (zero_forth w o m t l (neutral_some (marks w o) was_neutral)) v.inflating
  all_after recursions = recursions_by_marks (marks w) (marks x) names _ (lock w) (lock w) _ _ _ _ _ _ (λ i u g. g) (λ i a n. refl) v.recursions
  all_after hashes = hashes_law
  all_after classes = classes_law
  all_after other = told_step step tells v v.slots drawn other

  pub made_fits : Fits (world_after (make_plan e o c m) t w) P
  made_fits =
      subst (λ (stage : Stage). Fits (world_after (with_stage stage (make_plan e o c m)) t w) P) may.calm (step_fits step x.words P made_parts parts all_after)

-- THE LAW
pub makes_valid : (e : CallContext) (o c m : ℕ) (w : World) (P : List PlainObject) (t : ℕ) → t < w.shape.threads → MayMake (w.known t) o c
    → IsFresh w P o → w.words (Class o) ≡ c + 1 → IsFirstMark w m → Fits w P → Logs w P t (make_plan e o c m) (New o c)
makes_valid e o c m w P t within may fresh classed first v =
    record { now = P; taken = refl; valid = inl (made_fits w P t e o c m within may fresh classed first v) }
