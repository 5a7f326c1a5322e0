-- The mark of an object that had the bias pattern changes at a safepoint, and each clause but that of what was seen holds again.
use Rattle.core_locks.proofs.Prelude.{◌≡◌, ◌≢◌, ◌⊎◌, ℕ, ◌≤◌, eq-eqb, ne_eqb, Bool, true, false, cond, if◌then◌else◌, List, slice_index, Option, Some}
use Rattle.core_locks.proofs.Prelude.{None, refl, sym, ap, ◌∙◌, inl, inr, MarkForm, Anonymous, Biased, read_mark, PlainObject, Settled, is_neutral}
use Rattle.core_locks.proofs.Prelude.{is_biased, is_biased_form, monitor_in, monitor_form, hash_in, hold_word, epoch_in, World, Lock, has_epoch, Open}
use Rattle.core_locks.proofs.Prelude.{BiasedTo, OnRecord, OwnedBy, lock, lock_form, holder, who, header, header_form, marks, displaced_words, headers}
use Rattle.core_locks.proofs.Prelude.{owner_words, prototype_of, inflations, hold_count, hash_at, waits_at, notified_at, IsMark, LocksArePlain}
use Rattle.core_locks.proofs.Prelude.{BiasedAreFree, RecordsRest, HashesFit, ClassesFit, FormsFit, frame3, by_equal, mark_zero}
use Rattle.core_world.proofs.Readings.{mark_one}
use Rattle.core_locks.proofs.MarkMeanings.{forms_marked, each_set}
use Rattle.core_locks.proofs.MarkChanges.{monitors_by_marks, claims_by_marks, waits_by_marks, recursions_by_marks, inflating_by_marks}
use Rattle.core_locks.proofs.Clauses as clause
use Rattle.core_bias.proofs.Unseen.{FitsUnseen, set_mark}

-- at a safepoint every thread stands in the middle of nothing
abbrev pub AllCalm : World → Type 0
AllCalm w = (u : ℕ) → (w.known u).stage ≡ Settled

biased_form : (f : Option MarkForm) → is_biased_form f ≡ true → monitor_form f ≡ None
biased_form (Some (Anonymous epoch age)) e = refl
biased_form (Some (Biased thread epoch age)) e = refl
biased_form _ e = absurd (cc e)

-- a mark with the bias pattern names no monitor and isn't 0
pub biased_unnamed : (n : ℕ) → is_biased n ≡ true → monitor_in n ≡ None
biased_unnamed n e = biased_form (read_mark n) e

pub biased_some : (n : ℕ) → is_biased n ≡ true → n ≢ 0
biased_some n e z = let f = ap is_biased_form (ap read_mark z ∙ mark_zero) in absurd (cc (e, f))

-- the lock of an object whose mark has the bias pattern
pub biased_lock : (w : World) (o : ℕ) → is_biased (marks w o) ≡ true → (lock w o ≡ Open) ⊎ ((t : ℕ) × (lock w o ≡ BiasedTo t))
biased_lock w o e = by_form (read_mark (marks w o)) e
  where
    leaning : (b : Bool) (t : ℕ) → ((if b then BiasedTo t else Open) ≡ Open) ⊎ ((u : ℕ) × ((if b then BiasedTo t else Open) ≡ BiasedTo u))
    leaning true t = inr (t, refl)
    leaning false t = inl refl

    by_form : (f : Option MarkForm) → is_biased_form f ≡ true
        → (lock_form f (prototype_of w o) (owner_words w) (inflations w o) ≡ Open)
        ⊎ ((t : ℕ) × (lock_form f (prototype_of w o) (owner_words w) (inflations w o) ≡ BiasedTo t))
    by_form (Some (Anonymous epoch age)) e = inl refl
    by_form (Some (Biased thread epoch age)) e = leaning (has_epoch (epoch_in (prototype_of w o)) epoch) thread
    by_form _ e = absurd (cc e)

-- The mark of o had the bias pattern and is m now, which means the lock f: the same thread has it as before.
pub record MarkTurns (w : World) (o m : ℕ) (f : Lock) : Type 0 where
  pub biased : is_biased (marks w o) ≡ true
  pub form : IsMark w.shape (read_mark m)
  pub unnamed : monitor_in m ≡ None
  pub some : m ≢ 0
  pub lock : lock_form (read_mark m) (prototype_of w o) (owner_words w) (inflations w o) ≡ f
  pub who : holder f (λ u. hold_count o (w.known u).holds) ≡ who w o
  pub not_thread_owned : (u : ℕ) → f ≡ OwnedBy u → ⊥
  -- a record on which it rests now has the header, and its thread's others of o have 0
  pub rests : (u p : ℕ) → f ≡ OnRecord u p
      → (slice_index (w.known u).holds p ≡ hold_word o 1) × (displaced_words w u p ≡ 1)
      × ((q d : ℕ) → slice_index (w.known u).holds q ≡ hold_word o d → d ≤ 64 → q ≢ p → displaced_words w u q ≡ 0)
  -- the header has no hash
  pub header : (h : ℕ) → header_form (read_mark m) m (displaced_words w) (headers w) (inflations w o) ≡ Some h → hash_in h ≡ 0
  -- where it keeps the bias pattern, nobody has a hold word but the thread that it leans to
  pub free : is_biased m ≡ true → (u : ℕ) → (f ≡ BiasedTo u → ⊥) → hold_count o (w.known u).holds ≡ 0
  -- where it loses it, no record of o has a hash
  pub plain : is_biased m ≡ false → (u p : ℕ) → slice_index (w.known u).holds p ≡ hold_word o 1
      → is_neutral (displaced_words w u p) ≡ true → hash_in (displaced_words w u p) ≡ 0

module _ (w : World) (P : List PlainObject) (o m : ℕ) (f : Lock) (g : MarkTurns w o m f) (v : FitsUnseen w P) where
  abbrev x : World
  x = set_mark o m w

  names : (i : ℕ) → monitor_in (marks w i) ≡ monitor_in (marks x i)
  names i = each_set (λ j y. monitor_in (marks w j) ≡ monitor_in y) o m (marks w) i (biased_unnamed (marks w o) g.biased ∙ sym g.unnamed) (λ d. refl)

  mark_here : marks x o ≡ m
  mark_here = ap (λ (b : Bool). cond b m (marks w o)) (eq-eqb o o refl)

  mark_else : (i : ℕ) → i ≢ o → marks x i ≡ marks w i
  mark_else i d = ap (λ (b : Bool). cond b m (marks w i)) (ne_eqb i o d)

  lock_now : (i : ℕ) → ((i ≡ o) × (lock x i ≡ f)) ⊎ ((i ≢ o) × (lock x i ≡ lock w i))
  lock_now i = by_equal i o
      (λ e. inl (e, ap (lock x) e ∙ ap (λ y. lock_form (read_mark y) (prototype_of w o) (owner_words w) (inflations w o)) mark_here ∙ g.lock))
      (λ d. inr (d, ap (λ y. lock_form (read_mark y) (prototype_of w i) (owner_words w) (inflations w i)) (mark_else i d)))

  header_now : (i : ℕ) → ((i ≡ o) × (header x i ≡ header_form (read_mark m) m (displaced_words w) (headers w) (inflations w o)))
      ⊎ ((i ≢ o) × (header x i ≡ header w i))
  header_now i = by_equal i o
      (λ e. inl (e, ap (header x) e ∙ ap (λ y. header_form (read_mark y) y (displaced_words w) (headers w) (inflations w o)) mark_here))
      (λ d. inr (d, ap (λ y. header_form (read_mark y) y (displaced_words w) (headers w) (inflations w i)) (mark_else i d)))

  lock_here : lock x o ≡ f
  lock_here = elim (lock_now o) [ inl a ↦ a.1 | inr a ↦ absurd (a.0 refl) ]

  who_here : who x o ≡ who w o
  who_here = ap (λ z. holder z (λ u. hold_count o (w.known u).holds)) lock_here ∙ g.who

  who_same : (i : ℕ) → who w i ≡ who x i
  who_same i = elim (lock_now i) [
    | inl a ↦ ap (who w) a.0 ∙ sym who_here ∙ ap (who x) (sym a.0)
    | inr a ↦ sym (ap (λ z. holder z (λ u. hold_count i (w.known u).holds)) a.1)
  ]

  who_is : who w ≡ who x
  who_is = λ j. λ i. who_same i j

  -- a lock that isn't the new one is one of another object
  back : (i : ℕ) (h : Lock) → lock x i ≡ h → (f ≡ h → ⊥) → (i ≢ o) × (lock w i ≡ h)
  back i h e d = elim (lock_now i) [ inl a ↦ absurd (d (sym a.1 ∙ e)) | inr a ↦ (a.0, sym a.1 ∙ e) ]

  -- an object that names a monitor is another one
  named_else : (i a : ℕ) → monitor_in (marks w i) ≡ Some a → i ≢ o
  named_else i a e s = let none = biased_unnamed (marks w o) g.biased in let some = ap (λ j. monitor_in (marks w j)) (sym s) ∙ e in absurd (cc (none, some))

  lock_inflated : (i a : ℕ) → monitor_in (marks w i) ≡ Some a → lock x i ≡ lock w i
  lock_inflated i a e = elim (lock_now i) [ inl b ↦ absurd (named_else i a e b.0) | inr b ↦ b.1 ]

  forms_law : FormsFit x
  forms_law = forms_marked o m (v clause.forms) g.form

  -- a mark that has the bias pattern had it
  bias_back : (i : ℕ) → is_biased (marks x i) ≡ true → is_biased (marks w i) ≡ true
  bias_back i = each_set (λ j y. is_biased y ≡ true → is_biased (marks w j) ≡ true) o m (marks w) i (λ h. g.biased) (λ d h. h)

  biases_law : BiasedAreFree (marks x) (lock x) (λ u. (w.known u).holds) (hash_at P) (waits_at P) (notified_at P)
  biases_law = record {
    hashless = λ i h. (v clause.biases).hashless i (bias_back i h);
    nobody = λ i h. (v clause.biases).nobody i (bias_back i h);
    unheld = λ i u h d. elim (lock_now i) [
      | inl a ↦
          let bias : is_biased m ≡ true = sym (ap is_biased (ap (marks x) a.0 ∙ mark_here)) ∙ h in
          ap (λ j. hold_count j (w.known u).holds) a.0 ∙ g.free bias u (λ e. d (a.1 ∙ e))
      | inr a ↦ (v clause.biases).unheld i u (bias_back i h) (λ e. d (a.1 ∙ e))
    ];
  }

  -- a lock that rests on a record or is owned by the monitor is not that of an object with the bias pattern
  unleaning : (i : ℕ) (h : Lock) → lock w i ≡ h → (Open ≡ h → ⊥) → ((t : ℕ) → BiasedTo t ≡ h → ⊥) → i ≢ o
  unleaning i h e no_open no_leaning s = elim (biased_lock w o g.biased) [
    | inl a ↦ no_open (sym a ∙ ap (lock w) (sym s) ∙ e)
    | inr a ↦ no_leaning a.0 (sym a.1 ∙ ap (lock w) (sym s) ∙ e)
  ]

  lock_else : (i : ℕ) → i ≢ o → lock x i ≡ lock w i
  lock_else i d = elim (lock_now i) [ inl a ↦ absurd (d a.0) | inr a ↦ a.1 ]

  rest_law : RecordsRest (lock x) (λ u. (w.known u).holds) (λ u. (w.known u).stage) (displaced_words w)
  rest_law = record {
    first = λ i u p e. elim (lock_now i) [
      | inl a ↦ inl ((g.rests u p (sym a.1 ∙ e)).0 ∙ ap (λ j. hold_word j 1) (sym a.0))
      | inr a ↦ (v clause.records).first i u p (sym a.1 ∙ e)
    ];
    header = λ i u p e. elim (lock_now i) [
      | inl a ↦ ap is_neutral (g.rests u p (sym a.1 ∙ e)).1 ∙ one_neutral
      | inr a ↦ (v clause.records).header i u p (sym a.1 ∙ e)
    ];
    others = λ i u p q d e h small other. elim (lock_now i) [
      | inl a ↦ (g.rests u p (sym a.1 ∙ e)).2 q d (h ∙ ap (λ j. hold_word j d) a.0) small other
      | inr a ↦ (v clause.records).others i u p q d (sym a.1 ∙ e) h small other
    ];
    seized = λ i u p s. let b = (v clause.records).seized i u p s in
        (lock_else i (unleaning i (OnRecord u p) b.0 (λ c. cc c) (λ t c. cc c)) ∙ b.0, b.1, b.2, b.3);
    grabbed = λ i u s. let b = (v clause.records).grabbed i u s in (lock_else i (unleaning i (OwnedBy u) b.0 (λ c. cc c) (λ t c. cc c)) ∙ b.0, b.1);
  }
    where
      one_neutral : is_neutral 1 ≡ true
      one_neutral = rw mark_one refl

  hashes_law : HashesFit (marks x) (lock x) (header x) (λ u. (w.known u).holds) (displaced_words w) (hash_at P)
  hashes_law = record {
    stands = λ i h e. elim (header_now i) [
      | inl a ↦ g.header h (sym a.1 ∙ e) ∙ sym (ap (hash_at P) a.0 ∙ (v clause.biases).hashless o g.biased)
      | inr a ↦ (v clause.hashes).stands i h (sym a.1 ∙ e)
    ];
    records = λ i u p e b n. by_equal i o
        (λ s. inl (g.plain (sym (ap is_biased (ap (marks x) s ∙ mark_here)) ∙ b) u p (e ∙ ap (λ j. hold_word j 1) s) n))
        (λ d. (v clause.hashes).records i u p e (ap is_biased (sym (mark_else i d)) ∙ b) n);
    on_record = λ i u p e. elim (lock_now i) [
      | inl a ↦ inl (ap hash_in (g.rests u p (sym a.1 ∙ e)).1 ∙ one_hash)
      | inr a ↦ (v clause.hashes).on_record i u p (sym a.1 ∙ e)
    ];
  }
    where
      one_hash : hash_in 1 ≡ 0
      one_hash = rw mark_one refl

  classes_law : (prototype count last rebiased revoked : ℕ → ℕ) → ClassesFit w.biasing prototype count last (marks w) rebiased revoked
      → ClassesFit w.biasing prototype count last (marks x) rebiased revoked
  classes_law prototype count last rebiased revoked h = record {
    plain = h.plain;
    unbiased = λ b i. let no = h.unbiased b o in let yes = g.biased in absurd (cc (no, yes));
    few = h.few;
    prototypes = h.prototypes;
  }

  pub mark_turned : FitsUnseen x P
  mark_turned clause.forms = forms_law
  mark_turned clause.owners = frame3 LocksArePlain who_is refl refl (v clause.owners)
  mark_turned clause.biases = biases_law
  mark_turned clause.records = rest_law
  mark_turned clause.inflating = inflating_by_marks (marks w) (marks x) _ _
      (λ i. each_set (λ j y. y ≡ 0 → marks w j ≡ 0) o m (marks w) i (λ h. absurd (g.some h)) (λ d h. h))
      (λ i. each_set (λ j y. marks w j ≡ 0 → y ≡ 0) o m (marks w) i (λ h. absurd (biased_some (marks w o) g.biased h)) (λ d h. h)) (v clause.inflating)
  mark_turned clause.monitors = monitors_by_marks (marks w) (marks x) names _ _ (v clause.monitors)
  mark_turned clause.recursions = recursions_by_marks (marks w) (marks x) names _ (lock w) (lock x) _ _ _ _ _ _
      (λ i u e. (back i (OwnedBy u) e (g.not_thread_owned u)).1) lock_inflated (v clause.recursions)
  mark_turned clause.hashes = hashes_law
  mark_turned clause.waits = waits_by_marks (marks w) (marks x) names _ _ _ _ _ _ _ _ (v clause.waits)
  mark_turned clause.claims = claims_by_marks (marks w) (marks x) names _ _ _ _ _ _ _ _ _ (v clause.claims)
  mark_turned clause.classes = classes_law _ _ _ _ _ (v clause.classes)
  mark_turned i = v i
