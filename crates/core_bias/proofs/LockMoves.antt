-- Marks with the bias pattern and words of classes change at a safepoint, and each clause but those of what was seen and of classes holds
-- again, where an object keeps its lock or is held by nobody.
use Rattle.core_locks.proofs.Prelude.{◌≡◌, ◌⊎◌, ℕ, true, List, Option, Some, None, refl, sym, ap, ◌∙◌, subst, inl, inr, MarkForm, Anonymous, Biased}
use Rattle.core_locks.proofs.Prelude.{read_mark, PlainObject, is_biased, is_biased_form, monitor_in, World, Lock, Open, BiasedTo, OnRecord, OwnedBy}
use Rattle.core_locks.proofs.Prelude.{lock, holder, who, header, header_form, marks, displaced_words, headers, inflations, hold_count, hash_at}
use Rattle.core_locks.proofs.Prelude.{waits_at, notified_at, IsMark, LocksArePlain, BiasedAreFree, RecordsRest, HashesFit, frame3}
use Rattle.core_locks.proofs.MarkChanges.{monitors_by_marks, claims_by_marks, waits_by_marks, recursions_by_marks, inflating_by_marks}
use Rattle.core_locks.proofs.Clauses as clause
use Rattle.core_bias.proofs.Unseen.{Unclassed, with_words, rewords}
use Rattle.core_bias.proofs.MarkTurns.{AllCalm, biased_unnamed, biased_some, biased_lock}

-- such an object has no header
pub biased_header : (w : World) (o : ℕ) → is_biased (marks w o) ≡ true → header w o ≡ None
biased_header w o e = by_form (read_mark (marks w o)) e
  where
    by_form : (f : Option MarkForm) → is_biased_form f ≡ true → header_form f (marks w o) (displaced_words w) (headers w) (inflations w o) ≡ None
    by_form (Some (Anonymous epoch age)) e = refl
    by_form (Some (Biased thread epoch age)) e = refl
    by_form _ e = absurd (cc e)

-- and nobody has its lock, where nobody holds it
pub biased_nobody : (w : World) (o : ℕ) → is_biased (marks w o) ≡ true → ((u : ℕ) → hold_count o (w.known u).holds ≡ 0) → who w o ≡ None
biased_nobody w o e free = elim (biased_lock w o e) [
  | inl a ↦ ap (λ z. holder z (λ u. hold_count o (w.known u).holds)) a
  | inr a ↦ let none = free a.0 in ap (λ z. holder z (λ u. hold_count o (w.known u).holds)) a.1 ∙ rw none refl
]

-- Of this object the mark stays with its lock; or it has the bias pattern before and after, and keeps its lock, or nobody holds it.
abbrev pub Moves : World → World → ℕ → Type 0
Moves w x o =
    ((marks x o ≡ marks w o) × (lock x o ≡ lock w o))
    ⊎ ((is_biased (marks w o) ≡ true) × (is_biased (marks x o) ≡ true) × IsMark w.shape (read_mark (marks x o))
    × ((lock x o ≡ lock w o) ⊎ ((u : ℕ) → hold_count o (w.known u).holds ≡ 0)))

module _ (w : World) (P : List PlainObject) (mark prototype count last : ℕ → ℕ) (calm : AllCalm w)
    (moves : (o : ℕ) → Moves w (with_words (rewords mark prototype count last w.words) w) o) (v : Unclassed w P) where
  abbrev x : World
  x = with_words (rewords mark prototype count last w.words) w

  names : (i : ℕ) → monitor_in (marks w i) ≡ monitor_in (marks x i)
  names i = elim (moves i) [
    | inl a ↦ ap monitor_in (sym a.0)
    | inr a ↦ biased_unnamed (marks w i) a.0 ∙ sym (biased_unnamed (marks x i) a.1)
  ]

  who_same : (i : ℕ) → who w i ≡ who x i
  who_same i = elim (moves i) [
    | inl a ↦ sym (ap (λ z. holder z (λ u. hold_count i (w.known u).holds)) a.1)
    | inr a ↦ elim a.3 [
      | inl b ↦ sym (ap (λ z. holder z (λ u. hold_count i (w.known u).holds)) b)
      | inr b ↦ biased_nobody w i a.0 b ∙ sym (biased_nobody x i a.1 b)
    ]
  ]

  who_is : who w ≡ who x
  who_is = λ j. λ i. who_same i j

  bias_back : (i : ℕ) → is_biased (marks x i) ≡ true → is_biased (marks w i) ≡ true
  bias_back i h = elim (moves i) [ inl a ↦ ap is_biased (sym a.0) ∙ h | inr a ↦ a.0 ]

  -- the lock of an object that has or had the bias pattern neither rests on a record nor is owned by the monitor
  neither : (y : World) (i : ℕ) (f : Lock) → is_biased (marks y i) ≡ true → lock y i ≡ f → (Open ≡ f → ⊥) → ((t : ℕ) → BiasedTo t ≡ f → ⊥) → ⊥
  neither y i f b e no_open no_leaning = elim (biased_lock y i b) [ inl a ↦ no_open (sym a ∙ e) | inr a ↦ no_leaning a.0 (sym a.1 ∙ e) ]

  back : (i : ℕ) (f : Lock) → lock x i ≡ f → (Open ≡ f → ⊥) → ((t : ℕ) → BiasedTo t ≡ f → ⊥) → lock w i ≡ f
  back i f e no_open no_leaning = elim (moves i) [ inl a ↦ sym a.1 ∙ e | inr a ↦ absurd (neither x i f a.1 e no_open no_leaning) ]

  inflated : (i a : ℕ) → monitor_in (marks w i) ≡ Some a → lock x i ≡ lock w i
  inflated i a e = elim (moves i) [ inl b ↦ b.1 | inr b ↦ (let none = biased_unnamed (marks w i) b.0 in absurd (cc (none, e))) ]

  rest_law : RecordsRest (lock x) (λ u. (w.known u).holds) (λ u. (w.known u).stage) (displaced_words w)
  rest_law = record {
    first = λ i u p e. (v clause.records).first i u p (back i (OnRecord u p) e (λ c. cc c) (λ t c. cc c));
    header = λ i u p e. (v clause.records).header i u p (back i (OnRecord u p) e (λ c. cc c) (λ t c. cc c));
    others = λ i u p q d e. (v clause.records).others i u p q d (back i (OnRecord u p) e (λ c. cc c) (λ t c. cc c));
    seized = λ i u p s. let c = calm u in absurd (cc (c, s));
    grabbed = λ i u s. let c = calm u in absurd (cc (c, s));
  }

  header_same : (i h : ℕ) → header x i ≡ Some h → header w i ≡ Some h
  header_same i h e = elim (moves i) [
    | inl a ↦ ap (λ m. header_form (read_mark m) m (displaced_words w) (headers w) (inflations w i)) (sym a.0) ∙ e
    | inr a ↦ let none = biased_header x i a.1 in absurd (cc (none, e))
  ]

  hashes_law : HashesFit (marks x) (lock x) (header x) (λ u. (w.known u).holds) (displaced_words w) (hash_at P)
  hashes_law = record {
    stands = λ i h e. (v clause.hashes).stands i h (header_same i h e);
    records = λ i u p e b n. (v clause.hashes).records i u p e
        (elim (moves i) [ inl a ↦ ap is_biased (sym a.0) ∙ b | inr a ↦ (let yes = a.1 in absurd (cc (yes, b))) ]) n;
    on_record = λ i u p e. (v clause.hashes).on_record i u p (back i (OnRecord u p) e (λ c. cc c) (λ t c. cc c));
  }

  biases_law : BiasedAreFree (marks x) (lock x) (λ u. (w.known u).holds) (hash_at P) (waits_at P) (notified_at P)
  biases_law = record {
    hashless = λ i h. (v clause.biases).hashless i (bias_back i h);
    nobody = λ i h. (v clause.biases).nobody i (bias_back i h);
    unheld = λ i u h d. elim (moves i) [
      | inl a ↦ (v clause.biases).unheld i u (bias_back i h) (λ e. d (a.1 ∙ e))
      | inr a ↦ elim a.3 [ inl b ↦ (v clause.biases).unheld i u a.0 (λ e. d (b ∙ e)) | inr b ↦ b u ]
    ];
  }

  pub locks_moved : Unclassed x P
  locks_moved clause.forms = record {
    marks = λ i. elim (moves i) [ inl a ↦ subst (λ m. IsMark w.shape (read_mark m)) (sym a.0) ((v clause.forms).marks i) | inr a ↦ a.2 ];
    owners = (v clause.forms).owners;
    waits = (v clause.forms).waits;
    objects = (v clause.forms).objects;
    holds = (v clause.forms).holds;
    safepoint = (v clause.forms).safepoint;
    classes = (v clause.forms).classes;
  }
  locks_moved clause.owners = frame3 LocksArePlain who_is refl refl (v clause.owners)
  locks_moved clause.biases = biases_law
  locks_moved clause.records = rest_law
  locks_moved clause.inflating = inflating_by_marks (marks w) (marks x) _ _
      (λ i h. elim (moves i) [ inl a ↦ sym a.0 ∙ h | inr a ↦ absurd (biased_some (marks x i) a.1 h) ])
      (λ i h. elim (moves i) [ inl a ↦ a.0 ∙ h | inr a ↦ absurd (biased_some (marks w i) a.0 h) ]) (v clause.inflating)
  locks_moved clause.monitors = monitors_by_marks (marks w) (marks x) names _ _ (v clause.monitors)
  locks_moved clause.recursions = recursions_by_marks (marks w) (marks x) names _ (lock w) (lock x) _ _ _ _ _ _
      (λ i u e. back i (OwnedBy u) e (λ c. cc c) (λ t c. cc c)) inflated (v clause.recursions)
  locks_moved clause.hashes = hashes_law
  locks_moved clause.waits = waits_by_marks (marks w) (marks x) names _ _ _ _ _ _ _ _ (v clause.waits)
  locks_moved clause.claims = claims_by_marks (marks w) (marks x) names _ _ _ _ _ _ _ _ _ (v clause.claims)
  locks_moved i = v i
