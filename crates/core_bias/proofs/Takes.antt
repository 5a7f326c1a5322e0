-- At a safepoint an object that nobody holds loses the thread of its bias, or gets another one.
use Rattle.core_locks.proofs.Prelude.{◌≡◌, ◌≢◌, ◌⊎◌, ℕ, ◌<◌, ◌≤◌, ◌==◌, ◌++◌, eq-eqb, eqb-true, Bool, true, false, cond, if◌then◌else◌}
use Rattle.core_locks.proofs.Prelude.{List, [], ◌∷◌, Option, Some, None, refl, sym, ap, ◌∙◌, subst, arith, inl, inr, MarkForm, Anonymous}
use Rattle.core_locks.proofs.Prelude.{Biased, Locked, mark_of, read_mark, read_mark-mark_of, PlainObject, WordId, Mark, Prototype}
use Rattle.core_locks.proofs.Prelude.{Owner, class_by, with_word, is_biased, is_biased_form, monitor_form, epoch_in, World, Lock, Open}
use Rattle.core_locks.proofs.Prelude.{BiasedTo, has_epoch, lock, lock_form, header_form, holder, who, marks, displaced_words, headers}
use Rattle.core_locks.proofs.Prelude.{owner_words, prototype_of, inflations, hold_count, IsMark, by_equal}
use Rattle.core_world.specs.RevocationRules.{write, words_after, store_where, record_writes, first_place}
use Rattle.core_world.specs.RevocationRules.{revoke_biased, revoke_form, revoke, biased_word, take_bias}
use Rattle.core_world.proofs.Readings.{mark_five}
use Rattle.core_locks.proofs.Clauses as clause
use Rattle.core_bias.proofs.Unseen.{FitsUnseen, with_words, set_mark}
use Rattle.core_bias.proofs.GoodWrites.{epoch_few}
use Rattle.core_bias.proofs.MarkTurns.{AllCalm, MarkTurns, mark_turned, biased_some}
use Rattle.core_bias.proofs.Places.{holds_are}
use Rattle.core_bias.proofs.Revokes.{stored_append, held_fits, spelled}
use Rattle.core_bias.proofs.LockMoves.{biased_nobody}

-- A BIASED MARK OF ANOTHER THREAD, OR OF NONE, on an object that nobody holds
module _ (w : World) (o m : ℕ) (f : Lock) (biased : is_biased (marks w o) ≡ true)
    (free : (u : ℕ) → hold_count o (w.known u).holds ≡ 0) (form : IsMark w.shape (read_mark m)) (bias : is_biased m ≡ true)
    (means : lock_form (read_mark m) (prototype_of w o) (owner_words w) (inflations w o) ≡ f) (leans : (f ≡ Open) ⊎ ((t : ℕ) × (f ≡ BiasedTo t))) where
  unnamed_form : (a : Option MarkForm) → is_biased_form a ≡ true
      → (monitor_form a ≡ None) × (header_form a m (displaced_words w) (headers w) (inflations w o) ≡ None)
  unnamed_form (Some (Anonymous epoch age)) e = (refl, refl)
  unnamed_form (Some (Biased t epoch age)) e = (refl, refl)
  unnamed_form _ e = absurd (cc e)

  pub other_bias : MarkTurns w o m f
  other_bias = record {
    biased = biased;
    form = form;
    unnamed = (unnamed_form (read_mark m) bias).0;
    some = biased_some m bias;
    lock = means;
    who = who_is;
    not_thread_owned = λ u e. elim leans [ inl a ↦ absurd (cc (a, e)) | inr a ↦ (let b = a.1 in absurd (cc (b, e))) ];
    rests = λ u p e. elim leans [ inl a ↦ absurd (cc (a, e)) | inr a ↦ (let b = a.1 in absurd (cc (b, e))) ];
    header = λ h e. let none = (unnamed_form (read_mark m) bias).1 in absurd (cc (none, e));
    free = λ b u d. free u;
    plain = λ b. absurd (cc (b, bias));
  }
    where
      who_is : holder f (λ u. hold_count o (w.known u).holds) ≡ who w o
      who_is =
          elim leans [
            | inl a ↦ ap (λ z. holder z (λ u. hold_count o (w.known u).holds)) a
            | inr a ↦ let none = free a.0 in ap (λ z. holder z (λ u. hold_count o (w.known u).holds)) a.1 ∙ rw none refl
          ]
          ∙ sym (biased_nobody w o biased free)

module _ (w : World) (P : List PlainObject) (o : ℕ) (calm : AllCalm w) (v : FitsUnseen w P) where
  rebiased_fits : (m : ℕ) (f : Lock) → is_biased (marks w o) ≡ true
      → ((u : ℕ) → hold_count o (w.known u).holds ≡ 0) → IsMark w.shape (read_mark m) → is_biased m ≡ true
      → lock_form (read_mark m) (prototype_of w o) (owner_words w) (inflations w o) ≡ f
      → (f ≡ Open) ⊎ ((t : ℕ) × (f ≡ BiasedTo t)) → FitsUnseen (set_mark o m w) P
  rebiased_fits m f biased free form bias means leans = mark_turned w P o m f (other_bias w o m f biased free form bias means leans) v

  -- nobody holds an object whose bias leans to nobody
  open_free : is_biased (marks w o) ≡ true → lock w o ≡ Open → (u : ℕ) → hold_count o (w.known u).holds ≡ 0
  open_free biased open_now u = (v clause.biases).unheld o u biased (λ z. absurd (cc (open_now, z)))

  here : (m : ℕ) (f : WordId → ℕ) → with_word (Mark o) m f (Mark o) ≡ m
  here m f = ap (λ (b : Bool). cond b m (f (Mark o))) (eq-eqb o o refl)

  -- the world after a revocation, in which the object has no lock where it has the bias pattern
  abbrev After : (WordId → ℕ) → Type 0
  After g = FitsUnseen (with_words g w) P × (is_biased (g (Mark o)) ≡ true → lock (with_words g w) o ≡ Open)

  -- A REVOCATION WHERE A NEW BIAS IS ALLOWED
  pub revoke_allowed : After (words_after (revoke o true w.words) w.words)
  revoke_allowed = by_form (read_mark (marks w o)) refl
    where
      five_open : (f : WordId → ℕ) → lock (with_words (with_word (Mark o) 5 f) w) o ≡ Open
      five_open f = ap (λ m. lock_form (read_mark m) (f (Prototype (class_by w.shape f o))) (λ i. f (Owner i)) (inflations w o)) (here 5 f)
          ∙ ap (λ a. lock_form a (f (Prototype (class_by w.shape f o))) (λ i. f (Owner i)) (inflations w o)) mark_five

      leaner : (t u : ℕ) (b : Bool) → lock w o ≡ (if b then BiasedTo t else Open) → lock w o ≡ BiasedTo u → u ≡ t
      leaner t u true e z = let same : t ≡ u = cc (e, z) in sym same
      leaner t u false e z = absurd (cc (e, z))

      by_count : (t epoch age : ℕ) → read_mark (marks w o) ≡ Some (Biased t epoch age) → (b : Bool) → (hold_count o (w.known t).holds == 0) ≡ b
          → After (words_after (if b then write (Mark o) 5 ∷ [] else record_writes o t 0 (w.known t).holds
          ++ write (Mark o) (mark_of (Locked t (first_place o (w.known t).holds))) ∷ []) w.words)
      by_count t epoch age reads true e =
          let biased = ap is_biased_form reads in
          let lock_is : lock w o ≡ (if has_epoch (epoch_in (prototype_of w o)) epoch then BiasedTo t else Open) =
          ap (λ f. lock_form f (prototype_of w o) (owner_words w) (inflations w o)) reads in
          let free : (u : ℕ) → hold_count o (w.known u).holds ≡ 0 =
          λ u. by_equal u t (λ s. ap (λ z. hold_count o (w.known z).holds) s ∙ eqb-true (hold_count o (w.known t).holds) 0 e)
          (λ d. (v clause.biases).unheld o u biased (λ z. d (leaner t u _ lock_is z))) in (
            rebiased_fits 5 Open biased free (rw mark_five refl) (ap is_biased_form mark_five)
                (ap (λ a. lock_form a (prototype_of w o) (owner_words w) (inflations w o)) mark_five) (inl refl),
            λ b. five_open w.words,
          )
      by_count t epoch age reads false e =
          let held : 1 ≤ hold_count o (w.known t).holds = (let some : hold_count o (w.known t).holds ≢ 0 =
          λ z. absurd (cc (eq-eqb (hold_count o (w.known t).holds) 0 z, e)) in omega (arith, some)) in
          let mark = mark_of (Locked t (first_place o (w.known t).holds)) in (
            held_fits w P o calm v t epoch age reads held,
            λ b.
                let plain = ap (λ (g : WordId → ℕ). is_biased (g (Mark o)))
                (stored_append (record_writes o t 0 (w.known t).holds) (write (Mark o) mark ∷ []) w.words)
                ∙ ap is_biased (here mark (words_after (record_writes o t 0 (w.known t).holds) w.words))
                ∙ ap is_biased_form (spelled w P o calm v t epoch age reads held) in
                absurd (cc (plain, b)),
          )

      by_form : (a : Option MarkForm) → read_mark (marks w o) ≡ a → After (words_after (revoke_form a o true w.words) w.words)
      by_form (Some (Anonymous epoch age)) e = (v, λ b. ap (λ f. lock_form f (prototype_of w o) (owner_words w) (inflations w o)) e)
      by_form (Some (Biased t epoch age)) e =
          subst (λ hs. After (words_after (revoke_biased o t true hs) w.words))
          (sym (holds_are w.words t (w.known t).holds ((v clause.holds).places t) ((v clause.holds).stored t)))
          (by_count t epoch age e (hold_count o (w.known t).holds == 0) refl)
      by_form _ e = (v, λ b. let no = ap is_biased_form e in absurd (cc (no, b)))

  -- THE REQUESTER TAKES THE BIAS, where the object has no lock
  pub take_fits : (t : ℕ) → t < w.shape.threads → (is_biased (marks w o) ≡ true → lock w o ≡ Open)
      → FitsUnseen (with_words (words_after (take_bias (class_by w.shape w.words o) o t w.words) w.words) w) P
  take_fits t within opens = cases (is_biased (marks w o)) refl (epoch_in (prototype_of w o)) refl
    where
      cases : (a : Bool) → is_biased (marks w o) ≡ a → (b : Option ℕ) → epoch_in (prototype_of w o) ≡ b
          → FitsUnseen (with_words (words_after (store_where (Mark o) (biased_word a b t)) w.words) w) P
      cases true e (Some epoch) q =
          let reads = read_mark-mark_of (Biased t epoch 0)
          (omega (arith, within, (v clause.limits).threads), epoch_few (prototype_of w o) epoch q, omega arith) in
          let valid : has_epoch (epoch_in (prototype_of w o)) epoch ≡ true = ap (λ z. has_epoch z epoch) q ∙ eq-eqb epoch epoch refl in
          rebiased_fits (mark_of (Biased t epoch 0)) (BiasedTo t) e (open_free e (opens e))
          (subst (IsMark w.shape) (sym reads) (within, refl)) (ap is_biased_form reads)
          (ap (λ f. lock_form f (prototype_of w o) (owner_words w) (inflations w o)) reads
          ∙ ap (λ (b : Bool). if b then BiasedTo t else Open) valid) (inr (t, refl))
      cases true e None q = v
      cases false e b q = v
