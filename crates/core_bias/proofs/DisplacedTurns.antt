-- A displaced word of a record of an object that is validly biased changes at a safepoint, and each clause but that of what was seen holds again.
use Rattle.core_locks.proofs.Prelude.{◌≡◌, ◌≢◌, ◌⊎◌, ℕ, zero, suc, ◌+◌, ◌≤◌, ◌==◌, ◌&&◌, eq-eqb, ne_eqb, eqb-true, Bool, true, false}
use Rattle.core_locks.proofs.Prelude.{cond, List, slice_index, Option, Some, None, refl, sym, ap, ◌∙◌, subst, arith, inl, inr, zero-add}
use Rattle.core_locks.proofs.Prelude.{MarkForm, Inflating, Locked, HoldForm, Empty, Holds, read_mark, read_hold, hold_of, read_hold-spells}
use Rattle.core_locks.proofs.Prelude.{is_listed, PlainObject, Recursions, Shape, is_biased, is_neutral, hash_in, hold_word, names}
use Rattle.core_locks.proofs.Prelude.{names_form, is_deeper, deeper_form, inflation_in, recursions_ahead, World, BiasedTo, OnRecord}
use Rattle.core_locks.proofs.Prelude.{OwnedBy, lock, lock_form, header, header_form, marks, displaced_words, headers, owner_words}
use Rattle.core_locks.proofs.Prelude.{prototype_of, inflations, inflation_of, recursion_count, hash_at, waits_at, notified_at, RecordsRest}
use Rattle.core_locks.proofs.Prelude.{RecursionsFit, GoesByMonitor, HashesFit, IsHold, hold_some, frame6, by_equal}
use Rattle.core_locks.proofs.enter_exit.MarkHolds.{number_same}
use Rattle.core_locks.proofs.Clauses as clause
use Rattle.core_bias.proofs.Unseen.{FitsUnseen, set_displaced}
use Rattle.core_bias.proofs.MarkTurns.{AllCalm}

-- a hold word names one object
pub names_once : (o i h : ℕ) → names o h ≡ true → names i h ≡ true → i ≡ o
names_once o i h a b = by_form (read_hold h) a b
  where
    by_form : (f : Option HoldForm) → names_form f o ≡ true → names_form f i ≡ true → i ≡ o
    by_form (Some (Holds object depth)) a b = sym (eqb-true object i b) ∙ eqb-true object o a
    by_form _ a b = absurd (cc a)

pub deeper_names : (o h : ℕ) → is_deeper o h ≡ true → names o h ≡ true
deeper_names o h e = by_form (read_hold h) e
  where
    both : (a b : Bool) → (a && b) ≡ true → a ≡ true
    both true b e = refl
    both false b e = absurd (cc e)

    by_form : (f : Option HoldForm) → deeper_form f o ≡ true → names_form f o ≡ true
    by_form (Some (Holds object depth)) e = both (object == o) _ e
    by_form _ e = absurd (cc e)

-- a word that spells a form and is a hold word of o names o
spelled_names : (s : Shape) (n o d : ℕ) → IsHold s (read_hold n) → d ≤ 64 → n ≡ hold_word o d → names o n ≡ true
spelled_names s n o d h small e = by_form (read_hold n) refl h
  where
    by_form : (f : Option HoldForm) → read_hold n ≡ f → IsHold s f → names o n ≡ true
    by_form None r k = absurd k
    by_form (Some Empty) r k = let z = (read_hold-spells n Empty r).1 in absurd (hold_some o d (sym e ∙ z))
    by_form (Some (Holds i c)) r k =
        let a = read_hold-spells n (Holds i c) r in
        let low = a.0.1 in
        let high = a.0.2 in
        let q : hold_of (Holds i c) ≡ hold_of (Holds o d) = sym a.1 ∙ e in
        let same : i ≡ o = omega (arith, low, high, small, q) in
        ap (λ f. names_form f o) r ∙ eq-eqb i o same

-- where a thread's hold word of o stands, it names o
pub stored_names : (w : World) (P : List PlainObject) → FitsUnseen w P → (t q o d : ℕ) → d ≤ 64
    → slice_index (w.known t).holds q ≡ hold_word o d → names o (slice_index (w.known t).holds q) ≡ true
stored_names w P v t q o d small e =
    let form : IsHold w.shape (read_hold (slice_index (w.known t).holds q)) =
    subst (λ n. IsHold w.shape (read_hold n)) ((v clause.holds).stored t q) ((v clause.forms).holds t q) in
    spelled_names w.shape (slice_index (w.known t).holds q) o d form small e

-- nothing is being inflated
pub no_inflation : (w : World) → AllCalm w → (o : ℕ) → inflations w o ≡ None
no_inflation w calm o = none w.shape.threads
  where
    none : (n : ℕ) → inflation_of o n (λ t. inflation_in (w.known t).stage) ≡ None
    none zero = refl
    none (suc n) = let here = ap inflation_in (calm n) in rw here (none n)

module _ (w : World) (P : List PlainObject) (o t q d : ℕ) (calm : AllCalm w) (biased : is_biased (marks w o) ≡ true)
    (leans : lock w o ≡ BiasedTo t) (held : names o (slice_index (w.known t).holds q) ≡ true) (v : FitsUnseen w P) where
  abbrev x : World
  x = set_displaced t q d w

  -- a displaced word of another object's record stays
  stays : (u p i : ℕ) → i ≢ o → names i (slice_index (w.known u).holds p) ≡ true → displaced_words x u p ≡ displaced_words w u p
  stays u p i other h =
      by_equal u t
      (λ a. by_equal p q
      (λ b. absurd (other (names_once o i (slice_index (w.known t).holds q) held (sym ((λ j. names i (slice_index (w.known (a j)).holds (b j)))) ∙ h))))
      (λ c. ap (λ (b : Bool). cond (b && (u == t)) d (displaced_words w u p)) (ne_eqb p q c)))
      (λ c. unsame (p == q) (u == t) (ne_eqb u t c))
    where
      unsame : (a b : Bool) → b ≡ false → cond (a && b) d (displaced_words w u p) ≡ displaced_words w u p
      unsame true b e = ap (λ (c : Bool). cond c d (displaced_words w u p)) e
      unsame false b e = refl

  -- a lock that rests on a record, or that its thread owns by the monitor, is of another object
  resting_else : (i u p : ℕ) → lock w i ≡ OnRecord u p → i ≢ o
  resting_else i u p e s = let a = ap (lock w) s ∙ leans in absurd (cc (a, e))

  manned_else : (i u : ℕ) → lock w i ≡ OwnedBy u → i ≢ o
  manned_else i u e s = let a = ap (lock w) s ∙ leans in absurd (cc (a, e))

  -- so is one on which somebody waits, or from which somebody was called
  listed_else : (i u : ℕ) → (is_listed (waits_at P i) u ≡ true) ⊎ (is_listed (notified_at P i) u ≡ true) → i ≢ o
  listed_else i u h s =
      let none = (v clause.biases).nobody o biased in
      let waits : is_listed (waits_at P i) u ≡ false = ap (λ j. is_listed (waits_at P j) u) s ∙ ap (λ z. is_listed z u) none.0 in
      let called : is_listed (notified_at P i) u ≡ false = ap (λ j. is_listed (notified_at P j) u) s ∙ ap (λ z. is_listed z u) none.1 in
      elim h [ inl a ↦ absurd (cc (a, waits)) | inr a ↦ absurd (cc (a, called)) ]

  goes_else : (i u : ℕ) → GoesByMonitor (lock w i) (waits_at P i) (notified_at P i) u → i ≢ o
  goes_else i u (inl e) = manned_else i u e
  goes_else i u (inr e) = listed_else i u e

  one_small : 1 ≤ 64
  one_small = omega arith

  rests_stay : (i u p : ℕ) → lock w i ≡ OnRecord u p → displaced_words x u p ≡ displaced_words w u p
  rests_stay i u p e = elim ((v clause.records).first i u p e) [
    | inl h ↦ stays u p i (resting_else i u p e) (stored_names w P v u p i 1 one_small h)
    | inr s ↦ let c = calm u in absurd (cc (c, s))
  ]

  header_same : (i : ℕ) → header w i ≡ header x i
  header_same i = by_form (read_mark (marks w i)) refl
    where
      by_form : (a : Option MarkForm) → read_mark (marks w i) ≡ a → header_form a (marks w i) (displaced_words w) (headers w) (inflations w i)
          ≡ header_form a (marks w i) (displaced_words x) (headers w) (inflations w i)
      by_form (Some Inflating) e = rw (no_inflation w calm i) refl
      by_form (Some (Locked u p)) e =
          let rests : lock w i ≡ OnRecord u p = ap (λ a. lock_form a (prototype_of w i) (owner_words w) (inflations w i)) e in
          ap Some (sym (rests_stay i u p rests))
      by_form _ e = refl

  rest_law : RecordsRest (lock w) (λ u. (w.known u).holds) (λ u. (w.known u).stage) (displaced_words x)
  rest_law = record {
    first = (v clause.records).first;
    header = λ i u p e. ap is_neutral (rests_stay i u p e) ∙ (v clause.records).header i u p e;
    others = λ i u p z c e h small other. stays u z i (resting_else i u p e) (stored_names w P v u z i c small h)
        ∙ (v clause.records).others i u p z c e h small other;
    seized = (v clause.records).seized;
    grabbed = (v clause.records).grabbed;
  }

  again_same : (i u : ℕ) → i ≢ o → recursion_count i (displaced_words w u) (w.known u).holds ≡ recursion_count i (displaced_words x u) (w.known u).holds
  again_same i u other = number_same _ _ 0 (w.known u).holds (λ p. each p (is_deeper i (slice_index (w.known u).holds p)) refl)
    where
      each : (p : ℕ) (b : Bool) → is_deeper i (slice_index (w.known u).holds p) ≡ b
          → (is_deeper i (slice_index (w.known u).holds p) && (displaced_words w u (0 + p) == 3))
          ≡ (is_deeper i (slice_index (w.known u).holds p) && (displaced_words x u (0 + p) == 3))
      each p true e =
          let same : displaced_words w u (0 + p) ≡ displaced_words x u (0 + p) = ap (λ z. displaced_words w u z) (zero-add p)
          ∙ sym (stays u p i other (deeper_names i (slice_index (w.known u).holds p) e)) ∙ ap (λ z. displaced_words x u z) (sym (zero-add p)) in
          ap (λ n. is_deeper i (slice_index (w.known u).holds p) && (n == 3)) same
      each p false e = rw e refl

  recursions_law : RecursionsFit (marks w) (λ m. w.words (Recursions m)) (lock w) (λ u. (w.known u).holds)
      (λ u. (w.known u).stage) (λ u. (w.known u).saved) (displaced_words x) (waits_at P) (notified_at P)
  recursions_law = record {
    first = λ i u p g h. subst (λ n. (is_neutral n ≡ true) ⊎ (n ≡ 3))
        (sym (stays u p i (goes_else i u g) (stored_names w P v u p i 1 one_small h))) ((v clause.recursions).first i u p g h);
    others = λ i u p c g h small. subst (λ n. (n ≡ 0) ⊎ (n ≡ 3))
        (sym (stays u p i (goes_else i u g) (stored_names w P v u p i (c + 2) (omega (arith, small)) h)))
        ((v clause.recursions).others i u p c g h small);
    owned = λ i m u n e a b. (v clause.recursions).owned i m u n e a b
        ∙ ap (λ z. z + recursions_ahead (w.known u).stage i) (again_same i u (manned_else i u e));
    waiting = λ i u h. (v clause.recursions).waiting i u h ∙ again_same i u (listed_else i u h);
    on_record = (v clause.recursions).on_record;
    free = (v clause.recursions).free;
    thread_owns = λ i u s. let c = calm u in absurd (cc (c, s));
  }

  hashes_law : HashesFit (marks w) (lock w) (header w) (λ u. (w.known u).holds) (displaced_words x) (hash_at P)
  hashes_law = record {
    stands = (v clause.hashes).stands;
    records = λ i u p e b n.
        let other : i ≢ o = λ s. let yes = ap (λ j. is_biased (marks w j)) s ∙ biased in absurd (cc (yes, b)) in
        let same = stays u p i other (stored_names w P v u p i 1 one_small e) in
        subst (λ z. (hash_in z ≡ 0) ⊎ (hash_in z ≡ hash_at P i)) (sym same) ((v clause.hashes).records i u p e b (ap is_neutral (sym same) ∙ n));
    on_record = λ i u p e. subst (λ z. (hash_in z ≡ 0) ⊎ (hash_in z ≡ hash_at P i)) (sym (rests_stay i u p e)) ((v clause.hashes).on_record i u p e);
  }

  header_is : header w ≡ header x
  header_is = λ j. λ i. header_same i j

  pub displaced_turned : FitsUnseen x P
  displaced_turned clause.records = rest_law
  displaced_turned clause.recursions = recursions_law
  displaced_turned clause.hashes = frame6 HashesFit {x0 = marks w} {x1 = lock w} refl refl header_is refl refl refl hashes_law
  displaced_turned i = v i
