-- The revocation of one object's bias as a whole keeps all clauses but that of what was seen.
use Rattle.plain_monitor.specs.Limits.{most_holds}
use Rattle.core_locks.proofs.Prelude.{◌≡◌, ◌≢◌, ℕ, ◌<◌, ◌≤◌, ◌==◌, ◌++◌, nat_lt, eq-eqb, ne_eqb, eqb-true, Bool, true, false, cond, if◌then◌else◌}
use Rattle.core_locks.proofs.Prelude.{List, [], ◌∷◌, length, slice_index, Option, Some, None, refl, sym, ap, ◌∙◌, subst, arith, zero-add, nat_tests}
use Rattle.core_locks.proofs.Prelude.{MarkForm, Anonymous, Biased, Locked, mark_of, read_mark, PlainObject, WordId, Prototype, Mark, Displaced, Owner}
use Rattle.core_locks.proofs.Prelude.{class_by, with_word, is_biased, is_biased_form, hash_in, monitor_form, epoch_in, hold_word, one_if, World, Open}
use Rattle.core_locks.proofs.Prelude.{BiasedTo, OnRecord, has_epoch, lock, lock_form, header_form, holder, who, marks, displaced_words, headers}
use Rattle.core_locks.proofs.Prelude.{owner_words, prototype_of, inflations, hold_count, depth_count, IsMark, by_equal, hold_some, one_named}
use Rattle.core_world.specs.declared.word_id.WordId.TheVariants.{Class}
use Rattle.core_world.specs.RevocationRules.{Write, write, words_after, record_writes, first_place, revoke_biased, revoke_form, revoke}
use Rattle.core_world.proofs.Readings.{mark_one}
use Rattle.core_locks.proofs.enter_exit.HoldCounts.{index_past}
use Rattle.core_locks.proofs.MarkMeanings.{locked_read, locked_some, locked_bare}
use Rattle.core_locks.proofs.Clauses as clause
use Rattle.core_bias.proofs.Unseen.{FitsUnseen, with_words, set_mark, class_stays}
use Rattle.core_bias.proofs.MarkTurns.{AllCalm, MarkTurns, mark_turned}
use Rattle.core_bias.proofs.DisplacedTurns.{stored_names}
use Rattle.core_bias.proofs.Places.{displaced_word, holds_are, placed, alone, record_other, record_here}
use Rattle.core_bias.proofs.RecordWrites.{records_fit}

-- stores one after the other
pub stored_append : (xs ys : List Write) (f : WordId → ℕ) → words_after (xs ++ ys) f ≡ words_after ys (words_after xs f)
stored_append [] ys f = refl
stored_append (x ∷ xs) ys f = stored_append xs ys (with_word x.at x.word f)

one_unhashed : hash_in 1 ≡ 0
one_unhashed = rw mark_one refl

module _ (w : World) (P : List PlainObject) (o : ℕ) (v : FitsUnseen w P) where
  -- A BIASED OBJECT THAT NOBODY HOLDS becomes neutral.
  module _ (biased : is_biased (marks w o) ≡ true) (free : (u : ℕ) → hold_count o (w.known u).holds ≡ 0) where
    -- nobody has a lock that leans to nobody who holds it
    nobody : who w o ≡ None
    nobody = by_form (read_mark (marks w o)) biased
      where
        leaning : (b : Bool) (t : ℕ) → holder (if b then BiasedTo t else Open) (λ u. hold_count o (w.known u).holds) ≡ None
        leaning true t = rw (free t) refl
        leaning false t = refl

        by_form : (f : Option MarkForm) → is_biased_form f ≡ true
            → holder (lock_form f (prototype_of w o) (owner_words w) (inflations w o)) (λ u. hold_count o (w.known u).holds) ≡ None
        by_form (Some (Anonymous epoch age)) e = refl
        by_form (Some (Biased thread epoch age)) e = leaning (has_epoch (epoch_in (prototype_of w o)) epoch) thread
        by_form _ e = absurd (cc e)

    no_hold : (u p : ℕ) → slice_index (w.known u).holds p ≡ hold_word o 1 → ⊥
    no_hold u p e = omega (arith, one_named o (w.known u).holds 0 p (stored_names w P v u p o 1 (omega arith) e), free u)

    pub freed : MarkTurns w o 1 Open
    freed = record {
      biased = biased;
      form = rw mark_one refl;
      unnamed = ap monitor_form mark_one;
      some = λ e. omega arith;
      lock = ap (λ f. lock_form f (prototype_of w o) (owner_words w) (inflations w o)) mark_one;
      who = sym nobody;
      not_thread_owned = λ u e. cc e;
      rests = λ u p e. absurd (cc e);
      header = λ h e.
          let one : Some 1 ≡ Some h = sym (ap (λ f. header_form f 1 (displaced_words w) (headers w) (inflations w o)) mark_one) ∙ e in
          let same : h ≡ 1 = sym (cc one) in
          ap hash_in same ∙ one_unhashed;
      free = λ b. let no = ap is_biased_form mark_one in absurd (cc (no, b));
      plain = λ b u p e. absurd (no_hold u p e);
    }

    pub freed_fits : FitsUnseen (set_mark o 1 w) P
    freed_fits = mark_turned w P o 1 Open freed v

module _ (w : World) (P : List PlainObject) (o : ℕ) (calm : AllCalm w) (v : FitsUnseen w P) where
  -- AN OBJECT THAT ITS THREAD t HOLDS becomes locked by t's record with depth 1.
  module _ (t epoch age : ℕ) (reads : read_mark (marks w o) ≡ Some (Biased t epoch age)) (held : 1 ≤ hold_count o (w.known t).holds) where
    abbrev hs : List ℕ
    hs = (w.known t).holds

    abbrev p : ℕ
    p = first_place o hs

    biased : is_biased (marks w o) ≡ true
    biased = ap is_biased_form reads

    -- the bias is valid, since nobody holds an object with a stale one
    leans : lock w o ≡ BiasedTo t
    leans = cases (has_epoch (epoch_in (prototype_of w o)) epoch) refl
      where
        lock_is : lock w o ≡ (if has_epoch (epoch_in (prototype_of w o)) epoch then BiasedTo t else Open)
        lock_is = ap (λ f. lock_form f (prototype_of w o) (owner_words w) (inflations w o)) reads

        cases : (b : Bool) → has_epoch (epoch_in (prototype_of w o)) epoch ≡ b → lock w o ≡ BiasedTo t
        cases true e = lock_is ∙ ap (λ (b : Bool). if b then BiasedTo t else Open) e
        cases false e =
            let open_now : lock w o ≡ Open = lock_is ∙ ap (λ (b : Bool). if b then BiasedTo t else Open) e in
            let none = (v clause.biases).unheld o t biased (λ z. absurd (cc (open_now, z))) in
            absurd (omega (arith, none, held))

    -- the words after the stores in the displaced words
    abbrev f : WordId → ℕ
    f = words_after (record_writes o t 0 hs) w.words

    abbrev y : World
    y = with_words f w

    noted : FitsUnseen y P
    noted = records_fit w P o t calm hs 0 w.words biased leans (λ i. ap (slice_index hs) (sym (zero-add i))) v

    mark_same : marks y o ≡ marks w o
    mark_same = record_other o t hs 0 w.words (Mark o) (λ i. refl)

    -- t's only record of o with depth 1
    once : depth_count o 1 hs ≡ 1
    once = (v clause.holds).each t o 0 (omega arith) ∙ ap one_if some
      where
        some : nat_lt 0 (hold_count o hs) ≡ true
        some = grind (arith, nat_tests, held)

    first : (slice_index hs p ≡ hold_word o 1) × (p < length hs)
    first = placed (hold_word o 1) 0 hs (omega (arith, once))

    place : p < most_holds
    place = omega (arith, first.1, (v clause.holds).places t)

    displaced_is : (q d : ℕ) → d ≤ 64 → slice_index hs q ≡ hold_word o d → displaced_words y t q ≡ displaced_word o (slice_index hs q)
    displaced_is q d small e = ap (λ z. f (Displaced t z)) (sym (zero-add q)) ∙ record_here o t hs 0 q w.words (stored_names w P v t q o d small e)

    -- the record of depth 1 has the header, and the others have 0
    top : (q : ℕ) → slice_index hs q ≡ hold_word o 1 → displaced_words y t q ≡ 1
    top q e = displaced_is q 1 (omega arith) e ∙ ap (λ (b : Bool). if b then 1 else 0) (eq-eqb (slice_index hs q) (hold_word o 1) e)

    deeper : (q d : ℕ) → slice_index hs q ≡ hold_word o d → d ≤ 64 → q ≢ p → displaced_words y t q ≡ 0
    deeper q d e small other = displaced_is q d small e ∙ ap (λ (b : Bool). if b then 1 else 0)
        (ne_eqb (slice_index hs q) (hold_word o 1) (λ s. other (alone (hold_word o 1) 0 hs q (omega (arith, once)) (within s) s)))
      where
        within : slice_index hs q ≡ hold_word o 1 → q < length hs
        within s = index_past hs q (λ z. hold_some o 1 (sym s ∙ z))

    abbrev m : ℕ
    m = mark_of (Locked t p)

    exists : t < w.shape.threads
    exists = let form = subst (IsMark w.shape) reads ((v clause.forms).marks o) in form.0

    pub spelled : read_mark m ≡ Some (Locked t p)
    spelled = locked_read t p (omega (arith, (v clause.limits).threads, exists)) place

    locked : MarkTurns y o m (OnRecord t p)
    locked = record {
      biased = ap is_biased mark_same ∙ biased;
      form = subst (IsMark w.shape) (sym spelled) exists;
      unnamed = (locked_bare m t p spelled).unnamed;
      some = locked_some m t p spelled;
      lock = ap (λ f. lock_form f (prototype_of y o) (owner_words y) (inflations y o)) spelled;
      who = who_is;
      not_thread_owned = λ u e. cc e;
      rests = λ u q e.
          let a : t ≡ u = cc e in
          let b : p ≡ q = cc e in
          subst (λ (z : ℕ × ℕ). (slice_index (w.known z.0).holds z.1 ≡ hold_word o 1) × (displaced_words y z.0 z.1 ≡ 1)
          × ((q d : ℕ) → slice_index (w.known z.0).holds q ≡ hold_word o d → d ≤ 64 → q ≢ z.1 → displaced_words y z.0 q ≡ 0))
          (λ j. (a j, b j)) (first.0, top p first.0, deeper);
      header = λ h e.
          let one : Some (displaced_words y t p) ≡ Some h = sym (ap (λ f. header_form f m (displaced_words y) (headers y) (inflations y o)) spelled) ∙ e in
          let same : h ≡ displaced_words y t p = sym (cc one) in
          ap hash_in (same ∙ top p first.0) ∙ one_unhashed;
      free = λ b. let no = (locked_bare m t p spelled).unbiased in absurd (cc (no, b));
      plain = λ b u q e n. by_equal u t
          (λ s. ap hash_in (ap (λ z. displaced_words y z q) s ∙ top q (ap (λ z. slice_index (w.known z).holds q) (sym s) ∙ e)) ∙ one_unhashed)
          (λ d.
          let none = (v clause.biases).unheld o u biased (λ z. let same : t ≡ u = cc (leans, z) in d (sym same)) in
          absurd (omega (arith, none, one_named o (w.known u).holds 0 q (stored_names w P v u q o 1 (omega arith) e))));
    }
      where
        lock_same : lock y o ≡ BiasedTo t
        lock_same =
            let class = class_stays w.shape w.words f o (record_other o t hs 0 w.words (Class o) (λ i. refl)) in
            let proto : prototype_of y o ≡ prototype_of w o =
            ap (λ c. f (Prototype c)) class ∙ record_other o t hs 0 w.words (Prototype (class_by w.shape w.words o)) (λ i. refl) in
            let owners : (i : ℕ) → owner_words y i ≡ owner_words w i = λ i. record_other o t hs 0 w.words (Owner i) (λ i. refl) in
            (λ j. lock_form (read_mark (mark_same j)) (proto j) (λ i. owners i j) (inflations w o)) ∙ leans

        who_is : Some t ≡ who y o
        who_is =
            let some : (hold_count o hs == 0) ≡ false = ne_eqb (hold_count o hs) 0 (λ z. omega (arith, z, held)) in
            sym (ap (λ z. holder z (λ u. hold_count o (w.known u).holds)) lock_same ∙ ap (λ (b : Bool). if b then None else Some t) some)

    pub held_fits : FitsUnseen (with_words (words_after (record_writes o t 0 hs ++ write (Mark o) m ∷ []) w.words) w) P
    held_fits = subst (λ g. FitsUnseen (with_words g w) P)
        (sym (stored_append (record_writes o t 0 hs) (write (Mark o) m ∷ []) w.words)) (mark_turned y P o m (OnRecord t p) locked noted)

  -- THE WHOLE, whatever the mark is.
  pub revoke_fits : FitsUnseen (with_words (words_after (revoke o false w.words) w.words) w) P
  revoke_fits = by_form (read_mark (marks w o)) refl
    where
      by_count : (t epoch age : ℕ) → read_mark (marks w o) ≡ Some (Biased t epoch age) → (b : Bool) → (hold_count o (w.known t).holds == 0) ≡ b
          → FitsUnseen (with_words (words_after (if b then write (Mark o) 1 ∷ [] else record_writes o t 0 (w.known t).holds
          ++ write (Mark o) (mark_of (Locked t (first_place o (w.known t).holds))) ∷ []) w.words) w) P
      by_count t epoch age reads true e =
          let biased = ap is_biased_form reads in
          let lock_is : lock w o ≡ (if has_epoch (epoch_in (prototype_of w o)) epoch then BiasedTo t else Open) =
          ap (λ f. lock_form f (prototype_of w o) (owner_words w) (inflations w o)) reads in
          freed_fits w P o v biased (λ u. by_equal u t (λ s. ap (λ z. hold_count o (w.known z).holds) s ∙ eqb-true (hold_count o (w.known t).holds) 0 e)
          (λ d. (v clause.biases).unheld o u biased (λ z. d (leaner t u _ lock_is z))))
        where
          leaner : (t u : ℕ) (b : Bool) → lock w o ≡ (if b then BiasedTo t else Open) → lock w o ≡ BiasedTo u → u ≡ t
          leaner t u true e z = let same : t ≡ u = cc (e, z) in sym same
          leaner t u false e z = absurd (cc (e, z))
      by_count t epoch age reads false e = held_fits t epoch age reads
          (let some : hold_count o (w.known t).holds ≢ 0 = λ z. absurd (cc (eq-eqb (hold_count o (w.known t).holds) 0 z, e)) in omega (arith, some))

      by_form : (a : Option MarkForm) → read_mark (marks w o) ≡ a → FitsUnseen (with_words (words_after (revoke_form a o false w.words) w.words) w) P
      by_form (Some (Anonymous epoch age)) e =
          let biased = ap is_biased_form e in
          let open_now : lock w o ≡ Open = ap (λ f. lock_form f (prototype_of w o) (owner_words w) (inflations w o)) e in
          freed_fits w P o v biased (λ u. (v clause.biases).unheld o u biased (λ z. absurd (cc (open_now, z))))
      by_form (Some (Biased t epoch age)) e =
          subst (λ hs. FitsUnseen (with_words (words_after (revoke_biased o t false hs) w.words) w) P)
          (sym (holds_are w.words t (w.known t).holds ((v clause.holds).places t) ((v clause.holds).stored t)))
          (by_count t epoch age e (hold_count o (w.known t).holds == 0) refl)
      by_form _ e = v

  -- THE OBJECT HAS NO BIAS THEN.
  pub revoke_unbiased : is_biased (words_after (revoke o false w.words) w.words (Mark o)) ≡ false
  revoke_unbiased = by_form (read_mark (marks w o)) refl
    where
      here : (m : ℕ) (f : WordId → ℕ) → is_biased m ≡ false → is_biased (with_word (Mark o) m f (Mark o)) ≡ false
      here m f e = ap (λ (b : Bool). is_biased (cond b m (f (Mark o)))) (eq-eqb o o refl) ∙ e

      one_unbiased : is_biased 1 ≡ false
      one_unbiased = ap is_biased_form mark_one

      by_count : (t epoch age : ℕ) → read_mark (marks w o) ≡ Some (Biased t epoch age) → (b : Bool) → (hold_count o (w.known t).holds == 0) ≡ b
          → is_biased (words_after (if b then write (Mark o) 1 ∷ [] else record_writes o t 0 (w.known t).holds
          ++ write (Mark o) (mark_of (Locked t (first_place o (w.known t).holds))) ∷ []) w.words (Mark o)) ≡ false
      by_count t epoch age reads true e = here 1 w.words one_unbiased
      by_count t epoch age reads false e =
          let held : 1 ≤ hold_count o (w.known t).holds = (let some : hold_count o (w.known t).holds ≢ 0 =
          λ z. absurd (cc (eq-eqb (hold_count o (w.known t).holds) 0 z, e)) in omega (arith, some)) in
          let mark = mark_of (Locked t (first_place o (w.known t).holds)) in
          ap (λ (g : WordId → ℕ). is_biased (g (Mark o))) (stored_append (record_writes o t 0 (w.known t).holds) (write (Mark o) mark ∷ []) w.words)
          ∙ here mark (words_after (record_writes o t 0 (w.known t).holds) w.words) (ap is_biased_form (spelled t epoch age reads held))

      by_form : (a : Option MarkForm) → read_mark (marks w o) ≡ a → is_biased (words_after (revoke_form a o false w.words) w.words (Mark o)) ≡ false
      by_form (Some (Anonymous epoch age)) e = here 1 w.words one_unbiased
      by_form (Some (Biased t epoch age)) e =
          subst (λ hs. is_biased (words_after (revoke_biased o t false hs) w.words (Mark o)) ≡ false)
          (sym (holds_are w.words t (w.known t).holds ((v clause.holds).places t) ((v clause.holds).stored t)))
          (by_count t epoch age e (hold_count o (w.known t).holds == 0) refl)
      by_form _ e = ap is_biased_form e
