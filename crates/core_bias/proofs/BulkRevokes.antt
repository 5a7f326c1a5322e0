-- A bulk revoke as a whole: each held object of the class is revoked, then the object itself, and the class's prototype is neutral.
use Rattle.core_locks.proofs.Prelude.{◌≡◌, ◌≢◌, ℕ, zero, suc, ◌+◌, ◌*◌, ◌<◌, ◌≤◌, ◌==◌, ◌&&◌, ◌++◌, nat_lt, eq-eqb, ne_eqb, eqb-true}
use Rattle.core_locks.proofs.Prelude.{Bool, true, false, cond, if◌then◌else◌, List, [], ◌∷◌, length, slice_index, Option, Some, None}
use Rattle.core_locks.proofs.Prelude.{refl, sym, ap, ◌∙◌, subst, arith, inl, inr, nat_tests, MarkForm, Anonymous, Biased, HoldForm, Holds}
use Rattle.core_locks.proofs.Prelude.{read_mark, read_hold, PlainObject, WordId, Mark, Hold, Prototype, Revocations, LastBulk, Settled}
use Rattle.core_locks.proofs.Prelude.{class_by, with_word, is_biased, is_biased_form, names, names_form, one_if, ThreadView, World}
use Rattle.core_locks.proofs.Prelude.{with_known, lock_form, marks, owner_words, inflations, count_where, hold_count, ClassesFit}
use Rattle.core_locks.proofs.Prelude.{bulk_rebiases, bulk_revokes, with_knowledge, by_equal, with_known_here, each_with_known}
use Rattle.std.proofs.Common.{◌%◌}
use Rattle.plain_monitor.specs.Limits.{most_holds}
use Rattle.lock_policy.specs.declared.policy.Verdict.{Verdict}
use Rattle.lock_policy.specs.declared.policy.Verdict.TheVariants.{BulkRevoke}
use Rattle.lock_policy.specs.Policy.{decided, is_reset, most_revocations}
use Rattle.core_world.specs.declared.word_id.WordId.TheVariants as id
use Rattle.core_world.specs.declared.word_id.WordId.TheVariants.{Class}
use Rattle.core_world.specs.Threads.Counts.{ClassCounts, CountedVerdict, counts_of, CountedVerdict, counts_of, with_verdict_counted, with_verdict, with_reset}
use Rattle.core_world.specs.Threads.Stages.{Revocation}
use Rattle.core_world.specs.RevocationRules.{write, words_after, Rule, in_turn, each_below, revoke_form, revoke, object_held}
use Rattle.core_world.specs.RevocationRules.{on_held, on_records, record_writes, revocation_rules, revocation_writes}
use Rattle.core_world.proofs.Counting.{named_none}
use Rattle.core_locks.proofs.Clauses as clause
use Rattle.core_bias.specs.Revoking.{HasCounted, revoked_world}
use Rattle.core_bias.proofs.Unseen.{FitsUnseen, Unclassed, unclassed, classed, with_words, rewords, class_stays}
use Rattle.core_bias.proofs.MarkTurns.{AllCalm}
use Rattle.core_bias.proofs.Revokes.{stored_append, revoke_fits, revoke_unbiased}
use Rattle.core_bias.proofs.Places.{record_other}
use Rattle.core_bias.proofs.Knows.{knows_unclassed, rebiases_same, revokes_same}
use Rattle.core_bias.proofs.LockMoves.{Moves, locks_moved}
use Rattle.core_bias.proofs.Singles.{all_calm, raised_few, reached_within}
use Rattle.core_bias.proofs.BlindRules.{of_class, Agree, stored_agree, IsBlind, blind_turn, blind_revoke, blind_walk, classless_stays}

-- a word that passes the test stands somewhere
pub some_named : (o i : ℕ) (hs : List ℕ) → 1 ≤ count_where (λ p h. names o h) i hs → (p : ℕ) × (p < length hs) × (names o (slice_index hs p) ≡ true)
some_named o i [] h = absurd (omega arith)
some_named o i (y ∷ hs) h = cases (names o y) refl h (some_named o (i + 1) hs)
  where
    cases : (b : Bool) → names o y ≡ b → 1 ≤ one_if b + count_where (λ p h. names o h) (i + 1) hs
        → (1 ≤ count_where (λ p h. names o h) (i + 1) hs → (p : ℕ) × (p < length hs) × (names o (slice_index hs p) ≡ true))
        → (p : ℕ) × (p < length (y ∷ hs)) × (names o (slice_index (y ∷ hs) p) ≡ true)
    cases true e g ih = (0, omega arith, e)
    cases false e g ih = let r = ih (omega (arith, g)) in (suc r.0, omega (arith, r.1), r.2)

-- the object that a hold word names
pub held_object : (h o : ℕ) → names o h ≡ true → object_held (read_hold h) ≡ Some o
held_object h o e = by_form (read_hold h) e
  where
    by_form : (f : Option HoldForm) → names_form f o ≡ true → object_held f ≡ Some o
    by_form (Some (Holds i d)) e = ap Some (eqb-true i o e)
    by_form _ e = absurd (cc e)

-- the revocation of one object changes no other mark
revoke_else : (o i : ℕ) (f : WordId → ℕ) → i ≢ o → words_after (revoke o false f) f (Mark i) ≡ f (Mark i)
revoke_else o i f d = by_form (read_mark (f (Mark o)))
  where
    away : (m : ℕ) (g : WordId → ℕ) → with_word (Mark o) m g (Mark i) ≡ g (Mark i)
    away m g = ap (λ (b : Bool). cond b m (g (Mark i))) (ne_eqb i o d)

    by_count : (b : Bool) (m n t : ℕ) (hs : List ℕ)
        → words_after (if b then write (Mark o) m ∷ [] else record_writes o t 0 hs ++ write (Mark o) n ∷ []) f (Mark i) ≡ f (Mark i)
    by_count true m n t hs = away m f
    by_count false m n t hs =
        ap (λ (g : WordId → ℕ). g (Mark i)) (stored_append (record_writes o t 0 hs) (write (Mark o) n ∷ []) f)
        ∙ away n (words_after (record_writes o t 0 hs) f) ∙ record_other o t hs 0 f (Mark i) (λ j. refl)

    by_form : (a : Option MarkForm) → words_after (revoke_form a o false f) f (Mark i) ≡ f (Mark i)
    by_form (Some (Anonymous epoch age)) = away 1 f
    by_form (Some (Biased t epoch age)) = by_count _ _ _ t _
    by_form _ = refl

-- RULES THAT KEEP THE CLAUSES
module _ (w : World) (P : List PlainObject) (calm : AllCalm w) where
  abbrev F : (WordId → ℕ) → Type 0
  F g = FitsUnseen (with_words g w) P

  abbrev U : (WordId → ℕ) → ℕ → Type 0
  U g o = is_biased (g (Mark o)) ≡ false

  -- a rule that keeps the clauses, and gives no mark the bias pattern
  pub record IsKept (r : Rule) (g : WordId → ℕ) : Type 0 where
    pub fits : F (words_after (r g) g)
    pub plain : (o : ℕ) → U g o → U (words_after (r g) g) o

  kept_none : (g : WordId → ℕ) → F g → IsKept (λ f. []) g
  kept_none g v = record { fits = v; plain = λ o h. h }

  kept_both : (r s : Rule) (g : WordId → ℕ) → IsKept r g → IsKept s (words_after (r g) g) → IsKept (λ f. r f ++ s (words_after (r f) f)) g
  kept_both r s g a b =
      let same : words_after (r g ++ s (words_after (r g) g)) g ≡ words_after (s (words_after (r g) g)) (words_after (r g) g) =
      stored_append (r g) (s (words_after (r g) g)) g in
      record {
        fits = subst F (sym same) b.fits;
        plain = λ o h. subst (λ (f : WordId → ℕ). U f o) (sym same) (b.plain o (a.plain o h));
      }

  kept_below : (n : ℕ) (r : ℕ → Rule) → ((i : ℕ) (g : WordId → ℕ) → F g → IsKept (r i) g) → (g : WordId → ℕ) → F g → IsKept (each_below n r) g
  kept_below zero r h g v = kept_none g v
  kept_below (suc n) r h g v = let before = kept_below n r h g v in
      kept_both (each_below n r) (r n) g before (h n (words_after (each_below n r g) g) before.fits)

  -- what each rule does stays done
  done_below : (n : ℕ) (r : ℕ → Rule) (D : ℕ → (WordId → ℕ) → Type 0) → ((i : ℕ) (g : WordId → ℕ) → F g → IsKept (r i) g)
      → ((i : ℕ) (g h : WordId → ℕ) → ((o : ℕ) → U g o → U h o) → D i g → D i h)
      → ((i : ℕ) (g : WordId → ℕ) → F g → D i (words_after (r i g) g)) → (g : WordId → ℕ) → F g → (j : ℕ) → j < n → D j (words_after (each_below n r g) g)
  done_below zero r D kept mono makes g v j h = absurd (omega arith)
  done_below (suc n) r D kept mono makes g v j h =
      let before = kept_below n r kept g v in
      let f = words_after (each_below n r g) g in
      let same : words_after (each_below n r g ++ r n f) g ≡ words_after (r n f) f = stored_append (each_below n r g) (r n f) g in
      subst (D j) (sym same) (by_equal j n
      (λ e. subst (λ i. D i (words_after (r n f) f)) (sym e) (makes n f before.fits))
      (λ d. mono j f (words_after (r n f) f) (kept n f before.fits).plain (done_below n r D kept mono makes g v j (omega (arith, h, d)))))

  kept_revoke : (o : ℕ) (g : WordId → ℕ) → F g → IsKept (revoke o false) g
  kept_revoke o g v = record {
    fits = revoke_fits (with_words g w) P o calm v;
    plain = λ i h. by_equal i o
        (λ e. subst (λ j. U (words_after (revoke o false g) g) j) (sym e) (revoke_unbiased (with_words g w) P o calm v))
        (λ d. ap is_biased (revoke_else o i g d) ∙ h);
  }

  -- THE WALK over the records of all threads, for class c
  module _ (class : ℕ → ℕ) (c : ℕ) where
    abbrev visit : ℕ → ℕ → Rule
    visit t p f = on_held class c (λ o. revoke o false) (object_held (read_hold (f (Hold t p)))) f

    kept_held : (a : Option ℕ) (g : WordId → ℕ) → F g → IsKept (on_held class c (λ o. revoke o false) a) g
    kept_held None g v = kept_none g v
    kept_held (Some o) g v = cases ((class o == c) && is_biased (g (Mark o))) refl
      where
        cases : (b : Bool) → ((class o == c) && is_biased (g (Mark o))) ≡ b → IsKept (on_held class c (λ o. revoke o false) (Some o)) g
        cases true e =
            let same : on_held class c (λ o. revoke o false) (Some o) g ≡ revoke o false g = ap (λ b. if b then revoke o false g else []) e in
            let k = kept_revoke o g v in
            record { fits = subst (λ xs. F (words_after xs g)) (sym same) k.fits; plain = λ i h. subst (λ xs. U (words_after xs g) i) (sym same) (k.plain i h) }
        cases false e =
            let same : on_held class c (λ o. revoke o false) (Some o) g ≡ [] = ap (λ b. if b then revoke o false g else []) e in
            record { fits = subst (λ xs. F (words_after xs g)) (sym same) v; plain = λ i h. subst (λ xs. U (words_after xs g) i) (sym same) h }

    kept_visit : (t p : ℕ) (g : WordId → ℕ) → F g → IsKept (visit t p) g
    kept_visit t p g v = let k = kept_held (object_held (read_hold (g (Hold t p)))) g v in record { fits = k.fits; plain = k.plain }

    -- the object of t's record at place p has no bias, if it is of the class
    abbrev Done : ℕ → ℕ → (WordId → ℕ) → Type 0
    Done t p g = (o : ℕ) → names o (slice_index (w.known t).holds p) ≡ true → class o ≡ c → U g o

    visit_done : (t p : ℕ) (g : WordId → ℕ) → F g → Done t p (words_after (visit t p g) g)
    visit_done t p g v o e k =
        let word : g (Hold t p) ≡ slice_index (w.known t).holds p = (v clause.holds).stored t p in
        let object : object_held (read_hold (g (Hold t p))) ≡ Some o =
        ap (λ h. object_held (read_hold h)) word ∙ held_object (slice_index (w.known t).holds p) o e in
        subst (λ a. U (words_after (on_held class c (λ o. revoke o false) a g) g) o) (sym object) (cases (is_biased (g (Mark o))) refl)
      where
        its : (class o == c) ≡ true
        its = eq-eqb (class o) c k

        cases : (b : Bool) → is_biased (g (Mark o)) ≡ b → U (words_after (if (class o == c) && is_biased (g (Mark o)) then revoke o false g else []) g) o
        cases true z = subst (λ b. U (words_after (if b then revoke o false g else []) g) o)
            (λ i. sym its i && sym z i) (revoke_unbiased (with_words g w) P o calm v)
        cases false z = subst (λ b. U (words_after (if b then revoke o false g else []) g) o) (λ i. sym its i && sym z i) z

    abbrev row : ℕ → Rule
    row t = each_below most_holds (visit t)

    pub kept_walk : (g : WordId → ℕ) → F g → IsKept (on_records w.shape class c (λ o. revoke o false)) g
    unfolding on_records
    kept_walk g v = kept_below w.shape.threads row (λ t. kept_below most_holds (visit t) (kept_visit t)) g v

    pub walk_done : (g : WordId → ℕ) → F g → (t : ℕ) → t < w.shape.threads → (p : ℕ)
        → p < most_holds → Done t p (words_after (on_records w.shape class c (λ o. revoke o false) g) g)
    unfolding on_records
    walk_done g v =
        done_below w.shape.threads row (λ t f. (p : ℕ) → p < most_holds → Done t p f)
        (λ t. kept_below most_holds (visit t) (kept_visit t)) (λ t f h mono d p small o e k. mono o (d p small o e k))
        (λ t f u. done_below most_holds (visit t) (Done t) (kept_visit t) (λ p f h mono d o e k. mono o (d o e k)) (visit_done t) f u) g v

-- a thread that revoked in bulk is counted
pub revokes_some : (n : ℕ) (f : ℕ → List CountedVerdict) (c r : ℕ) → r < n → 1 ≤ (counts_of (f r) c).revoke → 1 ≤ bulk_revokes n f c
revokes_some zero f c r h e = absurd (omega arith)
revokes_some (suc n) f c r h e = by_equal r n
    (λ s. let here : (counts_of (f r) c).revoke ≡ (counts_of (f n) c).revoke = ap (λ i. (counts_of (f i) c).revoke) s in omega (arith, here, e))
    (λ d. let before = revokes_some n f c r (omega (arith, h, d)) e in omega (arith, before))

-- a lock doesn't go by the prototype, where its mark has no bias pattern
pub plain_lock : (a : Option MarkForm) (p q : ℕ) (owners : ℕ → ℕ) (named : Option _)
    → is_biased_form a ≡ false → lock_form a p owners named ≡ lock_form a q owners named
plain_lock (Some (Anonymous epoch age)) p q owners named e = absurd (cc e)
plain_lock (Some (Biased t epoch age)) p q owners named e = absurd (cc e)
plain_lock _ p q owners named e = refl

-- what a count of a verdict changes
pub counted_else : (f : List CountedVerdict) (c : ℕ) (verdict : Verdict) (reset : Bool) (i : ℕ)
    → i ≢ c → counts_of (with_verdict_counted f c verdict reset) i ≡ counts_of f i
counted_else f c verdict reset i d = ap (λ (b : Bool). cond b (with_reset (with_verdict (counts_of f i) verdict) reset) (counts_of f i)) (ne_eqb i c d)

pub counted_here : (f : List CountedVerdict) (c : ℕ) (verdict : Verdict) (reset : Bool)
    → counts_of (with_verdict_counted f c verdict reset) c ≡ with_reset (with_verdict (counts_of f c) verdict) reset
counted_here f c verdict reset = ap (λ (b : Bool). cond b (with_reset (with_verdict (counts_of f c) verdict) reset) (counts_of f c)) (eq-eqb c c refl)

module _ (w : World) (P : List PlainObject) (r : ℕ) (b : Revocation) (l : ThreadView)
    (reached : (w.known r).reached ≡ true) (on : w.biasing ≡ true) (k : HasCounted w r b l) (v : FitsUnseen w P) where
  abbrev class : ℕ → ℕ
  class = class_by w.shape w.words

  abbrev c : ℕ
  c = class b.object

  abbrev d : Verdict × ℕ
  d = decided (w.words (Revocations c)) (w.words (LastBulk c)) b.now

  abbrev f : WordId → ℕ
  f = w.words

  -- the walk and the revocation of the object, by the words before
  abbrev walk : Rule
  walk = on_records w.shape class c (λ o. revoke o false)

  abbrev single : Rule
  single = revoke b.object false

  abbrev turn : Rule
  turn = in_turn (walk ∷ single ∷ [])

  abbrev g : WordId → ℕ
  g = words_after (single (words_after (walk f) f)) (words_after (walk f) f)

  calm : AllCalm w
  calm = all_calm w P r reached k.calm v

  walked : IsKept w P calm walk f
  walked = kept_walk w P calm class c f v

  revoked : IsKept w P calm single (words_after (walk f) f)
  revoked = kept_revoke w P calm b.object (words_after (walk f) f) walked.fits

  -- nobody holds an object of the class that has a bias still
  free : (o : ℕ) → class o ≡ c → is_biased (g (Mark o)) ≡ true → (u : ℕ) → hold_count o (w.known u).holds ≡ 0
  free o its biased u = by_thread (nat_lt u w.shape.threads) refl
    where
      by_count : (n : ℕ) → hold_count o (w.known u).holds ≡ n → u < w.shape.threads → hold_count o (w.known u).holds ≡ 0
      by_count zero e within = e
      by_count (suc n) e within =
          let at = some_named o 0 (w.known u).holds (omega (arith, e)) in
          let place : at.0 < most_holds = omega (arith, at.1, (v clause.holds).places u) in
          let plain = revoked.plain o (walk_done w P calm class c f v u within at.0 place o at.2 its) in
          absurd (cc (plain, biased))

      by_thread : (a : Bool) → nat_lt u w.shape.threads ≡ a → hold_count o (w.known u).holds ≡ 0
      by_thread true e = by_count (hold_count o (w.known u).holds) refl (grind (arith, nat_tests, e))
      by_thread false e = ap (λ (y : ThreadView). hold_count o y.holds) ((v clause.absent) u (grind (arith, nat_tests, e))) ∙ named_none o most_holds

  -- the world before the words of the class are stored
  abbrev y : World
  y = with_words g (with_knowledge r l w)

  abbrev prototype : ℕ → ℕ
  prototype i = cond (i == c) 1 (f (Prototype i))

  abbrev count : ℕ → ℕ
  count i = cond (i == c) d.1 (f (Revocations i))

  abbrev last : ℕ → ℕ
  last i = cond (i == c) b.now (f (LastBulk i))

  abbrev x : World
  x = with_words (rewords (marks y) prototype count last g) y

  known_before : Unclassed y P
  known_before = knows_unclassed (with_words g w) P r l k.same (reached_within w P r reached v) (unclassed (with_words g w) P revoked.fits)

  calm_now : AllCalm y
  calm_now u = each_with_known (λ u z. z.stage ≡ Settled) r l w.known u (sym k.same.stage ∙ calm r) (λ d. calm u)

  class_word : (n : WordId) → of_class n ≡ true → g n ≡ f n
  class_word n e =
      classless_stays (single (words_after (walk f) f)) (words_after (walk f) f) n ((blind_revoke b.object false).stores (words_after (walk f) f)) e
      ∙ classless_stays (walk f) f n ((blind_walk w.shape class c (λ o. revoke o false) (λ o. blind_revoke o false)).stores f) e

  same_class : (o : ℕ) → class_by w.shape g o ≡ class o
  same_class o = class_stays w.shape f g o (class_word (Class o) refl)

  moves : (o : ℕ) → Moves y x o
  moves o = by_equal (class o) c
      (λ e. by_bias e (is_biased (g (Mark o))) refl)
      (λ e.
      let proto : prototype (class o) ≡ g (Prototype (class o)) =
      ap (λ (a : Bool). cond a 1 (f (Prototype (class o)))) (ne_eqb (class o) c e) ∙ sym (class_word (Prototype (class o)) refl) in
      inl (
        refl,
        ap (λ z. lock_form (read_mark (g (Mark o))) z (owner_words y) (inflations y o))
            (subst (λ i. prototype i ≡ g (Prototype i)) (sym (same_class o)) proto),
      ))
    where
      by_bias : class o ≡ c → (a : Bool) → is_biased (g (Mark o)) ≡ a → Moves y x o
      by_bias e true z = inr (
        z,
        z,
        (known_before clause.forms).marks o,
        inr (λ u. each_with_known (λ u m. hold_count o m.holds ≡ 0) r l w.known u
            (ap (hold_count o) (sym k.same.holds) ∙ free o e z r) (λ d. free o e z u)),
      )
      by_bias e false z = inl (refl, plain_lock (read_mark (g (Mark o))) _ _ (owner_words y) (inflations y o) z)

  -- THE WORDS are those after all stores
  module _ (bulk : d.0 ≡ BulkRevoke) where
    abbrev f2 : WordId → ℕ
    f2 = with_word (Prototype c) 1 (with_word (LastBulk c) b.now (with_word (Revocations c) d.1 f))

    agree : Agree f2 f
    agree (id.Prototype i) e = absurd (cc e)
    agree (id.Revocations i) e = absurd (cc e)
    agree (id.LastBulk i) e = absurd (cc e)
    agree _ e = refl

    turning : IsBlind turn
    turning = blind_turn (walk ∷ single ∷ []) (blind_walk w.shape class c (λ o. revoke o false) (λ o. blind_revoke o false), (blind_revoke b.object false, tt))

    turned : words_after (turn f) f ≡ g
    turned = stored_append (walk f) (single (words_after (walk f) f) ++ []) f ∙ stored_append (single (words_after (walk f) f)) [] (words_after (walk f) f)

    other : (n : WordId) → of_class n ≡ false → g n ≡ words_after (turn f2) f2 n
    other n e =
        sym (ap (λ (z : WordId → ℕ). z n) turned) ∙ sym (stored_agree (turn f) f2 f agree n e)
        ∙ sym (ap (λ xs. words_after xs f2 n) (turning.reads f2 f agree))

    of_classes : (n : WordId) → of_class n ≡ true → f2 n ≡ words_after (turn f2) f2 n
    of_classes n e = sym (classless_stays (turn f2) f2 n (turning.stores f2) e)

    each : (n : WordId) → rewords (marks y) prototype count last g n ≡ words_after (turn f2) f2 n
    each (id.Prototype i) = of_classes (Prototype i) refl
    each (id.Revocations i) = of_classes (Revocations i) refl
    each (id.LastBulk i) = of_classes (LastBulk i) refl
    each (id.Safepoint) = other id.Safepoint refl
    each (id.Mark o) = other (id.Mark o) refl
    each (id.Stamp o) = other (id.Stamp o) refl
    each (id.Slot o i) = other (id.Slot o i) refl
    each (id.Hold t p) = other (id.Hold t p) refl
    each (id.Displaced t p) = other (id.Displaced t p) refl
    each (id.Waiting t) = other (id.Waiting t) refl
    each (id.Length t) = other (id.Length t) refl
    each (id.Owner m) = other (id.Owner m) refl
    each (id.Recursions m) = other (id.Recursions m) refl
    each (id.Header m) = other (id.Header m) refl
    each (id.Object m) = other (id.Object m) refl
    each id.Claim = other id.Claim refl
    each id.End = other id.End refl
    each (id.Ring q) = other (id.Ring q) refl
    each (id.Class o) = class_word (Class o) refl ∙ of_classes (Class o) refl

    words : words_after (revocation_writes w.shape r b f) f ≡ words_after (turn f2) f2
    unfolding revocation_writes
    words = ap (λ z. words_after (in_turn (revocation_rules w.shape class r c b (z, d.1)) f) f) bulk

    world : x ≡ revoked_world w r b l
    world =
        let all : rewords (marks y) prototype count last g ≡ words_after (revocation_writes w.shape r b f) f = (λ i. λ n. each n i) ∙ sym words in
        λ i. record { shape = w.shape; start = w.start; biasing = w.biasing; words = all i; known = with_known r l w.known }

    counts : l.counts ≡ with_verdict_counted (w.known r).counts c BulkRevoke (is_reset (f (Revocations c)) (f (LastBulk c)) b.now)
    counts = k.counts ∙ ap (λ z. with_verdict_counted (w.known r).counts c z (is_reset (f (Revocations c)) (f (LastBulk c)) b.now)) bulk

    abbrev now : ℕ → List CountedVerdict
    now u = (with_known r l w.known u).counts

    abbrev old : ℕ → List CountedVerdict
    old u = (w.known u).counts

    same_else : (i : ℕ) → i ≢ c → (u : ℕ) → counts_of (now u) i ≡ counts_of (old u) i
    same_else i d u = each_with_known (λ u z. counts_of z.counts i ≡ counts_of (w.known u).counts i) r l w.known u
        (ap (λ z. counts_of z i) counts ∙ counted_else (w.known r).counts c BulkRevoke _ i d) (λ e. refl)

    some : 1 ≤ (counts_of (now r) c).revoke
    some =
        let is : (counts_of (now r) c).revoke ≡ (counts_of (w.known r).counts c).revoke + 1 =
        ap (λ (z : ThreadView). (counts_of z.counts c).revoke) (with_known_here r l w.known) ∙ ap (λ z. (counts_of z c).revoke) counts
        ∙ ap (λ (z : ClassCounts). z.revoke) (counted_here (w.known r).counts c BulkRevoke _) in
        omega (arith, is)

    classes_law : ClassesFit w.biasing prototype count last (marks x) (bulk_rebiases w.shape.threads now) (bulk_revokes w.shape.threads now)
    classes_law = record {
      plain = λ off i. absurd (cc (on, off));
      unbiased = λ off i. absurd (cc (on, off));
      few = λ a i. few (i == c) ((v clause.classes).few on i);
      prototypes = λ a i. by_equal i c
          (λ e. ap (λ (z : Bool). cond z 1 (f (Prototype i))) (eq-eqb i c e)
          ∙ sym (ap (λ (z : Bool). if z then bulk_rebiases w.shape.threads now i % 4 * 256 + 5 else 1) (ne_eqb (bulk_revokes w.shape.threads now i) 0 (λ z.
          let many = revokes_some w.shape.threads now c r (reached_within w P r reached v) some in
          let none : bulk_revokes w.shape.threads now c ≡ 0 = ap (bulk_revokes w.shape.threads now) (sym e) ∙ z in
          omega (arith, many, none)))))
          (λ d. ap (λ (z : Bool). cond z 1 (f (Prototype i))) (ne_eqb i c d) ∙ (v clause.classes).prototypes on i
          ∙ (let a = rebiases_same w.shape.threads old now i (λ u. ap (λ (z : ClassCounts). z.rebias) (sym (same_else i d u))) in
          let b = revokes_same w.shape.threads old now i (λ u. ap (λ (z : ClassCounts). z.revoke) (sym (same_else i d u))) in
          λ j. if b j == 0 then a j % 4 * 256 + 5 else 1));
    }
      where
        few : {n : ℕ} (a : Bool) → n ≤ most_revocations → cond a d.1 n ≤ most_revocations
        few true h = raised_few (f (Revocations c)) (f (LastBulk c)) b.now ((v clause.classes).few on c)
        few false h = h

    pub revoked_fits : FitsUnseen (revoked_world w r b l) P
    revoked_fits = subst (λ z. FitsUnseen z P) world (classed x P (locks_moved y P (marks y) prototype count last calm_now moves known_before) classes_law)

    -- its object has the bias pattern no more
    pub revoked_plain : is_biased (words_after (revocation_writes w.shape r b f) f (Mark b.object)) ≡ false
    revoked_plain =
        ap (λ (h : WordId → ℕ). is_biased (h (Mark b.object))) words ∙ ap is_biased (sym (other (Mark b.object) refl))
        ∙ revoke_unbiased (with_words (words_after (walk f) f) w) P b.object calm walked.fits
