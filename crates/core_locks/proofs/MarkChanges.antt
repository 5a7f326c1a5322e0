-- The mark of one object changes: what stays of marks, locks and headers, which clauses read of marks only what stays, and that the other
-- threads don't count on the mark that was there.
use Rattle.core_locks.proofs.Prelude.{◌≡◌, ◌≢◌, ◌⊎◌, ℕ, ◌||◌, eq-eqb, ne_eqb, Bool, true, false, cond, List, [], Option, Some, None, refl, sym}
use Rattle.core_locks.proofs.Prelude.{ap, ◌∙◌, subst, inl, inr, read_mark, Logged, Mark, Stage, is_biased, monitor_in, Inflation, inflation_in}
use Rattle.core_locks.proofs.Prelude.{bears, revocation_in, ThreadView, World, with_word_and_known, with_known, Lock, BiasedTo, OnRecord, OwnedBy, lock}
use Rattle.core_locks.proofs.Prelude.{lock_form, header, header_form, marks, displaced_words, headers, owner_words, prototype_of, inflations}
use Rattle.core_locks.proofs.Prelude.{IsValidBias, RecursionsFit, GoesByMonitor, WaitsFit, HashesFit, BiasedAreFree, InflationsAreOne, MonitorsAreClaimed}
use Rattle.core_locks.proofs.Prelude.{ClassesFit, Unfinished, MonitorsAreNamed, by_equal, stays_back, Back, Spares, Moving, has_class}
use Rattle.core_locks.proofs.OwnSeen.{either}
use Rattle.core_locks.proofs.MarkMeanings.{each_set, IsBare, bare_unnamed, bare_unbiased}

-- MARKS f AND g THAT NAME THE SAME MONITORS. Four clauses read nothing else of marks.
module _ (f g : ℕ → ℕ) (same : (i : ℕ) → monitor_in (f i) ≡ monitor_in (g i)) where
  back : (i a : ℕ) → monitor_in (g i) ≡ Some a → monitor_in (f i) ≡ Some a
  back i a e = same i ∙ e

  named : ◌≡◌ {A = ℕ → Option ℕ} (λ i. monitor_in (f i)) (λ i. monitor_in (g i))
  named = λ j. λ i. same i j

  pub monitors_by_marks : (object header : ℕ → ℕ) → MonitorsAreNamed (λ i. monitor_in (f i)) object header
      → MonitorsAreNamed (λ i. monitor_in (g i)) object header
  monitors_by_marks object header = subst (λ n. MonitorsAreNamed n object header) named

  pub claims_by_marks : (threads objects monitors bits claim end : ℕ) (ring : ℕ → ℕ) (kept : ℕ → Option ℕ) (moving : ℕ → Moving)
      → MonitorsAreClaimed threads objects monitors bits claim end ring (λ i. monitor_in (f i)) kept moving
      → MonitorsAreClaimed threads objects monitors bits claim end ring (λ i. monitor_in (g i)) kept moving
  claims_by_marks threads objects monitors bits claim end ring kept moving =
      subst (λ n. MonitorsAreClaimed threads objects monitors bits claim end ring n kept moving) named

  pub waits_by_marks : (wait own : ℕ → ℕ) (log : ℕ → List Logged) (stage : ℕ → Stage)
      (operation : ℕ → Option Unfinished) (running : ℕ → Bool) (waits called : ℕ → List (ℕ × ℕ))
      → WaitsFit (λ i. monitor_in (f i)) wait own log stage operation running waits called
      → WaitsFit (λ i. monitor_in (g i)) wait own log stage operation running waits called
  waits_by_marks wait own log stage operation running waits called = subst (λ n. WaitsFit n wait own log stage operation running waits called) named

  -- the locks may change too, but for those of inflated objects; and nobody comes to have one through a monitor
  pub recursions_by_marks : (recursions : ℕ → ℕ) (lock next : ℕ → Lock) (holds : ℕ → List ℕ)
      (stage : ℕ → Stage) (saved : ℕ → ℕ) (displaced : ℕ → ℕ → ℕ) (waits called : ℕ → List (ℕ × ℕ))
      → ((i u : ℕ) → next i ≡ OwnedBy u → lock i ≡ OwnedBy u) → ((i a : ℕ) → monitor_in (f i) ≡ Some a → next i ≡ lock i)
      → RecursionsFit f recursions lock holds stage saved displaced waits called → RecursionsFit g recursions next holds stage saved displaced waits called
  recursions_by_marks recursions lock next holds stage saved displaced waits called thread_owns inflated h = record {
    first = λ i t p e. h.first i t p (goes i t e);
    others = λ i t p d e. h.others i t p d (goes i t e);
    owned = λ i a t e k. h.owned i a t (back i a e) (thread_owns i t k);
    waiting = h.waiting;
    on_record = λ i a t p e k. h.on_record i a t p (back i a e) (sym (inflated i a (back i a e)) ∙ k);
    free = λ i a e k. h.free i a (back i a e) (sym (inflated i a (back i a e)) ∙ k);
    thread_owns = h.thread_owns;
  }
    where
      goes : (i t : ℕ) → GoesByMonitor (next i) (waits i) (called i) t → GoesByMonitor (lock i) (waits i) (called i) t
      goes i t (inl e) = inl (thread_owns i t e)
      goes i t (inr e) = inr e

-- a mark with the bias pattern had it before, and its object leans to the same thread as before
pub biases_by_marks : (f g : ℕ → ℕ) (lock next : ℕ → Lock) (holds : ℕ → List ℕ) (hash : ℕ → ℕ) (waits called : ℕ → List (ℕ × ℕ))
    → ((i : ℕ) → is_biased (g i) ≡ true → is_biased (f i) ≡ true)
    → ((i t : ℕ) → lock i ≡ BiasedTo t → is_biased (g i) ≡ true → next i ≡ BiasedTo t)
    → BiasedAreFree f lock holds hash waits called → BiasedAreFree g next holds hash waits called
biases_by_marks f g lock next holds hash waits called back leans h = search (back, leans, h.hashless, h.nobody, h.unheld)

-- without biasing no mark gets a bias pattern
pub classes_by_marks : (biasing : Bool) (prototype count last f g rebiased revoked : ℕ → ℕ) → ((i : ℕ) → is_biased (f i) ≡ false → is_biased (g i) ≡ false)
    → ClassesFit biasing prototype count last f rebiased revoked → ClassesFit biasing prototype count last g rebiased revoked
classes_by_marks biasing prototype count last f g rebiased revoked forth h = search (forth, h.unbiased, h)

-- a mark without the bias pattern had none before, and a lock that rests on a record rested there
pub hashes_by_marks : (f g : ℕ → ℕ) (lock next : ℕ → Lock) (header : ℕ → Option ℕ) (holds : ℕ → List ℕ) (displaced : ℕ → ℕ → ℕ) (hash : ℕ → ℕ)
    → ((i : ℕ) → is_biased (g i) ≡ false → is_biased (f i) ≡ false) → ((i u p : ℕ) → next i ≡ OnRecord u p → lock i ≡ OnRecord u p)
    → HashesFit f lock header holds displaced hash → HashesFit g next header holds displaced hash
hashes_by_marks f g lock next header holds displaced hash before rested h = record {
  stands = h.stands;
  records = λ i u p a b. h.records i u p a (before i b);
  on_record = λ i u p r. h.on_record i u p (rested i u p r);
}

-- the same marks are 0
pub inflating_by_marks : (f g : ℕ → ℕ) (inflates inflation : ℕ → Option Inflation) → ((i : ℕ) → g i ≡ 0 → f i ≡ 0) → ((i : ℕ) → f i ≡ 0 → g i ≡ 0)
    → InflationsAreOne f inflates inflation → InflationsAreOne g inflates inflation
inflating_by_marks f g inflates inflation back forth h = search (back, forth, h.some, h.zero, h)

-- THE MARK m IS WRITTEN AT o by a step of thread t, which knows l then.
module _ (w : World) (o m t : ℕ) (l : ThreadView) where
  abbrev x : World
  x = with_word_and_known (Mark o) m t l w

  pub mark_here : marks x o ≡ m
  mark_here = ap (λ (b : Bool). cond b m (marks w o)) (eq-eqb o o refl)

  pub mark_else : (i : ℕ) → i ≢ o → marks x i ≡ marks w i
  mark_else i d = ap (λ (b : Bool). cond b m (marks w i)) (ne_eqb i o d)

  -- the same monitor is named, where the old mark and the new one name the same
  pub names_same : monitor_in (marks w o) ≡ monitor_in m → (i : ℕ) → monitor_in (marks w i) ≡ monitor_in (marks x i)
  names_same e i = each_set (λ j y. monitor_in (marks w j) ≡ monitor_in y) o m (marks w) i e (λ d. refl)

  pub bias_back : is_biased m ≡ false → (i : ℕ) → is_biased (marks x i) ≡ true → (i ≢ o) × (is_biased (marks w i) ≡ true)
  bias_back plain i =
      each_set (λ j y. is_biased y ≡ true → (j ≢ o) × (is_biased (marks w j) ≡ true)) o m (marks w) i (λ h. absurd (cc (h, plain))) (λ d h. (d, h))

  pub bias_forth : is_biased m ≡ false → (i : ℕ) → is_biased (marks w i) ≡ false → is_biased (marks x i) ≡ false
  bias_forth plain i = each_set (λ j y. is_biased (marks w j) ≡ false → is_biased y ≡ false) o m (marks w) i (λ h. plain) (λ d h. h)

  pub bias_before : is_biased (marks w o) ≡ false → (i : ℕ) → is_biased (marks x i) ≡ false → is_biased (marks w i) ≡ false
  bias_before plain i = each_set (λ j y. is_biased y ≡ false → is_biased (marks w j) ≡ false) o m (marks w) i (λ h. plain) (λ d h. h)

  pub zero_back : m ≢ 0 → (i : ℕ) → marks x i ≡ 0 → marks w i ≡ 0
  zero_back some i = each_set (λ j y. y ≡ 0 → marks w j ≡ 0) o m (marks w) i (λ h. absurd (some h)) (λ d h. h)

  pub zero_forth : marks w o ≢ 0 → (i : ℕ) → marks w i ≡ 0 → marks x i ≡ 0
  zero_forth some i = each_set (λ j y. marks w j ≡ 0 → y ≡ 0) o m (marks w) i (λ h. absurd (some h)) (λ d h. h)

  -- the locks and headers, where the same objects are in the middle of an inflation
  module _ (inflation : inflations w ≡ inflations x) where
    pub lock_else : (i : ℕ) → i ≢ o → lock x i ≡ lock w i
    lock_else i d = λ j. lock_form (read_mark (mark_else i d j)) (prototype_of w i) (owner_words w) (sym inflation j i)

    -- the lock of the object is this one now, and each other lock is as before
    pub lock_at : (f : Lock) → lock_form (read_mark m) (prototype_of w o) (owner_words w) (inflations w o) ≡ f
        → (i : ℕ) → ((i ≡ o) × (lock x i ≡ f)) ⊎ ((i ≢ o) × (lock x i ≡ lock w i))
    lock_at f e i = by_equal i o
        (λ a. inl (a, ap (lock x) a ∙ (λ j. lock_form (read_mark (mark_here j)) (prototype_of w o) (owner_words w) (sym inflation j o)) ∙ e))
        (λ d. inr (d, lock_else i d))

    -- all headers stay, where the new mark means the header that the old one meant
    pub header_same : header_form (read_mark m) m (displaced_words w) (headers w) (inflations w o) ≡ header w o → header w ≡ header x
    header_same e = λ j. λ i. sym (by_equal i o
        (λ a. ap (header x) a ∙ (λ j. header_form (read_mark (mark_here j)) (mark_here j) (displaced_words w) (headers w) (sym inflation j o)) ∙ e
        ∙ ap (header w) (sym a))
        (λ d. λ j. header_form (read_mark (mark_else i d j)) (mark_else i d j) (displaced_words w) (headers w) (sym inflation j i))) j

  -- what thread u, which knew k and knows y, may count on after the step it could count on before; so it is with the thread that makes
  -- the step and with the others
  pub mark_back : (k y : ThreadView) (owner next : ℕ → ℕ → Bool) (u : ℕ) → ((i a : ℕ) → monitor_in (marks x i) ≡ Some a → monitor_in (marks w i) ≡ Some a)
      → y.running ≡ k.running → y.requesting ≡ k.requesting → inflation_in y.stage ≡ inflation_in k.stage
      → (revocation_in y.stage ≡ None → revocation_in k.stage ≡ None) → y.kept ≡ k.kept → ((i : ℕ) → next i u ≡ true → owner i u ≡ true)
      → ((i a : ℕ) → monitor_in (marks x i) ≡ Some a → (next i u || bears y.stage i) ≡ true → (owner i u || bears k.stage i) ≡ true) → Back w x k y owner next u
  mark_back k y owner next u names run ask inflates none_revokes kept owned held =
      search (sym run, sym ask, sym inflates, sym kept, none_revokes, names, owned, held)

  -- No other thread counts on the old mark: it names no monitor, has no bias pattern and isn't 0. The new one may be 0.
  pub mark_spares : (owner next : ℕ → ℕ → Bool) (waiters next_waiters : ℕ → List (ℕ × ℕ)) → IsBare (marks w o) → marks w o ≢ 0 → IsBare m
      → ((u : ℕ) (i : Inflation) → inflation_in (w.known u).stage ≡ Some i → marks w i.object ≡ 0)
      → ((u i : ℕ) → u ≢ t → next i u ≡ true → owner i u ≡ true) → ((u i : ℕ) → u ≢ t → owner i u ≡ true → waiters i ≡ [] → next_waiters i ≡ [])
      → ((u : ℕ) → (with_known t l w.known u).reached ≡ true → ⊥) → ((i : ℕ) → is_biased (marks w i) ≡ true → has_class w.shape w.words i ≡ true)
      → Spares (Mark o) m t l w owner next waiters next_waiters
  mark_spares owner next waiters next_waiters old some new inflating owned unwaited unreached classed =
      let names : (i : ℕ) → monitor_in (marks w i) ≡ monitor_in (marks x i) = names_same (old.unnamed ∙ sym new.unnamed) in
      record {
        before = λ u n s d e g.
            stays_back w x (w.known u) (w.known u) owner next u
            (mark_back (w.known u) (w.known u) owner next u (λ i a h. names i ∙ h) refl refl refl (λ a. a) refl (λ i. owned u i d)
            (λ i a h b. either (next i u) (bears (w.known u).stage i) (owner i u) (owned u i d) b)) n s g;
        owned = λ u i d. owned u i d;
        word = λ u s d st is. absurd (elim st [
          | inl a ↦ elim a.1 [
            | inl b ↦ bare_unbiased (marks w o) (prototype_of w o) old (subst (λ y. IsValidBias (read_mark y) (prototype_of w o)) (sym is) b)
            | inr b ↦ elim b [
              | inl c ↦ bare_unnamed (marks w o) c.0 old (ap monitor_in is ∙ c.1)
              | inr c ↦ elim c [
                | inl f ↦ some (ap (marks w) (sym f.2) ∙ inflating u f.0 f.1)
                | inr f ↦ let bare = old.unbiased in let bias = ap is_biased is ∙ f.0 in absurd (cc (bare, bias))
              ]
            ]
          ]
          | inr a ↦ bare_unbiased (marks w o) (prototype_of w o) old (subst (λ y. IsValidBias (read_mark y) (prototype_of w o)) (sym is) a.2)
        ]);
        bias = λ u i s e r. bias_forth new.unbiased i;
        there = λ i h. h;
        classed = λ i h. classed i (bias_back new.unbiased i h).1;
        waits = λ u i j d e h. h;
        unwaited = unwaited;
        unreached = unreached;
        names = λ i a e. sym (names i) ∙ e;
      }
