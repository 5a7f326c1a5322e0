-- The two steps that make a mark name a monitor: what each knows of the monitor's words, and that locks and headers stay.
use Rattle.core_locks.proofs.Prelude.{◌≡◌, ◌≢◌, ℕ, ◌<◌, ◌^◌, ◌==◌, Bool, true, cond, List, Option, Some, refl, sym, ap, ◌∙◌, subst, arith, inl}
use Rattle.core_locks.proofs.Prelude.{inr, eqb-true, same_Some, read_mark, mark_of, read_owner, Inflated, ByRecord, read_mark-mark_of, PlainObject}
use Rattle.core_locks.proofs.Prelude.{Mark, Displaced, Owner, Header, Settled, Inflates, is_biased, is_neutral, monitor_in, is_biased_form}
use Rattle.core_locks.proofs.Prelude.{monitor_form, Inflation, inflation_in, recursions_ahead, recursions_lowered, word_after, ThreadView, World}
use Rattle.core_locks.proofs.Prelude.{with_known, Open, OnRecord, record_lock, lock, lock_form, header, header_form, marks, displaced_words}
use Rattle.core_locks.proofs.Prelude.{headers, owner_words, prototype_of, inflations, owner_lock, is_for, record_header, CallContext, Fits}
use Rattle.core_locks.proofs.Prelude.{CompareExchange, Store, InflationsAreOne, by_equal, each_with_known, inflations_stay, mark_zero, owner_zero}
use Rattle.core_locks.proofs.Prelude.{fits_running, KeepsValid, MayName, MayNameNeutral, name_plan, name_neutral_plan}
use Rattle.core_locks.proofs.EvenSteps.{IsEven, even_by}
use Rattle.core_locks.proofs.monitor.InflationOf.{inflation_else, is_other}
use Rattle.core_locks.proofs.MarkChanges.{mark_here, mark_else, zero_back, zero_forth, inflating_by_marks}
use Rattle.core_locks.proofs.MarkMeanings.{neutral_bare, neutral_some, neutral_lock, neutral_header}
use Rattle.core_locks.proofs.monitor.Names.{named_fits}
use Rattle.core_locks.proofs.OwnSeen.{left_with, hit_world}
use Rattle.core_locks.proofs.Steps.{spending, next}
use Rattle.core_locks.proofs.monitor.SwapLaws.{swap_valid}

-- the mark that names a claimed monitor is read back
pub inflated_read : (w : World) (P : List PlainObject) (t m : ℕ) → Fits w P → (w.known t).kept ≡ Some m → read_mark (mark_of (Inflated m)) ≡ Some (Inflated m)
inflated_read w P t m v kept =
    let few = (v.claims.keeps t m kept).0 in
    let small : m < 2 ^ 20 = omega (arith, few, v.limits.threads, v.limits.objects) in
    read_mark-mark_of (Inflated m) small

-- NEUTRAL
module _ (w : World) (P : List PlainObject) (t : ℕ) (e : CallContext) (o mark m : ℕ) (within : t < w.shape.threads)
    (may : MayNameNeutral w.shape (w.known t) e o mark m) (hit : (w.words (Mark o) == mark) ≡ true) (v : Fits w P) where
  abbrev word : ℕ
  word = word_after (CompareExchange mark (mark_of (Inflated m))) (w.words (Mark o))

  abbrev l : ThreadView
  l = left_with w t (name_neutral_plan e o mark m)

  abbrev x : World
  x = hit_world w t (name_neutral_plan e o mark m)

  abbrev z : World
  z = next w t l spending x.words

  form : read_mark word ≡ Some (Inflated m)
  form = ap (λ (b : Bool). read_mark (cond b (mark_of (Inflated m)) (w.words (Mark o)))) hit ∙ inflated_read w P t m v may.ready.kept

  was : marks w o ≡ mark
  was = eqb-true (marks w o) mark hit

  was_neutral : is_neutral (marks w o) ≡ true
  was_neutral = ap is_neutral was ∙ may.neutral

  was_open : lock w o ≡ Open
  was_open = neutral_lock (marks w o) (prototype_of w o) (owner_words w) (inflations w o) was_neutral

  head_is : headers w m ≡ marks w o
  head_is = v.seen.stays t (Header m) mark may.header (inl (may.runs, may.ready.kept)) ∙ sym was

  owner_is : owner_words w m ≡ 0
  owner_is = v.seen.stays t (Owner m) 0 may.owner (inl (may.runs, inl may.ready.kept))

  new_some : word ≢ 0
  new_some h = absurd (cc (sym form ∙ ap read_mark h ∙ mark_zero))

  inflates : ◌≡◌ {A = ℕ → Option Inflation} (λ u. inflation_in (with_known t l w.known u).stage) (λ u. inflation_in (w.known u).stage)
  inflates = λ j. λ u. each_with_known (λ u y. inflation_in y.stage ≡ inflation_in (w.known u).stage) t l w.known u
      (sym (ap inflation_in may.calm)) (λ d. refl) j

  inflation : inflations z ≡ inflations w
  inflation = inflations_stay w.shape.threads _ _ inflates

  locks : (i : ℕ) → lock z i ≡ lock w i
  locks i = by_equal i o
      (λ s.
      ap (lock z) s ∙ (λ j. lock_form (read_mark (mark_here w o word t l j)) (prototype_of w o) (owner_words w) (inflations z o))
      ∙ ap (λ f. lock_form f (prototype_of w o) (owner_words w) (inflations z o)) form
      ∙ ap (λ n. owner_lock (read_owner n)) owner_is ∙ ap owner_lock owner_zero ∙ sym (ap (lock w) s ∙ was_open))
      (λ d. λ j. lock_form (read_mark (mark_else w o word t l i d j)) (prototype_of w i) (owner_words w) (inflation j i))

  heads : (i : ℕ) → header z i ≡ header w i
  heads i = by_equal i o
      (λ s.
      ap (header z) s ∙ (λ j. header_form (read_mark (mark_here w o word t l j)) (mark_here w o word t l j) (displaced_words w) (headers w) (inflations z o))
      ∙ ap (λ f. header_form f word (displaced_words w) (headers w) (inflations z o)) form ∙ ap Some head_is
      ∙ sym (ap (header w) s ∙ neutral_header (marks w o) (displaced_words w) (headers w) (inflations w o) was_neutral))
      (λ d. λ j. header_form (read_mark (mark_else w o word t l i d j)) (mark_else w o word t l i d j) (displaced_words w) (headers w) (inflation j i))

  neutral_fits : Fits x P
  neutral_fits =
      named_fits w P t e o m (CompareExchange mark (mark_of (Inflated m))) within v may.runs may.goes_on may.ready form
      (subst IsEven (sym may.calm) (even_by Settled refl))
      (λ i. (ap (λ s. recursions_ahead s i) may.calm, ap (λ s. recursions_lowered s i) may.calm)) (neutral_bare (marks w o) was_neutral).unnamed
      (neutral_bare (marks w o) was_neutral).unbiased
      (λ u g. absurd (cc (g, was_open))) (ap is_neutral head_is ∙ was_neutral)
      (λ u d i. neutral_some (marks w o) was_neutral (ap (marks w) (sym i.2) ∙ v.inflating.zero u i.0 i.1))
      (λ j. λ i. locks i j) (λ j. λ i. heads i j)
      (subst (λ (y : (ℕ → Option Inflation) × (ℕ → Option Inflation)). InflationsAreOne (marks x) y.0 y.1) (λ j. (sym inflates j, sym inflation j))
      (inflating_by_marks (marks w) (marks x) _ _ (zero_back w o word t l new_some)
      (zero_forth w o word t l (neutral_some (marks w o) was_neutral)) v.inflating))

-- AT THE END OF AN INFLATION
module _ (w : World) (P : List PlainObject) (t : ℕ) (e : CallContext) (o m u p h : ℕ)
    (within : t < w.shape.threads) (may : MayName w.shape (w.known t) e o m u p h) (v : Fits w P) where
  abbrev new : ℕ
  new = mark_of (Inflated m)

  abbrev ll : ThreadView
  ll = left_with w t (name_plan e o m)

  abbrev xx : World
  xx = hit_world w t (name_plan e o m)

  abbrev zz : World
  zz = next w t ll spending xx.words

  abbrev mine : Inflation
  mine = record { object = o; thread = u; place = p }

  read : read_mark new ≡ Some (Inflated m)
  read = inflated_read w P t m v may.ready.kept

  new_not : new ≢ 0
  new_not g = absurd (cc (sym read ∙ ap read_mark g ∙ mark_zero))

  stands : inflation_in (w.known t).stage ≡ Some mine
  stands = ap inflation_in may.stage

  nought : marks w o ≡ 0
  nought = v.inflating.zero t mine stands

  its : inflations w o ≡ Some mine
  its =
      let some = v.inflating.some o nought in
      let same : some.0 ≡ t = v.inflating.one some.0 t some.1 mine some.2 stands some.3 in
      some.4 ∙ sym some.2 ∙ ap (λ y. inflation_in (w.known y).stage) same ∙ stands

  rested : lock w o ≡ OnRecord u p
  rested = ap (λ n. lock_form (read_mark n) (prototype_of w o) (owner_words w) (inflations w o)) nought
      ∙ ap (λ f. lock_form f (prototype_of w o) (owner_words w) (inflations w o)) mark_zero ∙ ap record_lock its

  headed : header w o ≡ Some (displaced_words w u p)
  headed = (λ j. header_form (read_mark (nought j)) (nought j) (displaced_words w) (headers w) (inflations w o))
      ∙ ap (λ f. header_form f 0 (displaced_words w) (headers w) (inflations w o)) mark_zero ∙ ap (λ y. record_header y (displaced_words w)) its

  word_is : displaced_words w u p ≡ h
  word_is = v.seen.stays t (Displaced u p) h may.displaced (inl (may.runs, inr (mine, stands, (refl, refl))))

  header_is : headers w m ≡ displaced_words w u p
  header_is = v.seen.stays t (Header m) h may.header (inl (may.runs, may.ready.kept)) ∙ sym word_is

  owned : read_owner (owner_words w m) ≡ Some (ByRecord u p)
  owned = let saw = may.owner in ap read_owner (v.seen.stays t (Owner m) saw.0 saw.1 (inl (may.runs, inl may.ready.kept))) ∙ saw.2

  -- no other thread inflates o, and the inflations of other objects stay
  apart : (y : ℕ) (i : Inflation) → y ≢ t → inflation_in (w.known y).stage ≡ Some i → i.object ≢ o
  apart y i d is s = d (v.inflating.one y t i mine is stands s)

  infl : (i : ℕ) → i ≢ o → inflations zz i ≡ inflations w i
  infl i d = inflation_else i w.shape.threads (λ y. inflation_in (w.known y).stage) (λ y. inflation_in (with_known t ll w.known y).stage)
      (λ y a. each_with_known (λ y k. is_for i (inflation_in k.stage) a ≡ is_for i (inflation_in (w.known y).stage) a) t ll w.known y
      (sym (ap (λ b. is_for i b a) stands ∙ is_other i mine a (λ s. d (sym s)))) (λ c. refl))

  locks_end : (i : ℕ) → lock zz i ≡ lock w i
  locks_end i = by_equal i o
      (λ s.
      ap (lock zz) s ∙ (λ j. lock_form (read_mark (mark_here w o new t ll j)) (prototype_of w o) (owner_words w) (inflations zz o))
      ∙ ap (λ f. lock_form f (prototype_of w o) (owner_words w) (inflations zz o)) read
      ∙ ap owner_lock owned ∙ sym (ap (lock w) s ∙ rested))
      (λ d. λ j. lock_form (read_mark (mark_else w o new t ll i d j)) (prototype_of w i) (owner_words w) (infl i d j))

  heads_end : (i : ℕ) → header zz i ≡ header w i
  heads_end i = by_equal i o
      (λ s.
      ap (header zz) s ∙ (λ j. header_form (read_mark (mark_here w o new t ll j)) (mark_here w o new t ll j) (displaced_words w) (headers w) (inflations zz o))
      ∙ ap (λ f. header_form f new (displaced_words w) (headers w) (inflations zz o)) read ∙ ap Some header_is ∙ sym (ap (header w) s ∙ headed))
      (λ d. λ j. header_form (read_mark (mark_else w o new t ll i d j)) (mark_else w o new t ll i d j) (displaced_words w) (headers w) (infl i d j))

  one_law : InflationsAreOne (marks xx) (λ y. inflation_in (with_known t ll w.known y).stage) (inflations zz)
  one_law = record {
    some = λ i g. by_equal i o
        (λ s. absurd (new_not (sym (mark_here w o new t ll) ∙ ap (marks xx) (sym s) ∙ g)))
        (λ d.
        let some = v.inflating.some i (sym (mark_else w o new t ll i d) ∙ g) in
        let other : some.0 ≢ t = λ q. (let same : Some some.1 ≡ Some mine = sym some.2 ∙ ap (λ y. inflation_in (w.known y).stage) q ∙ stands in
        d (sym some.3 ∙ ap (λ (y : Inflation). y.object) (same_Some _ _ same))) in (
          some.0,
          some.1,
          each_with_known (λ y k. y ≢ t → inflation_in (w.known y).stage ≡ Some some.1 → inflation_in k.stage ≡ Some some.1) t ll w.known some.0
              (λ c. absurd (c refl)) (λ c _ b. b) other some.2,
          some.3,
          infl i d ∙ some.4,
        ));
    zero = λ y i. each_with_known (λ y k. inflation_in k.stage ≡ Some i → marks xx i.object ≡ 0) t ll w.known y
        (λ c. absurd (cc c)) (λ d is. mark_else w o new t ll i.object (apart y i d is) ∙ v.inflating.zero y i is);
    one = λ y b i j f g. v.inflating.one y b i j (back y i f) (back b j g);
  }
    where
      back : (y : ℕ) (i : Inflation) → inflation_in (with_known t ll w.known y).stage ≡ Some i → inflation_in (w.known y).stage ≡ Some i
      back y i = each_with_known (λ y k. inflation_in k.stage ≡ Some i → inflation_in (w.known y).stage ≡ Some i) t ll w.known y (λ c. absurd (cc c)) (λ d c. c)

  end_fits : Fits xx P
  end_fits =
      named_fits w P t e o m (Store (mark_of (Inflated m))) within v may.runs may.goes_on may.ready read
      (subst IsEven (sym may.stage) (even_by (Inflates o u p) refl))
      (λ i. (ap (λ s. recursions_ahead s i) may.stage, ap (λ s. recursions_lowered s i) may.stage))
      (ap monitor_in nought ∙ ap monitor_form mark_zero) (ap is_biased nought ∙ ap is_biased_form mark_zero)
      (λ y g. absurd (cc (g, rested))) (ap is_neutral header_is ∙ v.records.header o u p rested) (λ y d i. apart y i.0 d i.1 i.2)
      (λ j. λ i. locks_end i j) (λ j. λ i. heads_end i j) one_law

-- THE LAWS
pub names_neutral : (e : CallContext) (o mark m : ℕ) → KeepsValid (λ w t. MayNameNeutral w.shape (w.known t) e o mark m) (λ w t. name_neutral_plan e o mark m)
names_neutral e o mark m w P t within may valid =
    swap_valid w P t (name_neutral_plan e o mark m) within
    (record { outside = λ stopped. let runs = may.runs in absurd (cc (stopped, runs)); found = λ r a is. absurd (cc is) })
    (λ hit. neutral_fits w P t e o mark m within may hit (fits_running w P t may.runs valid)) valid

pub names_inflated : (e : CallContext) (o m u p h : ℕ) → KeepsValid (λ w t. MayName w.shape (w.known t) e o m u p h) (λ w t. name_plan e o m)
names_inflated e o m u p h w P t within may valid = inl (end_fits w P t e o m u p h within may (fits_running w P t may.runs valid))
