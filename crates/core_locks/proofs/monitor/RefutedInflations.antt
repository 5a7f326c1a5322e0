-- Steps that would inflate a lock: what a world in which every clause holds says of marks that are inflated, or that name a monitor.
use Rattle.core_locks.proofs.Prelude.{◌≡◌, ℕ, ◌==◌, Bool, true, false, List, Option, Some, None, refl, sym, ap, ◌∙◌, arith, inl, inr}
use Rattle.core_locks.proofs.Prelude.{slice_index, read_mark, MarkForm, PlainObject, RecordLocked, Inflates, is_neutral, hash_in}
use Rattle.core_locks.proofs.Prelude.{hold_word, Inflation, inflation_in, one_if, World, OnRecord, lock, header, header_form, marks}
use Rattle.core_locks.proofs.Prelude.{displaced_words, headers, inflations, record_lock, Fits, same_Some, mark_zero, hold_some, subst}
use Rattle.core_locks.proofs.Prelude.{◌≤◌, Inflating, Neutral, Anonymous, Biased, Locked, Inflated, Marked, mark_of, read_mark-spells}
use Rattle.core_locks.proofs.Prelude.{Shape, monitor_form, hash_form, is_neutral_form, record_header, IsMark, lock_by_form}
use Rattle.core_locks.proofs.MarkMeanings.{neutral_is}
use Rattle.core_locks.proofs.enter_exit.MarkHolds.{standing_names}
use Rattle.core_locks.proofs.monitor.OwnerTurns.{one_place}
use Rattle.core_locks.proofs.enter_exit.Seizes.{same_place}

-- THE MARK THAT NAMES A MONITOR is read back, where it spells a form that a mark may have.
pub inflated_form_of : (s : Shape) (m : ℕ) → IsMark s (read_mark (mark_of (Inflated m))) → read_mark (mark_of (Inflated m)) ≡ Some (Inflated m)
inflated_form_of s m ok = by_form (read_mark (mark_of (Inflated m))) refl ok
  where
    by_form : (f : Option MarkForm) → read_mark (mark_of (Inflated m)) ≡ f → IsMark s f → read_mark (mark_of (Inflated m)) ≡ Some (Inflated m)
    by_form None r h = absurd h
    by_form (Some Marked) r h = absurd h
    by_form (Some Inflating) r h = let a = (read_mark-spells _ Inflating r).1 in absurd (omega (arith, a))
    by_form (Some (Neutral hash age)) r h = let a = (read_mark-spells _ (Neutral hash age) r).1 in absurd (omega (arith, a))
    by_form (Some (Anonymous epoch age)) r h = let a = (read_mark-spells _ (Anonymous epoch age) r).1 in absurd (omega (arith, a))
    by_form (Some (Biased thread epoch age)) r h = let a = (read_mark-spells _ (Biased thread epoch age) r).1 in absurd (omega (arith, a))
    by_form (Some (Locked thread place)) r h = let a = (read_mark-spells _ (Locked thread place) r).1 in absurd (omega (arith, a))
    by_form (Some (Inflated n)) r h = let a = (read_mark-spells _ (Inflated n) r).1 in
        r ∙ ap (λ k. Some (Inflated k)) (let same : n ≡ m = omega (arith, a) in same)

-- HEADERS. An object's header is neutral; neutral words with one hash are one word, as their age is 0.
pub header_is_neutral : (w : World) (P : List PlainObject) (o h : ℕ) → Fits w P → header w o ≡ Some h → is_neutral h ≡ true
header_is_neutral w P o h v e = by_form (read_mark (marks w o)) refl e
  where
    by_inflation : (i : Option Inflation) → inflations w o ≡ i → read_mark (marks w o) ≡ Some Inflating
        → record_header i (displaced_words w) ≡ Some h → is_neutral h ≡ true
    by_inflation None a r g = absurd (cc g)
    by_inflation (Some i) a r g =
        let rests : lock w o ≡ OnRecord i.thread i.place = lock_by_form w o Inflating r ∙ ap record_lock a in
        ap is_neutral (sym (same_Some _ _ g)) ∙ v.records.header o i.thread i.place rests

    by_form : (f : Option MarkForm) → read_mark (marks w o) ≡ f
        → header_form f (marks w o) (displaced_words w) (headers w) (inflations w o) ≡ Some h → is_neutral h ≡ true
    by_form (Some Inflating) r g = by_inflation (inflations w o) refl r g
    by_form (Some (Neutral hash age)) r g =
        let none : age ≡ 0 = subst (IsMark w.shape) r (v.forms.marks o) in
        ap is_neutral (sym (same_Some _ _ g)) ∙ ap is_neutral_form r ∙ ap (λ a. a == 0) none
    by_form (Some (Locked t p)) r g = ap is_neutral (sym (same_Some _ _ g)) ∙ v.records.header o t p (lock_by_form w o (Locked t p) r)
    by_form (Some (Inflated m)) r g = ap is_neutral (sym (same_Some _ _ g)) ∙ v.monitors.neutral o m (ap monitor_form r)
    by_form _ r g = absurd (cc g)

neutral_word : (n : ℕ) → is_neutral n ≡ true → n ≡ mark_of (Neutral (hash_in n) 0)
neutral_word n e = let f = neutral_is n e in (read_mark-spells n (Neutral f.0 0) f.1).1 ∙ ap (λ h. mark_of (Neutral h 0)) (sym (ap hash_form f.1))

pub same_header : (m n : ℕ) → is_neutral m ≡ true → is_neutral n ≡ true → hash_in m ≡ hash_in n → m ≡ n
same_header m n a b same = neutral_word m a ∙ ap (λ h. mark_of (Neutral h 0)) same ∙ sym (neutral_word n b)

-- AN INFLATION UNDER WAY: the mark is 0, and the lock rests on the record that it named.
module _ (w : World) (P : List PlainObject) (t o u p : ℕ) (v : Fits w P) (at : (w.known t).stage ≡ Inflates o u p) where
  abbrev mine : Inflation
  mine = record { object = o; thread = u; place = p }

  pub inflated_mark : marks w o ≡ 0
  inflated_mark = v.inflating.zero t mine (ap inflation_in at)

  inflation_is : inflations w o ≡ Some mine
  inflation_is =
      let some = v.inflating.some o inflated_mark in
      let same : some.0 ≡ t = v.inflating.one some.0 t some.1 mine some.2 (ap inflation_in at) some.3 in
      some.4 ∙ sym some.2 ∙ ap (λ y. inflation_in (w.known y).stage) same ∙ ap inflation_in at

  pub inflating_lock : lock w o ≡ OnRecord u p
  inflating_lock = lock_by_form w o Inflating (ap read_mark inflated_mark ∙ mark_zero) ∙ ap record_lock inflation_is

-- ONE RECORD. Of a thread that has a lock by a record before and after a step, it is the same record: its one hold word of depth 1 stands there.
pub same_record : (w x : World) (P Q : List PlainObject) (o u p q : ℕ) → Fits w P → Fits x Q → (x.known u).holds ≡ (w.known u).holds
    → ((a : ℕ) → (x.known u).stage ≡ RecordLocked o a → (w.known u).stage ≡ RecordLocked o a) → lock w o ≡ OnRecord u p → lock x o ≡ OnRecord u q → p ≡ q
same_record w x P Q o u p q before afterwards holds stage was is = elim (afterwards.records.first o u q is) [
  | inr s ↦ (same_place u p u q (sym was ∙ (before.records.seized o u q (stage q s)).0)).1
  | inl b ↦ elim (before.records.first o u p was) [
    | inl a ↦ one_place (hold_word o 1) (w.known u).holds 0 p q (hold_some o 1)
        (at_most _ (before.holds.each u o 0 (omega arith))) a (ap (λ hs. slice_index hs q) (sym holds) ∙ b)
    | inr s ↦
        let none = (before.records.seized o u p s).3 in
        let some = standing_names w P before u q o 1 (omega arith) (ap (λ hs. slice_index hs q) (sym holds) ∙ b) in
        absurd (omega (arith, none, some))
  ]
]
  where
    at_most : (b : Bool) {n : ℕ} → n ≡ one_if b → n ≤ 1
    at_most true e = omega (arith, e)
    at_most false e = omega (arith, e)
