-- What a mark means that is neutral, or that names a lock record.
use Rattle.core_locks.proofs.Prelude.{◌≡◌, ◌≢◌, ℕ, ◌<◌, ◌==◌, eq-eqb, ne_eqb, Bool, true, false, cond, Option, Some, None, refl}
use Rattle.core_locks.proofs.Prelude.{sym, ap, ◌∙◌, subst, eqb-true, MarkForm, read_mark, mark_of, read_owner, Locked, Neutral}
use Rattle.core_locks.proofs.Prelude.{Biased, read_mark-mark_of, read_mark-spells, is_biased, is_neutral, monitor_in, is_biased_form}
use Rattle.core_locks.proofs.Prelude.{monitor_form, is_neutral_form, Inflation, Open, OnRecord, lock_form, header_form, IsValidBias}
use Rattle.core_locks.proofs.Prelude.{Shape, IsOwner, IsMark, WordsHaveForms, by_equal, mark_zero}

-- a fact of the words of which the one at o is v now: by that of v, and of the others as they were
pub each_set : {A : Type 0} (Q : ℕ → A → Type 0) (o : ℕ) (v : A) (f : ℕ → A) (i : ℕ) → Q o v → (i ≢ o → Q i (f i)) → Q i (cond (i == o) v (f i))
each_set Q o v f i here else_ =
    by_equal i o
    (λ e. subst (λ j. Q j (cond (j == o) v (f j))) (sym e) (subst (λ (b : Bool). Q o (cond b v (f o))) (sym (eq-eqb o o refl)) here))
    (λ d. subst (λ (b : Bool). Q i (cond b v (f i))) (sym (ne_eqb i o d)) (else_ d))

-- A mark that names no monitor and has no bias pattern. No thread counts on it, unless it is 0.
pub record IsBare (n : ℕ) : Type 0 where
  pub unnamed : monitor_in n ≡ None
  pub unbiased : is_biased n ≡ false

pub bare_unnamed : (n a : ℕ) → IsBare n → monitor_in n ≡ Some a → ⊥
bare_unnamed n a b h = let e = b.unnamed in absurd (cc (e, h))

-- no thread counts on a bias that isn't there
pub bare_unbiased : (n prototype : ℕ) → IsBare n → IsValidBias (read_mark n) prototype → ⊥
bare_unbiased n prototype b h = by_form (read_mark n) b.unbiased h
  where
    by_form : (f : Option MarkForm) → is_biased_form f ≡ false → IsValidBias f prototype → ⊥
    by_form (Some (Biased thread epoch age)) e h = absurd (cc e)
    by_form _ e h = h

-- NEUTRAL MARKS. Their age is 0.
pub neutral_is : (n : ℕ) → is_neutral n ≡ true → (hash : ℕ) × (read_mark n ≡ Some (Neutral hash 0))
neutral_is n e = by_form (read_mark n) e
  where
    by_form : (f : Option MarkForm) → is_neutral_form f ≡ true → (hash : ℕ) × (f ≡ Some (Neutral hash 0))
    by_form (Some (Neutral hash age)) e = (hash, ap (λ a. Some (Neutral hash a)) (eqb-true age 0 e))
    by_form _ e = absurd (cc e)

pub neutral_bare : (n : ℕ) → is_neutral n ≡ true → IsBare n
neutral_bare n e = let f = (neutral_is n e).1 in record { unnamed = ap monitor_form f; unbiased = ap is_biased_form f }

pub neutral_some : (n : ℕ) → is_neutral n ≡ true → n ≢ 0
neutral_some n e z = absurd (cc (sym (neutral_is n e).1 ∙ ap read_mark z ∙ mark_zero))

-- nobody has the lock, and the mark is the header itself
pub neutral_lock : (n prototype : ℕ) (owners : ℕ → ℕ) (inflation : Option Inflation)
    → is_neutral n ≡ true → lock_form (read_mark n) prototype owners inflation ≡ Open
neutral_lock n prototype owners inflation e = ap (λ f. lock_form f prototype owners inflation) (neutral_is n e).1

pub neutral_header : (n : ℕ) (displaced : ℕ → ℕ → ℕ) (headers : ℕ → ℕ) (inflation : Option Inflation) → is_neutral n ≡ true
    → header_form (read_mark n) n displaced headers inflation ≡ Some n
neutral_header n displaced headers inflation e = ap (λ f. header_form f n displaced headers inflation) (neutral_is n e).1

-- MARKS THAT NAME A LOCK RECORD. The one that names the record of thread t at place p is read back, and no other word names it.
pub locked_read : (t p : ℕ) → t < 32 → p < 64 → read_mark (mark_of (Locked t p)) ≡ Some (Locked t p)
locked_read t p a b = read_mark-mark_of (Locked t p) (a, b)

pub locked_word : (n t p : ℕ) → read_mark n ≡ Some (Locked t p) → n ≡ mark_of (Locked t p)
locked_word n t p e = (read_mark-spells n (Locked t p) e).1

pub locked_bare : (n t p : ℕ) → read_mark n ≡ Some (Locked t p) → IsBare n
locked_bare n t p e = record { unnamed = ap monitor_form e; unbiased = ap is_biased_form e }

pub locked_some : (n t p : ℕ) → read_mark n ≡ Some (Locked t p) → n ≢ 0
locked_some n t p e z = absurd (cc (sym e ∙ ap read_mark z ∙ mark_zero))

-- the lock rests on that record, whose displaced word is the header
pub locked_lock : (n t p prototype : ℕ) (owners : ℕ → ℕ) (inflation : Option Inflation) → read_mark n ≡ Some (Locked t p)
    → lock_form (read_mark n) prototype owners inflation ≡ OnRecord t p
locked_lock n t p prototype owners inflation e = ap (λ f. lock_form f prototype owners inflation) e

pub locked_header : (n t p : ℕ) (displaced : ℕ → ℕ → ℕ) (headers : ℕ → ℕ) (inflation : Option Inflation) → read_mark n ≡ Some (Locked t p)
    → header_form (read_mark n) n displaced headers inflation ≡ Some (displaced t p)
locked_header n t p displaced headers inflation e = ap (λ f. header_form f n displaced headers inflation) e

-- FORMS. A word of the kind that changes has its form, and so have all.
module _ {s : Shape} {mark owner waiting object class : ℕ → ℕ} {hold : ℕ → ℕ → ℕ} {safe : ℕ}
    (i n : ℕ) (h : WordsHaveForms s mark owner waiting object class hold safe) where
  pub forms_marked : IsMark s (read_mark n) → WordsHaveForms s (λ o. cond (o == i) n (mark o)) owner waiting object class hold safe
  forms_marked is = let marks : (o : ℕ) → IsMark s (read_mark (cond (o == i) n (mark o))) =
      λ o. each_set (λ o y. IsMark s (read_mark y)) i n mark o is (λ d. h.marks o) in search (marks, h)

  pub forms_owned : IsOwner s (read_owner n) → WordsHaveForms s mark (λ m. cond (m == i) n (owner m)) waiting object class hold safe
  forms_owned is = let owners : (m : ℕ) → IsOwner s (read_owner (cond (m == i) n (owner m))) =
      λ m. each_set (λ m y. IsOwner s (read_owner y)) i n owner m is (λ d. h.owners m) in search (owners, h)
