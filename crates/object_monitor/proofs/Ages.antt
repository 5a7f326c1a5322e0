-- The waiters by their age: who is the first of them, and who is left without it.
use Rattle.std.proofs.Common.{◌≡◌, ℕ, suc, ◌+◌, ◌<◌, ◌≤◌, Bool, true, false, cond, List, [], ◌∷◌, length, take, drop, set}
use Rattle.std.proofs.Common.{get_or, Option, Some, None, refl, sym, ap, ◌∙◌, arith, length-take, drop-cons, get_or-take}
use Rattle.std.proofs.Math.Seq.{take-set-lt}
use Rattle.mark_word.specs.declared.wait.WaitForm.{WaitForm}
use Rattle.mark_word.specs.declared.wait.WaitForm.TheVariants.{Ready}
use Rattle.mark_word.proofs.ReadingWaits.{read_wait-wait_of}
use Rattle.core_world.specs.Trees.WaitSteps.{waiters, is_older, insert_waiter, by_age}
use Rattle.core_world.specs.Words.Forms.{waits_form, waits_on, stamp_in}
use Rattle.object_monitor.specs.inner.NotifyParts.{first_of, older_of, oldest_with}

-- THE FIRST. One more waiter is the first, or the one that was
first_inserted : (p : ℕ × ℕ) (qs : List (ℕ × ℕ)) → first_of (insert_waiter p qs) ≡ older_of p (first_of qs)
first_inserted p [] = refl
first_inserted p (q ∷ qs) = chosen (is_older p q)
  where
    chosen : (b : Bool) → first_of (cond b (p ∷ q ∷ qs) (q ∷ insert_waiter p qs)) ≡ cond b (Some p) (Some q)
    chosen true = refl
    chosen false = refl

first_more : (o t w : ℕ) (ws : List ℕ) → first_of (by_age (waiters o t (w ∷ ws))) ≡ oldest_with o t w (first_of (by_age (waiters o (t + 1) ws)))
first_more o t w ws = chosen (waits_on w o)
  where
    chosen : (b : Bool) → first_of (by_age (cond b ((t, stamp_in w) ∷ waiters o (t + 1) ws) (waiters o (t + 1) ws)))
        ≡ cond b (older_of (t, stamp_in w) (first_of (by_age (waiters o (t + 1) ws)))) (first_of (by_age (waiters o (t + 1) ws)))
    chosen true = first_inserted (t, stamp_in w) (by_age (waiters o (t + 1) ws))
    chosen false = refl

-- of the first n threads, those from i on have one more, thread i
pub one_down : (o n i : ℕ) (ws : List ℕ) → n ≤ length ws → i < n
    → first_of (by_age (waiters o i (drop i (take n ws)))) ≡ oldest_with o i (get_or ws i 0) (first_of (by_age (waiters o (i + 1) (drop (i + 1) (take n ws)))))
one_down o n i ws fits low =
    let all : length (take n ws) ≡ n = length-take n ws ∙ omega (arith, fits) in
    let next : suc i ≡ i + 1 = omega arith in
    let split = drop-cons (take n ws) i 0 (omega (arith, all, low)) in
    let here = get_or-take n ws i 0 low in
    ap (λ (l : List ℕ). first_of (by_age (waiters o i l))) split
    ∙ first_more o i (get_or (take n ws) i 0) (drop (suc i) (take n ws))
    ∙ λ j. oldest_with o i (here j) (first_of (by_age (waiters o (i + 1) (drop (next j) (take n ws)))))

-- HOW MANY there are: no more than there are words
length_inserted : (p : ℕ × ℕ) (qs : List (ℕ × ℕ)) → length (insert_waiter p qs) ≡ suc (length qs)
length_inserted p [] = refl
length_inserted p (q ∷ qs) = chosen (is_older p q) (length_inserted p qs)
  where
    chosen : (b : Bool) → length (insert_waiter p qs) ≡ suc (length qs) → length (cond b (p ∷ q ∷ qs) (q ∷ insert_waiter p qs)) ≡ suc (suc (length qs))
    chosen true more = refl
    chosen false more = ap suc more

pub few_waiters : (o t : ℕ) (ws : List ℕ) → length (by_age (waiters o t ws)) ≤ length ws
few_waiters o t [] = omega arith
few_waiters o t (w ∷ ws) = chosen (waits_on w o) (few_waiters o (t + 1) ws)
  where
    chosen : (b : Bool) → length (by_age (waiters o (t + 1) ws)) ≤ length ws
        → length (by_age (cond b ((t, stamp_in w) ∷ waiters o (t + 1) ws) (waiters o (t + 1) ws))) ≤ suc (length ws)
    chosen true few = let more = length_inserted (t, stamp_in w) (by_age (waiters o (t + 1) ws)) in omega (arith, few, more)
    chosen false few = omega (arith, few)

-- WITHOUT THE FIRST, whose word is made Ready, the others are left.
pub record Taken (o t : ℕ) (ws : List ℕ) (p : ℕ × ℕ) (ps : List (ℕ × ℕ)) : Type 0 where
  pub place : ℕ
  pub is : p.0 ≡ t + place
  pub within : place < length ws
  pub left : by_age (waiters o t (set ws place 0)) ≡ ps

abbrev number_first : List (ℕ × ℕ) → ℕ
number_first [] = 0
number_first (p ∷ ps) = p.0

abbrev pub others_than_first : List (ℕ × ℕ) → List (ℕ × ℕ)
others_than_first [] = []
others_than_first (p ∷ ps) = ps

ready_waits : (o : ℕ) → waits_on 0 o ≡ false
ready_waits o = ap (λ (f : Option WaitForm). waits_form f o) (read_wait-wait_of Ready tt)

-- a word more, in front
module _ (o t w : ℕ) (ws : List ℕ) (p : ℕ × ℕ) (ps : List (ℕ × ℕ)) where
  abbrev me : ℕ × ℕ
  me = (t, stamp_in w)

  abbrev chosen : Bool → List ℕ → List (ℕ × ℕ)
  chosen b xs = cond b (me ∷ waiters o (t + 1) xs) (waiters o (t + 1) xs)

  without_me : by_age (waiters o t (0 ∷ ws)) ≡ by_age (waiters o (t + 1) ws)
  without_me = ap (λ (b : Bool). by_age (cond b ((t, stamp_in 0) ∷ waiters o (t + 1) ws) (waiters o (t + 1) ws))) (ready_waits o)

  -- it is the first itself
  is_me : (qs : List (ℕ × ℕ)) → by_age (waiters o (t + 1) ws) ≡ qs → me ∷ qs ≡ p ∷ ps → Taken o t (w ∷ ws) p ps
  is_me qs rest e = record {
    place = 0;
    is = sym (ap number_first e) ∙ omega arith;
    within = omega arith;
    left = without_me ∙ rest ∙ ap others_than_first e;
  }

  -- it comes after the first, who is among the others
  after : (q : ℕ × ℕ) (qs : List (ℕ × ℕ)) → waits_on w o ≡ true → q ∷ insert_waiter me qs ≡ p ∷ ps → Taken o (t + 1) ws q qs → Taken o t (w ∷ ws) p ps
  after q qs on e r = record {
    place = suc r.place;
    is = let from = r.is in sym (ap number_first e) ∙ omega (arith, from);
    within = let low = r.within in omega (arith, low);
    left = ap (λ (b : Bool). by_age (chosen b (set ws r.place 0))) on ∙ ap (insert_waiter me) r.left ∙ ap others_than_first e;
  }

  among : (qs : List (ℕ × ℕ)) → waits_on w o ≡ true → by_age (waiters o (t + 1) ws) ≡ qs → insert_waiter me qs ≡ p ∷ ps
      → ((q : ℕ × ℕ) (qs : List (ℕ × ℕ)) → by_age (waiters o (t + 1) ws) ≡ q ∷ qs → Taken o (t + 1) ws q qs) → Taken o t (w ∷ ws) p ps
  among [] on rest e below = is_me [] rest e
  among (q ∷ qs) on rest e below = older (is_older me q) e
    where
      older : (b : Bool) → cond b (me ∷ q ∷ qs) (q ∷ insert_waiter me qs) ≡ p ∷ ps → Taken o t (w ∷ ws) p ps
      older true e = is_me (q ∷ qs) rest e
      older false e = after q qs on e (below q qs rest)

  one_more : (b : Bool) → waits_on w o ≡ b → by_age (chosen b ws) ≡ p ∷ ps
      → ((q : ℕ × ℕ) (qs : List (ℕ × ℕ)) → by_age (waiters o (t + 1) ws) ≡ q ∷ qs → Taken o (t + 1) ws q qs) → Taken o t (w ∷ ws) p ps
  one_more true on e below = among (by_age (waiters o (t + 1) ws)) on refl e below
  one_more false off e below =
      let r = below p ps e in
      record {
        place = suc r.place;
        is = let from = r.is in from ∙ omega arith;
        within = let low = r.within in omega (arith, low);
        left = ap (λ (b : Bool). by_age (chosen b (set ws r.place 0))) off ∙ r.left;
      }

pub taken : (o t : ℕ) (ws : List ℕ) (p : ℕ × ℕ) (ps : List (ℕ × ℕ)) → by_age (waiters o t ws) ≡ p ∷ ps → Taken o t ws p ps
taken o t [] p ps e = absurd (cc e)
taken o t (w ∷ ws) p ps e = one_more o t w ws p ps (waits_on w o) refl e (taken o (t + 1) ws)

-- the same of the first n words
pub record TakenOf (o n : ℕ) (words : List ℕ) (p : ℕ × ℕ) (ps : List (ℕ × ℕ)) : Type 0 where
  pub within : p.0 < n
  pub left : by_age (waiters o 0 (take n (set words p.0 0))) ≡ ps

pub taken_of : (o n : ℕ) (words : List ℕ) (p : ℕ × ℕ) (ps : List (ℕ × ℕ))
    → n ≤ length words → by_age (waiters o 0 (take n words)) ≡ p ∷ ps → TakenOf o n words p ps
taken_of o n words p ps fits e =
    let r = taken o 0 (take n words) p ps e in
    let all : length (take n words) ≡ n = length-take n words ∙ omega (arith, fits) in
    let from = r.is in
    let low = r.within in
    let is : p.0 ≡ r.place = omega (arith, from) in
    let within : p.0 < n = omega (arith, is, low, all) in
    record {
      within = within;
      left = ap (λ (l : List ℕ). by_age (waiters o 0 l)) (take-set-lt n words p.0 0 within)
          ∙ ap (λ (i : ℕ). by_age (waiters o 0 (set (take n words) i 0))) is ∙ r.left;
    }

abbrev one_or : ℕ × ℕ → Option (ℕ × ℕ) → ℕ × ℕ
one_or p None = p
one_or p (Some x) = x

-- what is first has others after it
pub first_and_others : (ps : List (ℕ × ℕ)) (p : ℕ × ℕ) → first_of ps ≡ Some p → ps ≡ p ∷ others_than_first ps
first_and_others [] p e = absurd (cc e)
first_and_others (q ∷ qs) p e = ap (λ (x : Option (ℕ × ℕ)). one_or p x ∷ qs) e
