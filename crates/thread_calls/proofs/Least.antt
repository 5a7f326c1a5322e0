-- The least object that the hold words of a thread at rest name is the least that it holds.
use Rattle.std.proofs.Common.{◌≡◌, ℕ, zero, suc, ◌+◌, ◌<◌, ◌≤◌, ◌==◌, min, nat_le, nat_lt, le-leb, ltb-true, ltb-false, eq-eqb, ne_eqb, if◌then◌else◌}
use Rattle.std.proofs.Common.{Bool, true, false, List, [], ◌∷◌, length, slice_index, Option, Some, None, refl, sym, ap, ◌∙◌, subst, arith, inl, inr}
use Rattle.std.proofs.lemmas.Bool.{cases_eq}
use Rattle.plain_monitor.specs.Limits.{most_holds}
use Rattle.mark_word.specs.declared.hold.HoldForm.{HoldForm}
use Rattle.mark_word.specs.declared.hold.HoldForm.TheVariants.{Empty, Holds}
use Rattle.mark_word.specs.Hold.{read_hold}
use Rattle.core_world.specs.Clauses.WordForms.{IsHold}
use Rattle.core_world.specs.Locks.{count_where, hold_count}
use Rattle.core_world.specs.Threads.ThreadView.{ThreadView}
use Rattle.core_world.specs.Threads.Stages.{one_if}
use Rattle.core_world.specs.Words.Forms.{names, names_form}
use Rattle.core_world.specs.Words.Shape.{Shape}
use Rattle.heap_table.specs.Resting.{Rests}
use Rattle.heap_table.specs.Seen.{HeapSeen, PassSeen}
use Rattle.own_logs.proofs.Settled.{settled}
use Rattle.plain_machine.specs.Asking.{held_from}
use Rattle.thread_frame.specs.Sights.{counts_from}
use Rattle.thread_calls.specs.inner.Least.{least_in, lesser, object_in}

pub lesser_thrice : (x y z : Option ℕ) → lesser x (lesser y z) ≡ lesser (lesser x y) z
lesser_thrice None y z = refl
lesser_thrice (Some a) None z = refl
lesser_thrice (Some a) (Some b) None = refl
lesser_thrice (Some a) (Some b) (Some c) = ap Some (omega arith)

pub lesser_none : (x : Option ℕ) → lesser x None ≡ x
lesser_none None = refl
lesser_none (Some a) = refl

-- LEAST by counts of n objects
abbrev IsLeastOf : ℕ → (ℕ → ℕ) → Option ℕ → Type 0
IsLeastOf n count None = (o : ℕ) → count o ≡ 0
IsLeastOf n count (Some o) = (o < n) × (1 ≤ count o) × ((i : ℕ) → i < o → count i ≡ 0)

named : (a : ℕ) (count : ℕ → ℕ) → 1 ≤ one_if (a == a) + count a
named a count = let e = ap one_if (eq-eqb a a refl) in omega (arith, e)

unnamed : (a j : ℕ) (count : ℕ → ℕ) → j < a → count j ≡ 0 → one_if (a == j) + count j ≡ 0
unnamed a j count l z = let e = ap one_if (ne_eqb a j (λ e. omega (arith, e, l))) in omega (arith, e, z)

module _ (s : Shape) where
  -- one word more
  one_word : (f : Option HoldForm) (count : ℕ → ℕ) (r : Option ℕ) → IsHold s f → IsLeastOf (length s.objects) count r
      → IsLeastOf (length s.objects) (λ o. one_if (names_form f o) + count o) (lesser (object_in f) r)
  one_word None count r i h = absurd i
  one_word (Some Empty) count None i h = λ o. let z = h o in omega (arith, z)
  one_word (Some Empty) count (Some b) i h = let one = h.1 in (h.0, omega (arith, one), λ j l. let z = h.2 j l in omega (arith, z))
  one_word (Some (Holds a d)) count None i h = (i, named a count, λ j l. unnamed a j count l (h j))
  one_word (Some (Holds a d)) count (Some b) i h = cases (nat_lt a b) refl
    where
      cases : (w : Bool) → nat_lt a b ≡ w → IsLeastOf (length s.objects) (λ o. one_if (a == o) + count o) (Some (min a b))
      cases true w =
          let l : a < b = ltb-true a b w in
          let e : a ≡ min a b = omega (arith, l) in
          subst (λ (m : ℕ). IsLeastOf (length s.objects) (λ o. one_if (a == o) + count o) (Some m)) e
          (i, named a count, λ j k. unnamed a j count k (h.2 j (omega (arith, k, l))))
      cases false w =
          let l : b ≤ a = ltb-false a b w in
          let e : b ≡ min a b = omega (arith, l) in
          subst (λ (m : ℕ). IsLeastOf (length s.objects) (λ o. one_if (a == o) + count o) (Some m)) e
          (h.0, omega (arith, h.1), λ j k. unnamed a j count (omega (arith, k, l)) (h.2 j k))

  all_words : (p : ℕ) (hs : List ℕ) → ((j : ℕ) → IsHold s (read_hold (slice_index hs j)))
      → IsLeastOf (length s.objects) (λ o. count_where (λ q h. names o h) p hs) (least_in hs)
  all_words p [] is = λ o. refl
  all_words p (h ∷ hs) is =
      one_word (read_hold h) (λ o. count_where (λ q w. names o w) (p + 1) hs) (least_in hs) (is 0) (all_words (p + 1) hs (λ j. is (suc j)))

-- HELD, of the objects from k on
first_of : (o : ℕ) (rest : Option ℕ) (b : Bool) → b ≡ true → (if b then Some o else rest) ≡ Some o
first_of o rest b e = ap (λ x. if x then Some o else rest) e

later_of : (o : ℕ) (rest : Option ℕ) (b : Bool) → b ≡ false → (if b then Some o else rest) ≡ rest
later_of o rest b e = ap (λ x. if x then Some o else rest) e

none_test : (n : ℕ) → n ≡ 0 → nat_le 1 n ≡ false
none_test zero e = refl
none_test (suc n) e = absurd (omega (arith, e))

held_here : (o m : ℕ) (words : List ℕ) → 1 ≤ hold_count o words → held_from o (counts_from o (suc m) words) ≡ Some o
held_here o m words h = first_of o (held_from (o + 1) (counts_from (suc o) m words)) (nat_le 1 (hold_count o words)) (le-leb 1 (hold_count o words) h)

held_later : (o m : ℕ) (words : List ℕ) → hold_count o words ≡ 0
    → held_from o (counts_from o (suc m) words) ≡ held_from (o + 1) (counts_from (o + 1) m words)
held_later o m words h =
    let e : suc o ≡ o + 1 = omega arith in
    later_of o (held_from (o + 1) (counts_from (suc o) m words)) (nat_le 1 (hold_count o words)) (none_test (hold_count o words) h)
    ∙ ap (λ x. held_from (o + 1) (counts_from x m words)) e

held_none : (k m : ℕ) (words : List ℕ) → ((o : ℕ) → hold_count o words ≡ 0) → held_from k (counts_from k m words) ≡ None
held_none k zero words h = refl
held_none k (suc m) words h = held_later k m words (h k) ∙ held_none (k + 1) m words h

held_some : (k m o : ℕ) (words : List ℕ) → k ≤ o → o < k + m → 1 ≤ hold_count o words → ((i : ℕ) → i < o → hold_count i words ≡ 0)
    → held_from k (counts_from k m words) ≡ Some o
held_some k zero o words l w one none = absurd (omega (arith, l, w))
held_some k (suc m) o words l w one none = elim (cases_eq k o) [
  | inl e ↦
      subst (λ (j : ℕ). held_from k (counts_from k (suc m) words) ≡ Some j) e
      (held_here k m words (subst (λ (j : ℕ). 1 ≤ hold_count j words) (sym e) one))
  | inr d ↦
      held_later k m words (none k (omega (arith, l, d)))
      ∙ held_some (k + 1) m o words (omega (arith, l, d)) (omega (arith, w)) one none
]

held_is : (n : ℕ) (words : List ℕ) (r : Option ℕ) → IsLeastOf n (λ o. hold_count o words) r → held_from 0 (counts_from 0 n words) ≡ r
held_is n words None h = held_none 0 n words h
held_is n words (Some o) h = let l = h.0 in held_some 0 n o words (omega arith) (omega (arith, l)) h.1 h.2

-- each word of a thread at rest is empty or names an object of the heap
forms : (h : HeapSeen) (k : PassSeen) → Rests h k → (j : ℕ) → IsHold h.heap.shape (read_hold (slice_index k.known.holds j))
forms h k rests j =
    let z = settled h k rests in
    let t = k.known.thread in
    let there = subst (λ word. IsHold z.world.shape (read_hold word)) (z.fits.holds.stored t j) (z.fits.forms.holds t j) in
    let here = subst (λ (x : ThreadView). IsHold z.world.shape (read_hold (slice_index x.holds j))) z.knew there in
    subst (λ (x : Shape). IsHold x (read_hold (slice_index k.known.holds j))) z.shape here

pub least_is : (h : HeapSeen) (k : PassSeen) → Rests h k
    → least_in k.known.holds ≡ held_from 0 (counts_from 0 (length h.heap.shape.objects) k.known.holds)
least_is h k rests =
    sym (held_is (length h.heap.shape.objects) k.known.holds (least_in k.known.holds) (all_words h.heap.shape 0 k.known.holds (forms h k rests)))

pub places : (h : HeapSeen) (k : PassSeen) → Rests h k → length k.known.holds ≡ most_holds
places h k rests = let z = settled h k rests in subst (λ (x : ThreadView). length x.holds ≡ most_holds) z.knew (z.fits.holds.places k.known.thread)
