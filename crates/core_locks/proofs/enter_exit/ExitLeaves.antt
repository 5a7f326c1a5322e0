-- What holds where a thread may leave by clearing a hold word: it is the plain owner, has several holds or a bias, and the recursions count its
-- records, but for the one that it clears.
use Rattle.core_locks.proofs.Prelude.{◌≡◌, ◌≢◌, ℕ, ◌+◌, ◌<◌, ◌≤◌, ◌^◌, ◌==◌, ◌&&◌, nat_lt, eq-eqb, Bool, true, false, List, [], ◌∷◌, Option, Some}
use Rattle.core_locks.proofs.Prelude.{None, refl, sym, ap, ◌∙◌, subst, arith, inl, inr, nat_tests, read_hold, Holds, Empty, HoldForm}
use Rattle.core_locks.proofs.Prelude.{read_hold-spells, PlainObject, Mark, Hold, Displaced, Stage, Settled, RecursionsLowered, hold_word, is_deeper}
use Rattle.core_locks.proofs.Prelude.{deeper_form, inflation_in, recursions_ahead, recursions_lowered, one_if, last_seen, World, OwnedBy, lock}
use Rattle.core_locks.proofs.Prelude.{marks, displaced_words, hold_count, depth_count, recursion_count, monitor_of, owner_at, count_where, Fits}
use Rattle.core_locks.proofs.Prelude.{same_number, SawInflated, SawOwn, MayLeave, ◌⊎◌, ne_eqb, by_equal, Lock, BiasedTo, is_biased, ◌-◌}
use Rattle.core_locks.specs.Knowing.{SawBiased}
use Rattle.core_locks.specs.LockLaws.{HasRaised}
use Rattle.std.proofs.Math.Bool.{and-false, and-true}
use Rattle.core_locks.proofs.enter_exit.HoldCounts.{hold_in_form}
use Rattle.core_locks.proofs.WaitOut.{ready_is_out, even_holder_owns}
use Rattle.core_locks.proofs.enter_exit.HoldWays.{saw_inflated, saw_thread_owns}
use Rattle.core_locks.proofs.enter_exit.ExitEntries.{own_displaced}
use Rattle.core_locks.proofs.EvenSteps.{IsEven, even_by}

-- the hold word of a deeper record
deeper_word : (o h : ℕ) → is_deeper o h ≡ true → (e : ℕ) × (2 ≤ e) × (e ≤ 64) × (h ≡ hold_word o e)
deeper_word o h deep = by_form (read_hold h) refl deep
  where
    by_form : (f : Option HoldForm) → read_hold h ≡ f → deeper_form f o ≡ true → (e : ℕ) × (2 ≤ e) × (e ≤ 64) × (h ≡ hold_word o e)
    by_form None r g = absurd (cc g)
    by_form (Some Empty) r g = absurd (cc g)
    by_form (Some (Holds i e)) r g =
        let spells = read_hold-spells h (Holds i e) r in
        let both : (i ≡ o) × (2 ≤ e) = grind (arith, nat_tests, g) in
        (e, both.1, spells.0.2, spells.1 ∙ ap (λ j. hold_word j e) both.0)

-- where a record is counted again, a deeper one stands there
counted_deep : (o : ℕ) (f : ℕ → ℕ) (i j : ℕ) (hs : List ℕ) → 1 ≤ count_where (λ q h. is_deeper o h && (f q == 3)) i hs
    → (e : ℕ) × (2 ≤ e) × (e ≤ 64) × (1 ≤ count_where (λ q h. h == hold_word o e) j hs)
counted_deep o f i j [] some = absurd (omega arith)
counted_deep o f i j (h ∷ hs) some = cases (counted_deep o f (i + 1) (j + 1) hs) (is_deeper o h) refl some
  where
    cases : (1 ≤ count_where (λ q h. is_deeper o h && (f q == 3)) (i + 1) hs
        → (e : ℕ) × (2 ≤ e) × (e ≤ 64) × (1 ≤ count_where (λ q h. h == hold_word o e) (j + 1) hs))
        → (b : Bool) → is_deeper o h ≡ b → 1 ≤ one_if (b && (f i == 3)) + count_where (λ q h. is_deeper o h && (f q == 3)) (i + 1) hs
        → (e : ℕ) × (2 ≤ e) × (e ≤ 64) × (1 ≤ count_where (λ q h. h == hold_word o e) j (h ∷ hs))
    cases rest true deep g = let a = deeper_word o h deep in (a.0, a.1, a.2, omega (arith, ap one_if (eq-eqb h (hold_word o a.0) a.3)))
    cases rest false deep g = let a = rest (omega (arith, g)) in (a.0, a.1, a.2, omega (arith, a.3))

-- a test that counts as 1 is met
counted_met : (b : Bool) → 1 ≤ one_if b → b ≡ true
counted_met true h = refl
counted_met false h = absurd (omega arith)

module _ (w : World) (P : List PlainObject) (t o d p : ℕ) (within : t < w.shape.threads) (may : MayLeave w.shape (w.known t) o d p) (v : Fits w P) where
  by_stage : (F : Stage → Type 0) → F Settled → F (RecursionsLowered o) → F (w.known t).stage
  by_stage F a b = elim may.before [ inl c ↦ subst F (sym c.0) a | inr c ↦ elim c [ inl f ↦ subst F (sym f.0) b | inr f ↦ subst F (sym f.0) a ] ]

  pub leaves_even : IsEven (w.known t).stage
  leaves_even = by_stage IsEven (even_by Settled refl) (even_by (RecursionsLowered o) refl)

  pub leaves_inflates : inflation_in (w.known t).stage ≡ None
  leaves_inflates = by_stage (λ s. inflation_in s ≡ None) refl refl

  pub leaves_ahead : (i : ℕ) → recursions_ahead (w.known t).stage i ≡ 0
  leaves_ahead i = by_stage (λ s. recursions_ahead s i ≡ 0) refl refl

  pub leaves_few : o < 2 ^ 15
  leaves_few = omega (arith, may.object.within, v.limits.objects)

  pub leaves_some : 1 ≤ d
  leaves_some = (hold_in_form w.shape o d (w.words (Hold t p)) may.small (v.holds.stored t p ∙ may.hold) (v.forms.holds t p)).1

  -- it is the plain owner, and the plain count is d
  pub leaves_owned : (owner_at P o t ≡ true) × (hold_count o (w.known t).holds ≡ (monitor_of P o).count)
  leaves_owned = even_holder_owns w P t v (ready_is_out (w.known t) may.ready) o
      (leaves_even.plain.resumes o) (leaves_even.alone o) (omega (arith, may.deepest, leaves_some))

  -- the second way, in which the thread has lowered the recursions
  module _ (m h : ℕ) (stage : (w.known t).stage ≡ RecursionsLowered o) (inflated : SawInflated (w.known t) o m) (own : SawOwn (w.known t) (w.known t).thread m)
      (seen : last_seen (Displaced (w.known t).thread p) (w.known t).seen ≡ Some h) (some : h ≢ 0) where
    thread_owns : lock w o ≡ OwnedBy t
    thread_owns = saw_thread_owns w P t o may.runs v m (omega (arith, within, v.limits.threads)) leaves_owned.0 inflated own

    -- the recursions and this hold are the records that were made through the monitor, so there is a deeper one
    lowered_again : 1 ≤ recursion_count o (displaced_words w t) (w.known t).holds
    lowered_again =
        let names = saw_inflated w P t o may.runs v m inflated in
        let owned = v.recursions.owned o m t names thread_owns (leaves_even.plain.waits o) (leaves_even.plain.resumes o) in
        let one : recursions_lowered (w.known t).stage o ≡ 1 = ap (λ s. recursions_lowered s o) stage ∙ ap one_if (same_number o) in
        omega (arith, owned, one, leaves_ahead o)

    lowered_deep : 2 ≤ d
    lowered_deep =
        let a = counted_deep o (displaced_words w t) 0 0 (w.known t).holds lowered_again in
        let deep = a.1 in
        let high = a.2 in
        let same : a.0 ≡ (a.0 - 1) + 1 = omega (arith, deep) in
        let stands = subst (λ n. 1 ≤ depth_count o n (w.known t).holds) same a.3 in
        let below : nat_lt (a.0 - 1) (hold_count o (w.known t).holds) ≡ true = counted_met _
        (omega (arith, v.holds.each t o (a.0 - 1) (omega (arith, deep, high)), stands)) in
        let more : a.0 - 1 < hold_count o (w.known t).holds = grind (arith, nat_tests, below) in
        omega (arith, more, deep, may.deepest)

    -- so its record was made through the monitor
    lowered_three : w.words (Displaced t p) ≡ 3
    lowered_three =
        let deep = lowered_deep in
        let same : d ≡ (d - 2) + 2 = omega (arith, deep) in
        elim (v.recursions.others o t p (d - 2) (inl thread_owns) (may.hold ∙ ap (hold_word o) same) (omega (arith, may.small))) [
          | inl z ↦ absurd (some (sym (own_displaced w P t p h v may.runs seen) ∙ z))
          | inr z ↦ z
        ]

  -- the third way: the mark has the bias pattern still, and nobody holds such an object but the thread of its valid bias
  leans : SawBiased (w.known t) o → lock w o ≡ BiasedTo t
  leans saw = by_lock (lock w o) refl
    where
      still : is_biased (marks w o) ≡ true
      still = ap is_biased (v.seen.stays t (Mark o) saw.0 saw.1 (inl (may.runs, inr (inr (inr (saw.2, leaves_owned.0)))))) ∙ saw.2

      unless : (lock w o ≡ BiasedTo t → ⊥) → ⊥
      unless n = let none = v.biases.unheld o t still n in let deepest = may.deepest in let some = leaves_some in absurd (omega (arith, none, deepest, some))

      by_lock : (f : Lock) → lock w o ≡ f → lock w o ≡ BiasedTo t
      by_lock (BiasedTo u) e = by_equal u t (λ s. e ∙ ap BiasedTo s) (λ n. absurd (unless (λ g. n (cc (e, g)))))
      by_lock _ e = absurd (unless (λ g. cc (e, g)))

  -- there are several holds, or the object leans on the thread
  pub leaves_deep : (2 ≤ d) ⊎ ((lock w o ≡ BiasedTo t) × (d ≡ 1 → HasRaised (w.known t) o))
  leaves_deep = elim may.before [
    | inl c ↦ inl c.1
    | inr c ↦ elim c [
      | inl f ↦ inl (lowered_deep f.1.0 f.1.1 f.0 f.1.2 f.1.3 f.1.4 f.1.5)
      | inr f ↦ inr (leans f.1, f.2)
    ]
  ]

  -- the cleared record is one of those that recursions count exactly where the thread has lowered them for it already
  pub leaves_counted : (i : ℕ) → lock w i ≡ OwnedBy t
      → one_if (((o == i) && nat_lt 1 d) && (displaced_words w t p == 3)) ≡ recursions_lowered (w.known t).stage i
  leaves_counted i has = elim may.before [
    | inl c ↦
        let word = own_displaced w P t p 0 v may.runs c.2 in
        ap (λ n. one_if (((o == i) && nat_lt 1 d) && (n == 3))) word ∙ ap one_if (and-false ((o == i) && nat_lt 1 d))
        ∙ sym (ap (λ s. recursions_lowered s i) c.0)
    | inr c ↦ elim c [
      | inl f ↦
          let word = lowered_three f.1.0 f.1.1 f.0 f.1.2 f.1.3 f.1.4 f.1.5 in
          let deep = lowered_deep f.1.0 f.1.1 f.0 f.1.2 f.1.3 f.1.4 f.1.5 in
          let more : nat_lt 1 d ≡ true = grind (arith, nat_tests, deep) in
          ap (λ n. one_if (((o == i) && nat_lt 1 d) && (n == 3))) word ∙ ap (λ b. one_if (((o == i) && b) && true)) more
          ∙ ap one_if (and-true ((o == i) && true) ∙ and-true (o == i)) ∙ sym (ap (λ s. recursions_lowered s i) f.0)
      | inr f ↦
          by_equal o i
          (λ s. let same : BiasedTo t ≡ OwnedBy t = sym (leans f.1) ∙ ap (lock w) s ∙ has in absurd (cc same))
          (λ n. ap (λ (b : Bool). one_if ((b && nat_lt 1 d) && (displaced_words w t p == 3))) (ne_eqb o i n) ∙ sym (ap (λ s. recursions_lowered s i) f.0))
    ]
  ]
