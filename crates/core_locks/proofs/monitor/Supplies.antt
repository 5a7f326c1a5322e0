-- What a load of a monitor's words tells a calm thread of its own hold words, by the clauses in the world of that moment.
use Rattle.core_locks.proofs.Prelude.{◌≡◌, ◌≢◌, ℕ, zero, suc, ◌+◌, ◌<◌, ◌≤◌, ◌^◌, ◌==◌, ◌&&◌, ◌||◌, nat_lt, eq-eqb, Bool, true, false, List}
use Rattle.core_locks.proofs.Prelude.{slice_index, Some, refl, sym, ap, ◌∙◌, arith, inl, inr, nat_tests, read_mark, read_owner, ByThread, ByRecord}
use Rattle.core_locks.proofs.Prelude.{OwnerForm, is_thread, PlainObject, Recursions, Settled, hold_word, monitor_in, bears, recursions_ahead}
use Rattle.core_locks.proofs.Prelude.{recursions_lowered, one_if, World, lock, lock_form, marks, displaced_words, owner_words, prototype_of}
use Rattle.core_locks.proofs.Prelude.{inflations, holder, hold_count, monitor_of, owner_at, owner_lock, Fits, sound, owner_stands, inflated_form}
use Rattle.core_locks.proofs.enter_exit.HoldCounts.{again_clear}
use Rattle.core_locks.proofs.enter_exit.MarkHolds.{standing_names}

module _ (w : World) (P : List PlainObject) (t o m : ℕ) (v : Fits w P) (calm : (w.known t).stage ≡ Settled) (names : monitor_in (marks w o) ≡ Some m) where
  owner_says : (f : OwnerForm) → read_owner (owner_words w m) ≡ Some f → lock w o ≡ owner_lock (Some f)
  owner_says f e = ap (λ g. lock_form g (prototype_of w o) (owner_words w) (inflations w o)) (inflated_form (read_mark (marks w o)) m names) ∙ ap owner_lock e

  -- an owner word that names its own record, or itself: it has a hold of the object
  pub own_record_held : (p : ℕ) → read_owner (owner_words w m) ≡ Some (ByRecord t p) → 1 ≤ hold_count o (w.known t).holds
  own_record_held p e = elim (v.records.first o t p (owner_says (ByRecord t p) e)) [
    | inl a ↦ standing_names w P v t p o 1 (omega arith) a
    | inr a ↦ absurd (cc (a, calm))
  ]

  pub thread_owned_held : read_owner (owner_words w m) ≡ Some (ByThread t) → 1 ≤ hold_count o (w.known t).holds
  thread_owned_held e = by_owner (owner_at P o t) refl
    where
      by_owner : (b : Bool) → owner_at P o t ≡ b → 1 ≤ hold_count o (w.known t).holds
      by_owner true a = let stands = owner_stands (monitor_of P o) t (sound w P v o) a in omega (arith, v.holds.number t o, stands)
      by_owner false a =
          let same = ap (λ f. is_thread (holder f (λ u. hold_count o (w.known u).holds)) t) (sym (owner_says (ByThread t) e)) ∙ v.owners.same o t in
          let none : (owner_at P o t || bears (w.known t).stage o) ≡ false = (λ j. a j || ap (λ s. bears s o) calm j) in
          absurd (cc (sym (eq-eqb t t refl) ∙ same ∙ none))

  -- where it is the owner itself, the recursions are 0, and the displaced word of its deepest record isn't 0, that record is its only one
  pub last_hold : (p d : ℕ) → o < 2 ^ 15 → read_owner (owner_words w m) ≡ Some (ByThread t)
      → w.words (Recursions m) ≡ 0 → slice_index (w.known t).holds p ≡ hold_word o d → 1 ≤ d → d ≤ 64
      → displaced_words w t p ≢ 0 → d ≡ 1
  last_hold p zero few e none h low high some = absurd (omega (arith, low))
  last_hold p (suc zero) few e none h low high some = refl
  last_hold p (suc (suc k)) few e none h low high some =
      let deep : suc (suc k) ≡ k + 2 = omega arith in
      let thread_owns = owner_says (ByThread t) e in
      elim (v.recursions.others o t p k (inl thread_owns) (h ∙ ap (hold_word o) deep) (omega (arith, high))) [
        | inl a ↦ absurd (some a)
        | inr a ↦
            let was = v.recursions.owned o m t names thread_owns (λ s. absurd (cc (s, calm))) (λ s. absurd (cc (s, calm))) in
            let up = ap (λ s. recursions_ahead s o) calm in
            let down = ap (λ s. recursions_lowered s o) calm in
            let counts = again_clear (w.known t).holds p o (k + 2) few (omega arith)
            (omega (arith, high)) (h ∙ ap (hold_word o) deep) o (displaced_words w t) in
            let lower : nat_lt 1 (k + 2) ≡ true = grind (arith, nat_tests) in
            let one : one_if (((o == o) && nat_lt 1 (k + 2)) && (displaced_words w t p == 3)) ≡ 1 =
            ap (λ (b : Bool). one_if ((b && nat_lt 1 (k + 2)) && (displaced_words w t p == 3))) (eq-eqb o o refl)
            ∙ ap (λ (b : Bool). one_if (b && (displaced_words w t p == 3))) lower ∙ ap one_if (eq-eqb (displaced_words w t p) 3 a) in
            absurd (omega (arith, was, up, down, counts, one, none))
      ]
