-- Steps on the ring that lead to no valid world: a monitor would be nowhere, or a thread would have two.
use Rattle.core_locks.proofs.Prelude.{◌≡◌, ◌≢◌, ℕ, ◌+◌, ◌-◌, ◌%◌, ◌^◌, ◌<◌, ◌≤◌, ◌==◌, eq-eqb, cases_lt, true, cond, List, Some}
use Rattle.core_locks.proofs.Prelude.{None, refl, sym, ap, ◌∙◌, arith, inl, inr, is_some, PlainObject, Claim, End, Ring, revocation_in}
use Rattle.core_locks.proofs.Prelude.{ThreadView, Fetches, Returns, World, with_word_and_known, CallContext, world_after}
use Rattle.core_locks.proofs.Prelude.{Fits, Valid, claimed_or_kept, given_back, claim_plan, running_fits, each_with_known}
use Rattle.core_locks.proofs.Prelude.{with_known_here, monitor_count, ring_bits, ring_places}
use Rattle.core_world.specs.Clauses.Claims.{Place, With, At, Leaves, InRing}
use Rattle.core_world.specs.Trees.DeflateSteps.{enqueue_plan, advance_plan}
use Rattle.core_world.proofs.deflation.Rings.{ring_few, place_of_word}
use Rattle.core_locks.specs.DeflationLaws.{IsFilled}
use Rattle.core_locks.proofs.monitor.Claims.{one_place}
use Rattle.core_locks.proofs.monitor.Fetches.{filled_at}
use Rattle.core_locks.proofs.monitor.Places.{one_leaver}
use Rattle.core_locks.proofs.monitor.Moved.{as_many, one_fewer}
use Rattle.core_locks.proofs.RefutedSteps.{knows, hit_fits, standing_fits}
use Rattle.core_locks.proofs.safepoint.Standing.{fits_standing}

-- THE END IS MOVED ON, and the thread has nothing in hand any more.
module _ (w : World) (P Q : List PlainObject) (m t : ℕ) (e : CallContext) (end : ℕ) (reached : (w.known t).reached ≡ true)
    (returns : (w.known t).moving ≡ Returns m) (at_end : w.words End ≡ end) (before : Fits w P)
    (afterwards : Fits (with_word_and_known End ((end + 1) % 2 ^ 64) t (knows (advance_plan e (w.known t).stage end) t w) w)
    Q) (unstored : w.words (Ring (end % ring_places w.shape)) ≢ m) where
  abbrev l : ThreadView
  l = knows (advance_plan e (w.known t).stage end) t w

  abbrev bits : ℕ
  bits = ring_bits w.shape

  few : bits ≤ 64
  few = let most = ring_few w.shape in omega (arith, most)

  was : (m < monitor_count w.shape) × (before.claims.place m ≡ Leaves t)
  was = before.claims.returns t m returns

  within : t < w.shape.threads
  within = elim (cases_lt t w.shape.threads) [
    | inl h ↦ h
    | inr h ↦ let no = ap (λ (k : ThreadView). k.reached) (before.absent t h) in absurd (cc (no, reached))
  ]

  -- one position more is filled
  one_more : afterwards.claims.ringed ≡ before.claims.ringed + 1
  one_more =
      let hands = as_many w t l w.shape.threads (λ u y. claimed_or_kept y.moving y.kept)
      (ap (λ b. is_some (claimed_or_kept b (w.known t).kept)) (sym returns)) in
      let leaves = one_fewer w t l w.shape.threads (λ u y. given_back y.moving) within (ap (λ b. is_some (given_back b)) returns) refl in
      omega (arith, hands, leaves, before.claims.counted, afterwards.claims.counted)

  firsts : before.claims.first % 2 ^ 64 ≡ afterwards.claims.first % 2 ^ 64
  firsts = sym before.claims.claim_word ∙ afterwards.claims.claim_word

  -- at the filled positions that monitor doesn't stand: not at the last one, which is the end's, and at the others as little as before
  in_ring : (p : ℕ) → afterwards.claims.first ≤ p → p < afterwards.claims.first + afterwards.claims.ringed → w.words (Ring (p % 2 ^ bits)) ≡ m → ⊥
  in_ring p low high is = elim (cases_lt d before.claims.ringed) [
    | inl h ↦
        let stood = before.claims.stands (before.claims.first + d) (omega arith) (omega (arith, h)) in
        let it = was.1 in
        let there = ap before.claims.place (sym here) ∙ stood.1 in
        absurd (cc (it, there))
    | inr h ↦
        let last : d ≡ before.claims.ringed = omega (arith, h, high, one_more, low) in
        let end_is : end % 2 ^ bits ≡ (before.claims.first + d) % 2 ^ bits =
        ap (λ z. z % 2 ^ bits) (sym at_end ∙ before.claims.end_word) ∙ place_of_word (before.claims.first + before.claims.ringed) bits few
        ∙ ap (λ z. (before.claims.first + z) % 2 ^ bits) (sym last) in
        unstored (ap (λ z. w.words (Ring z)) end_is ∙ here)
  ]
    where
      d : ℕ
      d = p - afterwards.claims.first

      back : afterwards.claims.first + d ≡ p
      back = omega (arith, low)

      here : w.words (Ring ((before.claims.first + d) % 2 ^ bits)) ≡ m
      here = ap (λ z. w.words (Ring z)) (one_place before.claims.first afterwards.claims.first d bits few firsts ∙ ap (λ z. z % 2 ^ bits) back) ∙ is

  no_place : (a : Place) → afterwards.claims.place m ≡ a → ⊥
  no_place (With u) h = elim (afterwards.claims.kept_there u m was.0 h) [
    | inl k ↦
        let it = was.1 in
        let there = (before.claims.keeps u m (each_with_known (λ u y. y.kept ≡ Some m → (w.known u).kept ≡ Some m) t l w.known u (λ e. e) (λ d e. e) k)).1 in
        absurd (cc (it, there))
    | inr k ↦
        let moved = each_with_known (λ u y. y.moving ≡ Fetches k.0 → (w.known u).moving ≡ Fetches k.0) t l w.known u (λ e. absurd (cc e)) (λ d e. e) k.1 in
        let runs = before.moves.runs u k.0 moved in
        let stopped = (before.safe.safepoint t reached).1 u in
        absurd (cc (runs, stopped))
  ]
  no_place (At o) h = let it = was.1 in let there = (before.claims.names o m (afterwards.claims.named_there o m was.0 h)).1 in absurd (cc (it, there))
  no_place (Leaves u) h =
      each_with_known (λ u y. y.moving ≡ Returns m → ⊥) t l w.known u (λ e. absurd (cc e))
      (λ d e. d (sym (one_leaver t u (sym was.1 ∙ (before.claims.returns u m e).1)))) (afterwards.claims.returned_there u m was.0 h)
  no_place (InRing p) h = let a = afterwards.claims.ringed_there p m was.0 h in in_ring p a.0 a.1 a.2

  lost_at_the_end : ⊥
  lost_at_the_end = no_place (afterwards.claims.place m) refl

pub no_end_before_store : (w : World) (m t end : ℕ) (e : CallContext) → Valid w
    → (w.known t).reached ≡ true → revocation_in (w.known t).stage ≡ None → (w.known t).moving ≡ Returns m
    → w.words End ≡ end → w.words (Ring (end % ring_places w.shape)) ≢ m → Valid (world_after (advance_plan e (w.known t).stage end) t w) → ⊥
no_end_before_store w m t end e v reached unrevoking returns at_end unstored valid =
    let a = standing_fits (advance_plan e (w.known t).stage end) t w refl reached unrevoking valid in
    lost_at_the_end w v.objects a.0 m t e end reached returns at_end (fits_standing w v.objects t reached unrevoking v.is) a.1 unstored

-- A FILLED POSITION IS STORED OVER: the monitor would stand there, and its thread still gives it back.
module _ (w : World) (Q : List PlainObject) (m t d : ℕ) (e : CallContext) (returns : (w.known t).moving ≡ Returns m) (filled : IsFilled w d)
    (afterwards : Fits (with_word_and_known (Ring ((w.words Claim + d) % ring_places w.shape)) m t
    (knows (enqueue_plan e (w.known t).stage w.shape (w.words Claim + d) m) t w) w) Q) where
  abbrev k : ThreadView
  k = knows (enqueue_plan e (w.known t).stage w.shape (w.words Claim + d) m) t w

  abbrev at : ℕ
  at = (w.words Claim + d) % ring_places w.shape

  abbrev p : ℕ
  p = afterwards.claims.first + d

  stands_there : afterwards.claims.place m ≡ InRing p
  stands_there =
      let filled_now = filled_at (with_word_and_known (Ring at) m t k w) Q afterwards d filled in
      let stood = afterwards.claims.stands p (omega arith) (omega (arith, filled_now.0)) in
      let here : cond (p % 2 ^ ring_bits w.shape == at) m (w.words (Ring (p % 2 ^ ring_bits w.shape))) ≡ m =
      ap (λ b. cond b m (w.words (Ring (p % 2 ^ ring_bits w.shape)))) (eq-eqb (p % 2 ^ ring_bits w.shape) at filled_now.1) in
      ap afterwards.claims.place (sym here) ∙ stood.1

  twice_there : ⊥
  twice_there =
      let mine = ap (λ (y : ThreadView). y.moving) (with_known_here t k w.known) in
      let leaves = (afterwards.claims.returns t m (mine ∙ returns)).1 in
      let stands = stands_there in
      absurd (cc (leaves, stands))

pub no_store_filled : (w : World) (m t d : ℕ) (e : CallContext) → (w.known t).reached ≡ true
    → revocation_in (w.known t).stage ≡ None → (w.known t).moving ≡ Returns m → IsFilled w d
    → Valid (world_after (enqueue_plan e (w.known t).stage w.shape (w.words Claim + d) m) t w) → ⊥
no_store_filled w m t d e reached unrevoking returns filled valid =
    let a = standing_fits (enqueue_plan e (w.known t).stage w.shape (w.words Claim + d) m) t w refl reached unrevoking valid in
    twice_there w a.0 m t d e returns filled a.1

-- A SECOND CLAIM
pub no_claim_of_a_keeper : (w : World) (m t : ℕ) (e : CallContext) → (w.known t).running ≡ true
    → (w.known t).kept ≡ Some m → Valid (world_after (claim_plan e) t w) → ⊥
no_claim_of_a_keeper w m t e runs keeps valid =
    let a = hit_fits (claim_plan e) t w refl runs valid in
    let mine = with_known_here t (knows (claim_plan e) t w) w.known in
    let none = (a.1.claims.fetches t (w.words Claim) (ap (λ (y : ThreadView). y.moving) mine)).0 in
    let some = ap (λ (y : ThreadView). y.kept) mine ∙ keeps in
    absurd (cc (none, some))

module _ (w : World) (P Q : List PlainObject) (p t : ℕ) (e : CallContext) (claimed : (w.known t).moving ≡ Fetches p) (before : Fits w P)
    (afterwards : Fits (with_word_and_known Claim ((w.words Claim + 1) % 2 ^ 64) t (knows (claim_plan e) t w) w) Q) where
  abbrev j : ThreadView
  j = knows (claim_plan e) t w

  -- as many positions are filled as before, though the claim went on and the end didn't
  claims_twice : ⊥
  claims_twice =
      let hands = as_many w t j w.shape.threads (λ u y. claimed_or_kept y.moving y.kept)
      (ap (λ b. is_some (claimed_or_kept b (w.known t).kept)) (sym claimed)) in
      let leaves = as_many w t j w.shape.threads (λ u y. given_back y.moving) (ap (λ b. is_some (given_back b)) (sym claimed)) in
      let same : afterwards.claims.ringed ≡ before.claims.ringed = omega (arith, hands, leaves, before.claims.counted, afterwards.claims.counted) in
      absurd (omega (arith, same, before.claims.claim_word, afterwards.claims.claim_word, before.claims.end_word, afterwards.claims.end_word))

pub no_second_claim : (w : World) (p t : ℕ) (e : CallContext) → Valid w → (w.known t).running ≡ true
    → (w.known t).moving ≡ Fetches p → Valid (world_after (claim_plan e) t w) → ⊥
no_second_claim w p t e v runs claimed valid =
    let a = hit_fits (claim_plan e) t w refl runs valid in
    claims_twice w v.objects a.0 p t e claimed (running_fits w v t runs) a.1
