-- A thread at its reached safepoint moves the ring's end past the monitor that it gives back.
use Rattle.core_locks.proofs.Prelude.{◌≡◌, ℕ, ◌+◌, ◌%◌, ◌^◌, ◌<◌, true, List, length, None, refl, sym, ap, ◌∙◌}
use Rattle.core_locks.proofs.Prelude.{arith, inl, inr, is_some, PlainObject, Claim, Ring, StepPlan, ThreadView, Fetches, Returns, World}
use Rattle.core_locks.proofs.Prelude.{with_known, inflated_to, CallContext, Fits, MonitorsAreClaimed, claimed_or_kept, given_back, by_equal}
use Rattle.core_locks.proofs.Prelude.{each_with_known, KeepsValid, monitor_count, ring_bits, ring_places}
use Rattle.core_world.specs.Clauses.Claims.{Place, With, At, Leaves, InRing}
use Rattle.core_world.specs.Trees.DeflateSteps.{advance_plan}
use Rattle.core_locks.specs.DeflationLaws.{MayAdvance}
use Rattle.core_locks.proofs.monitor.Claims.{next_word}
use Rattle.core_locks.proofs.monitor.Places.{one_leaver, one_position, one_returned}
use Rattle.core_locks.proofs.monitor.Moved.{moved, Moves, moves_from, moving_else, moves_law, as_many, one_fewer}
use Rattle.core_locks.proofs.Clauses.{kept_parts, parts_stand, seen, claims, moves, AllHold}
use Rattle.core_locks.proofs.OwnSeen.{left_with, hit_world}
use Rattle.core_locks.proofs.safepoint.Standing.{IsStore, standing_seen, standing_step, fits_standing}
use Rattle.core_locks.proofs.Steps.{handling, IsStep, next, step_fits, seen_next}
use Rattle.core_locks.proofs.deflation.Enqueues.{gone, end_is, same_place, none_fetches}

-- THE STORE OF THE END
module _ (w : World) (P : List PlainObject) (t : ℕ) (e : CallContext) (m end : ℕ)
    (within : t < w.shape.threads) (may : MayAdvance w.shape (w.known t) e m end) (v : Fits w P) where
  abbrev plan : StepPlan
  plan = advance_plan e (w.known t).stage end

  abbrev l : ThreadView
  l = left_with w t plan

  abbrev x : World
  x = hit_world w t plan

  reached : (w.known t).reached ≡ true
  reached = may.stands.reached

  abbrev ring : ℕ → ℕ
  ring q = w.words (Ring q)

  abbrev last : ℕ
  last = v.claims.first + v.claims.ringed

  there : (m < monitor_count w.shape) × (v.claims.place m ≡ Leaves t)
  there = gone w P t m end within reached may.returns may.at_end v

  stored : ring (last % 2 ^ ring_bits w.shape) ≡ m
  stored = ap ring (sym (same_place w P t m end within reached may.returns may.at_end v))
      ∙ v.seen.stands t (Ring (end % ring_places w.shape)) m reached may.stored

  unfetched : (u p : ℕ) → (w.known u).moving ≡ Fetches p → ⊥
  unfetched = none_fetches w P t m end within reached may.returns may.at_end v

  abbrev place : ℕ → Place
  place = moved v.claims.place m (InRing last)

  move : Moves v.claims.place m (Leaves t) (InRing last)
  move = moves_from v.claims.place m (Leaves t) (InRing last) there.1

  open move use {place_here, place_else, stays_at, was_at}

  claims_law : MonitorsAreClaimed w.shape.threads (length w.shape.objects) (monitor_count w.shape) (ring_bits w.shape)
      (w.words Claim) ((end + 1) % 2 ^ 64) ring (inflated_to w) (λ u. (w.known u).kept) (λ u. (with_known t l w.known u).moving)
  claims_law = record {
    first = v.claims.first;
    ringed = v.claims.ringed + 1;
    claim_word = v.claims.claim_word;
    end_word =
        let word = end_is w P t m end within reached may.returns may.at_end v in
        let same : last + 1 ≡ v.claims.first + (v.claims.ringed + 1) = omega arith in
        ap (λ z. (z + 1) % 2 ^ 64) word ∙ next_word last (2 ^ 64) 1 ∙ ap (λ z. z % 2 ^ 64) same;
    place = place;
    keeps = λ u a h. let b = v.claims.keeps u a h in (b.0, stays_at a (With u) b.1 (λ q. cc q));
    fetches = λ u p. each_with_known (λ u y. y.moving ≡ Fetches p → ((w.known u).kept ≡ None)
        × (ring (p % 2 ^ ring_bits w.shape) < monitor_count w.shape) × (place (ring (p % 2 ^ ring_bits w.shape)) ≡ With u)) t l w.known u
        (λ h. absurd (cc h)) (λ d h. absurd (unfetched u p h));
    names = λ i a h. let b = v.claims.names i a h in (b.0, stays_at a (At i) b.1 (λ q. cc q));
    returns = λ u a. each_with_known (λ u y. y.moving ≡ Returns a → (a < monitor_count w.shape) × (place a ≡ Leaves u)) t l w.known u (λ h. absurd (cc h))
        (λ d h. let b = v.claims.returns u a h in (b.0, stays_at a (Leaves u) b.1 (λ q. d (sym (one_leaver t u q)))));
    stands = λ p low high. by_equal p last
        (λ s. let is : ring (p % 2 ^ ring_bits w.shape) ≡ m = ap (λ z. ring (z % 2 ^ ring_bits w.shape)) s ∙ stored in
        (omega (arith, is, there.0), place_here (ring (p % 2 ^ ring_bits w.shape)) is ∙ ap InRing (sym s)))
        (λ d. let b = v.claims.stands p low (omega (arith, high, d)) in (b.0, stays_at (ring (p % 2 ^ ring_bits w.shape)) (InRing p) b.1 (λ q. cc q)));
    kept_there = λ u a h q. elim (v.claims.kept_there u a h (was_at a (With u) q (λ z. cc z)).1) [ inl b ↦ inl b | inr b ↦ absurd (unfetched u b.0 b.1) ];
    named_there = λ i a h q. v.claims.named_there i a h (was_at a (At i) q (λ z. cc z)).1;
    returned_there = λ u a h q.
        let b = was_at a (Leaves u) q (λ z. cc z) in
        let c = v.claims.returned_there u a h b.1 in
        moving_else w t l u (λ s. b.0 (one_returned a m (sym c ∙ ap (λ z. (w.known z).moving) s ∙ may.returns))) ∙ c;
    ringed_there = λ p a h q. by_equal a m
        (λ s. let is : p ≡ last = sym (one_position last p (sym (place_here a s) ∙ q)) in
        (omega (arith, is), omega (arith, is), ap (λ z. ring (z % 2 ^ ring_bits w.shape)) is ∙ stored ∙ sym s))
        (λ d. let b = v.claims.ringed_there p a h (sym (place_else a d) ∙ q) in (b.0, omega (arith, b.1), b.2));
    counted =
        let hands = as_many w t l w.shape.threads (λ u y. claimed_or_kept y.moving (w.known u).kept)
        (ap (λ b. is_some (claimed_or_kept b (w.known t).kept)) (sym may.returns)) in
        let leaves = one_fewer w t l w.shape.threads (λ u y. given_back y.moving) within (ap (λ b. is_some (given_back b)) may.returns) refl in
        omega (arith, hands, leaves, v.claims.counted);
  }

  step : IsStep w t l handling
  step = record { within = within; mine = refl; others = λ k. refl }

  abbrev z : World
  z = next w t l handling x.words

  store : IsStore w P t plan
  store = search (may.stands.reached, may.stands.unrevoking)

  all_after : AllHold (kept_parts w z P)
  all_after seen = seen_next step x.words P (standing_seen w P t plan store v)
  all_after claims = claims_law
  all_after moves = moves_law w t l P (λ p h. absurd (cc h)) (λ a h. absurd (cc h)) v
  all_after c = standing_step step P may.stands.goes_on reached v c

  advanced_fits : Fits x P
  advanced_fits = step_fits step x.words P (kept_parts w z P) (parts_stand w z P refl (λ u. refl) (λ u. refl) refl refl refl (λ e. refl)) all_after

-- the law
pub advances : (e : CallContext) (m end : ℕ) → KeepsValid (λ w t. MayAdvance w.shape (w.known t) e m end) (λ w t. advance_plan e (w.known t).stage end)
advances e m end w P t within may valid = inl (advanced_fits w P t e m end within may (fits_standing w P t may.stands.reached may.stands.unrevoking valid))
