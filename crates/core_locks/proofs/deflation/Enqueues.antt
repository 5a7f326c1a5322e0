-- A thread at its reached safepoint stores the monitor that it gives back into the ring, and moves the ring's end past it.
use Rattle.core_locks.proofs.Prelude.{◌≡◌, ◌≢◌, ℕ, ◌+◌, ◌-◌, ◌%◌, ◌^◌, ◌<◌, ◌≤◌, ◌==◌, ne_eqb, true, cond, List, length, Some, refl, sym, ap, ◌∙◌}
use Rattle.core_locks.proofs.Prelude.{arith, inl, inr, is_some, PlainObject, Claim, End, Ring, StepPlan, ThreadView, Fetches, Returns, last_seen}
use Rattle.core_locks.proofs.Prelude.{World, inflated_to, CallContext, Fits, MonitorsAreClaimed, given_back, KeepsValid, monitor_count, ring_bits}
use Rattle.core_world.specs.Clauses.Claims.{Leaves}
use Rattle.core_world.specs.Trees.DeflateSteps.{enqueue_plan}
use Rattle.core_world.proofs.deflation.Rings.{ring_few, ring_enough, place_of_word, places_differ}
use Rattle.core_locks.specs.DeflationLaws.{MayEnqueue}
use Rattle.core_locks.proofs.monitor.Places.{with_some}
use Rattle.core_locks.proofs.Clauses.{kept_parts, parts_stand, seen, claims, AllHold}
use Rattle.core_locks.proofs.OwnSeen.{left_with, hit_world}
use Rattle.core_locks.proofs.safepoint.Standing.{IsStore, standing_seen, standing_step, fits_standing}
use Rattle.core_locks.proofs.Steps.{quietly, IsStep, next, step_fits, seen_next}

-- WHAT IS THERE before each of the two stores
module _ (w : World) (P : List PlainObject) (t : ℕ) (m end : ℕ) (within : t < w.shape.threads)
    (reached : (w.known t).reached ≡ true) (returns : (w.known t).moving ≡ Returns m)
    (at_end : last_seen End (w.known t).seen_at_safepoint ≡ Some end) (v : Fits w P) where
  abbrev bits : ℕ
  bits = ring_bits w.shape

  abbrev ring : ℕ → ℕ
  ring q = w.words (Ring q)

  -- the position at which the monitor comes to stand
  abbrev last : ℕ
  last = v.claims.first + v.claims.ringed

  pub gone : (m < monitor_count w.shape) × (v.claims.place m ≡ Leaves t)
  gone = v.claims.returns t m returns

  pub end_is : end ≡ last % 2 ^ 64
  end_is = sym (v.seen.stands t End end reached at_end) ∙ v.claims.end_word

  pub same_place : end % 2 ^ bits ≡ last % 2 ^ bits
  same_place = ap (λ z. z % 2 ^ bits) end_is ∙ place_of_word last bits (let few = ring_few w.shape in omega (arith, few))

  -- so the ring isn't full
  room : v.claims.ringed < 2 ^ bits
  room =
      let some = with_some w.shape.threads t (λ u. given_back (w.known u).moving) within (ap (λ b. is_some (given_back b)) returns) in
      let enough = ring_enough w.shape v.limits in
      omega (arith, some, enough, v.claims.counted)

  -- and no monitor stands at that place
  pub apart : (p : ℕ) → v.claims.first ≤ p → p < last → p % 2 ^ bits ≢ end % 2 ^ bits
  apart p low high s =
      let further : p + (last - p) ≡ last = omega (arith, high) in
      places_differ p (last - p) bits (omega (arith, high)) (omega (arith, low, room)) (ap (λ z. z % 2 ^ bits) further ∙ sym same_place ∙ sym s)

  -- nobody has claimed a position
  pub none_fetches : (u p : ℕ) → (w.known u).moving ≡ Fetches p → ⊥
  none_fetches u p h = let runs = v.moves.runs u p h in let stopped = (v.safe.safepoint t reached).1 u in absurd (cc (runs, stopped))

-- THE STORE INTO THE RING
module _ (w : World) (P : List PlainObject) (t : ℕ) (e : CallContext) (m end : ℕ)
    (within : t < w.shape.threads) (may : MayEnqueue (w.known t) e m end) (v : Fits w P) where
  abbrev plan : StepPlan
  plan = enqueue_plan e (w.known t).stage w.shape end m

  abbrev l : ThreadView
  l = left_with w t plan

  abbrev x : World
  x = hit_world w t plan

  reached : (w.known t).reached ≡ true
  reached = may.stands.reached

  step : IsStep w t l quietly
  step = record { within = within; mine = refl; others = λ k. refl }

  abbrev z : World
  z = next w t l quietly x.words

  store : IsStore w P t plan
  store = search (may.stands.reached, may.stands.unrevoking)

  abbrev put : ℕ → ℕ
  put q = cond (q == end % 2 ^ ring_bits w.shape) m (w.words (Ring q))

  put_else : (p : ℕ) → v.claims.first ≤ p → p < v.claims.first + v.claims.ringed → put (p % 2 ^ ring_bits w.shape) ≡ w.words (Ring (p % 2 ^ ring_bits w.shape))
  put_else p low high = ap (λ b. cond b m (w.words (Ring (p % 2 ^ ring_bits w.shape))))
      (ne_eqb (p % 2 ^ ring_bits w.shape) (end % 2 ^ ring_bits w.shape) (apart w P t m end within reached may.returns may.at_end v p low high))

  unfetched : (u p : ℕ) → (w.known u).moving ≡ Fetches p → ⊥
  unfetched = none_fetches w P t m end within reached may.returns may.at_end v

  claims_law : MonitorsAreClaimed w.shape.threads (length w.shape.objects) (monitor_count w.shape) (ring_bits w.shape)
      (w.words Claim) (w.words End) put (inflated_to w) (λ u. (w.known u).kept) (λ u. (w.known u).moving)
  claims_law = record {
    first = v.claims.first;
    ringed = v.claims.ringed;
    claim_word = v.claims.claim_word;
    end_word = v.claims.end_word;
    place = v.claims.place;
    keeps = v.claims.keeps;
    fetches = λ u p h. absurd (unfetched u p h);
    names = v.claims.names;
    returns = v.claims.returns;
    stands = λ p low high. let same = put_else p low high in let b = v.claims.stands p low high in (omega (arith, same, b.0), ap v.claims.place same ∙ b.1);
    kept_there = λ u a h q. elim (v.claims.kept_there u a h q) [ inl b ↦ inl b | inr b ↦ absurd (unfetched u b.0 b.1) ];
    named_there = v.claims.named_there;
    returned_there = v.claims.returned_there;
    ringed_there = λ p a h q. let b = v.claims.ringed_there p a h q in (b.0, b.1, put_else p b.0 b.1 ∙ b.2);
    counted = v.claims.counted;
  }

  all_after : AllHold (kept_parts w z P)
  all_after seen = seen_next step x.words P (standing_seen w P t plan store v)
  all_after claims = claims_law
  all_after c = standing_step step P may.stands.goes_on reached v c

  enqueued_fits : Fits x P
  enqueued_fits = step_fits step x.words P (kept_parts w z P) (parts_stand w z P refl (λ u. refl) (λ u. refl) refl refl refl (λ e. refl)) all_after

-- the law
pub enqueues : (e : CallContext) (m end : ℕ) → KeepsValid (λ w t. MayEnqueue (w.known t) e m end) (λ w t. enqueue_plan e (w.known t).stage w.shape end m)
enqueues e m end w P t within may valid = inl (enqueued_fits w P t e m end within may (fits_standing w P t may.stands.reached may.stands.unrevoking valid))
