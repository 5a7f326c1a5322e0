-- A running thread that keeps no monitor claims a ring position.
use Rattle.core_locks.proofs.Prelude.{◌≡◌, ◌≢◌, ℕ, ◌+◌, ◌-◌, ◌*◌, ◌%◌, ◌<◌, ◌≤◌, ◌^◌, ◌||◌, true, List}
use Rattle.core_locks.proofs.Prelude.{length, None, refl, sym, ap, ◌∙◌, subst, arith, inl, inr, is_some, PlainObject, Claim, End, Ring}
use Rattle.core_locks.proofs.Prelude.{StepPlan, inflation_in, bears, ThreadView, Moving, Still, Fetches, Returns, World, with_known}
use Rattle.core_locks.proofs.Prelude.{owner_at, inflated_to, Stays, CallContext, Fits, MonitorsAreClaimed, claimed_or_kept, given_back}
use Rattle.core_locks.proofs.Prelude.{count_with_monitor, by_equal, each_with_known, header_stays}
use Rattle.core_locks.proofs.Prelude.{fits_running, KeepsValid, MayClaim, claim_plan, monitor_count, ring_bits}
use Rattle.core_world.specs.Clauses.Claims.{Place, With, At, Leaves, InRing}
use Rattle.core_world.proofs.deflation.Rings.{ring_few, place_of_word}
use Rattle.core_locks.proofs.monitor.Places.{one_holder, one_position, one_claimed, with_most, with_none}
use Rattle.core_locks.proofs.monitor.Moved.{moved, Moves, moves_from, moving_here, moving_else, moves_law, one_more}
use Rattle.core_locks.proofs.Clauses.{kept_parts, parts_stand, seen, claims, moves, AllHold}
use Rattle.std.proofs.Common.{◌/◌}
use Rattle.std.proofs.lemmas.Nat.{div-add-mod'}
use Rattle.std.proofs.Math.Nat.{add-mul-mod_self_right}
use Rattle.core_locks.proofs.Steps.{handling, IsStep, next, step_fits, seen_next, quiet_step}
use Rattle.core_locks.proofs.OwnSeen.{own_seen, left_with, hit_world}

-- a count that goes on modulo m
pub next_word : (n m k : ℕ) → (n % m + k) % m ≡ (n + k) % m
next_word n m k =
    let whole = div-add-mod' n m in
    let same : n + k ≡ n % m + k + n / m * m = omega (arith, whole) in
    sym (add-mul-mod_self_right (n % m + k) (n / m) m) ∙ ap (λ z. z % m) (sym same)

-- positions with one word have one place, and so have those d after them
pub one_place : (p q d b : ℕ) → b ≤ 64 → p % 2 ^ 64 ≡ q % 2 ^ 64 → (p + d) % 2 ^ b ≡ (q + d) % 2 ^ b
one_place p q d b few same =
    let words : (p + d) % 2 ^ 64 ≡ (q + d) % 2 ^ 64 = sym (next_word p (2 ^ 64) d) ∙ ap (λ z. (z + d) % 2 ^ 64) same ∙ next_word q (2 ^ 64) d in
    sym (place_of_word (p + d) b few) ∙ ap (λ z. z % 2 ^ b) words ∙ place_of_word (q + d) b few

module _ (w : World) (P : List PlainObject) (t : ℕ) (e : CallContext) (within : t < w.shape.threads) (may : MayClaim (w.known t) e) (v : Fits w P) where
  abbrev plan : StepPlan
  plan = claim_plan e

  abbrev l : ThreadView
  l = left_with w t plan

  abbrev x : World
  x = hit_world w t plan

  abbrev c : ℕ
  c = w.words Claim

  abbrev bits : ℕ
  bits = ring_bits w.shape

  abbrev ring : ℕ → ℕ
  ring p = w.words (Ring p)

  abbrev first : ℕ
  first = v.claims.first

  -- nobody gives a monitor back while a thread runs
  none_returns : (u : ℕ) → given_back (w.known u).moving ≡ None
  none_returns u = by_moving (w.known u).moving refl
    where
      by_moving : (m : Moving) → (w.known u).moving ≡ m → given_back m ≡ None
      by_moving Still g = refl
      by_moving (Fetches p) g = refl
      by_moving (Returns m) g = let stopped = (v.safe.safepoint u (v.moves.reaches u m g)).1 t in let runs = may.runs in absurd (cc (stopped, runs))

  hands_more : count_with_monitor w.shape.threads (λ u. claimed_or_kept (with_known t l w.known u).moving (w.known u).kept)
      ≡ count_with_monitor w.shape.threads (λ u. claimed_or_kept (w.known u).moving (w.known u).kept) + 1
  hands_more = one_more w t l w.shape.threads (λ u y. claimed_or_kept y.moving (w.known u).kept) within
      (λ i. is_some (claimed_or_kept (may.still i) (may.none i))) refl

  returns_none : count_with_monitor w.shape.threads (λ u. given_back (w.known u).moving) ≡ 0
  returns_none = with_none w.shape.threads (λ u. given_back (w.known u).moving) none_returns

  returned_none : count_with_monitor w.shape.threads (λ u. given_back (with_known t l w.known u).moving) ≡ 0
  returned_none = with_none w.shape.threads (λ u. given_back (with_known t l w.known u).moving)
      (λ u. each_with_known (λ u y. given_back y.moving ≡ None) t l w.known u refl (λ d. none_returns u))

  -- a monitor stands at the position
  some : 0 < v.claims.ringed
  some =
      let a = with_most w.shape.threads (λ u. claimed_or_kept (with_known t l w.known u).moving (w.known u).kept) in
      let b = with_most (length w.shape.objects) (inflated_to w) in
      omega (arith, a, b, hands_more, returns_none, v.claims.counted)

  -- it is this one
  abbrev m : ℕ
  m = ring (first % 2 ^ bits)

  stood : (m < monitor_count w.shape) × (v.claims.place m ≡ InRing first)
  stood = v.claims.stands first (omega arith) (omega (arith, some))

  same_place : c % 2 ^ bits ≡ first % 2 ^ bits
  same_place = ap (λ z. z % 2 ^ bits) v.claims.claim_word ∙ place_of_word first bits (let few = ring_few w.shape in omega (arith, few))

  abbrev place : ℕ → Place
  place = moved v.claims.place m (With t)

  move : Moves v.claims.place m (InRing first) (With t)
  move = moves_from v.claims.place m (InRing first) (With t) stood.1

  open move use {place_here, place_else, stays_at, was_at}

  claims_law : MonitorsAreClaimed w.shape.threads (length w.shape.objects) (monitor_count w.shape) bits
      (x.words Claim) (w.words End) ring (inflated_to w) (λ u. (w.known u).kept) (λ u. (with_known t l w.known u).moving)
  claims_law = record {
    first = first + 1;
    ringed = v.claims.ringed - 1;
    claim_word = ap (λ z. (z + 1) % 2 ^ 64) v.claims.claim_word ∙ next_word first (2 ^ 64) 1;
    end_word = v.claims.end_word ∙ ap (λ z. z % 2 ^ 64) (let h = some in
        let s : first + v.claims.ringed ≡ first + 1 + (v.claims.ringed - 1) = omega (arith, h) in s);
    place = place;
    keeps = λ u a h. let b = v.claims.keeps u a h in (b.0, stays_at a (With u) b.1 (λ q. cc q));
    fetches = λ u p. each_with_known (λ u y. y.moving ≡ Fetches p
        → ((w.known u).kept ≡ None) × (ring (p % 2 ^ bits) < monitor_count w.shape) × (place (ring (p % 2 ^ bits)) ≡ With u)) t l w.known u
        (λ h. let is : ring (p % 2 ^ bits) ≡ m = ap (λ z. ring (z % 2 ^ bits)) (one_claimed p c (sym h)) ∙ ap ring same_place in
        (may.none, omega (arith, is, stood.0), place_here (ring (p % 2 ^ bits)) is))
        (λ d h. let b = v.claims.fetches u p h in (b.0, b.1, stays_at (ring (p % 2 ^ bits)) (With u) b.2 (λ q. cc q)));
    names = λ o a h. let b = v.claims.names o a h in (b.0, stays_at a (At o) b.1 (λ q. cc q));
    returns = λ u a. each_with_known (λ u y. y.moving ≡ Returns a → (a < monitor_count w.shape) × (place a ≡ Leaves u)) t l w.known u (λ h. absurd (cc h))
        (λ d h. let b = v.claims.returns u a h in (b.0, stays_at a (Leaves u) b.1 (λ q. cc q)));
    stands = λ p low high. let b = v.claims.stands p (omega (arith, low)) (omega (arith, high, some)) in
        (b.0, stays_at (ring (p % 2 ^ bits)) (InRing p) b.1 (λ q. let s = one_position first p q in absurd (omega (arith, s, low))));
    kept_there = λ u a h q. by_equal a m
        (λ s. let is : u ≡ t = sym (one_holder t u (sym (place_here a s) ∙ q)) in
        inr (c, ap (λ z. (with_known t l w.known z).moving) is ∙ moving_here w t l, ap ring same_place ∙ sym s))
        (λ d. elim (v.claims.kept_there u a h (sym (place_else a d) ∙ q)) [
          | inl b ↦ inl b
          | inr b ↦ inr (
            b.0,
            moving_else w t l u (λ s. let none = may.still in
                let some = ap (λ z. (w.known z).moving) (sym s) ∙ b.1 in absurd (cc (none, some))) ∙ b.1,
            b.2,
          )
        ]);
    named_there = λ o a h q. v.claims.named_there o a h (was_at a (At o) q (λ z. cc z)).1;
    returned_there = λ u a h q. let b = v.claims.returned_there u a h (was_at a (Leaves u) q (λ z. cc z)).1 in
        moving_else w t l u (λ s. let none = may.still in let some = ap (λ z. (w.known z).moving) (sym s) ∙ b in absurd (cc (none, some))) ∙ b;
    ringed_there = λ p a h q. let was = was_at a (InRing p) q (λ z. cc z) in let b = v.claims.ringed_there p a h was.1 in
        let other : p ≢ first = λ s. was.0 (sym b.2 ∙ ap (λ z. ring (z % 2 ^ bits)) s) in
        (omega (arith, b.0, other), omega (arith, b.1, some), b.2);
    counted = omega (arith, some, hands_more, returns_none, returned_none, v.claims.counted);
  }

  step : IsStep w t l handling
  step = record { within = within; mine = λ j. record l { stage = sym may.calm j }; others = λ k. refl }

  abbrev z : World
  z = next w t l handling x.words

  inflates : inflation_in l.stage ≡ inflation_in (w.known t).stage
  inflates = sym (ap inflation_in may.calm)

  uncounted : (u s : ℕ) → u ≢ t → Stays w (w.known u) (owner_at P) u Claim s → w.words Claim ≡ s → ⊥
  uncounted u s d h is = elim h [ inl a ↦ a.1 | inr a ↦ a.2 ]

  held : (o a : ℕ) → (owner_at P o t || bears l.stage o) ≡ true → (owner_at P o t || bears (w.known t).stage o) ≡ true
  held o a h = subst (λ s. (owner_at P o t || bears s o) ≡ true) (sym may.calm) h

  all_after : AllHold (kept_parts w z P)
  all_after seen = seen_next step x.words P (own_seen w P t plan (search (may.runs, inflates, held, uncounted)) v)
  all_after claims = claims_law
  all_after moves = moves_law w t l P (λ p h. may.runs) (λ a h. absurd (cc h)) v
  all_after k = quiet_step step P may.goes_on may.runs v k

  claimed_fits : Fits x P
  claimed_fits = step_fits step x.words P (kept_parts w z P)
      (parts_stand w z P refl (λ u. refl) (λ u. refl) refl refl refl (λ e. header_stays z w refl refl refl e)) all_after

-- the law
pub claims_one : (e : CallContext) → KeepsValid (λ w t. MayClaim (w.known t) e) (λ w t. claim_plan e)
claims_one e w P t within may valid = inl (claimed_fits w P t e within may (fits_running w P t may.runs valid))
