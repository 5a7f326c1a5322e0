-- A running thread loads the place of the position that it claimed, and keeps the monitor that stands there.
use Rattle.core_locks.proofs.Prelude.{◌≡◌, ◌≢◌, ℕ, ◌+◌, ◌%◌, ◌<◌, ◌≤◌, ◌^◌, ◌||◌, true, List, length, Some, None, refl, sym, ap, ◌∙◌}
use Rattle.core_locks.proofs.Prelude.{subst, arith, inl, inr, same_Some, is_some, PlainObject, WordId, Claim, End, Ring, StepPlan}
use Rattle.core_locks.proofs.Prelude.{inflation_in, bears, its_monitor, ThreadView, Fetches, Returns, last_seen, World, with_known, owner_at}
use Rattle.core_locks.proofs.Prelude.{inflated_to, Stays, CallContext, Fits, MonitorsAreClaimed, claimed_or_kept, given_back, by_equal}
use Rattle.core_locks.proofs.Prelude.{each_with_known, with_known_here, with_known_else, with_word_same, header_stays, fits_running}
use Rattle.core_locks.proofs.Prelude.{stays_back, KeepsValid, MayFetch, fetch_plan, monitor_count, ring_bits, ring_places, IsValid}
use Rattle.core_world.specs.Clauses.Claims.{With, Leaves, InRing}
use Rattle.core_world.proofs.deflation.Rings.{ring_few}
use Rattle.core_locks.specs.DeflationLaws.{IsFilled, IsOnlyFor}
use Rattle.core_locks.proofs.monitor.Claims.{one_place}
use Rattle.core_locks.proofs.monitor.Places.{one_holder, one_claimed}
use Rattle.core_locks.proofs.monitor.Moved.{moving_else, moves_law, as_many}
use Rattle.core_locks.proofs.Clauses.{kept_parts, parts_stand, seen, claims, moves, AllHold}
use Rattle.core_locks.proofs.Steps.{keeping, IsStep, next, step_fits, seen_next, quiet_step}
use Rattle.core_locks.proofs.OwnSeen.{back_by, left_with, hit_world}
use Rattle.core_locks.proofs.monitor.MonitorSeen.{monitor_seen, others_by, stays_kept}

module _ (w : World) (P : List PlainObject) (t : ℕ) (e : CallContext) (p : ℕ)
    (within : t < w.shape.threads) (may : MayFetch (w.known t) e p) (v : Fits w P) where
  abbrev plan : StepPlan
  plan = fetch_plan e w.shape p

  abbrev l : ThreadView
  l = left_with w t plan

  abbrev x : World
  x = hit_world w t plan

  abbrev ring : ℕ → ℕ
  ring q = w.words (Ring q)

  -- the monitor that it finds
  abbrev m : ℕ
  m = ring (p % 2 ^ ring_bits w.shape)

  mine_there : ((w.known t).kept ≡ None) × (m < monitor_count w.shape) × (v.claims.place m ≡ With t)
  mine_there = v.claims.fetches t p may.claimed

  -- the thread has seen no word of it
  unmet : (n : WordId) (s : ℕ) → last_seen n (w.known t).seen ≡ Some s → its_monitor n ≡ Some m → ⊥
  unmet n s saw is = elim (v.seen.monitors t m s may.runs (n, is, saw)) [
    | inl a ↦ let none = mine_there.0 in absurd (cc (none, a))
    | inr a ↦ let here = mine_there.2 in let there = (v.claims.names a.0 m a.1).1 in absurd (cc (here, there))
  ]

  mine : (n : WordId) (s : ℕ) → last_seen n (w.known t).seen ≡ Some s → Stays x l (owner_at P) t n s → w.words n ≡ s
  mine n s saw g = elim (stays_kept w (w.known t) (owner_at P) t m n s
      (stays_back w x (record (w.known t) { kept = Some m }) l (owner_at P) (owner_at P) t
      (back_by w x (record (w.known t) { kept = Some m }) l (owner_at P) (owner_at P) t refl refl (λ h. h) refl (sym (ap inflation_in may.calm))
      (λ a. v.quiet.none_revokes t) refl (λ i h. h) (λ i a q h. subst (λ s. (owner_at P i t || bears s i) ≡ true) (sym may.calm) h)) n s g)) [
        | inl a ↦ v.seen.stays t n s saw a
        | inr a ↦ absurd (unmet n s saw a)
      ]

  step : IsStep w t l keeping
  step = record { within = within; mine = λ j. record l { stage = sym may.calm j }; others = λ k. refl }

  abbrev z : World
  z = next w t l keeping x.words

  kept_else : (u : ℕ) → u ≢ t → (with_known t l w.known u).kept ≡ (w.known u).kept
  kept_else u d = ap (λ (k : ThreadView). k.kept) (with_known_else t l w.known u d)

  claims_law : MonitorsAreClaimed w.shape.threads (length w.shape.objects) (monitor_count w.shape) (ring_bits w.shape)
      (w.words Claim) (w.words End) ring (inflated_to w) (λ u. (with_known t l w.known u).kept) (λ u. (with_known t l w.known u).moving)
  claims_law = record {
    first = v.claims.first;
    ringed = v.claims.ringed;
    claim_word = v.claims.claim_word;
    end_word = v.claims.end_word;
    place = v.claims.place;
    keeps = λ u a. each_with_known (λ u y. y.kept ≡ Some a → (a < monitor_count w.shape) × (v.claims.place a ≡ With u)) t l w.known u
        (λ h. subst (λ b. (b < monitor_count w.shape) × (v.claims.place b ≡ With t)) (same_Some _ _ h) (mine_there.1, mine_there.2)) (λ d. v.claims.keeps u a);
    fetches = λ u q. each_with_known (λ u y. y.moving ≡ Fetches q → (y.kept ≡ None)
        × (ring (q % 2 ^ ring_bits w.shape) < monitor_count w.shape) × (v.claims.place (ring (q % 2 ^ ring_bits w.shape)) ≡ With u)) t l w.known u
        (λ h. absurd (cc h)) (λ d. v.claims.fetches u q);
    names = v.claims.names;
    returns = λ u a. each_with_known (λ u y. y.moving ≡ Returns a → (a < monitor_count w.shape) × (v.claims.place a ≡ Leaves u)) t l w.known u
        (λ h. absurd (cc h)) (λ d. v.claims.returns u a);
    stands = v.claims.stands;
    kept_there = λ u a h q. by_equal u t
        (λ s. elim (v.claims.kept_there u a h q) [
          | inl b ↦ let none = mine_there.0 in let some = ap (λ z. (w.known z).kept) (sym s) ∙ b in absurd (cc (none, some))
          | inr b ↦
              let is : b.0 ≡ p = one_claimed b.0 p (sym (ap (λ z. (w.known z).moving) (sym s) ∙ b.1) ∙ may.claimed) in
              inl (ap (λ z. (with_known t l w.known z).kept) s ∙ ap (λ (k : ThreadView). k.kept) (with_known_here t l w.known)
              ∙ ap Some (ap (λ z. ring (z % 2 ^ ring_bits w.shape)) (sym is) ∙ b.2))
        ])
        (λ d. elim (v.claims.kept_there u a h q) [ inl b ↦ inl (kept_else u d ∙ b) | inr b ↦ inr (b.0, moving_else w t l u d ∙ b.1, b.2) ]);
    named_there = v.claims.named_there;
    returned_there = λ u a h q. let b = v.claims.returned_there u a h q in
        moving_else w t l u (λ s. let some = may.claimed in let other = ap (λ z. (w.known z).moving) (sym s) ∙ b in absurd (cc (some, other))) ∙ b;
    ringed_there = v.claims.ringed_there;
    counted =
        let a = as_many w t l w.shape.threads (λ u y. claimed_or_kept y.moving y.kept)
        (ap (λ z. is_some (claimed_or_kept z (w.known t).kept)) (sym may.claimed)) in
        let b = as_many w t l w.shape.threads (λ u y. given_back y.moving) (ap (λ z. is_some (given_back z)) (sym may.claimed)) in
        omega (arith, a, b, v.claims.counted);
  }

  all_after : AllHold (kept_parts w z P)
  all_after seen = seen_next step x.words P (monitor_seen w P t plan (record {
    runs = may.runs;
    seen = refl;
    running = refl;
    requesting = refl;
    reached = refl;
    mine = λ n s e d g. mine n s e g;
    kept = λ m h. let none = mine_there.0 in absurd (cc (none, h));
    fresh = λ m is. absurd (cc is);
    others = λ u n s d e. others_by w x (owner_at P) refl refl u n s;
    uncounted = λ u s d g h. elim g [ inl a ↦ a.1 | inr a ↦ a.2 ];
    unbiased = λ o h. h;
    biased = λ o h. h;
    there = λ o h. h;
    names = λ o m h. h;
    waits = λ u o h. h;
    idle = λ o is. absurd (cc is);
  }) v)
  all_after claims = subst (λ (f : WordId → ℕ). MonitorsAreClaimed w.shape.threads (length w.shape.objects)
      (monitor_count w.shape) (ring_bits w.shape) (f Claim) (f End) (λ q. f (Ring q)) (inflated_to w)
      (λ u. (with_known t l w.known u).kept) (λ u. (with_known t l w.known u).moving)) (sym (with_word_same plan.at (w.words plan.at) w.words refl)) claims_law
  all_after moves = moves_law w t l P (λ q h. absurd (cc h)) (λ a h. absurd (cc h)) v
  all_after k = quiet_step step P may.goes_on may.runs v k

  fetched_fits : Fits x P
  fetched_fits = step_fits step x.words P (kept_parts w z P)
      (parts_stand w z P refl (λ u. refl) (λ u. refl) refl refl refl (λ e. header_stays z w refl refl refl e)) all_after

-- the law
pub fetches_one : (e : CallContext) (p : ℕ) → KeepsValid (λ w t. MayFetch (w.known t) e p) (λ w t. fetch_plan e w.shape p)
fetches_one e p w P t within may valid = inl (fetched_fits w P t e p within may (fits_running w P t may.runs valid))

-- the d-th filled position: it is one of those between the first and the last, and this is its place
pub filled_at : (w : World) (P : List PlainObject) (v : Fits w P) (d : ℕ) → IsFilled w d
    → (d < v.claims.ringed) × ((v.claims.first + d) % 2 ^ ring_bits w.shape ≡ (w.words Claim + d) % 2 ^ ring_bits w.shape)
filled_at w P v d filled =
    let limits = v.limits in
    let most = filled.1 in
    let word = filled.2 in
    let low = filled.3 in
    let few : ring_bits w.shape ≤ 64 = let bits = ring_few w.shape in omega (arith, bits) in
    let twice : v.claims.first % 2 ^ 64 ≡ w.words Claim % 2 ^ 64 = let claimed = v.claims.claim_word in omega (arith, claimed) in (
      omega (arith, v.claims.claim_word, v.claims.end_word, v.claims.counted, most, word, low, limits.threads, limits.objects),
      one_place v.claims.first (w.words Claim) d (ring_bits w.shape) few twice,
    )

-- a monitor stands there in the ring
in_ring : (w : World) (P : List PlainObject) (v : Fits w P) (d : ℕ) → IsFilled w d
    → v.claims.place (w.words (Ring ((w.words Claim + d) % ring_places w.shape))) ≡ InRing (v.claims.first + d)
in_ring w P v d filled =
    let at = filled_at w P v d filled in
    ap (λ z. v.claims.place (w.words (Ring z))) (sym at.1) ∙ (v.claims.stands (v.claims.first + d) (omega arith) (omega (arith, at.0))).1

-- the monitor that it finds is nobody else's: no mark names it, no thread keeps it or gives it back, no other has claimed its place, and it stands at no
-- filled position
pub of_nobody : (w : World) (P : List PlainObject) (t : ℕ) (e : CallContext) (p : ℕ)
    → MayFetch (w.known t) e p → IsValid w P → IsOnlyFor w t (w.words (Ring (p % ring_places w.shape)))
of_nobody w P t e p may valid =
    let v = fits_running w P t may.runs valid in
    let mine = v.claims.fetches t p may.claimed in
    record {
      there = mine.1;
      unnamed = λ o h. let here = mine.2 in let there = (v.claims.names o (w.words (Ring (p % ring_places w.shape))) h).1 in absurd (cc (here, there));
      unkept = λ u h.
          let there = (v.claims.keeps u (w.words (Ring (p % ring_places w.shape))) h).1 in
          let same : u ≡ t = one_holder u t (sym there ∙ mine.2) in
          let none = mine.0 in
          let some = ap (λ y. (w.known y).kept) (sym same) ∙ h in
          absurd (cc (none, some));
      unclaimed = λ u q other h is. let there = (v.claims.fetches u q h).2 in other (one_holder u t (sym there ∙ ap v.claims.place is ∙ mine.2));
      unreturned = λ u h. let here = mine.2 in let there = (v.claims.returns u (w.words (Ring (p % ring_places w.shape))) h).1 in absurd (cc (here, there));
      unringed = λ d filled h. let here = mine.2 in let there = sym (ap v.claims.place h) ∙ in_ring w P v d filled in absurd (cc (here, there));
    }
