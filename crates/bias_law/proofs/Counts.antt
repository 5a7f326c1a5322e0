-- The arithmetic core of the bias law: a counted verdict keeps what the count and the verdicts say of one another.
use Rattle.std.proofs.Common.{◌≡◌, ◌≢◌, ℕ, ◌+◌, ◌-◌, ◌<◌, ◌≤◌, ◌==◌, nat_le, cond, Bool, true, false, refl, sym, subst, arith}
use Rattle.std.proofs.lemmas.Bool.Decides.{nat_tests}
use Rattle.lock_policy.specs.declared.policy.Verdict.TheVariants.{Single}
use Rattle.lock_policy.specs.Policy.{decided, is_reset, after_reset, raised, verdict_at, rebias_threshold, revoke_threshold, most_revocations}
use Rattle.core_world.specs.Threads.Counts.{ClassCounts, with_verdict, with_reset}
use Rattle.core_law.specs.CountsAndVerdicts.{CountFits, ClassFits, incremented}

-- the count was set to 0
reset_fits : (n a b c r : ℕ) → CountFits n a b c r → rebias_threshold ≤ n → n < revoke_threshold → CountFits 1 (a + 1) b c (r + 1)
reset_fits n a b c r h low high =
    let revoked = h.revoked in let spent = h.spent in
    record {
      revoked = grind (arith, nat_tests);
      rebiased = λ e. absurd (omega arith);
      spent = grind (arith, nat_tests);
      few = omega arith;
      capped = omega arith;
      even = λ e. absurd (omega arith);
      rebias_once = λ e. absurd (omega arith);
      revoke_once = λ e. absurd (omega arith);
    }

-- the count rose, to neither threshold
single_fits : (n a b c r : ℕ) → CountFits n a b c r → n ≤ revoke_threshold
    → n + 1 ≢ rebias_threshold → n + 1 ≢ revoke_threshold → CountFits (n + 1) (a + 1) b c r
single_fits n a b c r h small low high =
    let revoked = h.revoked in let rebiased = h.rebiased in let spent = h.spent in let few = h.few in
    record {
      revoked = grind (arith, nat_tests);
      rebiased = λ e. grind (arith, nat_tests);
      spent = grind (arith, nat_tests);
      few = omega arith;
      capped = omega arith;
      even = λ e. let even = h.even e in grind (arith, nat_tests);
      rebias_once = λ e. let even = h.even e in let once = h.rebias_once e in grind (arith, nat_tests);
      revoke_once = λ e. let even = h.even e in let once = h.revoke_once e in grind (arith, nat_tests);
    }

-- the count stays at the top
top_fits : (n a b c r : ℕ) → CountFits n a b c r → most_revocations ≤ n → CountFits n (a + 1) b c r
top_fits n a b c r h top =
    let revoked = h.revoked in let rebiased = h.rebiased in let spent = h.spent in let few = h.few in let capped = h.capped in
    record {
      revoked = grind (arith, nat_tests);
      rebiased = λ e. grind (arith, nat_tests);
      spent = grind (arith, nat_tests);
      few = omega arith;
      capped = omega arith;
      even = λ e. let even = h.even e in grind (arith, nat_tests);
      rebias_once = λ e. let even = h.even e in let once = h.rebias_once e in grind (arith, nat_tests);
      revoke_once = λ e. let even = h.even e in let once = h.revoke_once e in grind (arith, nat_tests);
    }

-- the count rose to that of a bulk rebias
rebias_fits : (a b c r : ℕ) → CountFits (rebias_threshold - 1) a b c r → CountFits rebias_threshold a (b + 1) c r
rebias_fits a b c r h =
    let revoked = h.revoked in let spent = h.spent in let few = h.few in
    record {
      revoked = revoked;
      rebiased = λ e. omega arith;
      spent = omega arith;
      few = omega arith;
      capped = omega arith;
      even = λ e. let even = h.even e in grind (arith, nat_tests);
      rebias_once = λ e. let even = h.even e in let once = h.rebias_once e in grind (arith, nat_tests);
      revoke_once = λ e. let even = h.even e in let once = h.revoke_once e in grind (arith, nat_tests);
    }

-- the count rose to that of a bulk revoke
revoke_fits : (a b c r : ℕ) → CountFits (revoke_threshold - 1) a b c r → CountFits revoke_threshold a b (c + 1) r
revoke_fits a b c r h =
    let revoked = h.revoked in let rebiased = h.rebiased in let spent = h.spent in let few = h.few in
    record {
      revoked = omega arith;
      rebiased = λ e. rebiased (omega arith);
      spent = omega arith;
      few = omega arith;
      capped = omega arith;
      even = λ e. let even = h.even e in grind (arith, nat_tests);
      rebias_once = λ e. let even = h.even e in let once = h.rebias_once e in grind (arith, nat_tests);
      revoke_once = λ e. let even = h.even e in let once = h.revoke_once e in grind (arith, nat_tests);
    }

-- what the count and the counts are after a decision that begins with n
abbrev Decided : ClassCounts → ℕ → Bool → Type 0
Decided k n reset = ClassFits (raised n) (with_reset (with_verdict k (verdict_at (raised n))) reset)

-- a count that isn't set to 0
same_reset : (m a b c r : ℕ) → CountFits m a b c r → CountFits m a b c (r + 0)
same_reset m a b c r h = let e : r ≡ r + 0 = omega arith in subst (λ n. CountFits m a b c n) e h

decides : (k : ClassCounts) (n : ℕ) → ClassFits n k → (top at40 at20 : Bool) → nat_le n revoke_threshold ≡ top
    → (raised n == revoke_threshold) ≡ at40 → (raised n == rebias_threshold) ≡ at20 → Decided k n false
decides k n h false at40 at20 t x y =
    let capped = h.capped in
    let e : n ≡ most_revocations = grind (arith, nat_tests) in
    subst (λ m. Decided k m false) (sym e)
    (same_reset most_revocations _ _ _ _ (top_fits most_revocations _ _ _ _ (subst (λ m. ClassFits m k) e h) (omega arith)))
decides k n h true true at20 t x y =
    let e : n ≡ revoke_threshold - 1 = let up : raised n ≡ n + 1 = rw t refl in grind (arith, nat_tests) in
    subst (λ m. Decided k m false) (sym e) (same_reset revoke_threshold _ _ _ _ (revoke_fits _ _ _ _ (subst (λ m. ClassFits m k) e h)))
decides k n h true false true t x y =
    let e : n ≡ rebias_threshold - 1 = let up : raised n ≡ n + 1 = rw t refl in grind (arith, nat_tests) in
    subst (λ m. Decided k m false) (sym e) (same_reset rebias_threshold _ _ _ _ (rebias_fits _ _ _ _ (subst (λ m. ClassFits m k) e h)))
decides k n h true false false t x y =
    let up : raised n ≡ n + 1 = rw t refl in
    let v : verdict_at (raised n) ≡ Single = rw (x, y) refl in
    let low : n + 1 ≢ rebias_threshold = λ e. absurd (grind (arith, nat_tests)) in
    let high : n + 1 ≢ revoke_threshold = λ e. absurd (grind (arith, nat_tests)) in
    let a = single_fits n _ _ _ _ h (grind (arith, nat_tests)) low high in
    subst (λ d. ClassFits (raised n) (with_reset (with_verdict k d) false)) (sym v)
    (subst (λ m. ClassFits m (with_reset (with_verdict k Single) false)) (sym up) (same_reset (n + 1) _ _ _ _ a))

pub counted_fits : (k : ClassCounts) (count last now : ℕ) → ClassFits count k → ClassFits (decided count last now).1 (incremented k count last now)
counted_fits k count last now h = by_reset (is_reset count last now) refl
  where
    by_reset : (b : Bool) → is_reset count last now ≡ b → Decided k (after_reset count last now) (is_reset count last now)
    by_reset true e =
        let low : rebias_threshold ≤ count = grind (arith, nat_tests) in
        let high : count < revoke_threshold = grind (arith, nat_tests) in
        subst (λ (b : Bool). Decided k (cond b 0 count) b) (sym e) (reset_fits count _ _ _ _ h low high)
    by_reset false e = subst (λ (b : Bool). Decided k (cond b 0 count) b) (sym e) (decides k count h _ _ _ refl refl refl)
