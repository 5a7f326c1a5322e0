-- The places of a thread in a list of those who wait or were called.
use Rattle.std.proofs.Common.{◌≡◌, ◌≢◌, ℕ, ◌+◌, ◌≤◌, Bool, true, false, ◌==◌, List, [], ◌∷◌, ◌++◌, Some, IsSome, refl, sym, ◌∙◌, subst, arith, eqb-true, ne_eqb}
use Rattle.std.specs.List.{AllByRecursion}
use Rattle.std.proofs.lemmas.Bool.{false≢true}
use Rattle.std.proofs.lemmas.Option.{none-some, same_Some}
use Rattle.plain_monitor.specs.Monitor.{count_of, is_listed, without}
use Rattle.plain_monitor.specs.Listed.{tally, times_in, counts_in}

-- what two lists in a row weigh for t
pub tally_joined : (f : ℕ × ℕ → ℕ) (ps qs : List (ℕ × ℕ)) (t : ℕ) → tally f (ps ++ qs) t ≡ tally f ps t + tally f qs t
tally_joined f [] qs t = omega arith
tally_joined f (p ∷ ps) qs t = omega (arith, tally_joined f ps qs t)

-- a thread that isn't listed weighs nothing
pub tally_unlisted : (f : ℕ × ℕ → ℕ) (ps : List (ℕ × ℕ)) (t : ℕ) → is_listed ps t ≡ false → tally f ps t ≡ 0
tally_unlisted f [] t h = refl
tally_unlisted f (p ∷ ps) t h = go (p.0 == t) refl (tally_unlisted f ps t)
  where
    go : (b : Bool) → (p.0 == t) ≡ b → (is_listed ps t ≡ false → tally f ps t ≡ 0) → tally f (p ∷ ps) t ≡ 0
    go true e ih = absurd (false≢true (sym (rw e at h)))
    go false e ih = let later = ih (rw e at h) in rw e (omega (arith, later))

-- nor does one that is listed no times
pub tally_none : (f : ℕ × ℕ → ℕ) (ps : List (ℕ × ℕ)) (t : ℕ) → times_in ps t ≡ 0 → tally f ps t ≡ 0
tally_none f [] t h = refl
tally_none f (p ∷ ps) t h = go (p.0 == t) refl (tally_none f ps t)
  where
    go : (b : Bool) → (p.0 == t) ≡ b → (times_in ps t ≡ 0 → tally f ps t ≡ 0) → tally f (p ∷ ps) t ≡ 0
    go true e ih = let k = rw e at h in absurd (omega (arith, k))
    go false e ih = let k = rw e at h in let later = ih (omega (arith, k)) in rw e (omega (arith, later))

-- which isn't listed then
pub unlisted : (ps : List (ℕ × ℕ)) (t : ℕ) → times_in ps t ≡ 0 → is_listed ps t ≡ false
unlisted [] t h = refl
unlisted (p ∷ ps) t h = go (p.0 == t) refl (unlisted ps t)
  where
    go : (b : Bool) → (p.0 == t) ≡ b → (times_in ps t ≡ 0 → is_listed ps t ≡ false) → is_listed (p ∷ ps) t ≡ false
    go true e ih = let k = rw e at h in absurd (omega (arith, k))
    go false e ih = let k = rw e at h in rw e (ih (omega (arith, k)))

-- a thread that was taken out weighs nothing, and each other as before
pub tally_without : (f : ℕ × ℕ → ℕ) (ps : List (ℕ × ℕ)) (t : ℕ) → tally f (without ps t) t ≡ 0
tally_without f [] t = refl
tally_without f (p ∷ ps) t = go (p.0 == t) refl (tally_without f ps t)
  where
    go : (b : Bool) → (p.0 == t) ≡ b → tally f (without ps t) t ≡ 0 → tally f (without (p ∷ ps) t) t ≡ 0
    go true e ih = rw e ih
    go false e ih = rw (e, e) (omega (arith, ih))

pub tally_without_other : (f : ℕ × ℕ → ℕ) (ps : List (ℕ × ℕ)) (t u : ℕ) → u ≢ t → tally f (without ps t) u ≡ tally f ps u
tally_without_other f [] t u other = refl
tally_without_other f (p ∷ ps) t u other = go (p.0 == t) refl (tally_without_other f ps t u other)
  where
    go : (b : Bool) → (p.0 == t) ≡ b → tally f (without ps t) u ≡ tally f ps u → tally f (without (p ∷ ps) t) u ≡ tally f (p ∷ ps) u
    go true e ih = let is : p.0 ≡ t = eqb-true p.0 t e in rw (e, ne_eqb p.0 u (λ q. other (sym q ∙ is))) (omega (arith, ih))
    go false e ih = rw e (omega (arith, ih))

-- what holds of all places holds of those that are left
pub all_without : (P : ℕ × ℕ → Type 0) (ps : List (ℕ × ℕ)) (t : ℕ) → AllByRecursion P ps → AllByRecursion P (without ps t)
all_without P [] t all = tt
all_without P (p ∷ ps) t all = go (p.0 == t) refl (all_without P ps t all.1)
  where
    go : (b : Bool) → (p.0 == t) ≡ b → AllByRecursion P (without ps t) → AllByRecursion P (without (p ∷ ps) t)
    go true e ih = rw e ih
    go false e ih = rw e (all.0, ih)

-- what holds of all places holds of the one whose count is found
pub all_counted : (P : ℕ × ℕ → Type 0) (ps : List (ℕ × ℕ)) (t c : ℕ) → AllByRecursion P ps → count_of ps t ≡ Some c → P (t, c)
all_counted P [] t c all h = absurd (none-some c h)
all_counted P (p ∷ ps) t c all h = go (p.0 == t) refl (all_counted P ps t c all.1)
  where
    go : (b : Bool) → (p.0 == t) ≡ b → (count_of ps t ≡ Some c → P (t, c)) → P (t, c)
    go true e ih =
        let is : p.0 ≡ t = eqb-true p.0 t e in
        let count : p.1 ≡ c = same_Some p.1 c (rw e at h) in
        subst (λ (k : ℕ). P (t, k)) count (subst (λ (k : ℕ). P (k, p.1)) is all.0)
    go false e ih = ih (rw e at h)

-- a thread with a count is listed
pub counted_times : (ps : List (ℕ × ℕ)) (t c : ℕ) → count_of ps t ≡ Some c → 1 ≤ times_in ps t
counted_times [] t c h = absurd (none-some c h)
counted_times (p ∷ ps) t c h = go (p.0 == t) refl (counted_times ps t c)
  where
    go : (b : Bool) → (p.0 == t) ≡ b → (count_of ps t ≡ Some c → 1 ≤ times_in ps t) → 1 ≤ times_in (p ∷ ps) t
    go true e ih = rw e (omega arith)
    go false e ih = let later = ih (rw e at h) in rw e (omega (arith, later))

-- where it is listed once, the count that is found is all of its counts
pub counted_once : (ps : List (ℕ × ℕ)) (t c : ℕ) → count_of ps t ≡ Some c → times_in ps t ≤ 1 → counts_in ps t ≡ c
counted_once [] t c h once = absurd (none-some c h)
counted_once (p ∷ ps) t c h once = go (p.0 == t) refl (counted_once ps t c)
  where
    go : (b : Bool) → (p.0 == t) ≡ b → (count_of ps t ≡ Some c → times_in ps t ≤ 1 → counts_in ps t ≡ c) → counts_in (p ∷ ps) t ≡ c
    go true e ih =
        let k = rw e at once in
        let count : p.1 ≡ c = same_Some p.1 c (rw e at h) in
        let rest : counts_in ps t ≡ 0 = tally_none (λ q. q.1) ps t (omega (arith, k)) in
        rw e (omega (arith, count, rest))
    go false e ih =
        let k = rw e at once in
        let later = ih (rw e at h) (omega (arith, k)) in
        rw e (omega (arith, later))

-- a thread that is listed has a count
pub times_counted : (ps : List (ℕ × ℕ)) (t : ℕ) → 1 ≤ times_in ps t → IsSome (count_of ps t)
times_counted [] t h = absurd (omega arith)
times_counted (p ∷ ps) t h = go (p.0 == t) refl (times_counted ps t)
  where
    go : (b : Bool) → (p.0 == t) ≡ b → (1 ≤ times_in ps t → IsSome (count_of ps t)) → IsSome (count_of (p ∷ ps) t)
    go true e ih = rw e refl
    go false e ih = let k = rw e at h in rw e (ih (omega (arith, k)))
