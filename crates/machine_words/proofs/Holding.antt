-- How often threads hold objects in all, while some of the objects are as at first.
use Rattle.std.proofs.Common.{◌≡◌, ℕ, zero, suc, ◌+◌, ◌<◌, ◌≤◌, List, [], ◌∷◌, length, map, set, sum, slice_index, slice_get, slice_set, Some}
use Rattle.std.proofs.Common.{refl, sym, ap, subst, arith}
use Rattle.std.specs.List.{AllByRecursion}
use Rattle.std.proofs.lemmas.List.{map-set}
use Rattle.std.proofs.lemmas.List.Sums.{sum_by-cons}
use Rattle.std.proofs.lemmas.Option.{none-some, same_Some}
use Rattle.plain_monitor.specs.Limits.{most_holds}
use Rattle.plain_monitor.specs.Objects.{PlainObject}
use Rattle.plain_machine.specs.Thread.{ThreadState}
use Rattle.machine_laws.specs.ReachedMonitor.{standing}
use Rattle.machine_words.specs.ThreadWords.{holds_in}
use Rattle.machine_words.specs.inner.Reading.{renewed, beside}

sum_below : (ns bs : List ℕ) → ((o : ℕ) → slice_index ns o ≤ slice_index bs o) → sum ns ≤ sum bs
sum_below [] bs each = omega arith
sum_below (n ∷ ns) [] each =
    let whole : sum (n ∷ ns) ≡ n + sum ns = sum_by-cons (λ x. x) n ns in
    let first : n ≤ 0 = each 0 in
    let others : sum ns ≤ 0 = sum_below ns [] (λ o. each (suc o)) in
    let none : sum [] ≡ 0 = refl in
    omega (arith, whole, first, others, none)
sum_below (n ∷ ns) (b ∷ bs) each =
    let whole : sum (n ∷ ns) ≡ n + sum ns = sum_by-cons (λ x. x) n ns in
    let all : sum (b ∷ bs) ≡ b + sum bs = sum_by-cons (λ x. x) b bs in
    let first : n ≤ b = each 0 in
    omega (arith, whole, all, first, sum_below ns bs (λ o. each (suc o)))

element_below : (ns : List ℕ) (o : ℕ) → slice_index ns o ≤ sum ns
element_below [] o = omega arith
element_below (n ∷ ns) zero =
    let whole : sum (n ∷ ns) ≡ n + sum ns = sum_by-cons (λ x. x) n ns in
    let first : slice_index (n ∷ ns) 0 ≡ n = refl in
    omega (arith, whole, first)
element_below (n ∷ ns) (suc o) =
    let whole : sum (n ∷ ns) ≡ n + sum ns = sum_by-cons (λ x. x) n ns in
    let next : slice_index ns o ≤ sum ns = element_below ns o in
    let same : slice_index (n ∷ ns) (suc o) ≡ slice_index ns o = refl in
    omega (arith, whole, next, same)

put_below : (ns : List ℕ) (k n o most : ℕ) → slice_index ns o ≤ most → (k ≡ o → n ≤ most) → slice_index (set ns k n) o ≤ most
put_below [] k n o most h f = h
put_below (x ∷ xs) zero n zero most h f = f refl
put_below (x ∷ xs) zero n (suc o) most h f = h
put_below (x ∷ xs) (suc k) n zero most h f = h
put_below (x ∷ xs) (suc k) n (suc o) most h f = put_below xs k n o most h (λ e. f (ap suc e))

-- each thread holds each of these at most as often as each of those
abbrev pub HeldBelow : List PlainObject → List PlainObject → Type 0
HeldBelow xs ys = (t o : ℕ) → slice_index (holds_in t xs) o ≤ slice_index (holds_in t ys) o

pub held_in_all : (xs ys : List PlainObject) (t : ℕ) → HeldBelow xs ys → sum (holds_in t xs) ≤ sum (holds_in t ys)
held_in_all xs ys t below = sum_below (holds_in t xs) (holds_in t ys) (below t)

-- those that are as at first aren't held
pub none_held : (xs ys : List PlainObject) → HeldBelow (map renewed xs) ys
none_held [] ys t o = omega arith
none_held (x ∷ xs) ys t zero = omega arith
none_held (x ∷ xs) ys t (suc o) = omega (arith, none_held xs [] t o)

standing_at : (xs : List PlainObject) (t k : ℕ) (x : PlainObject) → slice_get xs k ≡ Some x → slice_index (holds_in t xs) k ≡ standing x.monitor t
standing_at [] t k x at = absurd (none-some x at)
standing_at (y ∷ xs) t zero x at = ap (λ (z : PlainObject). standing z.monitor t) (same_Some y x at)
standing_at (y ∷ xs) t (suc k) x at = standing_at xs t k x at

pub stands_few : (xs : List PlainObject) (t k : ℕ) (x : PlainObject) → slice_get xs k ≡ Some x → standing x.monitor t ≤ sum (holds_in t xs)
stands_few xs t k x at = omega (arith, standing_at xs t k x at, element_below (holds_in t xs) k)

-- once one of them is as it is among those
pub held_put : (xs ys : List PlainObject) (k : ℕ) (y : PlainObject) → slice_get ys k ≡ Some y → HeldBelow xs ys → HeldBelow (slice_set xs k y) ys
held_put xs ys k y at below t o =
    subst (λ (ns : List ℕ). slice_index ns o ≤ slice_index (holds_in t ys) o) (sym (map-set (λ (x : PlainObject). standing x.monitor t) xs k y))
    (put_below (holds_in t xs) k (standing y.monitor t) o (slice_index (holds_in t ys) o) (below t o) (λ e.
    let own = standing_at ys t k y at in subst (λ (j : ℕ). standing y.monitor t ≤ slice_index (holds_in t ys) j) e (omega (arith, own))))

-- or as at first
pub held_renewed : (xs ys : List PlainObject) (k : ℕ) (x : PlainObject) → HeldBelow xs ys → HeldBelow (slice_set xs k (renewed x)) ys
held_renewed xs ys k x below t o =
    subst (λ (ns : List ℕ). slice_index ns o ≤ slice_index (holds_in t ys) o) (sym (map-set (λ (x : PlainObject). standing x.monitor t) xs k (renewed x)))
    (put_below (holds_in t xs) k (standing (renewed x).monitor t) o (slice_index (holds_in t ys) o) (below t o) (λ e. omega arith))

-- threads beside objects that each holds at most as often as it may
pub beside_few : (objects : List PlainObject) (t : ℕ) (ss : List ThreadState)
    → ((u : ℕ) → u < t + length ss → sum (holds_in u objects) ≤ most_holds)
    → AllByRecursion (λ (s : ThreadState). sum s.holds ≤ most_holds) (beside objects t ss)
beside_few objects t [] few = tt
beside_few objects t (s ∷ ss) few =
    (few t (omega arith), beside_few objects (t + 1) ss (λ u lt. few u (omega (arith, lt))))
