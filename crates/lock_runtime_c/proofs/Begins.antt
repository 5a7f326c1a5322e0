-- The passes of a heap that begins are at home.
use Rattle.std.proofs.Common.{◌≡◌, ℕ, zero, suc, ◌+◌, ◌*◌, ◌<◌, ◌≤◌, cond, ne_eqb, Some, length, refl, sym, ap, ◌∙◌, subst, arith, inl}
use Rattle.std.specs.Prelude.{slice_get}
use Rattle.std.proofs.lemmas.Option.{none-some, same_Some}
use Rattle.core_world.specs.Clauses.Lengths.{log_limit}
use Rattle.core_world.specs.Opening.{first_known}
use Rattle.heap_table.specs.Fresh.{IsFresh}
use Rattle.heap_table.specs.Kept.{all_holds}
use Rattle.heap_table.specs.Seen.{HeapSeen, PassSeen, first_pass, first_passes}
use Rattle.heap_table.proofs.Resting.{fresh_rests}
use Rattle.lending.specs.Lending.{AreAt}
use Rattle.lock_runtime_c.specs.LogRoom.{KeepsRoom}
use Rattle.lock_runtime_c.specs.Opening.{page_room}
use Rattle.lock_runtime_c.specs.Rest.{IsHome}
use Rattle.lock_runtime_c.specs.inner.FirstLimits.{first_limit}

-- where no entries are kept, the log may have as many as stamps allow
pub opens_wide : (fuel room : ℕ) → room ≡ page_room fuel → room ≡ 0 → log_limit ≤ first_limit fuel
opens_wide zero room is none = omega arith
opens_wide (suc fuel) room is none =
    let some : room ≡ 2 * suc fuel + 66 = is ∙ ap (λ b. cond b 0 (2 * suc fuel + 66)) (ne_eqb (suc fuel) 0 (λ e. omega (arith, e))) in
    absurd (omega (arith, some, none))

first_keeps : (h : HeapSeen) (limit t : ℕ) → (h.room ≡ 0 → log_limit ≤ limit) → KeepsRoom (first_pass h limit t)
first_keeps h limit t wide =
    let none : all_holds (first_known t).holds ≡ 0 = refl in
    record { exits = record { page = omega (arith, none); stamps = omega (arith, none) }; wide = wide }

first_home : (h : HeapSeen) (limit t : ℕ) → (h.room ≡ 0 → log_limit ≤ limit) → IsFresh h t (first_pass h limit t) → IsHome h t (first_pass h limit t)
first_home h limit t wide fresh = record {
  seated = record { kept = record { rests = fresh_rests h t (first_pass h limit t) fresh; room = first_keeps h limit t wide }; thread = refl };
  stopped = refl;
  quiet = inl refl;
}

-- the pass at place i, where the first is that of thread t
at_place : (h : HeapSeen) (limit t n i : ℕ) (p : PassSeen) → slice_get (first_passes h limit t n) i ≡ Some p → (i < n) × (first_pass h limit (t + i) ≡ p)
at_place h limit t zero i p e = absurd (none-some p e)
at_place h limit t (suc n) zero p e =
    let here : t + 0 ≡ t = omega arith in (omega arith, ap (first_pass h limit) here ∙ same_Some _ p e)
at_place h limit t (suc n) (suc i) p e =
    let there = at_place h limit (suc t) n i p e in
    let same : t + suc i ≡ suc t + i = omega arith in
    (let a = there.0 in omega (arith, a), ap (first_pass h limit) same ∙ there.1)

pub all_home : (h : HeapSeen) (limit n : ℕ) → (h.room ≡ 0 → log_limit ≤ limit) → ((t : ℕ) → t < n → IsFresh h t (first_pass h limit t))
    → AreAt (IsHome h) (first_passes h limit 0 n)
all_home h limit n wide fresh i p e =
    let there = at_place h limit 0 n i p e in
    let same : 0 + i ≡ i = omega arith in
    subst (IsHome h i) (ap (first_pass h limit) (sym same) ∙ there.1) (first_home h limit i wide (fresh i there.0))

pub count_home : (h : HeapSeen) (limit t n : ℕ) → length (first_passes h limit t n) ≡ n
count_home h limit t zero = refl
count_home h limit t (suc n) = let a = count_home h limit (suc t) n in omega (arith, a)
