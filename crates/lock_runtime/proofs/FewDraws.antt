-- A thread draws no more hashes than the heap has objects: each draw that it logged gave a hash to an object, and no object got two.
use Rattle.std.proofs.Common.{◌≡◌, ℕ, zero, suc, ◌+◌, ◌<◌, ◌≤◌, ◌==◌, Bool, true, false, cond, List, [], ◌∷◌}
use Rattle.std.proofs.Common.{Option, Some, None, length, refl, sym, ap, ◌∙◌, subst, arith, inl, inr, eq-eqb}
use Rattle.std.proofs.lemmas.Bool.{cases_lt}
use Rattle.std.proofs.lemmas.List.{get_or_past}
use Rattle.plain_monitor.specs.Limits.{most_in_all}
use Rattle.plain_monitor.specs.Objects.{PlainObject, new_object}
use Rattle.plain_monitor.specs.declared.entry.Logged.{Logged}
use Rattle.core_world.specs.Clauses.Draws.{Draw, draw_in, drawn_by, drawn_for, draws_in, draws_for, all_draws}
use Rattle.core_world.specs.Locks.{hash_at, or_zero}
use Rattle.core_world.specs.Threads.ThreadView.{ThreadView}
use Rattle.core_world.specs.Threads.Stages.{one_if}
use Rattle.core_world.specs.Valid.{Fits, IsValid}
use Rattle.core_world.specs.Words.Shape.{Shape}
use Rattle.core_world.specs.World.{World, logs_from}
use Rattle.core_world.proofs.KnowledgeParts.{by_equal}
use Rattle.core_law.proofs.Standing.{home, inside, valid_here}
use Rattle.heap_table.specs.Seen.{HeapSeen, PassSeen, IsOf}
use Rattle.lock_runtime.proofs.FewShots.{as_before}
use Rattle.lock_runtime.proofs.Stands.{sound_world}

-- how many draws of a log are for the objects below n, and whether a draw is
abbrev below : ℕ → List Logged → ℕ
below zero log = 0
below (suc n) log = below n log + draws_for n log

abbrev once_below : ℕ → Option Draw → ℕ
once_below zero d = 0
once_below (suc n) d = once_below n d + drawn_for n d

below_none : (n : ℕ) → below n [] ≡ 0
below_none zero = refl
below_none (suc n) = let a = below_none n in omega (arith, a)

below_more : (n : ℕ) (l : Logged) (log : List Logged) → below n (l ∷ log) ≡ once_below n (draw_in l.entry) + below n log
below_more zero l log = omega arith
below_more (suc n) l log = let a = below_more n l log in omega (arith, a)

own_draw : (d : Draw) → drawn_for d.object (Some d) ≡ 1
own_draw d = ap one_if (eq-eqb d.object d.object refl)

is_below : (n : ℕ) (d : Draw) → d.object < n → 1 ≤ once_below n (Some d)
is_below zero d lt = absurd (omega (arith, lt))
is_below (suc n) d lt = by_equal d.object n
    (λ e. let one : drawn_for n (Some d) ≡ 1 = ap (λ o. drawn_for o (Some d)) (sym e) ∙ own_draw d in omega (arith, one))
    (λ ne. let a = is_below n d (below_next d.object n lt ne) in omega (arith, a))
  where
    below_next : (i m : ℕ) → i < suc m → (i ≡ m → ⊥) → i < m
    below_next i m h ne = elim (cases_lt i m) [ inl l ↦ l | inr g ↦ absurd (ne (omega (arith, h, g))) ]

-- where none is for an object from n on, these are all
own_below : (n : ℕ) (d : Option Draw) → ((o : ℕ) → n ≤ o → drawn_for o d ≡ 0) → drawn_by d ≤ once_below n d
own_below n None none = omega arith
own_below n (Some d) none = elim (cases_lt d.object n) [
  | inl lt ↦ is_below n d lt
  | inr le ↦ let no = none d.object le in let one = own_draw d in absurd (omega (arith, no, one))
]

all_below : (n : ℕ) (log : List Logged) → ((o : ℕ) → n ≤ o → draws_for o log ≡ 0) → draws_in log ≤ below n log
all_below n [] none = omega arith
all_below n (l ∷ log) none =
    let more = below_more n l log in
    let rest = all_below n log (λ o le. let a = none o le in omega (arith, a)) in
    let own = own_below n (draw_in l.entry) (λ o le. let a = none o le in omega (arith, a)) in
    omega (arith, more, rest, own)

-- and where no object has two, they are no more than these objects
each_once : (n : ℕ) (log : List Logged) → ((o : ℕ) → draws_for o log ≤ 1) → below n log ≤ n
each_once zero log once = omega arith
each_once (suc n) log once = let a = each_once n log once in let b = once n in omega (arith, a, b)

-- the draws of one log are among those of all
among : (o u n t i : ℕ) (f : ℕ → ThreadView) → i ≡ u + t → t < n → draws_for o (f i).log ≤ all_draws o (logs_from u n f)
among o u zero t i f e lt = absurd (omega (arith, lt))
among o u (suc n) zero i f e lt =
    let here : i ≡ u = omega (arith, e) in
    subst (λ j. draws_for o (f j).log ≤ draws_for o (f u).log + all_draws o (logs_from (u + 1) n f)) (sym here) (omega arith)
among o u (suc n) (suc t) i f e lt = let a = among o (u + 1) n t i f (omega (arith, e)) (omega (arith, lt)) in omega (arith, a)

at_most_one : (b : Bool) → cond b 0 1 ≤ 1
at_most_one true = omega arith
at_most_one false = omega arith

fits_few : (w : World) (P : List PlainObject) (t : ℕ) → t < w.shape.threads → Fits w P → (w.known t).draws ≤ most_in_all
fits_few w P t within fits =
    let log = (w.known t).log in
    let few : (o : ℕ) → draws_for o log ≤ all_draws o (logs_from 0 w.shape.threads w.known) = λ o. among o 0 w.shape.threads t t w.known (omega arith) within in
    let once : (o : ℕ) → draws_for o log ≤ 1 = λ o.
    let a = few o in let b = fits.draws.one o in let c = at_most_one (hash_at P o == 0) in omega (arith, a, b, c) in
    let none : (o : ℕ) → length P ≤ o → draws_for o log ≡ 0 = λ o le.
    let hashless : hash_at P o ≡ 0 = ap (λ (x : PlainObject). or_zero x.hash) (get_or_past P o (new_object 0) le) in
    let nobody = fits.draws.one o ∙ ap (λ (h : ℕ). cond (h == 0) 0 1) hashless in
    let a = few o in omega (arith, a, nobody) in
    let counted = fits.draws.counted t in
    let all = all_below (length P) log none in
    let most = each_once (length P) log once in
    let sized = fits.sized in
    let objects = fits.limits.objects in
    omega (arith, counted, all, most, sized, objects)

-- a revocation under way draws nothing
valid_few : (w : World) (P : List PlainObject) (t : ℕ) → t < w.shape.threads → IsValid w P → (w.known t).draws ≤ most_in_all
valid_few w P t within (inl fits) = fits_few w P t within fits
valid_few w P t within (inr s) =
    let there : t < s.before.shape.threads = subst (λ (z : Shape). t < z.threads) s.shape within in
    let before = fits_few s.before P t there s.fits in
    let same = as_before w P s (λ (k : ThreadView). k.draws) (ap (λ (k : ThreadView). k.draws) s.knows) t in
    omega (arith, same, before)

pub few_draws : (h : HeapSeen) (p : PassSeen) → IsOf h p → p.known.draws ≤ most_in_all
few_draws h p is_of =
    let v = sound_world h p is_of in
    home h.heap p.known v (λ s k. k.draws ≤ most_in_all)
    (valid_few v.world v.objects p.known.thread (inside h.heap p.known v) (valid_here h.heap p.known v))
