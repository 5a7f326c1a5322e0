-- How the machines end that a search found, and what their counts say of every run.
use Rattle.std.proofs.Common.{◌≡◌, ◌⊎◌, inl, inr, ℕ, zero, suc, ◌+◌, ◌≤◌, Bool, true, false, not, ◌&&◌, cond, if◌then◌else◌}
use Rattle.std.proofs.Common.{List, [], ◌∷◌, length, map, slice_get, Option, Some, None, refl, sym, ap, ◌∙◌, arith}
use Rattle.std.specs.List.{list_all, list_any}
use Rattle.std.proofs.lemmas.Bool.{false≢true}
use Rattle.std.proofs.lemmas.Option.{none-some, same_Some}
use Rattle.plain_monitor.specs.Limits.{most_fuel}
use Rattle.plain_monitor.specs.declared.entry.Logged.{Logged}
use Rattle.object_program.specs.Program.{ProgramText}
use Rattle.object_program.specs.Valid.{IsProgram}
use Rattle.plain_machine.specs.declared.monitor_call.Mode.{Mode}
use Rattle.plain_machine.specs.Thread.{ThreadState}
use Rattle.plain_machine.specs.Machine.{PlainMachine, is_live, all_barred, is_stuck}
use Rattle.plain_machine.specs.Legal.{machine_after}
use Rattle.every_outcome.specs.Covered.{IsSeen}
use Rattle.every_outcome.specs.Fuel.{with_fuel, is_spent, refuelled, HasSpent}
use Rattle.every_outcome.specs.Led.{IsOver}
use Rattle.every_outcome.specs.NoHash.{HasNoHash}
use Rattle.every_outcome.proofs.FullFuel.{over_is_known}
use Rattle.every_outcome.proofs.Places.{get_map, get_unmap}
use Rattle.every_outcome.proofs.Stuck.{stuck_full}
use Rattle.machine_words.specs.MachineWords.{machine_of}
use Rattle.state_search.specs.Found.{Keys}
use Rattle.state_search.specs.Search.{IsSearch}
use Rattle.outcome_search.specs.declared.ends.End.{End}
use Rattle.outcome_search.specs.declared.ends.End.TheVariants.{Spent, Stuck, Faulted, Ended}
use Rattle.outcome_search.specs.declared.outcome.Outcomes.{Outcomes}
use Rattle.outcome_search.specs.Ends.{has_trapped, have_ended, has_any_trapped, end_of}
use Rattle.outcome_search.specs.NextWords.{is_any_spent, first_key, next_key}
use Rattle.outcome_search.specs.Real.{IsReal}
use Rattle.outcome_search.specs.Outcomes.{top_fuel, top_steps, has_hash, is_end, ends_of, ends_so, first_so, IsCounted}
use Rattle.outcome_search.proofs.Closed.{closed, real_at}
use Rattle.outcome_search.proofs.Counting.{more}
use Rattle.outcome_search.proofs.Hashes.{none_has}
use Rattle.outcome_search.proofs.Ways.{has_spent, not_spent}

-- FUEL HAS NO PART IN HOW A MACHINE ENDS
any_full : (P : Mode → Bool) (top : ℕ) (ss : List ThreadState)
    → list_any (λ (s : ThreadState). P s.mode) (map (λ (s : ThreadState). with_fuel top s) ss) ≡ list_any (λ (s : ThreadState). P s.mode) ss
any_full P top [] = refl
any_full P top (s ∷ ss) = rw (any_full P top ss) refl

all_full : (top : ℕ) (ss : List ThreadState)
    → list_all (λ (s : ThreadState). not (is_live s)) (map (λ (s : ThreadState). with_fuel top s) ss) ≡ list_all (λ (s : ThreadState). not (is_live s)) ss
all_full top [] = refl
all_full top (s ∷ ss) = rw (all_full top ss) refl

abbrev end_by : Bool → Bool → Bool → Bool → Option End
end_by spent stuck ended trapped =
    if spent then Some Spent else if stuck then Some Stuck else if not ended then None else if trapped then Some Faulted else Some Ended

pub end_full : (top : ℕ) (m : PlainMachine) → end_of (refuelled top m) ≡ end_of m
end_full top m =
    let spent : is_any_spent (refuelled top m) ≡ is_any_spent m = any_full is_spent top m.threads in
    let stuck : is_stuck (refuelled top m) ≡ is_stuck m = stuck_full top m in
    let ended : have_ended (refuelled top m) ≡ have_ended m = all_full top m.threads in
    let trapped : has_any_trapped (refuelled top m) ≡ has_any_trapped m = any_full has_trapped top m.threads in
    λ i. end_by (spent i) (stuck i) (ended i) (trapped i)

-- EVERY END IS FOUND
-- a machine of the keys ends so
pub record EndsSo (p : ProgramText) (fuel : ℕ) (keys : List (List ℕ)) (end : Option End) : Type 0 where
  pub number : ℕ
  pub key : List ℕ
  pub at : slice_get keys number ≡ Some key
  pub same : end_of (machine_of p fuel key) ≡ end

known_end : (p : ProgramText) (fuel steps most : ℕ) (f : Keys) → IsProgram p → HasNoHash p → 1 ≤ fuel
    → IsSearch (next_key p fuel steps) (length p.threads) (first_key p fuel steps) most f → f.gone ≡ length f.keys
    → (less : ℕ) (logs : List (List Logged)) (n : PlainMachine) → less ≤ fuel → machine_after p less logs ≡ Some n → IsOver n
    → HasSpent n ⊎ EndsSo p fuel f.keys (end_of n)
known_end p fuel steps most f valid free some h all less logs n few after over =
    go (over_is_known p less fuel (map (machine_of p fuel) f.keys) logs n valid (closed p fuel steps most f valid free some h all) few after over)
  where
    go : HasSpent n ⊎ IsSeen (map (machine_of p fuel) f.keys) (refuelled fuel n) → HasSpent n ⊎ EndsSo p fuel f.keys (end_of n)
    go (inl spent) = inl spent
    go (inr seen) =
        let u = get_unmap (machine_of p fuel) f.keys seen.0 (refuelled fuel n) seen.1 in
        inr (record { number = seen.0; key = u.0; at = u.1; same = ap end_of u.2 ∙ end_full fuel n })

-- WHAT COUNTS SAY
abbrev one_if : Bool → ℕ
one_if b = cond b 1 0

none_ends : (end : End) (es : List (Option End)) (k : ℕ) (e : Option End) → ends_so end es ≡ 0 → slice_get es k ≡ Some e → is_end end e ≡ true → ⊥
none_ends end [] k e h at so = none-some e at
none_ends end (x ∷ es) zero e h at so =
    let here : one_if (is_end end x) ≡ 1 = ap one_if (ap (is_end end) (same_Some x e at) ∙ so) in
    omega (arith, more end x es, h, here)
none_ends end (x ∷ es) (suc k) e h at so = none_ends end es k e (omega (arith, more end x es, h)) at so

none_end_so : (p : ProgramText) (fuel : ℕ) (keys : List (List ℕ)) (end : End) (e : Option End) → ends_so end (ends_of p fuel keys) ≡ 0
    → EndsSo p fuel keys e → is_end end e ≡ true → ⊥
none_end_so p fuel keys end e none k so =
    none_ends end (ends_of p fuel keys) k.number (end_of (machine_of p fuel k.key)) none
    (get_map (λ (z : List ℕ). end_of (machine_of p fuel z)) keys k.number k.key k.at) (ap (is_end end) k.same ∙ so)

pub some_fuel : 1 ≤ top_fuel
unfolding top_fuel
some_fuel = omega arith

pub fuel_is : top_fuel ≡ most_fuel
unfolding top_fuel
fuel_is = refl

found_end : (p : ProgramText) (most : ℕ) (f : Keys) (o : Outcomes) (less : ℕ) (logs : List (List Logged)) (n : PlainMachine) → IsProgram p
    → IsCounted p most f o → o.«open» ≡ 0 → has_hash p ≡ false → less ≤ top_fuel → machine_after p less logs ≡ Some n → IsOver n
    → HasSpent n ⊎ EndsSo p top_fuel f.keys (end_of n)
found_end p most f o less logs n valid h none free few after over =
    known_end p top_fuel top_steps most f valid (none_has p free) some_fuel h.search (omega (arith, h.«open», none)) less logs n few after over

pub stuck_end : (n : PlainMachine) → is_any_spent n ≡ false → is_stuck n ≡ true → is_end Stuck (end_of n) ≡ true
stuck_end n alive stuck = ap (is_end Stuck) (λ i. end_by (alive i) (stuck i) (have_ended n) (has_any_trapped n))

pub without_stuck : (p : ProgramText) (most less : ℕ) (f : Keys) (o : Outcomes) (logs : List (List Logged)) (n : PlainMachine) → IsProgram p
    → IsCounted p most f o → o.«open» ≡ 0 → o.stuck ≡ 0 → has_hash p ≡ false → less ≤ top_fuel → machine_after p less logs ≡ Some n
    → HasSpent n ⊎ (is_stuck n ≡ false)
without_stuck p most less f o logs n valid h all none free few after = go (is_stuck n) (is_any_spent n) refl refl
  where
    seen : is_stuck n ≡ true → is_any_spent n ≡ false → HasSpent n ⊎ EndsSo p top_fuel f.keys (end_of n) → HasSpent n ⊎ (is_stuck n ≡ false)
    seen stuck alive (inl spent) = inl spent
    seen stuck alive (inr k) = absurd (none_end_so p top_fuel f.keys Stuck (end_of n) (sym h.stuck ∙ none) k (stuck_end n alive stuck))

    go : (b c : Bool) → is_stuck n ≡ b → is_any_spent n ≡ c → HasSpent n ⊎ (is_stuck n ≡ false)
    go false c free_now e = inr free_now
    go true true stuck spent = inl (has_spent n spent)
    go true false stuck alive = seen stuck alive (found_end p most f o less logs n valid h all free few after (inl stuck))

-- each end that is counted is real
pub spent_end : (m : PlainMachine) → is_any_spent m ≡ true → end_of m ≡ Some Spent
spent_end m spent = λ i. end_by (spent i) (is_stuck m) (have_ended m) (has_any_trapped m)

alive_by : (stuck ended trapped : Bool) → is_end Spent (end_by false stuck ended trapped) ≡ false
alive_by true ended trapped = refl
alive_by false false trapped = refl
alive_by false true true = refl
alive_by false true false = refl

pub alive_end : (m : PlainMachine) → is_any_spent m ≡ false → is_end Spent (end_of m) ≡ false
alive_end m alive =
    (λ i. is_end Spent (end_by (alive i) (is_stuck m) (have_ended m) (has_any_trapped m)))
    ∙ alive_by (is_stuck m) (have_ended m) (has_any_trapped m)

pub real_end : (p : ProgramText) (most k : ℕ) (f : Keys) (o : Outcomes) (key : List ℕ) (end : End) → IsProgram p → IsCounted p most f o
    → has_hash p ≡ false → slice_get f.keys k ≡ Some key → end_of (machine_of p top_fuel key) ≡ Some end → (end ≡ Spent → ⊥)
    → IsReal p top_fuel (machine_of p top_fuel key)
real_end p most k f o key end valid h free at is other =
    go (real_at p top_fuel top_steps most f valid (none_has p free) some_fuel h.search k key at)
  where
    none : (b : Bool) → is_any_spent (machine_of p top_fuel key) ≡ b → HasSpent (machine_of p top_fuel key) → ⊥
    none true e spent = other (same_Some end Spent (sym is ∙ spent_end (machine_of p top_fuel key) e))
    none false e spent = not_spent (machine_of p top_fuel key) e spent

    go : HasSpent (machine_of p top_fuel key) ⊎ IsReal p top_fuel (machine_of p top_fuel key) → IsReal p top_fuel (machine_of p top_fuel key)
    go (inl spent) = absurd (none (is_any_spent (machine_of p top_fuel key)) refl spent)
    go (inr real) = real

none_live : (ss : List ThreadState) → list_all (λ (s : ThreadState). not (is_live s)) ss ≡ true → list_any is_live ss ≡ false
none_live [] h = refl
none_live (s ∷ ss) h = go (is_live s) refl (none_live ss)
  where
    go : (b : Bool) → is_live s ≡ b → (list_all (λ (s : ThreadState). not (is_live s)) ss ≡ true → list_any is_live ss ≡ false)
        → list_any is_live (s ∷ ss) ≡ false
    go true e ih = absurd (false≢true (rw e at h))
    go false e ih = rw e (ih (rw e at h))

not_stuck : (n : PlainMachine) → have_ended n ≡ true → is_stuck n ≡ false
not_stuck n ended = ap (λ (b : Bool). b && all_barred n 0 n.threads) (none_live n.threads ended)

pub faulted_end : (n : PlainMachine) → is_any_spent n ≡ false → have_ended n ≡ true → has_any_trapped n ≡ true → is_end Faulted (end_of n) ≡ true
faulted_end n alive ended trapped =
    let free = not_stuck n ended in
    ap (is_end Faulted) (λ i. end_by (alive i) (free i) (ended i) (trapped i))

pub without_faulted : (p : ProgramText) (most less : ℕ) (f : Keys) (o : Outcomes) (logs : List (List Logged)) (n : PlainMachine) → IsProgram p
    → IsCounted p most f o → o.«open» ≡ 0 → o.faulted ≡ 0 → has_hash p ≡ false → less ≤ top_fuel → machine_after p less logs ≡ Some n
    → have_ended n ≡ true → HasSpent n ⊎ (has_any_trapped n ≡ false)
without_faulted p most less f o logs n valid h all none free few after ended = go (has_any_trapped n) (is_any_spent n) refl refl
  where
    seen : has_any_trapped n ≡ true → is_any_spent n ≡ false → HasSpent n ⊎ EndsSo p top_fuel f.keys (end_of n)
        → HasSpent n ⊎ (has_any_trapped n ≡ false)
    seen trapped alive (inl spent) = inl spent
    seen trapped alive (inr k) = absurd (none_end_so p top_fuel f.keys Faulted (end_of n) (sym h.faulted ∙ none) k (faulted_end n alive ended trapped))

    go : (b c : Bool) → has_any_trapped n ≡ b → is_any_spent n ≡ c → HasSpent n ⊎ (has_any_trapped n ≡ false)
    go false c free_now e = inr free_now
    go true true trapped spent = inl (has_spent n spent)
    go true false trapped alive = seen trapped alive (found_end p most f o less logs n valid h all free few after (inr ended))

-- THE FIRST OF THEM
record IsFirstAt (end : End) (j k : ℕ) (es : List (Option End)) : Type 0 where
  pub place : ℕ
  pub end_there : Option End
  pub number : k ≡ j + place
  pub at : slice_get es place ≡ Some end_there
  pub so : is_end end end_there ≡ true

first_at : (end : End) (j k : ℕ) (es : List (Option End)) → first_so end j es ≡ Some k → IsFirstAt end j k es
first_at end j k [] h = absurd (none-some k h)
first_at end j k (e ∷ es) h = go (is_end end e) refl (first_at end (j + 1) k es)
  where
    go : (b : Bool) → is_end end e ≡ b → (first_so end (j + 1) es ≡ Some k → IsFirstAt end (j + 1) k es) → IsFirstAt end j k (e ∷ es)
    go true so ih =
        let same : j ≡ k = same_Some j k (rw so at h) in
        record { place = 0; end_there = e; number = omega (arith, same); at = refl; so = so }
    go false so ih =
        let r = ih (rw so at h) in
        record { place = suc r.place; end_there = r.end_there; number = omega (arith, r.number); at = r.at; so = r.so }

stuck_is : (e : Option End) → is_end Stuck e ≡ true → e ≡ Some Stuck
stuck_is (Some Stuck) h = refl
stuck_is _ h = absurd (false≢true h)

faulted_is : (e : Option End) → is_end Faulted e ≡ true → e ≡ Some Faulted
faulted_is (Some Faulted) h = refl
faulted_is _ h = absurd (false≢true h)

first_key_so : (p : ProgramText) (fuel k : ℕ) (keys : List (List ℕ)) (end : End) → ((e : Option End) → is_end end e ≡ true → e ≡ Some end)
    → first_so end 0 (ends_of p fuel keys) ≡ Some k → (key : List ℕ) × (slice_get keys k ≡ Some key) × (end_of (machine_of p fuel key) ≡ Some end)
first_key_so p fuel k keys end is h =
    let r = first_at end 0 k (ends_of p fuel keys) h in
    let u = get_unmap (λ (z : List ℕ). end_of (machine_of p fuel z)) keys r.place r.end_there r.at in
    let there : r.place ≡ k = omega (arith, r.number) in
    (u.0, sym (ap (slice_get keys) there) ∙ u.1, u.2 ∙ is r.end_there r.so)

pub first_stuck_is : (p : ProgramText) (most k : ℕ) (f : Keys) (o : Outcomes) → IsCounted p most f o → o.first_stuck ≡ Some k
    → (key : List ℕ) × (slice_get f.keys k ≡ Some key) × (end_of (machine_of p top_fuel key) ≡ Some Stuck)
first_stuck_is p most k f o h e = first_key_so p top_fuel k f.keys Stuck stuck_is (sym h.first_stuck ∙ e)

pub first_faulted_is : (p : ProgramText) (most k : ℕ) (f : Keys) (o : Outcomes) → IsCounted p most f o → o.first_faulted ≡ Some k
    → (key : List ℕ) × (slice_get f.keys k ≡ Some key) × (end_of (machine_of p top_fuel key) ≡ Some Faulted)
first_faulted_is p most k f o h e = first_key_so p top_fuel k f.keys Faulted faulted_is (sym h.first_faulted ∙ e)

first_none : (end : End) (j : ℕ) (es : List (Option End)) → first_so end j es ≡ None → ends_so end es ≡ 0
first_none end j [] h = refl
first_none end j (e ∷ es) h = go (is_end end e) refl (first_none end (j + 1) es)
  where
    go : (b : Bool) → is_end end e ≡ b → (first_so end (j + 1) es ≡ None → ends_so end es ≡ 0) → ends_so end (e ∷ es) ≡ 0
    go true so ih = absurd (none-some j (sym (rw so at h)))
    go false so ih =
        let here : one_if (is_end end e) ≡ 0 = ap one_if so in
        omega (arith, more end e es, here, ih (rw so at h))

pub no_first_stuck : (p : ProgramText) (most : ℕ) (f : Keys) (o : Outcomes) → IsCounted p most f o → o.first_stuck ≡ None → o.stuck ≡ 0
no_first_stuck p most f o h e = h.stuck ∙ first_none Stuck 0 (ends_of p top_fuel f.keys) (sym h.first_stuck ∙ e)

pub no_first_faulted : (p : ProgramText) (most : ℕ) (f : Keys) (o : Outcomes) → IsCounted p most f o → o.first_faulted ≡ None → o.faulted ≡ 0
no_first_faulted p most f o h e = h.faulted ∙ first_none Faulted 0 (ends_of p top_fuel f.keys) (sym h.first_faulted ∙ e)
