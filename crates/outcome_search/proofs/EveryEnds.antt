-- A search over words says what is said of every end without words.
use Rattle.std.proofs.Common.{◌≡◌, ◌⊎◌, inl, inr, ℕ, zero, suc, ◌+◌, ◌≤◌, Bool, true, false, cond, List, []}
use Rattle.std.proofs.Common.{◌∷◌, length, map, slice_get, Option, Some, refl, sym, ap, ◌∙◌, subst, arith}
use Rattle.std.proofs.lemmas.Option.{none-some, same_Some}
use Rattle.plain_monitor.specs.declared.entry.Logged.{Logged}
use Rattle.object_program.specs.Program.{ProgramText}
use Rattle.object_program.specs.Valid.{IsProgram}
use Rattle.plain_machine.specs.Machine.{PlainMachine, is_stuck}
use Rattle.plain_machine.specs.Legal.{machine_after}
use Rattle.every_outcome.specs.Covered.{IsSeen}
use Rattle.every_outcome.specs.Fuel.{refuelled, HasSpent}
use Rattle.every_outcome.specs.NoHash.{HasNoHash}
use Rattle.every_outcome.proofs.FullFuel.{over_is_known}
use Rattle.every_outcome.proofs.Places.{get_unmap}
use Rattle.machine_words.specs.MachineWords.{machine_of}
use Rattle.state_search.specs.Found.{Keys}
use Rattle.outcome_search.specs.declared.ends.End.{End}
use Rattle.outcome_search.specs.declared.ends.End.TheVariants.{Spent, Stuck, Faulted, Ended}
use Rattle.outcome_search.specs.declared.outcome.Outcomes.{Outcomes}
use Rattle.outcome_search.specs.Ends.{end_of, have_ended, has_any_trapped}
use Rattle.outcome_search.specs.NextWords.{is_any_spent}
use Rattle.outcome_search.specs.Real.{IsLed, IsReal}
use Rattle.outcome_search.specs.Outcomes.{top_fuel, top_steps, has_hash, is_end, ends_so, IsCountedBy, IsCounted}
use Rattle.outcome_search.specs.EveryEnd.{so_many, AreReal, HaveEveryEnd, IsEveryEndWith, IsEveryEnd}
use Rattle.outcome_search.proofs.Closed.{closed, gone_into, led_at, real_at, once_at}
use Rattle.outcome_search.proofs.Counting.{more}
use Rattle.outcome_search.proofs.Hashes.{none_has}
use Rattle.outcome_search.proofs.KnownEnds.{some_fuel, end_full, faulted_end, stuck_end}
use Rattle.outcome_search.proofs.Ways.{has_spent}
use Rattle.std.proofs.lemmas.List.Sums.{sum_by-cons}

-- counted by their keys or by themselves
counted_so : (end : End) (f : List ℕ → PlainMachine) (keys : List (List ℕ))
    → ends_so end (map (λ (key : List ℕ). end_of (f key)) keys) ≡ so_many end (map f keys)
counted_so end f [] = refl
counted_so end f (key ∷ keys) =
    let ends : List (Option End) = map (λ (k : List ℕ). end_of (f k)) keys in
    more end (end_of (f key)) ends ∙ ap (λ (n : ℕ). cond (is_end end (end_of (f key))) 1 0 + n) (counted_so end f keys)
    ∙ sym (sum_by-cons (λ (m : PlainMachine). cond (is_end end (end_of m)) 1 0) (f key) (map f keys))

length_map : (f : List ℕ → PlainMachine) (keys : List (List ℕ)) → length (map f keys) ≡ length keys
length_map f [] = refl
length_map f (key ∷ keys) = omega (arith, length_map f keys)

module _ (p : ProgramText) (fuel steps most : ℕ) (f : Keys) (o : Outcomes) (valid : IsProgram p) (free : HasNoHash p) (some : 1 ≤ fuel)
    (h : IsCountedBy p fuel steps most f o) where
  are_real : AreReal p fuel (map (machine_of p fuel) f.keys)
  are_real = record {
    once = λ j k m a b.
        let u = get_unmap (machine_of p fuel) f.keys j m a in
        let v = get_unmap (machine_of p fuel) f.keys k m b in
        once_at p fuel steps most f valid free some h.search j k u.0 v.0 u.1 v.1 (u.2 ∙ sym v.2);
    led = λ k m at.
        let u = get_unmap (machine_of p fuel) f.keys k m at in
        subst (IsLed p fuel) u.2 (led_at p fuel steps most f valid free some h.search k u.0 u.1);
    real = λ k m at.
        let u = get_unmap (machine_of p fuel) f.keys k m at in
        subst (λ (z : PlainMachine). HasSpent z ⊎ IsReal p fuel z) u.2 (real_at p fuel steps most f valid free some h.search k u.0 u.1);
  }

  have_every_end : o.«open» ≡ 0 → HaveEveryEnd p fuel (map (machine_of p fuel) f.keys)
  have_every_end none less logs n few after over =
      let all : f.gone ≡ length f.keys = omega (arith, h.«open», none) in
      over_is_known p less fuel (map (machine_of p fuel) f.keys) logs n valid (closed p fuel steps most f valid free some h.search all) few after over

  every_end_with : IsEveryEndWith p fuel most o
  every_end_with = record {
    kept = map (machine_of p fuel) f.keys;
    are = are_real;
    states = h.states ∙ sym (length_map (machine_of p fuel) f.keys);
    ended = h.ended ∙ counted_so Ended (machine_of p fuel) f.keys;
    faulted = h.faulted ∙ counted_so Faulted (machine_of p fuel) f.keys;
    stuck = h.stuck ∙ counted_so Stuck (machine_of p fuel) f.keys;
    spent = h.spent ∙ counted_so Spent (machine_of p fuel) f.keys;
    few = omega (arith, h.states, h.search.found.few);
    within = omega (arith, h.states, h.«open»);
    stops = stops h.search.ends;
    all = have_every_end;
    gone = λ none. gone_into p fuel steps most f valid free some h.search (omega (arith, h.«open», none));
  }
    where
      stops : (f.gone ≡ length f.keys) ⊎ (length f.keys ≡ most) → (o.«open» ≡ 0) ⊎ (o.states ≡ most)
      stops (inl whole) = inl (omega (arith, h.«open», whole))
      stops (inr full) = inr (h.states ∙ full)

pub every_end : (p : ProgramText) (most : ℕ) (f : Keys) (o : Outcomes) → IsProgram p → has_hash p ≡ false → IsCounted p most f o → IsEveryEnd p most o
every_end p most f o valid free h = every_end_with p top_fuel top_steps most f o valid (none_has p free) some_fuel h

-- ---- where none is counted, none is there

abbrev pub one_so : End → PlainMachine → ℕ
one_so end m = cond (is_end end (end_of m)) 1 0

pub more_so : (end : End) (m : PlainMachine) (ms : List PlainMachine) → so_many end (m ∷ ms) ≡ one_so end m + so_many end ms
more_so end m ms = sum_by-cons (one_so end) m ms

none_so : (end : End) (machines : List PlainMachine) (k : ℕ) (m : PlainMachine) → so_many end machines ≡ 0 → slice_get machines k ≡ Some m
    → is_end end (end_of m) ≡ true → ⊥
none_so end [] k m none at so = none-some m at
none_so end (x ∷ xs) zero m none at so =
    let here : one_so end x ≡ 1 = ap (λ (b : Bool). cond b 1 0) (ap (λ (z : PlainMachine). is_end end (end_of z)) (same_Some x m at) ∙ so) in
    omega (arith, more_so end x xs, none, here)
none_so end (x ∷ xs) (suc k) m none at so = none_so end xs k m (omega (arith, more_so end x xs, none)) at so

-- a machine that is among them, up to its fuel, doesn't end so
never_so : (end : End) (machines : List PlainMachine) (top : ℕ) (n : PlainMachine) → so_many end machines ≡ 0 → IsSeen machines (refuelled top n)
    → is_end end (end_of n) ≡ true → ⊥
never_so end machines top n none seen so = none_so end machines seen.0 (refuelled top n) none seen.1 (ap (is_end end) (end_full top n) ∙ so)

pub none_stuck : (p : ProgramText) (most less : ℕ) (o : Outcomes) (logs : List (List Logged)) (n : PlainMachine) → IsEveryEnd p most o
    → o.«open» ≡ 0 → o.stuck ≡ 0 → less ≤ top_fuel → machine_after p less logs ≡ Some n → HasSpent n ⊎ (is_stuck n ≡ false)
none_stuck p most less o logs n h all none few after = go (is_stuck n) (is_any_spent n) refl refl
  where
    seen : is_stuck n ≡ true → is_any_spent n ≡ false → HasSpent n ⊎ IsSeen h.kept (refuelled top_fuel n) → HasSpent n ⊎ (is_stuck n ≡ false)
    seen stuck alive (inl spent) = inl spent
    seen stuck alive (inr s) = absurd (never_so Stuck h.kept top_fuel n (sym h.stuck ∙ none) s (stuck_end n alive stuck))

    go : (b c : Bool) → is_stuck n ≡ b → is_any_spent n ≡ c → HasSpent n ⊎ (is_stuck n ≡ false)
    go false c free_now e = inr free_now
    go true true stuck spent = inl (has_spent n spent)
    go true false stuck alive = seen stuck alive (h.all all less logs n few after (inl stuck))

pub none_faulted : (p : ProgramText) (most less : ℕ) (o : Outcomes) (logs : List (List Logged)) (n : PlainMachine) → IsEveryEnd p most o
    → o.«open» ≡ 0 → o.faulted ≡ 0 → less ≤ top_fuel → machine_after p less logs ≡ Some n → have_ended n ≡ true
    → HasSpent n ⊎ (has_any_trapped n ≡ false)
none_faulted p most less o logs n h all none few after ended = go (has_any_trapped n) (is_any_spent n) refl refl
  where
    seen : has_any_trapped n ≡ true → is_any_spent n ≡ false → HasSpent n ⊎ IsSeen h.kept (refuelled top_fuel n)
        → HasSpent n ⊎ (has_any_trapped n ≡ false)
    seen trapped alive (inl spent) = inl spent
    seen trapped alive (inr s) = absurd (never_so Faulted h.kept top_fuel n (sym h.faulted ∙ none) s (faulted_end n alive ended trapped))

    go : (b c : Bool) → has_any_trapped n ≡ b → is_any_spent n ≡ c → HasSpent n ⊎ (has_any_trapped n ≡ false)
    go false c free_now e = inr free_now
    go true true trapped spent = inl (has_spent n spent)
    go true false trapped alive = seen trapped alive (h.all all less logs n few after (inr ended))
