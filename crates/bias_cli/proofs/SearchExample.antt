-- A search for all ends of the small program: it keeps the first machine, since an enter doesn't go alone, and the one at the end.
use Rattle.std.proofs.Common.{◌≡◌, inl, inr, ℕ, zero, suc, ◌+◌, ◌≤◌, cond, List, [], ◌∷◌, map, slice_get, sum, Option, Some, None}
use Rattle.std.proofs.Common.{refl, sym, ap, ◌∙◌, subst, arith}
use Rattle.std.proofs.lemmas.Option.{none-some, same_Some}
use Rattle.plain_monitor.specs.declared.entry.Entry.{Entry}
use Rattle.plain_monitor.specs.declared.entry.Entry.TheVariants.{Enter, Exit, Print, Dump, Done}
use Rattle.plain_monitor.specs.declared.entry.Path.TheVariants.{StackFirst}
use Rattle.plain_monitor.specs.declared.entry.Value.TheVariants.{Ref}
use Rattle.plain_monitor.specs.Order.{order}
use Rattle.plain_monitor.specs.Limits.{most_fuel}
use Rattle.plain_machine.specs.Machine.{PlainMachine, new_machine, take}
use Rattle.plain_machine.specs.Running.{run_on}
use Rattle.plain_machine.specs.Thread.{ThreadState}
use Rattle.heap_table.specs.Seen.{ClosedSeen}
use Rattle.lock_journal.specs.declared.record.RunRecord.{RunRecord}
use Rattle.single_thread_law.specs.LoneExample.{lone_end, lone_fuel, lone_logs, lone_program}
use Rattle.every_outcome.specs.Covered.{IsSeen, TakesNothing}
use Rattle.every_outcome.specs.Fuel.{IsClosedFull, IsCoveredFull, refuelled}
use Rattle.every_outcome.specs.NoHash.{HasNoHash}
use Rattle.every_outcome.specs.Offers.{bare}
use Rattle.every_outcome.proofs.FullFuel.{over_is_known}
use Rattle.every_outcome.proofs.Offers.{taken_is_offered}
use Rattle.every_outcome.proofs.Over.{over_takes_nothing}
use Rattle.every_outcome.proofs.Reduced.{bare_same}
use Rattle.outcome_search.specs.declared.ends.End.{End}
use Rattle.outcome_search.specs.declared.ends.End.TheVariants.{Spent, Stuck, Faulted, Ended}
use Rattle.outcome_search.specs.Ends.{end_of}
use Rattle.outcome_search.specs.EveryEnd.{so_many, IsEveryEnd}
use Rattle.outcome_search.specs.Outcomes.{is_end, top_fuel}
use Rattle.outcome_search.specs.Real.{IsLed, IsReal}
use Rattle.outcome_search.proofs.EveryEnds.{more_so}
use Rattle.outcome_search.proofs.Good.{IsGood, good_after, good_first}
use Rattle.cli_args.specs.declared.options.Options.{Options}
use Rattle.bias_cli.specs.Example.{lone_counts}
use Rattle.bias_cli.specs.Finish.{IsRunOf}
use Rattle.bias_cli.proofs.Exemplified.{few_units, is_program, made_run}

-- MACHINES. Each has all its fuel.
abbrev first : PlainMachine
first = refuelled top_fuel (new_machine lone_program top_fuel)

abbrev last : PlainMachine
last = refuelled top_fuel lone_end

abbrev full : Option PlainMachine → PlainMachine
full None = first
full (Some m) = refuelled top_fuel m

abbrev after : PlainMachine → Entry → PlainMachine
after m e = full (take m 0 e)

abbrev entered : PlainMachine
entered = after first (Enter 0 StackFirst)

abbrev dumped : PlainMachine
dumped = after entered (Dump 1)

abbrev printed : PlainMachine
printed = after dumped (Print (Ref 0))

abbrev left : PlainMachine
left = after printed (Exit 0)

abbrev kept : List PlainMachine
kept = first ∷ last ∷ []

some_fuel : 1 ≤ top_fuel
unfolding top_fuel
some_fuel = omega arith

no_hash : HasNoHash lone_program
no_hash = (refl, tt)

good_machine : IsGood lone_program top_fuel first
good_machine = good_first lone_program top_fuel is_program no_hash some_fuel

good_entered : IsGood lone_program top_fuel entered
unfolding run_on top_fuel
good_entered = good_after lone_program top_fuel first _ 0 (Enter 0 StackFirst) some_fuel good_machine refl

good_dumped : IsGood lone_program top_fuel dumped
unfolding run_on top_fuel
good_dumped = good_after lone_program top_fuel entered _ 0 (Dump 1) some_fuel good_entered refl

good_printed : IsGood lone_program top_fuel printed
unfolding run_on top_fuel
good_printed = good_after lone_program top_fuel dumped _ 0 (Print (Ref 0)) some_fuel good_dumped refl

good_left : IsGood lone_program top_fuel left
unfolding run_on top_fuel
good_left = good_after lone_program top_fuel printed _ 0 (Exit 0) some_fuel good_printed refl

good_last : IsGood lone_program top_fuel last
unfolding run_on top_fuel
good_last = good_after lone_program top_fuel left _ 0 Done some_fuel good_left refl

-- WHAT IS COVERED
first_covered : IsCoveredFull top_fuel kept first
first_covered = record { entries = []; machine = first; alone = refl; is_seen = (0, refl) }

-- after the enter each entry goes alone
entered_covered : IsCoveredFull top_fuel kept entered
unfolding run_on top_fuel
entered_covered = record {
  entries = (0, Dump 1) ∷ (0, Print (Ref 0)) ∷ (0, Exit 0) ∷ (0, Done) ∷ [];
  machine = last;
  alone = (_, refl, refl, (_, refl, refl, (_, refl, refl, (_, refl, refl, refl))));
  is_seen = (1, refl);
}

-- the first machine takes the enter alone, by whichever path
after_first : (n : PlainMachine) (t : ℕ) (e : Entry) → take first t e ≡ Some n → IsCoveredFull top_fuel kept (refuelled top_fuel n)
unfolding run_on top_fuel
after_first n zero e takes =
    let stands : Enter 0 StackFirst ≡ bare e = taken_is_offered first n 0 e good_machine.found.reached takes in
    subst (IsCoveredFull top_fuel kept) (ap full (ap (take first 0) stands ∙ bare_same first 0 e ∙ takes)) entered_covered
after_first n (suc t) e takes = absurd (none-some n takes)

last_takes_nothing : TakesNothing last
last_takes_nothing = over_takes_nothing last good_last.found.reached (inr refl)

next : (m n : PlainMachine) (t : ℕ) (e : Entry) → IsSeen kept m → take m t e ≡ Some n → IsCoveredFull top_fuel kept (refuelled top_fuel n)
next m n t e (zero, at) takes = after_first n t e (subst (λ (z : PlainMachine). take z t e ≡ Some n) (sym (same_Some first m at)) takes)
next m n t e (suc zero, at) takes = absurd (last_takes_nothing t e n (subst (λ (z : PlainMachine). take z t e ≡ Some n) (sym (same_Some last m at)) takes))
next m n t e (suc (suc k), at) takes = absurd (none-some m at)

closed : IsClosedFull lone_program top_fuel kept
closed = record { first = inr first_covered; next = λ m n t e seen takes. inr (next m n t e seen takes) }

-- WHAT IS KEPT
other : first ≡ last → ⊥
unfolding run_on top_fuel
other same =
    let places = ap (λ (m : PlainMachine). sum (map (λ (s : ThreadState). s.place) m.threads)) same in
    omega (arith, places)

once : (j k : ℕ) (m : PlainMachine) → slice_get kept j ≡ Some m → slice_get kept k ≡ Some m → j ≡ k
once zero zero m a b = refl
once zero (suc zero) m a b = absurd (other (same_Some first m a ∙ sym (same_Some last m b)))
once (suc zero) zero m a b = absurd (other (same_Some first m b ∙ sym (same_Some last m a)))
once (suc zero) (suc zero) m a b = refl
once zero (suc (suc k)) m a b = absurd (none-some m b)
once (suc zero) (suc (suc k)) m a b = absurd (none-some m b)
once (suc (suc j)) k m a b = absurd (none-some m a)

all_kept : (P : PlainMachine → Type 0) → P first → P last → (k : ℕ) (m : PlainMachine) → slice_get kept k ≡ Some m → P m
all_kept P one two zero m at = subst P (same_Some first m at) one
all_kept P one two (suc zero) m at = subst P (same_Some last m at) two
all_kept P one two (suc (suc k)) m at = absurd (none-some m at)

real_first : IsReal lone_program top_fuel first
unfolding run_on top_fuel
real_first = record { entries = []; machine = _; leads = refl; same = refl }

real_last : IsReal lone_program top_fuel last
unfolding run_on top_fuel
real_last = record { entries = order lone_logs; machine = _; leads = refl; same = refl }

counted : (end : End) (a b : ℕ) → cond (is_end end (end_of first)) 1 0 ≡ a → cond (is_end end (end_of last)) 1 0 ≡ b → so_many end kept ≡ a + b
counted end a b one two = omega (arith, more_so end first (last ∷ []), more_so end last [], one, two)

pub all_found : IsEveryEnd lone_program 2 lone_counts
unfolding run_on top_fuel
all_found = record {
  kept = kept;
  are = record {
    once = once;
    led = all_kept (IsLed lone_program top_fuel) good_machine.led good_last.led;
    real = λ k m at. inr (all_kept (IsReal lone_program top_fuel) real_first real_last k m at);
  };
  states = refl;
  ended = sym (counted Ended 0 1 refl refl);
  faulted = sym (counted Faulted 0 0 refl refl);
  stuck = sym (counted Stuck 0 0 refl refl);
  spent = sym (counted Spent 0 0 refl refl);
  few = omega arith;
  within = omega arith;
  stops = inl refl;
  all = λ none less logs n few after over. over_is_known lone_program less top_fuel kept logs n is_program closed few after over;
  gone = λ none. record { first = first_covered; next = λ m n t e seen takes. inr (next m n t e seen takes) };
}

pub found_and_run : (o : Options) → o.fuel ≡ lone_fuel → (r : RunRecord) × (c : ClosedSeen) × IsRunOf o lone_program r c lone_end
    × IsEveryEnd lone_program 2 lone_counts × (lone_counts.«open» ≡ 0) × (lone_counts.stuck ≡ 0) × (lone_counts.faulted ≡ 0) × (o.fuel ≤ most_fuel)
found_and_run o fuel =
    let a = made_run o fuel in
    (a.0, a.1, a.2, all_found, refl, refl, refl, omega (arith, fuel, few_units))
