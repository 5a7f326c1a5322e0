-- What holds of each machine that the search finds.
use Rattle.std.proofs.Common.{◌≡◌, ◌⊎◌, ℕ, ◌≤◌, Bool, true, false, List, [], ◌∷◌, Option, Some, None, option_map, refl, sym, ap, ◌∙◌, subst}
use Rattle.std.proofs.lemmas.Option.{none-some, same_Some, option_and_then_some}
use Rattle.plain_monitor.specs.declared.entry.Entry.{Entry}
use Rattle.object_program.specs.Program.{ProgramText}
use Rattle.object_program.specs.Valid.{IsProgram}
use Rattle.plain_machine.specs.Machine.{PlainMachine, new_machine, take}
use Rattle.plain_machine.specs.Offering.{offered}
use Rattle.every_outcome.specs.Fuel.{refuelled, HasSpent}
use Rattle.every_outcome.specs.NoHash.{HasNoHash, AsksNoHash}
use Rattle.every_outcome.proofs.NoHash.{first_asks_none, full_asks_none, stays}
use Rattle.machine_words.specs.MachineWords.{words_of, machine_of}
use Rattle.state_search.specs.Search.{LeadsBy}
use Rattle.outcome_search.specs.Settled.{entry_in, after_next, settled}
use Rattle.outcome_search.specs.NextWords.{is_any_spent, key_of, first_key, next_of, next_key}
use Rattle.outcome_search.specs.Keys.{IsFound}
use Rattle.outcome_search.proofs.Chains.{settles}
use Rattle.outcome_search.proofs.Found.{found_after, found_first, found_read}
use Rattle.outcome_search.specs.Real.{IsLed}
use Rattle.outcome_search.proofs.Ways.{HasWay, first_way, led_after, led_first, way_after}

-- a reached machine of the program, whose threads have all their fuel
pub record IsGood (p : ProgramText) (fuel : ℕ) (m : PlainMachine) : Type 0 where
  pub found : IsFound p fuel m
  pub no_hash : AsksNoHash m
  pub led : IsLed p fuel m
  pub way : HasSpent m ⊎ HasWay p fuel m

-- it is good with its fuel given back, after an entry
pub good_after : (p : ProgramText) (fuel : ℕ) (m n : PlainMachine) (t : ℕ) (e : Entry) → 1 ≤ fuel → IsGood p fuel m → take m t e ≡ Some n
    → IsGood p fuel (refuelled fuel n)
good_after p fuel m n t e some h takes =
    record {
      found = found_after p fuel m n t e some h.found takes;
      no_hash = full_asks_none fuel n (stays m n t e h.no_hash takes);
      led = led_after p fuel m n t e takes h.led;
      way = way_after p fuel m n t e takes h.way;
    }

pub good_first : (p : ProgramText) (fuel : ℕ) → IsProgram p → HasNoHash p → 1 ≤ fuel → IsGood p fuel (refuelled fuel (new_machine p fuel))
good_first p fuel valid free some =
    record {
      found = found_first p fuel valid some;
      no_hash = full_asks_none fuel (new_machine p fuel) (first_asks_none p fuel free);
      led = led_first p fuel;
      way = first_way p fuel;
    }

good_settled : (p : ProgramText) (fuel steps : ℕ) (m : PlainMachine) → 1 ≤ fuel → IsGood p fuel m → IsGood p fuel (settled fuel steps m)
good_settled p fuel steps m some h =
    settles (IsGood p fuel) fuel steps m (λ m a good k. good_after p fuel m a k.thread k.entry some good k.takes) h

pub settled_read : (p : ProgramText) (fuel steps : ℕ) (n : PlainMachine) → 1 ≤ fuel → IsGood p fuel (refuelled fuel n)
    → machine_of p fuel (key_of fuel steps n) ≡ settled fuel steps (refuelled fuel n)
settled_read p fuel steps n some h =
    found_read p fuel (settled fuel steps (refuelled fuel n)) (good_settled p fuel steps (refuelled fuel n) some h).found

-- the words of a good machine
pub record IsGoodKey (p : ProgramText) (fuel : ℕ) (key : List ℕ) : Type 0 where
  pub machine : PlainMachine
  pub good : IsGood p fuel machine
  pub words : words_of machine ≡ key

pub key_read : (p : ProgramText) (fuel : ℕ) (key : List ℕ) (k : IsGoodKey p fuel key) → machine_of p fuel key ≡ k.machine
key_read p fuel key k = ap (machine_of p fuel) (sym k.words) ∙ found_read p fuel k.machine k.good.found

pub first_good : (p : ProgramText) (fuel steps : ℕ) → IsProgram p → HasNoHash p → 1 ≤ fuel → IsGoodKey p fuel (first_key p fuel steps)
first_good p fuel steps valid free some =
    let m = refuelled fuel (new_machine p fuel) in
    record { machine = settled fuel steps m; good = good_settled p fuel steps m some (good_first p fuel valid free some); words = refl }

pub settled_good : (p : ProgramText) (fuel steps : ℕ) (m n : PlainMachine) (t : ℕ) (e : Entry) → 1 ≤ fuel → IsGood p fuel m → take m t e ≡ Some n
    → IsGoodKey p fuel (key_of fuel steps n)
settled_good p fuel steps m n t e some h takes =
    let good = good_settled p fuel steps (refuelled fuel n) some (good_after p fuel m n t e some h takes) in
    record { machine = settled fuel steps (refuelled fuel n); good = good; words = refl }

-- what a good machine leads to is good
led_good : (p : ProgramText) (fuel steps t : ℕ) (m : PlainMachine) (key : List ℕ) → 1 ≤ fuel → IsGood p fuel m → next_of fuel steps t m ≡ Some key
    → IsGoodKey p fuel key
led_good p fuel steps t m key some h leads = go (is_any_spent m) refl
  where
    mapped : (r : Option PlainMachine) → after_next m t ≡ r → option_map (λ n. key_of fuel steps n) r ≡ Some key → IsGoodKey p fuel key
    mapped None e q = absurd (none-some key q)
    mapped (Some n) e q = option_and_then_some _ (entry_in (offered m t)) n e (λ entry offers takes.
        subst (IsGoodKey p fuel) (same_Some (key_of fuel steps n) key q) (settled_good p fuel steps m n t entry some h takes))

    go : (b : Bool) → is_any_spent m ≡ b → IsGoodKey p fuel key
    go true e = absurd (none-some key (rw e at leads))
    go false e = mapped (after_next m t) refl (rw e at leads)

pub all_good : (p : ProgramText) (fuel steps many : ℕ) (choices : List ℕ) (key : List ℕ) → IsProgram p → HasNoHash p → 1 ≤ fuel
    → LeadsBy (next_key p fuel steps) many (first_key p fuel steps) choices key → IsGoodKey p fuel key
all_good p fuel steps many [] key valid free some leads = subst (IsGoodKey p fuel) leads (first_good p fuel steps valid free some)
all_good p fuel steps many (t ∷ choices) key valid free some leads =
    let before = all_good p fuel steps many choices leads.0 valid free some leads.1 in
    let here : next_of fuel steps t before.machine ≡ Some key =
    subst (λ (m : PlainMachine). next_of fuel steps t m ≡ Some key) (key_read p fuel leads.0 before) leads.3 in
    led_good p fuel steps t before.machine key some before.good here
