-- A search over the words of machines that went into all of its keys is closed, and so has every end.
use Rattle.std.proofs.Common.{◌≡◌, ◌⊎◌, inl, inr, ℕ, ◌<◌, ◌≤◌, Bool, true, false, List, length, map}
use Rattle.std.proofs.Common.{slice_get, Some, option_map, refl, sym, ap, ◌∙◌, subst, arith}
use Rattle.std.proofs.lemmas.Bool.{true≢false}
use Rattle.std.proofs.lemmas.Option.{slice_get_within}
use Rattle.plain_monitor.specs.declared.entry.Entry.{Entry}
use Rattle.plain_monitor.specs.declared.entry.Entry.TheVariants.{Hash}
use Rattle.plain_monitor.specs.declared.entry.Logged.{Logged}
use Rattle.object_program.specs.Program.{ProgramText}
use Rattle.object_program.specs.Valid.{IsProgram}
use Rattle.plain_machine.specs.declared.offer.Offer.{Offer}
use Rattle.plain_machine.specs.declared.offer.Offer.TheVariants as offer
use Rattle.plain_machine.specs.Machine.{PlainMachine, new_machine, take}
use Rattle.plain_machine.specs.Legal.{machine_after}
use Rattle.plain_machine.specs.Offering.{offered}
use Rattle.machine_laws.proofs.ReachedAsked.{taken}
use Rattle.every_outcome.specs.Alone.{is_hash}
use Rattle.every_outcome.specs.Covered.{IsSeen}
use Rattle.every_outcome.specs.Fuel.{refuelled, HasSpent, IsCoveredFull, IsClosedFull}
use Rattle.every_outcome.specs.Led.{IsOver}
use Rattle.every_outcome.specs.NoHash.{HasNoHash}
use Rattle.every_outcome.specs.Offers.{bare, StandsFor}
use Rattle.every_outcome.proofs.EnoughFuel.{found_is_real}
use Rattle.every_outcome.proofs.FullFuel.{spent_after, over_is_known}
use Rattle.every_outcome.proofs.NoHash.{makes_none}
use Rattle.every_outcome.proofs.Offers.{taken_is_offered}
use Rattle.every_outcome.proofs.Places.{get_map, get_unmap}
use Rattle.every_outcome.proofs.Reduced.{bare_same}
use Rattle.machine_words.specs.MachineWords.{words_of, machine_of}
use Rattle.machine_words.proofs.ReadBack.{no_words_of_fuel}
use Rattle.state_search.specs.Found.{Keys}
use Rattle.state_search.specs.Search.{Has, IsSearch}
use Rattle.outcome_search.specs.EveryEnd.{IsGoneInto}
use Rattle.outcome_search.specs.Settled.{entry_in, after_next, settled}
use Rattle.outcome_search.specs.NextWords.{is_any_spent, key_of, first_key, next_of, next_key}
use Rattle.outcome_search.specs.Real.{IsLed, IsReal}
use Rattle.outcome_search.proofs.Chains.{chain}
use Rattle.outcome_search.proofs.Ways.{HasWay, has_spent}
use Rattle.outcome_search.proofs.Good.{IsGood, IsGoodKey, key_read, good_first, good_after, settled_read, all_good}

-- the entry that is taken is the one that is offered, where it is no hash
offered_entry : (made : Offer) (e : Entry) → is_hash e ≡ false → StandsFor made e → entry_in made ≡ Some (bare e)
offered_entry (offer.Next g) e other h = ap Some h
offered_entry (offer.NextHash o) (Hash k v d) other h = absurd (true≢false other)
offered_entry _ e other h = absurd h

after_taken : (p : ProgramText) (fuel : ℕ) (m n : PlainMachine) (t : ℕ) (e : Entry) → IsGood p fuel m → take m t e ≡ Some n → after_next m t ≡ Some n
after_taken p fuel m n t e h takes =
    let offers = offered_entry (offered m t) e (makes_none m n t e h.no_hash takes) (taken_is_offered m n t e h.found.reached takes) in
    rw offers (bare_same m t e ∙ takes)

-- the machine of a key that was found
seen_key : (p : ProgramText) (fuel : ℕ) (keys : List (List ℕ)) (key : List ℕ) (m : PlainMachine) → Has keys key → machine_of p fuel key ≡ m
    → IsSeen (map (machine_of p fuel) keys) m
seen_key p fuel keys key m has is = (has.0, get_map (machine_of p fuel) keys has.0 key has.1 ∙ ap Some is)

-- what leads to a key that was found is covered
covered_by : (p : ProgramText) (fuel steps : ℕ) (keys : List (List ℕ)) (n : PlainMachine)
    → machine_of p fuel (key_of fuel steps n) ≡ settled fuel steps (refuelled fuel n) → Has keys (key_of fuel steps n)
    → IsCoveredFull fuel (map (machine_of p fuel) keys) (refuelled fuel n)
covered_by p fuel steps keys n is has =
    let c = chain fuel steps (refuelled fuel n) in
    record {
      entries = c.entries;
      machine = settled fuel steps (refuelled fuel n);
      alone = c.alone;
      is_seen = seen_key p fuel keys (key_of fuel steps n) (settled fuel steps (refuelled fuel n)) has is;
    }

-- a machine to which there is a way is real
real_by : (p : ProgramText) (fuel : ℕ) (m : PlainMachine) → 1 ≤ fuel → HasSpent m ⊎ HasWay p fuel m → HasSpent m ⊎ IsReal p fuel m
real_by p fuel m some (inl spent) = inl spent
real_by p fuel m some (inr way) =
    let r = found_is_real p fuel way.entries m some way.alive way.leads in
    inr (record { entries = way.entries; machine = r.machine; leads = r.leads; same = r.same })

module _ (p : ProgramText) (fuel steps most : ℕ) (f : Keys) (valid : IsProgram p) (free : HasNoHash p) (some : 1 ≤ fuel)
    (h : IsSearch (next_key p fuel steps) (length p.threads) (first_key p fuel steps) most f) where
  good_at : (k : ℕ) (key : List ℕ) → slice_get f.keys k ≡ Some key → IsGoodKey p fuel key
  good_at k key at = let l = h.found.led k key at in all_good p fuel steps (length p.threads) l.choices key valid free some l.leads

  pub real_at : (k : ℕ) (key : List ℕ) → slice_get f.keys k ≡ Some key → HasSpent (machine_of p fuel key) ⊎ IsReal p fuel (machine_of p fuel key)
  real_at k key at =
      let g = good_at k key at in
      subst (λ (m : PlainMachine). HasSpent m ⊎ IsReal p fuel m) (sym (key_read p fuel key g)) (real_by p fuel g.machine some g.good.way)

  pub led_at : (k : ℕ) (key : List ℕ) → slice_get f.keys k ≡ Some key → IsLed p fuel (machine_of p fuel key)
  led_at k key at =
      let g = good_at k key at in
      subst (IsLed p fuel) (sym (key_read p fuel key g)) g.good.led

  pub once_at : (j k : ℕ) (one two : List ℕ) → slice_get f.keys j ≡ Some one → slice_get f.keys k ≡ Some two
      → machine_of p fuel one ≡ machine_of p fuel two → j ≡ k
  once_at j k one two a b same =
      let g = good_at j one a in
      let i = good_at k two b in
      let words : one ≡ two = sym g.words ∙ ap words_of (sym (key_read p fuel one g) ∙ same ∙ key_read p fuel two i) ∙ i.words in
      h.found.once j k two (a ∙ ap Some words) b

module _ (p : ProgramText) (fuel steps most : ℕ) (f : Keys) (valid : IsProgram p) (free : HasNoHash p) (some : 1 ≤ fuel)
    (h : IsSearch (next_key p fuel steps) (length p.threads) (first_key p fuel steps) most f) (all : f.gone ≡ length f.keys) where
  found_at : (k : ℕ) (key : List ℕ) → slice_get f.keys k ≡ Some key → IsGoodKey p fuel key
  found_at = good_at p fuel steps most f valid free some h

  next_known : (k : ℕ) (key : List ℕ) (m n : PlainMachine) (t : ℕ) (e : Entry) → slice_get f.keys k ≡ Some key → machine_of p fuel key ≡ m
      → IsGood p fuel m → take m t e ≡ Some n → HasSpent m ⊎ IsCoveredFull fuel (map (machine_of p fuel) f.keys) (refuelled fuel n)
  next_known k key m n t e at is good takes = go (is_any_spent m) refl
    where
      go : (b : Bool) → is_any_spent m ≡ b → HasSpent m ⊎ IsCoveredFull fuel (map (machine_of p fuel) f.keys) (refuelled fuel n)
      go true spent = inl (has_spent m spent)
      go false alive =
          let leads : next_of fuel steps t m ≡ Some (key_of fuel steps n) =
          rw alive (ap (option_map (λ z. key_of fuel steps z)) (after_taken p fuel m n t e good takes)) in
          let by_key : next_key p fuel steps key t ≡ Some (key_of fuel steps n) =
          subst (λ (z : PlainMachine). next_of fuel steps t z ≡ Some (key_of fuel steps n)) (sym is) leads in
          let k2 = taken m t e n takes in
          let count : length m.threads ≡ length p.threads =
          good.found.reached.thread_count ∙ ap (λ (q : ProgramText). length q.threads) good.found.program in
          let within : t < length p.threads = omega (arith, slice_get_within m.threads t k2.s k2.at, count) in
          let gone : k < f.gone = omega (arith, slice_get_within f.keys k key at, all) in
          let has = h.found.closed k key gone at t (key_of fuel steps n) within by_key in
          inr (covered_by p fuel steps f.keys n (settled_read p fuel steps n some (good_after p fuel m n t e some good takes)) has)

  pub gone_into : IsGoneInto p fuel (map (machine_of p fuel) f.keys)
  gone_into = record {
    first =
        covered_by p fuel steps f.keys (new_machine p fuel) (settled_read p fuel steps (new_machine p fuel) some (good_first p fuel valid free some))
        (0, h.found.first_key);
    next = λ m n t e seen takes.
        let u = get_unmap (machine_of p fuel) f.keys seen.0 m seen.1 in
        let k = found_at seen.0 u.0 u.1 in
        let same : k.machine ≡ m = sym (key_read p fuel u.0 k) ∙ u.2 in
        next_known seen.0 u.0 m n t e u.1 u.2 (subst (IsGood p fuel) same k.good) takes;
  }

  pub closed : IsClosedFull p fuel (map (machine_of p fuel) f.keys)
  closed = record {
    first = inr gone_into.first;
    next = λ m n t e seen takes. spent_or m n t e takes (gone_into.next m n t e seen takes);
  }
    where
      spent_or : (m n : PlainMachine) (t : ℕ) (e : Entry) → take m t e ≡ Some n
          → HasSpent m ⊎ IsCoveredFull fuel (map (machine_of p fuel) f.keys) (refuelled fuel n)
          → HasSpent n ⊎ IsCoveredFull fuel (map (machine_of p fuel) f.keys) (refuelled fuel n)
      spent_or m n t e takes (inl spent) = inl (spent_after m n t e spent takes)
      spent_or m n t e takes (inr covered) = inr covered

  pub has_end : (less : ℕ) (logs : List (List Logged)) (n : PlainMachine) → less ≤ fuel → machine_after p less logs ≡ Some n → IsOver n
      → HasSpent n ⊎ Has f.keys (words_of n)
  has_end less logs n few after over = go (over_is_known p less fuel (map (machine_of p fuel) f.keys) logs n valid closed few after over)
    where
      go : HasSpent n ⊎ IsSeen (map (machine_of p fuel) f.keys) (refuelled fuel n) → HasSpent n ⊎ Has f.keys (words_of n)
      go (inl spent) = inl spent
      go (inr seen) =
          let u = get_unmap (machine_of p fuel) f.keys seen.0 (refuelled fuel n) seen.1 in
          let k = found_at seen.0 u.0 u.1 in
          let same : k.machine ≡ refuelled fuel n = sym (key_read p fuel u.0 k) ∙ u.2 in
          let words : u.0 ≡ words_of n = sym k.words ∙ ap words_of same ∙ no_words_of_fuel n fuel in
          inr (seen.0, u.1 ∙ ap Some words)
