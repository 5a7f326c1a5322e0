-- Where a machine comes to after the next entry of a thread and what goes alone then.
use Rattle.std.proofs.Common.{◌≡◌, ℕ, ◌≤◌, true, false, List, Option, Some, None, is_some, refl, sym, ap, ◌∙◌, subst}
use Rattle.std.proofs.lemmas.Bool.{false≢true, true≢false}
use Rattle.std.proofs.lemmas.Option.{option_and_then_some}
use Rattle.object_program.specs.Program.{ProgramText}
use Rattle.plain_machine.specs.Machine.{PlainMachine}
use Rattle.plain_machine.specs.Offering.{offered}
use Rattle.every_outcome.specs.Fuel.{refuelled}
use Rattle.machine_words.specs.MachineWords.{words_of}
use Rattle.outcome_search.specs.Keys.{IsFound}
use Rattle.outcome_search.specs.NextWords.{is_any_spent, next_of}
use Rattle.outcome_search.specs.Settled.{entry_in, after_next, go_on, settled}
use Rattle.outcome_search.proofs.Found.{found_after, found_settled}

pub none_where_spent : (fuel steps t : ℕ) (m : PlainMachine) → is_any_spent m ≡ true → None ≡ next_of fuel steps t m
none_where_spent fuel steps t m spent = rw spent refl

pub none_where_none : (fuel steps t : ℕ) (m : PlainMachine) → is_any_spent m ≡ false → is_some (after_next m t) ≡ false → None ≡ next_of fuel steps t m
none_where_none fuel steps t m alive none = go (after_next m t) refl none
  where
    go : (r : Option PlainMachine) → after_next m t ≡ r → is_some r ≡ false → None ≡ next_of fuel steps t m
    go None e h = rw (alive, e) refl
    go (Some a) e h = absurd (true≢false h)

pub next_is : (fuel steps t : ℕ) (m k : PlainMachine) (ws : List ℕ) → is_any_spent m ≡ false → is_some (after_next m t) ≡ true
    → k ≡ go_on (settled fuel steps) (refuelled fuel) m (after_next m t) → ws ≡ words_of k → Some ws ≡ next_of fuel steps t m
next_is fuel steps t m k ws alive some to is = go (after_next m t) refl some to
  where
    go : (r : Option PlainMachine) → after_next m t ≡ r → is_some r ≡ true → k ≡ go_on (settled fuel steps) (refuelled fuel) m r
        → Some ws ≡ next_of fuel steps t m
    go None e h is_k = absurd (false≢true h)
    go (Some a) e h is_k = rw (alive, e) (ap Some (is ∙ ap words_of is_k))

-- it is one that the search finds
pub found_next : (p : ProgramText) (fuel steps t : ℕ) (m k : PlainMachine) → 1 ≤ fuel → IsFound p fuel m
    → k ≡ go_on (settled fuel steps) (refuelled fuel) m (after_next m t) → IsFound p fuel k
found_next p fuel steps t m k enough h to = go (after_next m t) refl to
  where
    go : (r : Option PlainMachine) → after_next m t ≡ r → k ≡ go_on (settled fuel steps) (refuelled fuel) m r → IsFound p fuel k
    go None e is_k = subst (IsFound p fuel) (sym is_k) h
    go (Some a) e is_k =
        option_and_then_some _ (entry_in (offered m t)) a e (λ entry offers takes.
        subst (IsFound p fuel) (sym is_k) (found_settled p fuel steps (refuelled fuel a) enough (found_after p fuel m a t entry enough h takes)))
