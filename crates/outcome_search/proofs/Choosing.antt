-- What comes of a choice, and of all choices.
use Rattle.std.proofs.Common.{◌≡◌, ℕ, zero, suc, ◌+◌, ◌<◌, Bool, true, false, if◌then◌else◌, List, [], ◌∷◌, length, drop, slice_index_or}
use Rattle.std.proofs.Common.{Option, Some, None, is_some, option_map, refl, sym, ap, ◌∙◌, subst}
use Rattle.std.specs.Prelude.{option_and_then, Result, Ok, Err, IfOk, OnOk}
use Rattle.std.proofs.lemmas.Bool.{false≢true, true≢false}
use Rattle.std.proofs.lemmas.List.{drop_more}
use Rattle.plain_monitor.specs.Limits.{most_fuel}
use Rattle.plain_monitor.specs.declared.entry.Logged.{Logged}
use Rattle.object_program.specs.Program.{ProgramText}
use Rattle.plain_machine.specs.Machine.{PlainMachine, new_machine}
use Rattle.plain_machine.specs.Legal.{after_all}
use Rattle.outcome_search.specs.Settled.{after_next, go_on, settled_by, gone, walked}
use Rattle.outcome_search.specs.Witness.{CountOn}
use Rattle.outcome_search.specs.inner.Trails.{IsTrail}

-- where a machine has gone, if it has
pub gone_where : (after : PlainMachine → PlainMachine) (steps : ℕ) (m k : PlainMachine) (t : ℕ) (made : Bool) → made ≡ is_some (after_next m t)
    → k ≡ go_on (settled_by after steps) after m (after_next m t) → (if made then Some k else None) ≡ gone after steps m t
gone_where after steps m k t made is to = go (after_next m t) made refl is to
  where
    go : (r : Option PlainMachine) (b : Bool) → after_next m t ≡ r → b ≡ is_some r → k ≡ go_on (settled_by after steps) after m r
        → (if b then Some k else None) ≡ option_map (λ n. settled_by after steps (after n)) (after_next m t)
    go None true e h to = absurd (true≢false h)
    go None false e h to = sym (ap (option_map (λ n. settled_by after steps (after n))) e)
    go (Some a) true e h to = ap Some to ∙ sym (ap (option_map (λ n. settled_by after steps (after n))) e)
    go (Some a) false e h to = absurd (false≢true h)

-- one choice more
pub walks_more : (after : PlainMachine → PlainMachine) (steps : ℕ) (first m : PlainMachine) (choices : List ℕ) (k d : ℕ) → k < length choices
    → walked after steps first (drop (k + 1) choices) ≡ Some m
    → walked after steps first (drop k choices) ≡ gone after steps m (slice_index_or choices k d)
walks_more after steps first m choices k d within walks =
    ap (walked after steps first) (drop_more choices k d within) ∙ ap (option_and_then (λ z. gone after steps z (slice_index_or choices k d))) walks

-- where some of the choices lead nowhere, all do
pub walks_nowhere : (after : PlainMachine → PlainMachine) (steps : ℕ) (first : PlainMachine) (choices : List ℕ) (k : ℕ)
    → walked after steps first (drop k choices) ≡ None → walked after steps first choices ≡ None
walks_nowhere after steps first choices zero none = none
walks_nowhere after steps first [] (suc k) none = none
walks_nowhere after steps first (c ∷ cs) (suc k) none =
    ap (option_and_then (λ z. gone after steps z c)) (walks_nowhere after steps first cs k none)

pub gone_in : {E : Type 0} (r : Result Bool E) (after : PlainMachine → PlainMachine) (steps : ℕ) (m k : PlainMachine) (t : ℕ)
    → IfOk r (λ made. made ≡ is_some (after_next m t)) → OnOk r (k ≡ go_on (settled_by after steps) after m (after_next m t))
    → IfOk r (λ made. (if made then Some k else None) ≡ gone after steps m t)
gone_in (Ok made) after steps m k t is to = gone_where after steps m k t made is to
gone_in (Err e) after steps m k t is to = tt

-- the first machine, with no entry yet
pub first_trail : (p : ProgramText) (m : PlainMachine) (entries : List (ℕ × Logged)) → m ≡ new_machine p most_fuel → entries ≡ [] → IsTrail p m entries
first_trail p m entries is none =
    record { stamps = subst (CountOn 0) (sym none) tt; leads = (λ i. after_all (new_machine p most_fuel) (none i)) ∙ ap Some (sym is) }
