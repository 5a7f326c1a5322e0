-- How ends are counted, one after the other.
use Rattle.std.specs.Prelude.{ℕ, ◌+◌, ◌-◌, ◌≤◌, List, [], ◌∷◌, length, Option, Some, None}
use Rattle.state_search.specs.Found.{Keys}
use Rattle.outcome_search.specs.declared.ends.End.{End}
use Rattle.outcome_search.specs.declared.ends.End.TheVariants.{Spent, Stuck, Faulted, Ended}
use Rattle.outcome_search.specs.declared.outcome.Outcomes.{Outcomes}

-- nothing is counted yet
abbrev pub uncounted : Keys → Outcomes
uncounted f = record {
  states = length f.keys;
  ended = 0;
  faulted = 0;
  stuck = 0;
  spent = 0;
  «open» = length f.keys - f.gone;
  first_stuck = None;
  first_faulted = None;
}

abbrev pub or_number : Option ℕ → ℕ → Option ℕ
or_number None k = Some k
or_number (Some j) k = Some j

-- machine k ends so
abbrev pub with_end : Outcomes → ℕ → Option End → Outcomes
with_end o k None = o
with_end o k (Some Spent) = record o { spent = o.spent + 1 }
with_end o k (Some Stuck) = record o { stuck = o.stuck + 1; first_stuck = or_number o.first_stuck k }
with_end o k (Some Faulted) = record o { faulted = o.faulted + 1; first_faulted = or_number o.first_faulted k }
with_end o k (Some Ended) = record o { ended = o.ended + 1 }

-- the machines from k on end so
abbrev pub counted : Outcomes → ℕ → List (Option End) → Outcomes
counted o k [] = o
counted o k (e ∷ es) = counted (with_end o k e) (k + 1) es

-- no count is above k
pub record IsBelow (k : ℕ) (o : Outcomes) : Type 0 where
  pub ended : o.ended ≤ k
  pub faulted : o.faulted ≤ k
  pub stuck : o.stuck ≤ k
  pub spent : o.spent ≤ k
