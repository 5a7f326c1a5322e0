use Rattle.std.proofs.Common.{ℕ, List, Option}
use Rattle.state_search.specs.Search.{IsUnderWay}
use Rattle.state_search.proofs.Origins.{IsDown}
use Rattle.state_search.proofs.found.Found.way_to.Given as goal

abbrev pub invariant-loop : goal.invariant-loop
invariant-loop l =
    (next : List ℕ → ℕ → Option (List ℕ)) (many : ℕ) (first : List ℕ) (most : ℕ) → IsUnderWay next many first most l.self
    → IsDown next many l.self.keys l.number l.at l.choices.items l.counter
