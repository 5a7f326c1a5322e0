use Rattle.std.proofs.Common.{◌≡◌, ◌-◌, ℕ, List}
use Rattle.state_search.specs.Search.{AreKeys, IsUnderWay}
use Rattle.state_search.proofs.breadth.search.Given as goal

abbrev pub invariant-loop-alloc : goal.invariant-loop-alloc
invariant-loop-alloc g l = record {
  next : g.M.Moves.next l.moves ≡ g.M.Moves.next l.fn.moves;
  choices : g.M.Moves.choices l.moves ≡ g.M.Moves.choices l.fn.moves;
  stay : (words : List ℕ) → g.M.Moves.is_key l.fn.moves words → g.M.Moves.is_key l.moves words;
  keys : AreKeys (g.M.Moves.is_key l.moves) l.found.keys;
  under_way : IsUnderWay (g.M.Moves.next l.fn.moves) (g.M.Moves.choices l.fn.moves) l.fn.first.items l.most l.found;
}

abbrev pub decreases-loop-alloc : goal.decreases-loop-alloc
decreases-loop-alloc g l = l.most - l.found.gone
