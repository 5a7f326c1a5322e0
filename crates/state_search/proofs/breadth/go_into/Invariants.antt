use Rattle.std.proofs.Common.{◌≡◌, ℕ, List, Some, slice_get}
use Rattle.state_search.specs.Search.{AreKeys, LeadsInto}
use Rattle.state_search.specs.inner.Steps.{GoesOn}
use Rattle.state_search.proofs.breadth.go_into.Given as goal

abbrev pub invariant-loop-choice : goal.invariant-loop-choice
invariant-loop-choice g l = record {
  next : g.M.Moves.next l.moves ≡ g.M.Moves.next l.initial.moves;
  choices : g.M.Moves.choices l.moves ≡ g.M.Moves.choices l.initial.moves;
  stay : (words : List ℕ) → g.M.Moves.is_key l.initial.moves words → g.M.Moves.is_key l.moves words;
  keys : AreKeys (g.M.Moves.is_key l.moves) l.found.keys;
  goes_on : GoesOn (g.M.Moves.next l.initial.moves) (g.M.Moves.choices l.initial.moves) l.most l.initial.found l.found;
  gone : l.found.gone ≡ l.initial.found.gone;
  here : slice_get l.found.keys l.found.gone ≡ Some l.key.items;
  leads : LeadsInto (g.M.Moves.next l.initial.moves) l.choice l.found.keys l.key.items;
  end : l.choice-end ≡ g.M.Moves.choices l.initial.moves;
}
