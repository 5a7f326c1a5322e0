use Rattle.std.proofs.Common.{ap, ◌∙◌, subst}
use Rattle.outcome_search.specs.Keys.{IsKey}
use Rattle.outcome_search.specs.MovesView.{Ways}
use Rattle.outcome_search.specs.NextWords.{first_key}
use Rattle.outcome_search.proofs.find.find_with.Goals as goal

pub find_by-requires-clause-first : goal.find_by-requires-clause-first
find_by-requires-clause-first g c = c.in_ok-moves.ensures.first ∙ ap (λ (w : Ways). first_key w.program w.fuel w.steps) c.requires.ways

pub find_by-requires-clause-key : goal.find_by-requires-clause-key
find_by-requires-clause-key g c = subst (λ (w : Ways). IsKey w.program w.fuel c.in_ok-moves.first.items) c.requires.ways c.in_ok-moves.ensures.key
