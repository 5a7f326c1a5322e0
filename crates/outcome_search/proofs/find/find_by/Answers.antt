use Rattle.std.proofs.Common.{ℕ, List, length, ap, ◌∙◌, subst}
use Rattle.state_search.specs.Search.{IsSearch}
use Rattle.outcome_search.specs.MovesView.{Ways}
use Rattle.outcome_search.specs.NextWords.{first_key, next_key}
use Rattle.outcome_search.specs.Outcomes.{ends_of}
use Rattle.outcome_search.specs.inner.Counting.{uncounted, counted}
use Rattle.outcome_search.proofs.Counting.{is_counted}
use Rattle.outcome_search.proofs.find.find_by.Goals as goal

pub returns : goal.returns
returns g c =
    let w : Ways = g.C.Course.ways in
    let f = c.in_ok-found.found in
    let search : IsSearch (next_key w.program w.fuel w.steps) (length w.program.threads) (first_key w.program w.fuel w.steps) c.args.limit f =
    subst (λ (key : List ℕ). IsSearch (next_key w.program w.fuel w.steps) (length w.program.threads) key c.args.limit f) c.requires.first
    c.in_ok-found.ensures.found in
    is_counted w.program w.fuel w.steps c.args.limit f c.in_ok-outcomes.outcomes search
    (c.in_ok-outcomes.ensures.counted ∙ ap (λ (z : Ways). counted (uncounted f) 0 (ends_of z.program z.fuel f.keys)) c.search.new.moves.same)
