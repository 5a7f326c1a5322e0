use Rattle.std.proofs.Common.{◌≡◌, false}
use Rattle.outcome_search.specs.Outcomes.{has_hash}
use Rattle.bias_cli.specs.inner.Ends.{IsSearchOf}
use Rattle.bias_cli.proofs.Searched.{no_hash}
use Rattle.bias_cli.proofs.outcomes.find_ends.Goals as goal

pub returns-in-Ok : goal.returns-in-Ok
returns-in-Ok g c = λ valid.
    let p = c.args.program.now in
    let free : has_hash p ≡ false = no_hash p c.find_outcomes.result _ c.find_outcomes.ensures.hash c.in-Ok.is in
    let search : IsSearchOf p c.in-Ok.found c.in-Ok.counts =
    record { valid = valid; free = free; states = c.args.states; counted = c.in-Ok.ensures.counted } in
    rw free (c.write_ends.ensures search)
