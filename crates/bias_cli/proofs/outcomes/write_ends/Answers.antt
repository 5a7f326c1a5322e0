use Rattle.std.proofs.Common.{inr}
use Rattle.outcome_search.proofs.EveryEnds.{every_end}
use Rattle.bias_cli.proofs.Searched.{found_by}
use Rattle.bias_cli.proofs.outcomes.write_ends.Goals as goal

pub returns-in-Ok : goal.returns-in-Ok
returns-in-Ok g c = λ search.
    let p = c.args.program.now in
    let every = every_end p search.states c.args.found.now c.args.counts.now search.valid search.free search.counted in
    inr (
      c.finish_with.ensures.left,
      found_by p search.states c.args.witness c.args.counts.now _ _ c.finish_with.result.status _ c.in-Ok.text.items _
          every (c.in-Ok.ensures search) c.outcome_status.ensures c.as_slice.ensures.value c.finish_with.ensures.written,
    )
