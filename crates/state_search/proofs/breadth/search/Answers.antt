use Rattle.std.proofs.Common.{◌≤◌, inr, length, ◌∙◌, arith}
use Rattle.state_search.specs.Search.{IsUnderWay}
use Rattle.state_search.proofs.Steps.{goes_on_same}
use Rattle.state_search.proofs.breadth.search.Goals as goal

pub returns-then-not-branch-clause-found : goal.returns-then-not-branch-clause-found
returns-then-not-branch-clause-found g c =
    let inv = c.loop-alloc.invariant in
    let found : IsUnderWay (g.M.Moves.next c.args.moves.now) (g.M.Moves.choices c.args.moves.now) c.args.first.items c.args.most c.go_into.new.found =
    goes_on_same (g.M.Moves.next c.args.moves.now) (g.M.Moves.next c.loop-alloc.moves) (g.M.Moves.choices c.args.moves.now)
    (g.M.Moves.choices c.loop-alloc.moves)
    c.args.most c.loop-alloc.found c.go_into.new.found inv.next inv.choices c.in_ok-go_into.ensures.goes_on c.args.first.items inv.under_way in
    let full : c.args.most ≤ length c.go_into.new.found.keys = c.in_ok-go_into.ensures.full c.if-not-branch.true in
    record { found = found; ends = inr (omega (arith, found.few, full)) }

pub loop-alloc-preserved : goal.loop-alloc-preserved
loop-alloc-preserved g c =
    let inv = c.loop-alloc.invariant in
    record {
      next = c.go_into.ensures.next_stays ∙ inv.next;
      choices = c.go_into.ensures.choices_stay ∙ inv.choices;
      stay = λ w h. c.go_into.ensures.keys_stay w (inv.stay w h);
      keys = c.in_ok-go_into.ensures.keys;
      under_way =
          goes_on_same (g.M.Moves.next c.args.moves.now) (g.M.Moves.next c.loop-alloc.moves) (g.M.Moves.choices c.args.moves.now)
          (g.M.Moves.choices c.loop-alloc.moves)
          c.args.most c.loop-alloc.found c.go_into.new.found inv.next inv.choices c.in_ok-go_into.ensures.goes_on c.args.first.items inv.under_way;
    }
