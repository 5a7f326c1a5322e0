use Rattle.std.proofs.Common.{ℕ, ap, ◌∙◌, arith}
use Rattle.std.specs.List.{slice_set}
use Rattle.machine_words.proofs.Placing.{sum_put}
use Rattle.machine_words.proofs.place_object.hold.Goals as goal

pub set_holds-requires-clause-few : goal.set_holds-requires-clause-few
set_holds-requires-clause-few c =
    let put = sum_put c.args.thread.now.holds c.args.number c.in_ok-count.count c.requires in
    omega (arith, put, c.depth.ensures, c.in_ok-count.ensures.few)

pub returns : goal.returns
returns c =
    record {
      lost = tt;
      held =
          c.set_holds.ensures
          ∙ ap (λ (n : ℕ). record c.args.thread.now { holds = slice_set c.args.thread.now.holds c.args.number n }) c.in_ok-count.ensures.standing;
    }
