use Rattle.std.proofs.Common.{◌≡◌, ◌+◌, List, drop, slice_get, Option, Some, sym, ap, ◌∙◌, subst}
use Rattle.machine_words.specs.MachineWords.{machine_of}
use Rattle.outcome_search.specs.MovesView.{Ways}
use Rattle.outcome_search.specs.declared.ends.End.{End}
use Rattle.outcome_search.specs.declared.outcome.Outcomes.{Outcomes}
use Rattle.outcome_search.specs.Ends.{end_of}
use Rattle.outcome_search.specs.Outcomes.{ends_of}
use Rattle.outcome_search.specs.inner.Counting.{with_end, counted, IsBelow}
use Rattle.outcome_search.proofs.Counting.{below_more, counts_on}
use Rattle.outcome_search.proofs.outcome.count_ends.Goals as goal

pub loop-number-preserved : goal.loop-number-preserved
loop-number-preserved c =
    let inv = c.loop-number.invariant in
    let k = c.loop-number.number in
    let o = c.loop-number.outcomes in
    let p = c.args.moves.now.program in
    let fuel = c.args.moves.now.fuel in
    let keys = c.args.found.now.keys in
    let rest : List (Option End) = drop (k + 1) (ends_of p fuel keys) in
    let key = c.in-Some.key.now in
    let at : slice_get keys k ≡ Some key = sym c.in-Some.ensures in
    let is : c.in_ok-end.end ≡ end_of (machine_of p fuel key) =
    c.in_ok-end.ensures.end ∙ ap (λ (w : Ways). end_of (machine_of w.program w.fuel key)) inv.same in
    record {
      same = c.end.ensures.same ∙ inv.same;
      end = inv.end;
      below = subst (IsBelow (k + 1)) (sym c.add.ensures) (below_more o k c.in_ok-end.end inv.below);
      left =
          ap (λ (z : Outcomes). counted z (k + 1) rest) c.add.ensures ∙ ap (λ (e : Option End). counted (with_end o k e) (k + 1) rest) is
          ∙ sym (counts_on p fuel keys o k key at) ∙ inv.left;
    }
