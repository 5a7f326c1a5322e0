use Rattle.std.proofs.Common.{◌≡◌, ℕ, List, Option, Some, slice_get, sym, ◌∙◌, subst, arith}
use Rattle.std.proofs.lemmas.Option.{slice_get_within}
use Rattle.state_search.specs.Search.{LeadsInto, IsUnderWay}
use Rattle.state_search.proofs.Steps.{leads_more, goes_on_past, goes_on_same}
use Rattle.state_search.proofs.breadth.go_into.Goals as goal

pub returns-then-not-branch-clause-goes_on : goal.returns-then-not-branch-clause-goes_on
returns-then-not-branch-clause-goes_on g c = λ first u.
    let inv = c.loop-choice.invariant in
    goes_on_same (g.M.Moves.next c.args.moves.now) (g.M.Moves.next c.loop-choice.moves) (g.M.Moves.choices c.args.moves.now)
    (g.M.Moves.choices c.loop-choice.moves)
    c.args.most c.loop-choice.found c.try_choice.new.found inv.next inv.choices c.in_ok-try_choice.ensures.goes_on first (inv.goes_on first u)

pub loop-choice-preserved : goal.loop-choice-preserved
loop-choice-preserved g c =
    let inv = c.loop-choice.invariant in
    let same : c.try_choice.new.found.gone ≡ c.loop-choice.found.gone = c.in_ok-try_choice.ensures.gone in
    let kept : slice_get c.try_choice.new.found.keys c.loop-choice.found.gone ≡ Some c.in_ok-key.key.items =
    c.in_ok-try_choice.ensures.kept c.loop-choice.found.gone c.in_ok-key.key.items inv.here in
    record {
      next = c.try_choice.ensures.next_stays ∙ inv.next;
      choices = c.try_choice.ensures.choices_stay ∙ inv.choices;
      stay = λ w h. c.try_choice.ensures.keys_stay w (inv.stay w h);
      keys = c.in_ok-try_choice.ensures.keys;
      goes_on = λ first u.
          goes_on_same (g.M.Moves.next c.args.moves.now) (g.M.Moves.next c.loop-choice.moves) (g.M.Moves.choices c.args.moves.now)
          (g.M.Moves.choices c.loop-choice.moves)
          c.args.most c.loop-choice.found c.try_choice.new.found inv.next inv.choices c.in_ok-try_choice.ensures.goes_on first (inv.goes_on first u);
      gone = same ∙ inv.gone;
      here = subst (λ (n : ℕ). slice_get c.try_choice.new.found.keys n ≡ Some c.in_ok-key.key.items) (sym same) kept;
      leads =
          leads_more (g.M.Moves.next c.args.moves.now) (g.M.Moves.choices c.args.moves.now) c.loop-choice.choice c.loop-choice.found.keys
          c.try_choice.new.found.keys c.in_ok-key.key.items c.in_ok-try_choice.ensures.kept inv.leads
          (λ to e. c.in_ok-try_choice.ensures.adds c.if-not-branch.false to
          (subst (λ (w : List ℕ). g.M.Moves.next c.loop-choice.moves w c.loop-choice.choice ≡ Some to) (sym c.deref.ensures.value)
          (subst (λ (n : List ℕ → ℕ → Option (List ℕ)). n c.in_ok-key.key.items c.loop-choice.choice ≡ Some to) (sym inv.next) e)));
      end = inv.end;
    }

pub go_on-requires : goal.go_on-requires
go_on-requires g c = slice_get_within c.loop-choice.found.keys c.loop-choice.found.gone c.in_ok-key.key.items c.loop-choice.invariant.here

pub returns-clause-goes_on : goal.returns-clause-goes_on
returns-clause-goes_on g c = λ first u.
    let inv = c.loop-choice.invariant in
    let next = g.M.Moves.next c.args.moves.now in
    let many = g.M.Moves.choices c.args.moves.now in
    let leads : LeadsInto next many c.loop-choice.found.keys c.in_ok-key.key.items =
    λ choice to lt e. inv.leads choice to (omega (arith, lt, c.loop-choice-test.false, c.choices-choice-end.ensures)) e in
    subst (IsUnderWay next many first c.args.most) (sym c.go_on.ensures)
    (goes_on_past next many c.args.most c.in_ok-key.key.items c.loop-choice.found inv.here leads first (inv.goes_on first u))
