use Rattle.std.proofs.Common.{rules, ◌≡◌, ◌+◌, ◌<◌, [], ◌∷◌, ◌++◌, length, refl, sym, ap, ◌∙◌, subst, arith, add-one}
use Rattle.std.proofs.lemmas.List.{length-append}
use Rattle.core_world.specs.Steps.{cells_from, seen_words}
use Rattle.core_world.specs.Trees.LookSteps.{look_at_objects}
use Rattle.heap_table.specs.Seen.{PassSeen}
use Rattle.heap_table.proofs.StepsLeft.{all_left}
use Rattle.heap_census.specs.inner.ShotParts.{IsLater, cells_below, cell_of, look_at_cell}
use Rattle.heap_census.proofs.Cells.{cells_more, take_all}
use Rattle.heap_census.proofs.Later.{later_itself, later_than}
use Rattle.heap_census.proofs.Parting.{bare, bare_of, bare_run, drafted, shot_of_run}
use Rattle.heap_census.proofs.Rounds.{RoundsLeft, no_round, round_due, round_made, all_rounds}
use Rattle.heap_census.proofs.shots.look_at_objects.Goals as goal

pub loop-object-init : goal.loop-object-init
loop-object-init c = record {
  heap = c.requires.heap;
  all = search rules;
  left = no_round (all_left (bare_of c.args.pass.now c.requires.heap) c.requires.due);
  later = later_itself c.args.pass.now.known;
  cut = refl;
  count = ap (λ z. length z) c.requires.none;
  cells = λ m since. sym c.requires.none;
}

pub look_at_cell-cell-requires-clause-due : goal.look_at_cell-cell-requires-clause-due
look_at_cell-cell-requires-clause-due c = round_due c.loop-object.invariant.left (omega (arith, c.loop-object-test.true, c.loop-object.invariant.all))

pub loop-object-preserved : goal.loop-object-preserved
loop-object-preserved c =
    let h = c.args.heap.now in
    let s = h.heap.shape in
    let l = c.loop-object in
    let p = l.pass in
    let one = c.look_at_cell-cell.ensures in
    let q = c.look_at_cell-cell.new.pass in
    let x = c.look_at_cell-cell.result in
    let r = c.see_cell.new.self in
    let same : r ≡ record q { cells = q.cells ++ (x.owner, x.count) ∷ [] } = c.see_cell.ensures in
    let grown : r.cells ≡ p.cells ++ (x.owner, x.count) ∷ [] =
    ap (λ (z : PassSeen). z.cells) same ∙ ap (λ z. z ++ (x.owner, x.count) ∷ []) one.run.cells in
    let below : l.object < length s.objects = omega (arith, c.loop-object-test.true, l.invariant.all) in
    record {
      heap = drafted same one.run.heap;
      all = l.invariant.all;
      left = subst (λ z. RoundsLeft h c.args.call.now.task (bare c.args.pass.now) (look_at_objects c.args.call.now s) (length s.objects)
          (look_at_cell c.args.call.now s) (l.object + 1) (bare z)) (sym same) (round_made l.invariant.left below (bare_run p q one.run) refl);
      later = subst (λ z. IsLater c.args.pass.now.known z.known) (sym same) (later_than l.invariant.later one.later);
      cut = ap (λ (z : PassSeen). z.cut) same ∙ one.run.cut ∙ l.invariant.cut;
      count = ap (λ z. length z) grown ∙ length-append p.cells ((x.owner, x.count) ∷ []) ∙ ap (λ n. n + 1) l.invariant.count;
      cells = λ m since.
          let now : IsLater q.known m = subst (λ z. IsLater z.known m) same since in
          let before = l.invariant.cells m (later_than one.later now) in
          let this = one.cell m now in
          let zero_more : 0 + l.object ≡ l.object = omega arith in
          ap (λ n. cells_below s n m) (add-one l.object) ∙ cells_more s (seen_words m) 0 l.object s.objects below
          ∙ (λ i. before i ++ (ap (λ u. cell_of s u m) zero_more ∙ this) i ∷ []) ∙ sym grown;
    }

pub returns-clause-run : goal.returns-clause-run
returns-clause-run c =
    let l = c.loop-object in
    shot_of_run c.args.pass.now l.pass (all_rounds l.invariant.left (omega (arith, c.loop-object-test.false, l.invariant.all)))

pub returns-clause-cells : goal.returns-clause-cells
returns-clause-cells c = λ m later.
    let s = c.args.heap.now.heap.shape in
    let l = c.loop-object in
    let all : length s.objects ≡ l.object = omega (arith, c.loop-object-test.false, l.auto.object-end, l.invariant.all) in
    ap (λ z. cells_from 0 z s (seen_words m)) (sym (take_all s.objects)) ∙ ap (λ n. cells_below s n m) all ∙ l.invariant.cells m later
