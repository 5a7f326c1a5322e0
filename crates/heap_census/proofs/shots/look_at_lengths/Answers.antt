use Rattle.std.proofs.Common.{rules, ◌≡◌, ◌+◌, ◌<◌, [], ◌∷◌, ◌++◌, length, refl, sym, ap, ◌∙◌, subst, arith, add-one}
use Rattle.std.proofs.lemmas.List.{length-append}
use Rattle.heap_table.specs.Seen.{PassSeen}
use Rattle.heap_table.proofs.StepsLeft.{all_left}
use Rattle.heap_census.specs.inner.ShotParts.{IsLater, lengths_below, length_of, look_at_length, look_at_lengths}
use Rattle.heap_census.proofs.Cells.{words_more}
use Rattle.heap_census.proofs.Later.{later_itself, later_than}
use Rattle.heap_census.proofs.Parting.{bare, bare_of, bare_run, drafted, shot_of_run}
use Rattle.heap_census.proofs.Rounds.{RoundsLeft, no_round, round_due, round_made, all_rounds}
use Rattle.heap_census.proofs.shots.look_at_lengths.Goals as goal

pub loop-thread-init : goal.loop-thread-init
loop-thread-init c = record {
  heap = c.requires.heap;
  all = search rules;
  left = no_round (all_left (bare_of c.args.pass.now c.requires.heap) c.requires.due);
  later = later_itself c.args.pass.now.known;
  cells = refl;
  count = ap (λ z. length z) c.requires.none;
  cut = λ m since. sym c.requires.none;
}

pub look_at_length-entries-requires-clause-due : goal.look_at_length-entries-requires-clause-due
look_at_length-entries-requires-clause-due c =
    round_due c.loop-thread.invariant.left (omega (arith, c.loop-thread-test.true, c.loop-thread.invariant.all))

pub loop-thread-preserved : goal.loop-thread-preserved
loop-thread-preserved c =
    let h = c.args.heap.now in
    let l = c.loop-thread in
    let p = l.pass in
    let one = c.look_at_length-entries.ensures in
    let q = c.look_at_length-entries.new.pass in
    let x = c.look_at_length-entries.result in
    let r = c.see_length.new.self in
    let same : r ≡ record q { cut = q.cut ++ x ∷ [] } = c.see_length.ensures in
    let grown : r.cut ≡ p.cut ++ x ∷ [] = ap (λ (z : PassSeen). z.cut) same ∙ ap (λ z. z ++ x ∷ []) one.run.cut in
    let below : l.thread < h.heap.shape.threads = omega (arith, c.loop-thread-test.true, l.invariant.all) in
    record {
      heap = drafted same one.run.heap;
      all = l.invariant.all;
      left = subst (λ z. RoundsLeft h c.args.call.now.task (bare c.args.pass.now) (look_at_lengths c.args.call.now h.heap.shape) h.heap.shape.threads
          (look_at_length c.args.call.now) (l.thread + 1) (bare z)) (sym same) (round_made l.invariant.left below (bare_run p q one.run) refl);
      later = subst (λ z. IsLater c.args.pass.now.known z.known) (sym same) (later_than l.invariant.later one.later);
      cells = ap (λ (z : PassSeen). z.cells) same ∙ one.run.cells ∙ l.invariant.cells;
      count = ap (λ z. length z) grown ∙ length-append p.cut (x ∷ []) ∙ ap (λ n. n + 1) l.invariant.count;
      cut = λ m since.
          let now : IsLater q.known m = subst (λ z. IsLater z.known m) same since in
          let before = l.invariant.cut m (later_than one.later now) in
          let this = one.length m now in
          let zero_more : 0 + l.thread ≡ l.thread = omega arith in
          ap (λ n. lengths_below n m) (add-one l.thread) ∙ words_more 0 l.thread (λ u. length_of u m)
          ∙ (λ i. before i ++ (ap (λ u. length_of u m) zero_more ∙ this) i ∷ []) ∙ sym grown;
    }

pub returns-clause-run : goal.returns-clause-run
returns-clause-run c =
    let l = c.loop-thread in
    shot_of_run c.args.pass.now l.pass (all_rounds l.invariant.left (omega (arith, c.loop-thread-test.false, l.invariant.all)))

pub returns-clause-cut : goal.returns-clause-cut
returns-clause-cut c = λ m later.
    let l = c.loop-thread in
    let all : c.args.heap.now.heap.shape.threads ≡ l.thread = omega (arith, c.loop-thread-test.false, l.auto.thread-end, l.invariant.all) in
    ap (λ n. lengths_below n m) all ∙ l.invariant.cut m later
