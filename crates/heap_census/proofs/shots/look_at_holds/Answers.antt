use Rattle.std.proofs.Common.{◌≡◌, ◌+◌, refl, ap, ◌∙◌, arith, add-one}
use Rattle.plain_monitor.specs.Limits.{most_holds}
use Rattle.core_world.specs.declared.word_id.WordId.TheVariants.{Hold}
use Rattle.core_world.specs.RevocationRules.{holds_in}
use Rattle.core_world.specs.Steps.{seen_words}
use Rattle.core_world.specs.Threads.Stages.{one_if}
use Rattle.core_world.specs.Words.Forms.{names}
use Rattle.heap_table.proofs.StepsLeft.{all_left}
use Rattle.heap_census.specs.inner.ShotParts.{held_below}
use Rattle.heap_census.proofs.Cells.{count_more}
use Rattle.heap_census.proofs.Later.{later_itself, later_than}
use Rattle.heap_census.proofs.Rounds.{no_round, round_due, round_made, all_rounds}
use Rattle.heap_census.proofs.shots.look_at_holds.Goals as goal

pub loop-place-init : goal.loop-place-init
loop-place-init c = record {
  left = no_round (all_left c.requires.heap c.requires.due);
  later = later_itself c.args.pass.now.known;
  held = λ m later. refl;
  few = omega arith;
}

pub look_at_hold-held-requires-clause-heap : goal.look_at_hold-held-requires-clause-heap
look_at_hold-held-requires-clause-heap c = c.loop-place.invariant.left.left.heap

pub look_at_hold-held-requires-clause-due : goal.look_at_hold-held-requires-clause-due
look_at_hold-held-requires-clause-due c = round_due c.loop-place.invariant.left (omega (arith, c.loop-place-test.true))

pub loop-place-preserved : goal.loop-place-preserved
loop-place-preserved c =
    let a = c.args in
    let l = c.loop-place in
    let one = c.look_at_hold-held.ensures in
    record {
      left = round_made l.invariant.left (omega (arith, c.loop-place-test.true)) one.run refl;
      later = later_than l.invariant.later one.later;
      held = λ m later.
          let next = ap (λ n. held_below a.object a.thread n m) (add-one l.place) in
          let counted = count_more a.object 0 0 l.place (λ p. seen_words m (Hold a.thread p)) in
          let before = l.invariant.held m (later_than one.later later) in
          let this = one.held m later in
          let zero_more : 0 + l.place ≡ l.place = omega arith in
          let here = ap (λ p. one_if (names a.object (seen_words m (Hold a.thread p)))) zero_more in
          omega (arith, next, counted, before, this, here);
      few = omega (arith, l.invariant.few, one.few);
    }

pub returns-clause-run : goal.returns-clause-run
returns-clause-run c = all_rounds c.loop-place.invariant.left (omega (arith, c.loop-place-test.false))

pub returns-clause-held : goal.returns-clause-held
unfolding holds_in
returns-clause-held c = λ m later.
    let l = c.loop-place in
    let all : most_holds ≡ l.place = omega (arith, c.loop-place-test.false, l.auto.place-end) in
    ap (λ n. held_below c.args.object c.args.thread n m) all ∙ l.invariant.held m later
