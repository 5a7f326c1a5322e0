use Rattle.std.proofs.Common.{◌≡◌, ◌&&◌, Bool, not, List, ◌∷◌, Option, refl, sym, ap, ◌∙◌, arith}
use Rattle.core_world.specs.Trees.StepTree.{done}
use Rattle.core_world.specs.Words.Shape.{Shape}
use Rattle.heap_table.proofs.StepsLeft.{all_left, left_as, all_made}
use Rattle.heap_census.specs.inner.StandParts.{stands_with}
use Rattle.heap_census.proofs.Standing.{goes_with, ended_with, all_with}
use Rattle.heap_census.proofs.Rounds.{no_answer, answer_due, answered, all_answers}
use Rattle.heap_census.proofs.stands.stands_still.Goals.{in-Some+then-still, in-Some+else-still, in_default}
use Rattle.heap_census.proofs.stands.stands_still.Goals as goal

pub loop-thread-init : goal.loop-thread-init
loop-thread-init c = no_answer (all_left c.requires.heap c.requires.due)

pub look_at_thread-requires-clause-heap : goal.look_at_thread-requires-clause-heap
look_at_thread-requires-clause-heap c = c.loop-thread.invariant.left.heap

pub look_at_thread-requires-clause-due : goal.look_at_thread-requires-clause-due
look_at_thread-requires-clause-due c =
    let threads = c.threads-thread-end.ensures.same ∙ ap (λ (x : Shape). x.threads) c.shape.ensures in
    answer_due c.loop-thread.invariant (omega (arith, threads, c.loop-thread-test.true))

pub loop-thread-preserved : goal.loop-thread-preserved
loop-thread-preserved c =
    let l = c.loop-thread in
    let x = c.look_at_thread.result in
    let threads = c.threads-thread-end.ensures.same ∙ ap (λ (x : Shape). x.threads) c.shape.ensures in
    let now = c.match-look_at_thread in
    let with_one : (others : List (Option Bool)) → stands_with l.live l.still (x ∷ others) ≡ stands_with now.live now.still others =
    λ others. elim c.match-look_at_thread.branch [
      | in-Some+then-still w ↦
          let on = w.in-Some.goes_on in
          goes_with l.live l.still on now.live now.still x w.in-Some.is w.live-is (w.still-is ∙ ap (λ b. b && not on) (sym w.if-still.true)) others
      | in-Some+else-still w ↦
          let on = w.in-Some.goes_on in
          goes_with l.live l.still on now.live now.still x w.in-Some.is w.live-is
          (w.still-is ∙ w.if-still.false ∙ ap (λ b. b && not on) (sym w.if-still.false)) others
      | in_default w ↦ ended_with l.live l.still now.live now.still x w.in_default.is w.live-is w.still-is others
    ] in
    answered l.invariant (omega (arith, threads, c.loop-thread-test.true)) c.look_at_thread.ensures refl with_one

pub returns-then-live : goal.returns-then-live
returns-then-live c =
    let l = c.loop-thread in
    let threads = c.threads-thread-end.ensures.same ∙ ap (λ (x : Shape). x.threads) c.shape.ensures in
    all_made (left_as (all_answers l.invariant (omega (arith, threads, c.loop-thread-test.false)))
    (all_with l.live l.still ∙ ap (λ b. done (b && l.still)) c.if-live.true))

pub returns-else-live : goal.returns-else-live
returns-else-live c =
    let l = c.loop-thread in
    let threads = c.threads-thread-end.ensures.same ∙ ap (λ (x : Shape). x.threads) c.shape.ensures in
    all_made (left_as (all_answers l.invariant (omega (arith, threads, c.loop-thread-test.false)))
    (all_with l.live l.still ∙ ap (λ b. done (b && l.still)) c.if-live.false ∙ ap (λ b. done b) (sym c.if-live.false)))
