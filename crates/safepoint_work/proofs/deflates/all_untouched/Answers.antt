use Rattle.std.proofs.Common.{◌≡◌, ◌<◌, ◌&&◌, Bool, true, false, refl, sym, ap, ◌∙◌, arith}
use Rattle.std.specs.List.{list_all}
use Rattle.core_world.specs.Trees.DeflateSteps.{is_untouched}
use Rattle.core_world.specs.Trees.StepTree.{done}
use Rattle.core_world.specs.Words.Shape.{Shape}
use Rattle.heap_table.proofs.StepsLeft.{all_left, can_make, step_made, left_as, all_made}
use Rattle.safepoint_work.proofs.Rounds.{no_answer, answer_due, answered, all_answers}
use Rattle.safepoint_work.proofs.deflates.all_untouched.Goals.{then-untouched, else-untouched}
use Rattle.safepoint_work.proofs.deflates.all_untouched.Goals as goal

and_each : (a b c : Bool) → (a && (b && c)) ≡ ((a && b) && c)
and_each true b c = refl
and_each false b c = refl

and_true : (b : Bool) → (b && true) ≡ b
and_true true = refl
and_true false = refl

pub loop-thread-init : goal.loop-thread-init
loop-thread-init c = no_answer (all_left c.requires.heap c.requires.due)

pub load-word-requires : goal.load-word-requires
load-word-requires c =
    let l = c.loop-thread in
    let threads = c.threads-thread-end.ensures.same ∙ ap (λ (x : Shape). x.threads) c.shape.ensures in
    can_make (all_left l.invariant.left.heap (answer_due l.invariant (omega (arith, threads, c.loop-thread-test.true)))) refl refl refl tt

pub loop-thread-preserved : goal.loop-thread-preserved
loop-thread-preserved c =
    let l = c.loop-thread in
    let o = c.args.object in
    let word = c.load-word.result in
    let threads = c.threads-thread-end.ensures.same ∙ ap (λ (x : Shape). x.threads) c.shape.ensures in
    let less : l.thread < c.args.heap.now.heap.shape.threads = omega (arith, threads, c.loop-thread-test.true) in
    let same : c.if-untouched.untouched ≡ (l.untouched && is_untouched o word) = elim c.if-untouched.branch [
      | then-untouched w ↦ w.untouched-is ∙ w.is_untouched-untouched.ensures ∙ ap (λ b. b && is_untouched o word) (sym w.if-untouched.true)
      | else-untouched w ↦ w.untouched-is ∙ w.if-untouched.false ∙ ap (λ b. b && is_untouched o word) (sym w.if-untouched.false)
    ] in
    answered l.invariant less
    (all_made (step_made (all_left l.invariant.left.heap (answer_due l.invariant less)) refl refl refl c.load-word.ensures)) refl
    (λ others. ap done (and_each l.untouched (is_untouched o word) (list_all (λ w. is_untouched o w) others)
    ∙ ap (λ b. b && list_all (λ w. is_untouched o w) others) (sym same)))

pub returns : goal.returns
returns c =
    let threads = c.threads-thread-end.ensures.same ∙ ap (λ (x : Shape). x.threads) c.shape.ensures in
    all_made (left_as (all_answers c.loop-thread.invariant (omega (arith, threads, c.loop-thread-test.false)))
    (ap done (and_true c.loop-thread.untouched)))
