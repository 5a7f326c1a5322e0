use Rattle.std.proofs.Common.{◌<◌, ◌∷◌, [], ◌++◌, ℕ, List, take, refl, sym, ap, ◌∙◌, append_assoc, append-nil, arith}
use Rattle.std.proofs.lemmas.List.{take_all, take_more_set, length-set}
use Rattle.plain_monitor.specs.Limits.{most_holds}
use Rattle.core_world.specs.Trees.StepTree.{done}
use Rattle.heap_table.proofs.Loops.{bind_done}
use Rattle.heap_table.proofs.StepsLeft.{all_left, can_make, step_made, left_as, all_made}
use Rattle.safepoint_work.proofs.Rounds.{no_answer, answer_due, answered, all_answers}
use Rattle.safepoint_work.proofs.revokes.load_holds.Goals as goal

pub loop-i-init : goal.loop-i-init
loop-i-init c = (refl, no_answer (left_as (all_left c.requires.heap c.requires.due) (sym (bind_done _))))

pub look-requires : goal.look-requires
look-requires c =
    let so_far = c.loop-i.invariant.1 in
    can_make (all_left so_far.left.heap (answer_due so_far (omega (arith, c.loop-i-test.true)))) refl refl refl tt

pub loop-i-preserved : goal.loop-i-preserved
loop-i-preserved c =
    let l = c.loop-i in
    let so_far = l.invariant.1 in
    let less : l.i < most_holds = omega (arith, c.loop-i-test.true) in
    let run = all_made (step_made (all_left so_far.left.heap (answer_due so_far less)) refl refl refl c.look.ensures) in
    let more = take_more_set l.holds l.i c.look.result (omega (arith, l.invariant.0, less)) in (
      length-set l.holds l.i c.look.result ∙ l.invariant.0,
      answered so_far less run refl (λ others. ap (λ (xs : List ℕ). done xs)
          (sym (append_assoc (take l.i l.holds) (c.look.result ∷ []) others) ∙ ap (λ xs. xs ++ others) (sym more))),
    )

pub returns : goal.returns
returns c =
    let l = c.loop-i in
    let end = all_answers l.invariant.1 (omega (arith, c.loop-i-test.false)) in
    all_made (left_as end (ap done (append-nil _ ∙ take_all l.i l.holds (omega (arith, c.loop-i-test.false, l.invariant.0)))))
