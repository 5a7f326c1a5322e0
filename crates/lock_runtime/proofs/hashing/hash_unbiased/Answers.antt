use Rattle.std.proofs.Common.{◌≡◌, ℕ, ◌+◌, sym, ap, ◌∙◌, subst, arith}
use Rattle.lock_policy.specs.Draws.{nth_value}
use Rattle.core_world.specs.declared.answer.Progress.{Progress}
use Rattle.core_world.specs.Threads.ThreadView.{local_of, draw_of}
use Rattle.core_world.specs.Trees.HashSteps.{hash_header_steps}
use Rattle.core_world.specs.Trees.StepTree.{StepTree}
use Rattle.heap_table.specs.Parts.{IsDueOn, HasMadeSteps}
use Rattle.lock_runtime.proofs.FewDraws.{few_draws}
use Rattle.lock_runtime.proofs.hashing.hash_unbiased.Goals as goal
use Rattle.lock_runtime.proofs.hashing.hash_unbiased.Goals.{After-draw-value}

pub overflow_cast-number : goal.overflow_cast-number
overflow_cast-number c = let few = few_draws c.args.heap.now c.args.pass.now c.requires.heap in omega (arith, few, c.draws.ensures)

pub overflow_add-number : goal.overflow_add-number
overflow_add-number c = let few = few_draws c.args.heap.now c.args.pass.now c.requires.heap in omega (arith, few, c.draws.ensures)

-- the steps, by the number and the value that the code has drawn
hashing : (c : After-draw-value) → let a = c.args in let s = a.heap.now.heap.shape in let k = a.pass.now.known in
    hash_header_steps s a.context.now (local_of k) k.kept
    (record { number = k.draws + 1; value = draw_of a.heap.now.heap.start k.thread (k.draws + 1) }) a.object
    ≡ hash_header_steps s a.context.now (local_of k) k.kept (record { number = c.draws.result + 1; value = c.draw-value.result }) a.object
hashing c =
    let a = c.args in
    let k = a.pass.now.known in
    let value = c.draw-value.ensures ∙ ap (λ n. nth_value n (k.draws + 1)) c.requires.heap.first in
    λ i. hash_header_steps a.heap.now.heap.shape a.context.now (local_of k) k.kept (record { number = sym c.draws.ensures i + 1; value = sym value i }) a.object

pub header_hash-requires-clause-due : goal.header_hash-requires-clause-due
header_hash-requires-clause-due c =
    let z = (goal.at.header_hash-requires-clause-due c).After-draw-value in
    subst (IsDueOn c.args.heap.now c.args.pass.now c.args.context.now.task) (hashing z) c.requires.due

pub returns : goal.returns
returns c =
    let q = c.header_hash.new.pass in
    subst (λ (d : StepTree (Progress ℕ)). HasMadeSteps c.args.heap.now d c.args.pass.now q c.header_hash.result)
    (sym (hashing (goal.at.returns c).After-draw-value)) c.header_hash.ensures
