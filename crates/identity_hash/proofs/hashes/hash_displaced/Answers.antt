use Rattle.std.proofs.Common.{◌==◌, if◌then◌else◌, Some, None, refl, sym, ap, eq-eqb, ne_eqb, arith}
use Rattle.core_world.specs.declared.word_id.WordId.TheVariants.{Displaced}
use Rattle.core_world.specs.Threads.ThreadView.{local_of}
use Rattle.core_world.specs.Trees.HashSteps.{find_hash_plan, hash_displaced_steps}
use Rattle.core_world.specs.Trees.StepTree.{done}
use Rattle.heap_table.proofs.Ruled.{few_objects}
use Rattle.heap_table.proofs.StepsLeft.{AreLeft, all_left, can_make, step_made, left_as, all_made}
use Rattle.identity_hash.proofs.hashes.hash_displaced.Goals as goal
use Rattle.identity_hash.proofs.hashes.hash_displaced.Goals.{After-hash_of_word-hash}

pub first_place-place-requires : goal.first_place-place-requires
first_place-place-requires c = omega (arith, c.requires.object, few_objects c.args.heap.now c.args.pass.now c.requires.heap)

pub find_hash-header-requires : goal.find_hash-header-requires
find_hash-header-requires c = can_make (all_left c.requires.heap c.requires.due)
    (λ i. find_hash_plan c.args.call.now (Displaced (c.thread-thread.ensures.same i) (c.first_place-place.ensures i)) c.args.object) refl refl c.requires.room

-- the hash in the header is found
found : (c : After-hash_of_word-hash) → AreLeft c.args.heap.now c.args.call.now.task c.args.pass.now
    (hash_displaced_steps c.args.call.now (local_of c.args.pass.now.known) c.args.object) c.find_hash-header.new.pass
    (done (if c.hash_of_word-hash.result == 0 then None else Some c.hash_of_word-hash.result))
found c =
    let left = step_made (all_left c.requires.heap c.requires.due)
    (λ i. find_hash_plan c.args.call.now (Displaced (c.thread-thread.ensures.same i) (c.first_place-place.ensures i)) c.args.object)
    refl refl c.find_hash-header.ensures in
    left_as left (ap (λ n. done (if n == 0 then None else Some n)) (sym c.hash_of_word-hash.ensures))

pub returns-then-hash-ne0 : goal.returns-then-hash-ne0
returns-then-hash-ne0 c = all_made (left_as (found (goal.at.returns-then-hash-ne0 c).After-hash_of_word-hash)
    (ap (λ b. done (if b then None else Some c.hash_of_word-hash.result)) (ne_eqb _ _ c.if-hash-ne0.true)))

pub returns : goal.returns
returns c = all_made (left_as (found (goal.at.returns c).After-hash_of_word-hash)
    (ap (λ b. done (if b then None else Some c.hash_of_word-hash.result)) (eq-eqb _ _ c.if-hash-ne0.false)))
