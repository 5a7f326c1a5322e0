use Rattle.std.proofs.Common.{None, refl, sym, subst}
use Rattle.core_world.specs.Threads.ThreadView.{local_of}
use Rattle.core_world.specs.Trees.HashSteps.{hash_displaced_steps, hash_unless, hash_inflate_steps}
use Rattle.identity_hash.specs.inner.Parts.{hash_owned_steps}
use Rattle.heap_table.specs.Parts.{HasMadeSteps}
use Rattle.heap_table.proofs.StepsLeft.{AreLeft, all_left, left_as, part_of, after_part, last_made}
use Rattle.identity_hash.proofs.Finding.{after_kept, after_room}
use Rattle.identity_hash.proofs.hashes.hash_owned.Goals as goal
use Rattle.identity_hash.proofs.hashes.hash_owned.Goals.{In-None}

pub hash_displaced-requires-clause-due : goal.hash_displaced-requires-clause-due
hash_displaced-requires-clause-due c =
    part_of (λ found. hash_unless found c.args.heap.now.heap.shape c.args.call.now c.args.pass.now.known.kept
    (record { number = c.args.number; value = c.args.value }) c.args.object) (all_left c.requires.heap c.requires.due)

pub returns-in-Some : goal.returns-in-Some
returns-in-Some c =
    let run = subst (HasMadeSteps c.args.heap.now (hash_displaced_steps c.args.call.now (local_of c.args.pass.now.known) c.args.object)
    c.args.pass.now c.hash_displaced.new.pass) c.in-Some.is c.hash_displaced.ensures in
    last_made (λ found. hash_unless found c.args.heap.now.heap.shape c.args.call.now c.args.pass.now.known.kept
    (record { number = c.args.number; value = c.args.value }) c.args.object) run refl (all_left c.requires.heap c.requires.due)

-- no hash was found in the displaced header,
run_to_none : (c : In-None) → HasMadeSteps c.args.heap.now (hash_displaced_steps c.args.call.now (local_of c.args.pass.now.known) c.args.object)
    c.args.pass.now c.hash_displaced.new.pass None
run_to_none c = subst (HasMadeSteps c.args.heap.now (hash_displaced_steps c.args.call.now (local_of c.args.pass.now.known) c.args.object)
    c.args.pass.now c.hash_displaced.new.pass) c.in-None.is c.hash_displaced.ensures

-- and the object is to be inflated
none_found : (c : In-None) → AreLeft c.args.heap.now c.args.call.now.task c.args.pass.now
    (hash_owned_steps c.args.heap.now.heap.shape c.args.call.now (local_of c.args.pass.now.known) c.args.pass.now.known.kept
    (record { number = c.args.number; value = c.args.value }) c.args.object) c.hash_displaced.new.pass
    (hash_inflate_steps c.args.heap.now.heap.shape c.args.call.now c.hash_displaced.new.pass.known.kept
    (record { number = c.args.number; value = c.args.value }) c.args.object)
none_found c =
    let run = run_to_none c in
    let kept = after_kept c.args.heap.now c.args.pass.now c.hash_displaced.new.pass c.args.call.now (local_of c.args.pass.now.known) c.args.object run in
    left_as (after_part (λ found. hash_unless found c.args.heap.now.heap.shape c.args.call.now c.args.pass.now.known.kept
    (record { number = c.args.number; value = c.args.value }) c.args.object) run refl (all_left c.requires.heap c.requires.due))
    (λ i. hash_inflate_steps c.args.heap.now.heap.shape c.args.call.now (sym kept i) (record { number = c.args.number; value = c.args.value }) c.args.object)

pub hash_inflate-requires-clause-due : goal.hash_inflate-requires-clause-due
hash_inflate-requires-clause-due c = (none_found (goal.at.hash_inflate-requires-clause-due c).In-None).due

pub hash_inflate-requires-clause-room : goal.hash_inflate-requires-clause-room
hash_inflate-requires-clause-room c =
    after_room c.args.heap.now c.args.pass.now c.hash_displaced.new.pass c.args.call.now (local_of c.args.pass.now.known) c.args.object
    (run_to_none (goal.at.hash_inflate-requires-clause-room c).In-None) c.requires.room

pub returns-in-None : goal.returns-in-None
returns-in-None c = (none_found (goal.at.returns-in-None c).In-None).whole _ _ c.hash_inflate.ensures
