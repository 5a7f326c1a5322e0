use Rattle.std.proofs.Common.{refl, subst}
use Rattle.core_world.specs.declared.heap_call.Operation.TheVariants as op
use Rattle.core_world.specs.declared.heap_call.HeapCall.TheVariants.{Hash}
use Rattle.core_world.specs.Trees.Calls.{steps_of}
use Rattle.core_world.specs.Trees.Operations.{hash_steps}
use Rattle.core_world.specs.Trees.Plans.{CallContext, call_context}
use Rattle.core_calls.proofs.Runs.{tells}
use Rattle.core_calls.proofs.wait.WaitCallsSay.{hash_says}
use Rattle.heap_table.specs.Parts.{HasMadeSteps}
use Rattle.heap_table.specs.Resting.{start_now}
use Rattle.heap_table.proofs.Resting.{due_as, rests_after}
use Rattle.lock_runtime.specs.inner.HashParts.{hash_going}
use Rattle.lock_runtime.proofs.Begins.{object_there, room_one}
use Rattle.lock_runtime.proofs.Hashed.{first_hash}
use Rattle.lock_runtime.proofs.StandsCalls.{hash_leaves}
use Rattle.lock_runtime.proofs.hashing.hash.Goals as goal

pub hash_going-requires-clause-object : goal.hash_going-requires-clause-object
hash_going-requires-clause-object c = object_there c.args.heap.now.heap.shape c.args.pass.now.known c.args.object _ c.requires.call.may

pub hash_going-requires-clause-room : goal.hash_going-requires-clause-room
hash_going-requires-clause-room c = room_one c.args.heap.now c.args.pass.now (Hash c.args.object c.args.now) c.requires

pub hash_going-requires-clause-due : goal.hash_going-requires-clause-due
unfolding steps_of
hash_going-requires-clause-due c =
    let a = c.args in
    let h = a.heap.now in
    let e = call_context (Hash a.object a.now) op.Hash a.object in
    due_as h a.pass.now c.requires.call.rests _ e (λ (x : CallContext). hash_going h.heap.shape x (start_now h a.pass.now) a.object a.now)
    c.unfinished-context.ensures c.requires.call.may refl

pub returns : goal.returns
unfolding steps_of
returns c =
    let a = c.args in
    let h = a.heap.now in
    let p = a.pass.now in
    let q = c.hash_going.new.pass in
    let s = h.heap.shape in
    let k = start_now h p in
    let t = Hash a.object a.now in
    let run = subst (λ (x : CallContext). HasMadeSteps h (hash_going s x k a.object a.now) p q c.hash_going.result)
    c.unfinished-context.ensures c.hash_going.ensures in
    let leaves = hash_leaves h p q run.heap c.requires.call.rests a.object a.now c.hash_going.result c.requires.call.may run.ran in
    record {
      rests = rests_after h p t c.requires.call (hash_steps s k a.object a.now) refl (first_hash s (call_context t op.Hash a.object) k a.object a.now) q
          c.hash_going.result run;
      run = run;
      says = tells (hash_says s k a.object a.now) run.ran;
      stands = leaves.0;
      others = leaves.1;
    }
