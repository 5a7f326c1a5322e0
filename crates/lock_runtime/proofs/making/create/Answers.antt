use Rattle.std.proofs.Common.{◌≡◌, ℕ, ◌<◌, ◌≤◌, ◌&&◌, nat_lt, true, Result, Ok, Err, refl, sym, subst, arith, lt-ltb, le-ltb}
use Rattle.plain_monitor.specs.Limits.{most_made}
use Rattle.core_world.specs.declared.answer.TooMany.{TooMany}
use Rattle.core_world.specs.declared.heap_call.HeapCall.TheVariants.{Create}
use Rattle.core_world.specs.Threads.ThreadView.{local_of}
use Rattle.core_world.specs.Threads.References.{has_reference}
use Rattle.core_world.specs.Trees.Calls.{steps_of, may_act, has_made_numbers}
use Rattle.core_world.specs.Trees.CreateSteps.{count_made, next_made, make_steps}
use Rattle.core_world.specs.Trees.Operations.{answer, create_steps}
use Rattle.core_world.specs.Trees.StepTree.{StepTree, done, ◌>>=◌}
use Rattle.core_calls.proofs.made.CreatesSay.{create_says}
use Rattle.core_calls.proofs.Runs.{tells}
use Rattle.heap_table.specs.Parts.{IsDueOn, HasMadeSteps}
use Rattle.heap_table.specs.Resting.{start_now}
use Rattle.heap_table.proofs.Arms.{due_then, run_then, run_else}
use Rattle.heap_table.proofs.Parts.{ends}
use Rattle.heap_table.proofs.Resting.{whole_due, rests_after}
use Rattle.lock_runtime.proofs.Begins.{first_of, second_of, room_one}
use Rattle.lock_runtime.proofs.After.{arm_first}
use Rattle.lock_runtime.proofs.PartMade.{first_due, then_ends}
use Rattle.lock_runtime.proofs.Created.{created_known}
use Rattle.lock_runtime.proofs.StandsCalls.{create_leaves}
use Rattle.lock_runtime.proofs.making.create.Goals as goal
use Rattle.lock_runtime.proofs.making.create.Goals.{After-next_object-object}

-- the thread has made as many as it may
pub returns-then-made-from-clause-run : goal.returns-then-made-from-clause-run
returns-then-made-from-clause-run c =
    let a = c.args in
    let h = a.heap.now in
    let p = a.pass.now in
    let k = start_now h p in
    let made = c.made-made.ensures in
    let most = c.from.ensures in
    let many = c.if-made-from.true in
    let all : most_made ≤ count_made k.local = omega (arith, made, most, many) in
    run_else h p (nat_lt (count_made k.local) most_made) (make_steps (next_made h.heap.shape k.local) a.class >>= answer) (done (Err (record {}))) p
    (Err (record {})) (le-ltb _ _ all) (ends h p (Err (record {})) c.requires.call.rests.is_of)

pub returns-then-made-from-clause-says : goal.returns-then-made-from-clause-says
returns-then-made-from-clause-says c =
    let a = c.args in
    tells (create_says a.heap.now.heap.shape (start_now a.heap.now a.pass.now) a.class) (HasMadeSteps.ran (returns-then-made-from-clause-run c))

-- it may make one more
few : (c : After-next_object-object) → count_made (local_of c.args.pass.now.known) < most_made
few c =
    let made = c.made-made.ensures in
    let most = c.from.ensures in
    let below = c.if-made-from.false in
    omega (arith, made, most, below)

pub make-requires-clause-room : goal.make-requires-clause-room
make-requires-clause-room c = room_one c.args.heap.now c.args.pass.now (Create c.args.class) c.requires

pub make-requires-clause-due : goal.make-requires-clause-due
unfolding steps_of
make-requires-clause-due c =
    let a = c.args in
    let h = a.heap.now in
    let p = a.pass.now in
    let s = h.heap.shape in
    let l = local_of p.known in
    let due = whole_due h p (Create a.class) c.requires.call (create_steps s (start_now h p) a.class) refl in
    let makes : StepTree (Result ℕ TooMany) = make_steps (next_made s l) a.class >>= answer in
    let on = due_then h p (nat_lt (count_made l) most_made) makes (done (Err (record {}))) (Create a.class) due
    (lt-ltb _ _ (few (goal.at.make-requires-clause-due c).After-next_object-object)) in
    subst (λ o. IsDueOn h p (Create a.class) (make_steps o a.class)) (sym c.next_object-object.ensures) (first_due (answer {A = ℕ} {E = TooMany}) on)

pub returns : goal.returns
unfolding steps_of
returns c =
    let a = c.args in
    let h = a.heap.now in
    let p = a.pass.now in
    let q = c.make.new.pass in
    let s = h.heap.shape in
    let k = start_now h p in
    let o = c.next_object-object.result in
    let rests = c.requires.call.rests in
    let may_make = nat_lt (count_made k.local) most_made in
    let makes : StepTree (Result ℕ TooMany) = make_steps (next_made s k.local) a.class >>= answer in
    let refusal : StepTree (Result ℕ TooMany) = done (Err (record {})) in
    let made = subst (λ x. HasMadeSteps h (make_steps x a.class) p q o) c.next_object-object.ensures c.make.ensures in
    let room = few (goal.at.returns c).After-next_object-object in
    let run = run_then h p may_make makes refusal q (Ok o) (lt-ltb _ _ room)
    (then_ends (answer {A = ℕ} {E = TooMany}) refl made) in
    let both = first_of (nat_lt a.class s.classes && has_made_numbers s) (may_act p.known) c.requires.call.may in
    let may = second_of (nat_lt a.class s.classes && has_made_numbers s) (may_act p.known) c.requires.call.may in
    record {
      rests = rests_after h p (Create a.class) c.requires.call (create_steps s k a.class) refl
          (arm_first (Create a.class) may_make makes refusal refl tt) q (Ok o) run;
      run = run;
      says = tells (create_says s k a.class) run.ran;
      stands = create_leaves h p q run.heap rests may a.class run.ran;
      made = λ n is. subst (λ x. has_reference s q.known x ≡ true) (cc (is))
          (created_known h p q a.class o rests (second_of (nat_lt a.class s.classes) (has_made_numbers s) both) room c.next_object-object.ensures run);
    }
