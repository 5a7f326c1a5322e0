use Rattle.std.proofs.Common.{◌≡◌, ℕ, ◌+◌, ◌≤◌, ◌==◌, List, length, Ok, Err, refl, sym, ap, subst, arith}
use Rattle.core_world.specs.declared.answer.TooManyDumps.{TooManyDumps}
use Rattle.core_world.specs.declared.answer.Progress.{Progress}
use Rattle.core_world.specs.declared.heap_call.Operation.TheVariants as op
use Rattle.core_world.specs.declared.heap_call.HeapCall.TheVariants.{Dump}
use Rattle.core_world.specs.Threads.ThreadView.{DumpShot, local_of}
use Rattle.core_world.specs.Trees.Calls.{steps_of}
use Rattle.core_world.specs.Trees.Operations.{dump_steps}
use Rattle.core_world.specs.Trees.Plans.{call_context}
use Rattle.core_world.specs.Trees.StepTree.{StepTree, done}
use Rattle.core_calls.proofs.OtherCallsSay.{dump_says}
use Rattle.core_calls.proofs.Runs.{tells}
use Rattle.heap_table.specs.Parts.{IsDueOn, HasMadeSteps}
use Rattle.heap_table.specs.Resting.{start_now}
use Rattle.lock_runtime.specs.LookParts.{HasDumped}
use Rattle.lock_runtime.specs.inner.LookParts.{numbered_dump}
use Rattle.lock_runtime.proofs.Dumped.{dump_has_shots, bare, bare_call, of_bare_rests, run_of, dumped_of, first_dump}
use Rattle.lock_runtime.proofs.FewShots.{few_shots}
use Rattle.lock_runtime.proofs.Goes.{Goes, goes_due, goes_made, goes_rests}
use Rattle.lock_runtime.proofs.Refused.{differs}
use Rattle.lock_runtime.proofs.StandsCalls.{dump_leaves}
use Rattle.lock_runtime.proofs.looking.dump.Goals as goal
use Rattle.lock_runtime.proofs.looking.dump.Goals.{After-shots-taken, After-unfinished-context, After-requesting-requesting}

-- a thread has at most four shots
few : (c : After-shots-taken) → length c.shots-taken.result.now ≤ 4
few c = subst (λ (x : List DumpShot). length x ≤ 4) (sym c.shots-taken.ensures) (few_shots c.args.heap.now c.args.pass.now c.requires.call.rests.is_of)

pub overflow_cast-taken : goal.overflow_cast-taken
overflow_cast-taken c = omega (arith, few (goal.at.overflow_cast-taken c).After-shots-taken)

pub overflow_add-taken : goal.overflow_add-taken
overflow_add-taken c = omega (arith, few (goal.at.overflow_add-taken c).After-shots-taken)

-- the thread has fewer than four shots, so the call goes on
goes : (c : After-unfinished-context) → let p = c.args.pass.now in
    Goes {E = TooManyDumps} c.args.heap.now (bare p) (length p.known.shots == 4) (done (Err (record {})))
    (λ e. numbered_dump c.args.heap.now.heap.shape p.known.requesting e (local_of p.known) (length p.known.shots + 1)) (call_context Dump op.Dump 0)
    c.unfinished-context.result
unfolding steps_of
goes c = record {
  call = bare_call c.args.heap.now c.args.pass.now Dump c.requires.call;
  steps = refl;
  goes = differs (ap (λ (x : List DumpShot). length x) c.shots-taken.ensures) c.if-taken-eq4.false;
  context = c.unfinished-context.ensures;
}

-- by what the code has read
going : (c : After-requesting-requesting) → let s = c.args.heap.now.heap.shape in let k = c.args.pass.now.known in let e = c.unfinished-context.result in
    numbered_dump s k.requesting e (local_of k) (length k.shots + 1)
    ≡ numbered_dump s c.requesting-requesting.result e (local_of k) (length c.shots-taken.result.now + 1)
going c = λ i.
    numbered_dump c.args.heap.now.heap.shape (sym c.requesting-requesting.ensures i) c.unfinished-context.result (local_of c.args.pass.now.known)
    (length (sym c.shots-taken.ensures i) + 1)

pub dump_asking-requires-clause-due : goal.dump_asking-requires-clause-due
dump_asking-requires-clause-due c =
    let z = goal.at.dump_asking-requires-clause-due c in
    subst (IsDueOn c.args.heap.now c.args.pass.now c.unfinished-context.result.task) (going z.After-requesting-requesting)
    (goes_due (goes z.After-unfinished-context))

pub returns : goal.returns
returns c =
    let h = c.args.heap.now in
    let p = c.args.pass.now in
    let q = c.dump_asking.new.pass in
    let out = c.dump_asking.result in
    let z = goal.at.returns c in
    let g = goes z.After-unfinished-context in
    let asked = subst (λ (d : StepTree (Progress ℕ)). HasMadeSteps h d (bare p) (bare q) out) (sym (going z.After-requesting-requesting))
    (run_of c.dump_asking.ensures) in
    let run = goes_made g asked in
    let first = first_dump h.heap.shape p.known.requesting (call_context Dump op.Dump 0) (local_of p.known) (length p.known.shots + 1) in
    let dumped : HasDumped h (dump_steps h.heap.shape (start_now h p)) p q (Ok out) = dumped_of run in
    let leaves = dump_leaves h p q dumped.heap c.requires.call.rests c.requires.call.may run.ran in
    record {
      rests = of_bare_rests h q (goes_rests g tt first asked);
      run = dumped;
      says = tells (dump_says h.heap.shape (start_now h p)) run.ran;
      shots = dump_has_shots h p.known q.known (Ok out) run.ran;
      stands = leaves.0;
      others = leaves.1;
    }
