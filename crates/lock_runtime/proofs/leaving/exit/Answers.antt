use Rattle.std.proofs.Common.{sym, subst}
use Rattle.core_world.specs.declared.heap_call.HeapCall.TheVariants.{Exit}
use Rattle.core_world.specs.Trees.Operations.{exit_steps}
use Rattle.core_calls.specs.CallsSay.{ExitSays}
use Rattle.core_calls.specs.Paths.{Tells}
use Rattle.heap_table.specs.Parts.{HasMadeSteps}
use Rattle.heap_table.specs.Resting.{MayOperate, start_now}
use Rattle.heap_table.specs.Seen.{PassSeen}
use Rattle.lock_runtime.proofs.Quickly.{exit_rests, is_exited}
use Rattle.lock_runtime.proofs.leaving.exit.Goals as goal

-- nothing was made
pub exit_slowly-requires-in-Not : goal.exit_slowly-requires-in-Not
exit_slowly-requires-in-Not c = subst (λ (q : PassSeen). MayOperate c.args.heap.now q (Exit c.args.object)) (sym c.in-Not.ensures.left) c.requires

pub returns-in-Not-clause-run : goal.returns-in-Not-clause-run
returns-in-Not-clause-run c =
    let a = c.args in
    let h = a.heap.now in
    subst (λ (x : PassSeen). HasMadeSteps h (exit_steps (start_now h x) a.object) x c.exit_slowly-in-Not.new.pass c.exit_slowly-in-Not.result)
    c.in-Not.ensures.left c.exit_slowly-in-Not.ensures.run

pub returns-in-Not-clause-says : goal.returns-in-Not-clause-says
returns-in-Not-clause-says c =
    let a = c.args in
    let h = a.heap.now in
    subst (λ (x : PassSeen). Tells x.known c.exit_slowly-in-Not.new.pass.known (λ ms. ExitSays (start_now h x) a.object ms c.exit_slowly-in-Not.result))
    c.in-Not.ensures.left c.exit_slowly-in-Not.ensures.says

-- the whole was
pub returns-in-Left : goal.returns-in-Left
returns-in-Left c =
    let a = c.args in
    let all = is_exited a.heap.now a.pass.now a.object c.requires c.in-Left.ensures.left in
    record {
      rests = exit_rests a.heap.now a.pass.now a.object c.requires c.in-Left.ensures.left;
      run = all.run;
      says = all.says;
      stands = all.stands;
      owner = all.owner;
    }

pub returns-in-Inflating : goal.returns-in-Inflating
returns-in-Inflating c =
    let a = c.args in
    let all = is_exited a.heap.now a.pass.now a.object c.requires c.in-Inflating.ensures.left in
    record {
      rests = exit_rests a.heap.now a.pass.now a.object c.requires c.in-Inflating.ensures.left;
      run = all.run;
      says = all.says;
      stands = all.stands;
      owner = all.owner;
    }

pub returns-in-Raced : goal.returns-in-Raced
returns-in-Raced c =
    let a = c.args in
    let all = is_exited a.heap.now a.pass.now a.object c.requires c.in-Raced.ensures.left in
    record {
      rests = exit_rests a.heap.now a.pass.now a.object c.requires c.in-Raced.ensures.left;
      run = all.run;
      says = all.says;
      stands = all.stands;
      owner = all.owner;
    }

-- or it goes on from the owner word
pub exit_from_owner-requires : goal.exit_from_owner-requires
exit_from_owner-requires c = (c.args.pass.now, record { may = c.requires; came = c.in-Owned.ensures.left })

pub returns-in-Owned : goal.returns-in-Owned
returns-in-Owned c =
    let on = c.exit_from_owner.ensures in
    let all = on.whole c.args.pass.now (record { may = c.requires; came = c.in-Owned.ensures.left }) in
    record { rests = on.rests; run = all.run; says = all.says; stands = all.stands; owner = all.owner }
