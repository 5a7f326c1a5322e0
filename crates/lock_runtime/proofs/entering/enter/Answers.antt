use Rattle.std.proofs.Common.{sym, subst}
use Rattle.core_world.specs.declared.heap_call.HeapCall.TheVariants.{Enter}
use Rattle.core_world.specs.Trees.Operations.{enter_steps}
use Rattle.core_calls.specs.CallsSay.{EnterSays}
use Rattle.core_calls.specs.Paths.{Tells}
use Rattle.heap_table.specs.Parts.{HasMadeSteps}
use Rattle.heap_table.specs.Resting.{MayOperate, start_now}
use Rattle.heap_table.specs.Seen.{PassSeen}
use Rattle.lock_runtime.proofs.Quickly.{enter_rests, is_entered}
use Rattle.lock_runtime.proofs.entering.enter.Goals as goal

-- nothing was made
pub enter_slowly-requires-in-Not : goal.enter_slowly-requires-in-Not
enter_slowly-requires-in-Not c = subst (λ (q : PassSeen). MayOperate c.args.heap.now q (Enter c.args.object c.args.now)) (sym c.in-Not.ensures.entered) c.requires

pub returns-in-Not-clause-run : goal.returns-in-Not-clause-run
returns-in-Not-clause-run c =
    let a = c.args in
    let h = a.heap.now in
    subst (λ (x : PassSeen). HasMadeSteps h (enter_steps h.heap.shape (start_now h x) a.object a.now) x c.enter_slowly-in-Not.new.pass c.enter_slowly-in-Not.result)
    c.in-Not.ensures.entered c.enter_slowly-in-Not.ensures.run

pub returns-in-Not-clause-says : goal.returns-in-Not-clause-says
returns-in-Not-clause-says c =
    let a = c.args in
    let h = a.heap.now in
    subst (λ (x : PassSeen). Tells x.known c.enter_slowly-in-Not.new.pass.known (λ ms. EnterSays (start_now h x) a.object ms c.enter_slowly-in-Not.result))
    c.in-Not.ensures.entered c.enter_slowly-in-Not.ensures.says

-- the whole was
pub returns-in-Done : goal.returns-in-Done
returns-in-Done c =
    let a = c.args in
    let all = is_entered a.heap.now a.pass.now a.object a.now c.requires c.in-Done.ensures.entered in
    record {
      rests = enter_rests a.heap.now a.pass.now a.object a.now c.requires c.in-Done.ensures.entered;
      run = all.run;
      says = all.says;
      stands = all.stands;
      others = all.others;
    }

pub returns-in-Raced : goal.returns-in-Raced
returns-in-Raced c =
    let a = c.args in
    let all = is_entered a.heap.now a.pass.now a.object a.now c.requires c.in-Raced.ensures.entered in
    record {
      rests = enter_rests a.heap.now a.pass.now a.object a.now c.requires c.in-Raced.ensures.entered;
      run = all.run;
      says = all.says;
      stands = all.stands;
      others = all.others;
    }

-- or it goes on from the mark,
pub enter_from_mark-requires : goal.enter_from_mark-requires
enter_from_mark-requires c = (c.args.pass.now, record { may = c.requires; came = c.in-Unbiased.ensures.entered })

pub returns-in-Unbiased : goal.returns-in-Unbiased
returns-in-Unbiased c =
    let on = c.enter_from_mark.ensures in
    let all = on.whole c.args.pass.now (record { may = c.requires; came = c.in-Unbiased.ensures.entered }) in
    record { rests = on.rests; run = all.run; says = all.says; stands = all.stands; others = all.others }

-- from the prototype, too,
pub enter_from_prototype-requires : goal.enter_from_prototype-requires
enter_from_prototype-requires c = (c.args.pass.now, record { may = c.requires; came = c.in-Biased.ensures.entered })

pub returns-in-Biased : goal.returns-in-Biased
returns-in-Biased c =
    let on = c.enter_from_prototype.ensures in
    let all = on.whole c.args.pass.now (record { may = c.requires; came = c.in-Biased.ensures.entered }) in
    record { rests = on.rests; run = all.run; says = all.says; stands = all.stands; others = all.others }

-- or from the owner word
pub enter_from_owner-requires : goal.enter_from_owner-requires
enter_from_owner-requires c = (c.args.pass.now, record { may = c.requires; came = c.in-Taken.ensures.entered })

pub returns-in-Taken : goal.returns-in-Taken
returns-in-Taken c =
    let on = c.enter_from_owner.ensures in
    let all = on.whole c.args.pass.now (record { may = c.requires; came = c.in-Taken.ensures.entered }) in
    record { rests = on.rests; run = all.run; says = all.says; stands = all.stands; others = all.others }
