use Rattle.std.proofs.Common.{◌≡◌, None, sym, ◌∙◌, subst}
use Rattle.core_world.specs.declared.heap_call.HeapCall.{HeapCall}
use Rattle.lock_runtime_c.specs.Told.{barred}
use Rattle.lock_runtime_c.specs.inner.MayMake.{MayMake}
use Rattle.lock_runtime_c.proofs.Keeps.{begun_keeps}
use Rattle.lock_runtime_c.proofs.calls.make.Goals as goal

pub returns-in-None-clause-room : goal.returns-in-None-clause-room
returns-in-None-clause-room g c = λ kept.
    let h = c.args.heap.now in
    let p = c.args.pass.now in
    begun_keeps h p c.begin.new.pass c.requires c.begin.ensures.rests c.begin.ensures.limit (g.C.PassCall.task c.args.call) c.begin.result
    (subst (λ (t : HeapCall). MayMake h p t) c.task.ensures (c.barred.ensures.may c.in-None.is))
    (subst (λ (t : HeapCall). barred h p t ≡ None) c.task.ensures (sym c.barred.ensures.why ∙ c.in-None.is)) kept c.begin.ensures.made
