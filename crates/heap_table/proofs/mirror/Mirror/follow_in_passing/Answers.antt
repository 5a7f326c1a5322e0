use Rattle.std.proofs.Common.{sym, subst}
use Rattle.core_world.specs.declared.plan.StepPlan.{StepPlan}
use Rattle.core_world.specs.Trees.Plans.{CallContext}
use Rattle.core_world.specs.Steps.{known_after}
use Rattle.heap_table.specs.Kept.{Mirrors}
use Rattle.heap_table.proofs.Follow.{follow_look}
use Rattle.heap_table.proofs.Late.{shows_alike}
use Rattle.heap_table.proofs.mirror.Mirror.follow_in_passing.Goals as goal

pub returns-clause-follows : goal.returns-clause-follows
returns-clause-follows c = λ s start k f.
    let step = c.args.step.now in
    let m = c.args.self.now in
    let e : CallContext = record { task = step.task; unfinished = step.after; check = step.check } in
    shows_alike _ _ _ _ _ _ (subst (λ (p : StepPlan). Mirrors (record m { stand = c.looked_at.new.stand }) (known_after s start p c.args.found k)) (sym c.requires.look)
    (follow_look s start e c.args.found k m c.looked_at.new.stand c.looked_at.ensures (sym c.requires.same.0) (sym c.requires.same.1) f))
