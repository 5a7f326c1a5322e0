use Rattle.std.proofs.Common.{sym, subst, refl}
use Rattle.lock_runtime_c.specs.Planning.{GetsObject, OfPlan}
use Rattle.lock_runtime_c.specs.declared.inner.Inner.{Inner}
use Rattle.lock_runtime_c.specs.declared.inner.Inner.TheVariants as inner
use Rattle.lock_runtime_c.proofs.makes.object_within.Goals as goal

pub returns-in-Plan-clause-object : goal.returns-in-Plan-clause-object
returns-in-Plan-clause-object c =
    subst (λ (i : Inner). OfPlan (λ p q a. GetsObject p q c.args.class a) i (inner.Plan c.add_object.new.plan) c.add_object.result) (sym c.in-Plan.is)
    (c.add_object.new.plan, refl, c.add_object.ensures.object)
