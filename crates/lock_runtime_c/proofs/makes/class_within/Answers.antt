use Rattle.std.proofs.Common.{sym, subst, refl}
use Rattle.lock_runtime_c.specs.Planning.{GetsClass, OfPlan}
use Rattle.lock_runtime_c.specs.declared.inner.Inner.{Inner}
use Rattle.lock_runtime_c.specs.declared.inner.Inner.TheVariants as inner
use Rattle.lock_runtime_c.proofs.makes.class_within.Goals as goal

pub returns-in-Plan-clause-class : goal.returns-in-Plan-clause-class
returns-in-Plan-clause-class c =
    subst (λ (i : Inner). OfPlan (λ p q a. GetsClass p q c.args.slots a) i (inner.Plan c.add_class.new.plan) c.add_class.result) (sym c.in-Plan.is)
    (c.add_class.new.plan, refl, c.add_class.ensures.class)
