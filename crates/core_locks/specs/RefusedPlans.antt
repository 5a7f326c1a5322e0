-- Plans that no tree has, of steps that lead to no valid world.
use Rattle.std.specs.Prelude.{ℕ}
use Rattle.mark_word.specs.Owner.{owner_of}
use Rattle.mark_word.specs.declared.owner.OwnerForm.TheVariants.{ByThread}
use Rattle.plain_monitor.specs.declared.entry.Entry.{Entry}
use Rattle.core_world.specs.declared.act.Act.{Act}
use Rattle.core_world.specs.declared.word_id.WordId.{WordId}
use Rattle.core_world.specs.declared.word_id.WordId.TheVariants.{Mark, Owner, Recursions}
use Rattle.core_world.specs.declared.plan.LocalEffect.TheVariants as own
use Rattle.core_world.specs.declared.plan.StepPlan.{StepPlan}
use Rattle.core_world.specs.declared.stage.Stage.{Stage}
use Rattle.core_world.specs.declared.stage.Stage.TheVariants.{Inflates}
use Rattle.core_world.specs.Trees.Plans.{CallContext, with_stage, with_own, logging_plan, store}

-- A store of 0 in the mark of o, to inflate, in place of the exchange.
abbrev pub store_inflating_plan : CallContext → ℕ → ℕ → ℕ → StepPlan
store_inflating_plan e o u p = with_stage (Inflates o u p) (store e (Mark o) 0)

-- A store of any mark, at any stage; and one with which the kept monitor is spent.
abbrev pub store_mark_plan : CallContext → Stage → ℕ → ℕ → StepPlan
store_mark_plan e stage o mark = with_stage stage (store e (Mark o) mark)

abbrev pub spend_in_mark_plan : CallContext → ℕ → ℕ → StepPlan
spend_in_mark_plan e o mark = with_own own.DropClaim (store e (Mark o) mark)

-- A store of thread t as the owner, and of recursions, at any stage.
abbrev pub store_owner_plan : CallContext → Stage → ℕ → ℕ → StepPlan
store_owner_plan e stage t m = with_stage stage (store e (Owner m) (owner_of (ByThread t)))

abbrev pub store_recursions_plan : CallContext → Stage → ℕ → ℕ → StepPlan
store_recursions_plan e stage m word = with_stage stage (store e (Recursions m) word)

-- A step on any word that logs any entry, at any stage.
abbrev pub log_entry_plan : CallContext → Stage → Entry → WordId → Act → StepPlan
log_entry_plan e stage entry at act = with_stage stage (logging_plan entry e at act)
