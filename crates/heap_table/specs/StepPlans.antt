-- The plans of steps, by what a call says of them.
use Rattle.std.specs.Prelude.{ℕ}
use Rattle.plain_monitor.specs.declared.entry.Entry.{Entry}
use Rattle.core_world.specs.declared.act.Act.TheVariants.{Store, CompareExchange}
use Rattle.core_world.specs.declared.word_id.WordId.{WordId}
use Rattle.core_world.specs.declared.word_id.WordId.TheVariants.{Hold}
use Rattle.core_world.specs.declared.plan.StepPlan.{StepPlan}
use Rattle.core_world.specs.declared.stage.Stage.{Stage}
use Rattle.core_world.specs.Trees.Plans.{CallContext, with_stage, logging_plan, store, swap}

-- a store, and an exchange, after which the thread stands at this stage
abbrev pub store_plan : CallContext → Stage → WordId → ℕ → StepPlan
store_plan e stage at word = with_stage stage (store e at word)

abbrev pub swap_plan : CallContext → Stage → WordId → ℕ → ℕ → StepPlan
swap_plan e stage at expected word = with_stage stage (swap e at expected word)

-- a store in the hold word of thread t's place p
abbrev pub store_hold_plan : CallContext → Stage → ℕ → ℕ → ℕ → StepPlan
store_hold_plan e stage t p word = store_plan e stage (Hold t p) word

-- the same, where they log this entry and end the operation
abbrev pub log_store_plan : CallContext → Stage → WordId → ℕ → Entry → StepPlan
log_store_plan e stage at word entry = with_stage stage (logging_plan entry e at (Store word))

abbrev pub log_swap_plan : CallContext → Stage → WordId → ℕ → ℕ → Entry → StepPlan
log_swap_plan e stage at expected word entry = with_stage stage (logging_plan entry e at (CompareExchange expected word))

-- a store that logs this entry and leaves the operation unfinished
abbrev pub log_store_within_plan : CallContext → Stage → WordId → ℕ → Entry → StepPlan
log_store_within_plan e stage at word entry = record (log_store_plan e stage at word entry) { after = e.unfinished }
