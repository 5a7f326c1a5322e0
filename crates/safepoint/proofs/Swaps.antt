-- Exchanges by what they are for.
use Rattle.std.proofs.Common.{◌≡◌, ℕ}
use Rattle.core_world.specs.declared.word_id.WordId.{WordId}
use Rattle.core_world.specs.declared.stage.Stage.{Stage}
use Rattle.core_world.specs.Trees.Plans.{CallContext}
use Rattle.heap_table.specs.StepPlans.{swap_plan}

pub same_swap : {e f : CallContext} {m n v w : ℕ} (stage : Stage) (at : WordId) → e ≡ f → m ≡ n → v ≡ w
    → swap_plan e stage at m v ≡ swap_plan f stage at n w
same_swap stage at a b c = λ i. swap_plan (a i) stage at (b i) (c i)
