-- Which biases a step takes, and which it leaves free.
use Rattle.std.specs.Prelude.{◌≡◌, ◌⊎◌, ℕ, ◌<◌, ◌≤◌, Some}
use Rattle.plain_monitor.specs.declared.entry.Path.TheVariants.{BiasTaken}
use Rattle.core_world.specs.declared.stage.Stage.{Stage}
use Rattle.core_world.specs.Locks.{Lock}
use Rattle.core_world.specs.Threads.Stages.{path_into}
use Rattle.core_law.specs.BiasOwners.{IsFree}

-- A bias that thread t comes to take was free, or its class was rebiased in bulk; and so with a bias that is free afterwards.
pub record TakesFreeBiases (t : ℕ) (class mark : ℕ → ℕ) (lock : ℕ → Lock) (stage : ℕ → Stage)
    (rebiased revoked mark2 : ℕ → ℕ) (lock2 : ℕ → Lock) (stage2 : ℕ → Stage) (rebiased2 revoked2 : ℕ → ℕ) : Type 0 where
  pub more : (c : ℕ) → rebiased c ≤ rebiased2 c
  pub comes : (i : ℕ) → path_into (stage2 t) i ≡ Some BiasTaken → (path_into (stage t) i ≡ Some BiasTaken)
      ⊎ (IsFree class mark lock revoked i ⊎ (rebiased (class i) < rebiased2 (class i)))
  pub free : (i : ℕ) → IsFree class mark2 lock2 revoked2 i
      → IsFree class mark lock revoked i ⊎ (rebiased (class i) < rebiased2 (class i))
