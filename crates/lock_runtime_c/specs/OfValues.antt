-- What calls with a value say.
use Rattle.std.specs.Prelude.{◌≡◌, ℕ, Option, Some, None}
use Rattle.plain_monitor.specs.declared.entry.Value.{Value}
use Rattle.core_world.specs.declared.heap_call.HeapCall.{HeapCall}
use Rattle.core_world.specs.declared.heap_call.HeapCall.TheVariants.{Put, Print}
use Rattle.lock_runtime_c.specs.declared.answers.Answer.{Answer}
use Rattle.lock_runtime_c.specs.declared.handle.Slot.{Slot}
use Rattle.lock_runtime_c.specs.declared.numbers.Cell.{Cell}
use Rattle.lock_runtime_c.specs.declared.outcome.Misuse.TheVariants.{NoValue}
use Rattle.lock_runtime_c.specs.declared.outcome.Outcome.{Outcome}
use Rattle.lock_runtime_c.specs.declared.outcome.Outcome.TheVariants.{Done, Misused}
use Rattle.lock_runtime_c.specs.declared.outcome.Said.TheVariants.{Read}
use Rattle.lock_runtime_c.specs.ByHandle.{Answers, ByHandle}
use Rattle.lock_runtime_c.specs.Numbers.{answered, cell_of, value_of}

-- the cell of the value that was read, or the one that was there before
abbrev pub Finds : Outcome → Cell → Cell → Type 0
Finds (Done (Read value)) before after = after ≡ cell_of value
Finds _ before after = after ≡ before

pub record Gives (before after : Slot) (task : HeapCall) (old new : Cell) (a : Answer) : Type 0 where
  pub outcome : Outcome
  pub is : a ≡ answered outcome
  pub by_handle : ByHandle before after task outcome
  pub finds : Finds outcome old new

-- a cell that is none of a value is refused, and the handle stays as it was
abbrev pub WithValue : Option Value → Slot → Slot → (Value → HeapCall) → Answer → Type 0
WithValue (Some value) before after task a = Answers before after (task value) a
WithValue None before after task a = (after ≡ before) × (a ≡ answered (Misused NoValue))

abbrev pub PutOf : Cell → Slot → Slot → ℕ → ℕ → Answer → Type 0
PutOf cell before after o slot a = WithValue (value_of cell) before after (λ value. Put o slot value) a

abbrev pub PrintOf : Cell → Slot → Slot → Answer → Type 0
PrintOf cell before after a = WithValue (value_of cell) before after (λ value. Print value) a
