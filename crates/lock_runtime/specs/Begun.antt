-- Enters and exits that began by a quick way, which came so far: who goes on with one says of the whole what the whole call does.
use Rattle.std.specs.Prelude.{ℕ, Result, Ok}
use Rattle.plain_monitor.specs.declared.entry.Path.{Path}
use Rattle.core_world.specs.declared.answer.IllegalMonitorState.{IllegalMonitorState}
use Rattle.core_world.specs.declared.answer.Progress.{Progress}
use Rattle.core_world.specs.declared.answer.TooDeep.{TooDeep}
use Rattle.core_world.specs.declared.heap_call.HeapCall.TheVariants as task
use Rattle.core_world.specs.Trees.Operations.{enter_steps, exit_steps}
use Rattle.core_calls.specs.CallsSay.{EnterSays, ExitSays}
use Rattle.core_calls.specs.Paths.{Tells}
use Rattle.heap_table.specs.Parts.{HasMadeSteps}
use Rattle.heap_table.specs.Quick.{HasEntered, HasLeft}
use Rattle.heap_table.specs.Resting.{MayOperate, start_now}
use Rattle.heap_table.specs.Seen.{HeapSeen, PassSeen}
use Rattle.heap_table.specs.declared.quick.QuickEnter.{QuickEnter}
use Rattle.heap_table.specs.declared.quick.QuickExit.{QuickExit}
use Rattle.lock_runtime.specs.Others.{PendsOrRefused}
use Rattle.lock_runtime.specs.Refusals.{IsRefusedUnheld}
use Rattle.lock_runtime.specs.Standing.{StandsOrSame}

-- ENTERS. One began on pass p, which might make it, and the quick way left pass q with this answer.
pub record HasBegunEnter (h : HeapSeen) (p q : PassSeen) (o now : ℕ) (how : QuickEnter) : Type 0 where
  pub may : MayOperate h p (task.Enter o now)
  pub came : HasEntered h p q o now how

-- What the whole enter says, which began on pass p and left pass r with this answer.
pub record IsEntered (h : HeapSeen) (p r : PassSeen) (o now : ℕ) (out : Result (Progress Path) TooDeep) : Type 0 where
  pub run : HasMadeSteps h (enter_steps h.heap.shape (start_now h p) o now) p r out
  pub says : Tells p.known r.known (λ ms. EnterSays (start_now h p) o ms out)
  pub stands : StandsOrSame p.known r.known out
  pub others : PendsOrRefused p.known.thread out

-- Pass q is in the middle of one that came so far,
abbrev pub IsAmidEnter : HeapSeen → PassSeen → ℕ → ℕ → QuickEnter → Type 0
IsAmidEnter h q o now how = (p : PassSeen) × HasBegunEnter h p q o now how

-- and from wherever it began, this is the end of it.
abbrev pub EndsEnter : HeapSeen → PassSeen → PassSeen → ℕ → ℕ → QuickEnter → Progress Path → Type 0
EndsEnter h q r o now how progress = (p : PassSeen) → HasBegunEnter h p q o now how → IsEntered h p r o now (Ok progress)

-- EXITS, in the same way.
pub record HasBegunExit (h : HeapSeen) (p q : PassSeen) (o : ℕ) (how : QuickExit) : Type 0 where
  pub may : MayOperate h p (task.Exit o)
  pub came : HasLeft h p q o how

pub record IsExited (h : HeapSeen) (p r : PassSeen) (o : ℕ) (out : Result (Progress (Unit {0})) IllegalMonitorState) : Type 0 where
  pub run : HasMadeSteps h (exit_steps (start_now h p) o) p r out
  pub says : Tells p.known r.known (λ ms. ExitSays (start_now h p) o ms out)
  pub stands : StandsOrSame p.known r.known out
  pub owner : IsRefusedUnheld p.known.log o out

abbrev pub IsAmidExit : HeapSeen → PassSeen → ℕ → QuickExit → Type 0
IsAmidExit h q o how = (p : PassSeen) × HasBegunExit h p q o how

abbrev pub EndsExit : HeapSeen → PassSeen → PassSeen → ℕ → QuickExit → Progress (Unit {0}) → Type 0
EndsExit h q r o how progress = (p : PassSeen) → HasBegunExit h p q o how → IsExited h p r o (Ok progress)
