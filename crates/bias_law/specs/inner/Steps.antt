-- When a step that logs keeps the law of biases, with what the plain objects make of its entry.
use Rattle.std.specs.Prelude.{◌≡◌, ℕ, ◌+◌, true, false, List, [], ◌∷◌, ◌++◌, Some, None}
use Rattle.plain_monitor.specs.declared.entry.Entry.{Entry}
use Rattle.plain_monitor.specs.History.{last_stamp}
use Rattle.plain_monitor.specs.Made.{creates}
use Rattle.plain_monitor.specs.Objects.{PlainObject, take_entry}
use Rattle.core_world.specs.declared.plan.StepPlan.{StepPlan}
use Rattle.core_world.specs.Words.Acts.{word_after}
use Rattle.core_world.specs.Threads.Counts.{CountedVerdict}
use Rattle.core_world.specs.Threads.Stages.{path_into}
use Rattle.core_world.specs.Steps.{counts_after, is_taking, log_after}
use Rattle.core_world.specs.World.{World}
use Rattle.core_locks.specs.Knowing.{WorksFor}
use Rattle.bias_law.specs.Steps.{LeavesBiases, HasNone}

-- So, where it hits, thread t's step of a plan: it logs this entry, no Enter, no Resume and no New, with the thread's next stamp, and the plain objects
-- take it.
pub record LogsTaken (w : World) (objects : List PlainObject) (t : ℕ) (p : StepPlan) (e : Entry) : Type 0 where
  pub runs : (w.known t).running ≡ true
  pub other : is_taking e ≡ false
  pub makes_none : creates e ≡ None
  pub log : log_after p.note (w.words p.at) (w.known t).log ≡ (w.known t).log
      ++ record { stamp = last_stamp (w.known t).log + 1; entry = e } ∷ []
  pub own : (counts : List CountedVerdict) → counts_after p.own counts ≡ counts
  pub operation : WorksFor (w.known t) e
  pub calm : (o : ℕ) → path_into (w.known t).stage o ≡ None
  pub left : (o : ℕ) → path_into p.stage o ≡ None
  pub ended : HasNone w e
  pub leaves : LeavesBiases w p.at (word_after p.act (w.words p.at))
  pub now : List PlainObject
  pub taken : take_entry objects t e ≡ Some now
