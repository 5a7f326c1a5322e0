-- Who has the lock by the words is the plain owner.
use Rattle.std.specs.Prelude.{◌≡◌, ℕ, ◌||◌, Bool, true, false, Option, Some}
use Rattle.plain_monitor.specs.Monitor.{is_thread}
use Rattle.core_world.specs.declared.stage.Stage.{Stage}
use Rattle.core_world.specs.declared.stage.Stage.TheVariants.{Exits, Waits}
use Rattle.core_world.specs.Threads.Stages.{bears, notification_in}

pub record LocksArePlain (who : ℕ → Option ℕ) (stage : ℕ → Stage) (owner : ℕ → ℕ → Bool) : Type 0 where
  -- a thread has the lock exactly where it is the plain owner, or is taking it, or has logged its Wait and not let go; so nobody
  -- else takes it meanwhile
  pub same : (o t : ℕ) → is_thread (who o) t ≡ (owner o t || bears (stage t) o)
  -- a thread that has logged its Wait isn't the plain owner any more
  pub let_go : (o t : ℕ) → stage t ≡ Waits o → owner o t ≡ false
  -- nor is one that has logged its last Exit
  pub left : (o t p : ℕ) → stage t ≡ Exits o p → owner o t ≡ false
  -- only the plain owner tells all waiters
  pub calls : (o t : ℕ) → notification_in (stage t) ≡ Some o → owner o t ≡ true
