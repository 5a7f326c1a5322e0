-- When a thread may log an entry that the objects take now, though it may land in the middle of the order.
use Rattle.std.specs.Prelude.{ℕ, ◌<◌, List, length, IsTrue}
use Rattle.std.specs.List.{AllByRecursion}
use Rattle.plain_monitor.specs.declared.entry.Logged.{Logged}
use Rattle.plain_monitor.specs.Order.{is_before, order}
use Rattle.plain_monitor.specs.History.{last_stamp, log_of}
use Rattle.plain_history.specs.Tied.{is_tied}

-- thread t is there, and l is above all that it has logged and stands in the order after each entry that is tied to it
pub record MayAppend (logs : List (List Logged)) (t : ℕ) (l : Logged) : Type 0 where
  pub thread : t < length logs
  pub stamp : last_stamp (log_of logs t) < l.stamp
  pub follows : AllByRecursion (λ x. IsTrue (is_tied x.1.entry l.entry) → IsTrue (is_before x (t, l))) (order logs)
