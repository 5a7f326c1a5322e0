-- The shots of dumps are right over the logs, each stands for one dump of its thread, and of any two one was made no later than the other.
use Rattle.std.specs.Prelude.{◌≡◌, ◌⊎◌, ℕ, ◌+◌, ◌≤◌, List, [], ◌∷◌, ◌++◌, length, map, slice_get, slice_index, Option, Some}
use Rattle.plain_monitor.specs.declared.entry.Entry.{Entry}
use Rattle.plain_monitor.specs.declared.entry.Entry.TheVariants.{Dump}
use Rattle.plain_monitor.specs.declared.entry.Logged.{Logged}
use Rattle.plain_monitor.specs.Monitor.{PlainMonitor}
use Rattle.plain_monitor.specs.Objects.{PlainObject}
use Rattle.plain_monitor.specs.History.{LegalObjects, objects_after, log_of}
use Rattle.plain_history.specs.Cuts.{cut_logs, IsCutInOrder}
use Rattle.core_world.specs.declared.heap_call.Operation.TheVariants as op
use Rattle.core_world.specs.declared.heap_call.Unfinished.{Unfinished}
use Rattle.core_world.specs.Threads.ThreadView.{DumpShot}
use Rattle.core_world.specs.Clauses.Safepoints.{IsUnfinished}

-- the owner of a monitor, and its count
abbrev pub cell_in : PlainMonitor → Option ℕ × ℕ
cell_in m = (m.owner, m.count)

abbrev pub cells_of : List PlainObject → List (Option ℕ × ℕ)
cells_of objects = map (λ x. cell_in x.monitor) objects

-- a dump's place and number before those after it
abbrev pub placed : ℕ → Entry → List (ℕ × ℕ) → List (ℕ × ℕ)
placed n (Dump number) rest = (n, number) ∷ rest
placed n e rest = rest

-- the place and the number of each dump of a log, whose first entry has place n
abbrev pub dumps_from : ℕ → List Logged → List (ℕ × ℕ)
dumps_from n [] = []
dumps_from n (l ∷ log) = placed n l.entry (dumps_from (n + 1) log)

-- the place and the number that each of these shots has in the log of thread t
abbrev pub places_of : ℕ → List DumpShot → List (ℕ × ℕ)
places_of t shots = map (λ s. (slice_index s.cut t, s.number)) shots

-- the shot cuts the logs where they are legal, and has the owner and the count of each plain object after what it leaves of them
pub record IsRightShot (shape : List (ℕ × ℕ)) (logs : List (List Logged)) (shot : DumpShot) : Type 0 where
  -- it says of each log how long it was, which is now no shorter
  pub threads : length shot.cut ≡ length logs
  pub within : (u : ℕ) → slice_index shot.cut u ≤ length (log_of logs u)
  -- what was logged since stands after all that was logged then and that it is tied to
  pub in_order : IsCutInOrder shot.cut logs
  pub legal : LegalObjects shape (cut_logs shot.cut logs)
  pub objects : List PlainObject
  pub taken : objects_after shape (cut_logs shot.cut logs) ≡ Some objects
  pub cells : shot.cells ≡ cells_of objects

-- a thread's shots are of its dumps: each was made just before the dump, and has its number. The dump of the last one may not be logged yet: then
-- its log ends there, and a dump is what it has unfinished
abbrev pub AreOfDumps : ℕ → List Logged → List DumpShot → Option Unfinished → Type 0
AreOfDumps t log shots unfinished =
    (places_of t shots ≡ dumps_from 0 log)
    ⊎ ((places_of t shots ≡ dumps_from 0 log ++ (length log, length shots) ∷ [])
    × IsUnfinished unfinished op.Dump 0)

-- one cuts each log no later than the other
abbrev pub IsNoLater : DumpShot → DumpShot → Type 0
IsNoLater a b = (u : ℕ) → slice_index a.cut u ≤ slice_index b.cut u

pub record ShotsFit (shape : List (ℕ × ℕ)) (logs : List (List Logged)) (log : ℕ → List Logged)
    (shots : ℕ → List DumpShot) (unfinished : ℕ → Option Unfinished) : Type 0 where
  -- each shot is right over the logs as they are, and has its place among those of its thread as its number, from 1 on
  pub right : (t i : ℕ) (s : DumpShot) → slice_get (shots t) i ≡ Some s → IsRightShot shape logs s
  pub numbered : (t i : ℕ) (s : DumpShot) → slice_get (shots t) i ≡ Some s → s.number ≡ i + 1
  pub dumps : (t : ℕ) → AreOfDumps t (log t) (shots t) (unfinished t)
  -- a thread takes at most 4
  pub few : (t : ℕ) → length (shots t) ≤ 4
  -- of any two shots of any threads, one was made no later than the other
  pub ordered : (t u i j : ℕ) (a b : DumpShot) → slice_get (shots t) i ≡ Some a
      → slice_get (shots u) j ≡ Some b → IsNoLater a b ⊎ IsNoLater b a
