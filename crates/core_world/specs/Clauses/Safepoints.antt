-- The safepoint word is what the threads know of themselves, and a halted run is stuck.
use Rattle.std.specs.Prelude.{◌≡◌, ◌≢◌, ◌⊎◌, ℕ, ◌<◌, ◌||◌, Bool, true, false, List, [], ◌∷◌, Option, Some, None}
use Rattle.plain_monitor.specs.declared.entry.Entry.{Entry}
use Rattle.plain_monitor.specs.declared.entry.Entry.TheVariants.{Trap, Spent, Done}
use Rattle.plain_monitor.specs.declared.entry.Logged.{Logged}
use Rattle.plain_monitor.specs.Monitor.{PlainMonitor, is_listed, owns}
use Rattle.core_world.specs.declared.heap_call.Operation.{Operation}
use Rattle.core_world.specs.declared.heap_call.Operation.TheVariants as op
use Rattle.core_world.specs.declared.heap_call.Unfinished.{Unfinished}
use Rattle.core_world.specs.declared.stage.Stage.{Stage}
use Rattle.core_world.specs.declared.stage.Stage.TheVariants.{Settled, BiasAcquired}
use Rattle.core_world.specs.Words.Forms.{runs_in, asks_in, requester_in, is_halted}
use Rattle.core_world.specs.Threads.Stages.{revocation_in}

abbrev pub is_ending : Entry → Bool
is_ending (Trap fault index) = true
is_ending Spent = true
is_ending Done = true
is_ending _ = false

-- the log has an ending entry
abbrev pub ends : List Logged → Bool
ends [] = false
ends (l ∷ log) = is_ending l.entry || ends log

-- the unfinished operation is this one, on o
abbrev pub IsUnfinished : Option Unfinished → Operation → ℕ → Type 0
IsUnfinished unfinished op o = unfinished ≡ Some (record { op = op; object = o })

-- thread t waits, or was notified or enters where another is the owner
abbrev pub IsHeldUp : (ℕ → PlainMonitor) → ℕ → Option Unfinished → Type 0
IsHeldUp monitors t unfinished =
    (o : ℕ) × ((is_listed (monitors o).waits t ≡ true)
    ⊎ (((is_listed (monitors o).called t ≡ true) ⊎ IsUnfinished unfinished op.Enter o)
    × ((u : ℕ) × (u ≢ t) × (owns (monitors o) u ≡ true))))

-- some of the n threads hasn't ended, and each that hasn't is held up
abbrev pub IsStuck : ℕ → (ℕ → Bool) → (ℕ → Option Unfinished) → (ℕ → PlainMonitor) → Type 0
IsStuck n ended unfinished monitors =
    ((t : ℕ) × (t < n) × (ended t ≡ false)) × ((t : ℕ) → t < n → ended t ≡ false → IsHeldUp monitors t (unfinished t))

pub record SafepointIsKnown (n safe : ℕ) (running requesting reached halted ended : ℕ → Bool)
    (unfinished : ℕ → Option Unfinished) (monitors : ℕ → PlainMonitor) : Type 0 where
  -- a thread's bit is set exactly where it runs
  pub bits : (t : ℕ) → runs_in safe t ≡ running t
  pub few : (t : ℕ) → running t ≡ true → t < n
  -- the requester is the thread whose request stands
  pub requester : (t : ℕ) → asks_in safe t ≡ requesting t
  -- at a reached safepoint nobody runs
  pub safepoint : (t : ℕ) → reached t ≡ true → (requesting t ≡ true) × ((u : ℕ) → running u ≡ false)
  pub stopped : (t : ℕ) → halted t ≡ true → is_halted safe ≡ true
  -- in a halted run nobody runs or asks, and the threads are stuck
  pub still : is_halted safe ≡ true → (requester_in safe ≡ None) × ((u : ℕ) → running u ≡ false)
      × IsStuck n ended unfinished monitors

-- the thread stands in the middle of nothing; or at its reached safepoint it has given itself a bias, which it takes after the release
abbrev pub IsQuiet : Bool → Stage → Type 0
IsQuiet reached stage = (stage ≡ Settled) ⊎ ((reached ≡ true) × ((o : ℕ) × (stage ≡ BiasAcquired o)))

-- so stands a thread that doesn't run, and no bias is being revoked
pub record StoppedAreQuiet (running reached : ℕ → Bool) (stage : ℕ → Stage) : Type 0 where
  pub quiet : (t : ℕ) → running t ≡ false → IsQuiet (reached t) (stage t)
  pub none_revokes : (t : ℕ) → revocation_in (stage t) ≡ None
