-- What one thread knows: its log, what it last stored in its own words, where it stands, and the steps that it made.
use Rattle.std.specs.Prelude.{ℕ, ◌+◌, ◌%◌, ◌^◌, Bool, if◌then◌else◌, List, [], ◌∷◌, length, Option, Some, None}
use Rattle.plain_monitor.specs.declared.entry.Logged.{Logged}
use Rattle.lock_policy.specs.Draws.{nth_value}
use Rattle.core_world.specs.declared.word_id.WordId.{WordId}
use Rattle.core_world.specs.declared.stage.Stage.{Stage}
use Rattle.core_world.specs.declared.heap_call.HeapCall.{HeapCall}
use Rattle.core_world.specs.declared.heap_call.Unfinished.{Unfinished}
use Rattle.core_world.specs.declared.plan.StepPlan.{StepPlan}
use Rattle.core_world.specs.Words.Acts.{word_after}
use Rattle.core_world.specs.Words.Names.{same_name}
use Rattle.core_world.specs.Threads.Counts.{CountedVerdict}

-- a step that was made, and the word that it found
pub record StepMade : Type 0 where
  pub plan : StepPlan
  pub found : ℕ

-- the word that a step left
abbrev pub left_by : StepMade → ℕ
left_by m = word_after m.plan.act m.found

-- what the steps, newest first, last found or left in the word of this name, if one was on it
abbrev pub last_seen : WordId → List StepMade → Option ℕ
last_seen n [] = None
last_seen n (m ∷ ms) = if same_name n m.plan.at then Some (left_by m) else last_seen n ms

-- a dump: how long each log was, and the owner and count of each object
pub record DumpShot : Type 0 where
  pub number : ℕ
  pub cut : List ℕ
  pub cells : List (Option ℕ × ℕ)

-- what the steps of a lock take of their thread's knowledge
pub record Local : Type 0 where
  pub thread : ℕ
  pub log : List Logged
  -- its hold words, as it last stored them
  pub holds : List ℕ
  -- its waiting word, as it last stored it
  pub wait : ℕ

-- what the steps of a call take of their thread's knowledge, as it is when the call begins
pub record Start : Type 0 where
  pub local : Local
  pub requesting : Bool
  pub kept : Option ℕ
  pub saved : ℕ
  pub unfinished : Option Unfinished
  pub checking : Bool
  -- how many draws are installed, and the value of the next
  pub draws : ℕ
  pub draw : ℕ
  -- how many shots it has
  pub shots : ℕ

-- the call that was begun last, what its thread knew then, and what its steps found, newest first
pub record CallUnderway : Type 0 where
  pub task : HeapCall
  pub start : Start
  pub answers : List ℕ

-- What a thread has in hand of the ring: nothing; a position that it has claimed and not loaded yet; or a monitor that no mark names any more,
-- and that it gives back at its safepoint.
pub data Moving : Type 0 where
  Still : Moving
  Fetches : (position : ℕ) → Moving
  Returns : (monitor : ℕ) → Moving

pub record ThreadView : Type 0 where
  pub thread : ℕ
  pub log : List Logged
  pub running : Bool
  pub requesting : Bool
  -- its request stands, and it has seen that no thread runs
  pub reached : Bool
  -- it has seen or set the halt
  pub halted : Bool
  -- the monitor that it has claimed and no mark names
  pub kept : Option ℕ
  -- what it has in hand of the ring
  pub moving : Moving
  -- the recursions that its wait saved
  pub saved : ℕ
  -- its own hold words, waiting word and published length, as it last stored them
  pub holds : List ℕ
  pub wait : ℕ
  pub published : ℕ
  pub stage : Stage
  pub unfinished : Option Unfinished
  pub checking : Bool
  -- the verdicts that it counted, newest first
  pub counts : List CountedVerdict
  -- how many logged hashes were drawn by it
  pub draws : ℕ
  pub shots : List DumpShot
  -- the steps of this call that it counts on, newest first: from the call's beginning, or that of the call in which it made the request that
  -- stands; after an Enter or Resume from there on; after a release from when the safepoint was reached
  pub seen : List StepMade
  -- where its safepoint is reached, the steps since then, newest first
  pub seen_at_safepoint : List StepMade
  -- all its steps, newest first
  pub steps : List StepMade
  pub call : Option CallUnderway

abbrev pub local_of : ThreadView → Local
local_of k = record { thread = k.thread; log = k.log; holds = k.holds; wait = k.wait }

-- the value of a thread's n-th draw in a heap whose generators start from this number: that of thread t from start + t, on words of
-- 32 bits
abbrev pub draw_of : ℕ → ℕ → ℕ → ℕ
draw_of start t n = nth_value ((start + t) % 2 ^ 32) n

-- what a call that begins now takes of the thread's knowledge
abbrev pub start_of : ℕ → ThreadView → Start
start_of start k =
    record {
      local = local_of k;
      requesting = k.requesting;
      kept = k.kept;
      saved = k.saved;
      unfinished = k.unfinished;
      checking = k.checking;
      draws = k.draws;
      draw = draw_of start k.thread (k.draws + 1);
      shots = length k.shots;
    }
