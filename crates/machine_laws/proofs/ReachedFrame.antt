-- A reached machine after one thread has moved: beside all objects, or with one of them.
use Rattle.std.proofs.Common.{◌≡◌, ◌≢◌, ℕ, zero, suc, ◌+◌, ◌<◌, List, [], ◌∷◌, length, slice_get, slice_set, Some, refl, sym, ap, ◌∙◌, subst, arith, length-set}
use Rattle.std.specs.List.{AllByRecursion}
use Rattle.std.proofs.lemmas.Option.{none-some, same_Some}
use Rattle.plain_monitor.specs.Monitor.{PlainMonitor}
use Rattle.plain_monitor.specs.Objects.{PlainObject}
use Rattle.object_program.specs.Program.{ProgramText, objects_total}
use Rattle.object_program.specs.Valid.{IsProgram}
use Rattle.plain_machine.specs.Thread.{ThreadState, holds_of}
use Rattle.plain_machine.specs.Machine.{PlainMachine}
use Rattle.machine_laws.specs.Work.{work_of, work_in, work_left}
use Rattle.machine_laws.specs.ReachedMonitor.{waiting_on, standing, StandsAt}
use Rattle.machine_laws.specs.ReachedThread.{IsThreadOf}
use Rattle.machine_laws.specs.Reached.{AtEach, HasSlots, HasHash, HasMonitor, HasThreads, IsReached}
use Rattle.plain_monitor.proofs.Lists.{all_set}
use Rattle.machine_laws.proofs.ReachedLists.{each_set}
use Rattle.machine_laws.proofs.ReachedMonitor.{Shift, IsMonitorStep, IsAlike}

-- what holds of the program, the objects and the threads of a reached machine, whatever the threads have made
pub record IsWell (p : ProgramText) (all : List PlainObject) (states : List ThreadState) : Type 0 where
  pub program : IsProgram p
  pub thread_count : length states ≡ length p.threads
  pub object_count : length all ≡ objects_total p
  pub threads : AllByRecursion (IsThreadOf p) states
  pub slots : AtEach (HasSlots p) all
  pub hashes : AtEach HasHash all
  pub monitors : AtEach (HasMonitor (length states)) all
  pub standing : AtEach (HasThreads states) all

-- a machine came from another by one step, and has less work
pub record IsProgress (m next : PlainMachine) : Type 0 where
  pub well : IsWell next.program next.objects next.threads
  pub work : work_left next < work_left m

-- a thread of a reached machine
pub record IsMaker (m : PlainMachine) (t : ℕ) (s : ThreadState) : Type 0 where
  pub reached : IsReached m
  pub at : slice_get m.threads t ≡ Some s

-- a thread moves: it is as it may be, and has less work
pub record IsThreadMove (m : PlainMachine) (s next : ThreadState) : Type 0 where
  pub thread : IsThreadOf m.program next
  pub work : work_of next < work_of s

-- it holds object o as often as before, and waits on it where it did
pub record IsSteady (s next : ThreadState) (o : ℕ) : Type 0 where
  pub holds : holds_of next o ≡ holds_of s o
  pub waits : waiting_on next.mode o ≡ waiting_on s.mode o

-- it holds object o, and waits on it, so much more or less often
pub record IsChanged (change : Shift) (s next : ThreadState) (o : ℕ) : Type 0 where
  pub holds : holds_of next o + change.loses ≡ holds_of s o + change.gains
  pub waits : waiting_on next.mode o + change.leaves ≡ waiting_on s.mode o + change.comes

-- the machine whose thread t and objects became these
abbrev pub moved_to : PlainMachine → ℕ → ThreadState → List PlainObject → PlainMachine
moved_to m t s objects = record m { objects = objects; threads = slice_set m.threads t s }

work_in_set : (ss : List ThreadState) (t : ℕ) (s next : ThreadState) → slice_get ss t ≡ Some s
    → work_in (slice_set ss t next) + work_of s ≡ work_in ss + work_of next
work_in_set [] t s next e = absurd (none-some s e)
work_in_set (x ∷ ss) zero s next e = let same : work_of x ≡ work_of s = ap work_of (same_Some x s e) in omega (arith, same)
work_in_set (x ∷ ss) (suc t) s next e = omega (arith, work_in_set ss t s next e)

less_work : (m : PlainMachine) (t : ℕ) (s next : ThreadState) (objects : List PlainObject)
    → slice_get m.threads t ≡ Some s → IsThreadMove m s next → work_left (moved_to m t next objects) < work_left m
less_work m t s next objects at move = omega (arith, work_in_set m.threads t s next at, move.work)

-- the threads beside a monitor that changes for thread t alone
threads_beside : (threads : List ThreadState) (t o : ℕ) (s next : ThreadState) (m after : PlainMonitor) → slice_get threads t ≡ Some s
    → AtEach (λ u x. StandsAt o u m x) threads → ((u : ℕ) → u ≢ t → IsAlike m after u) → StandsAt o t after next
    → AtEach (λ u x. StandsAt o u after x) (slice_set threads t next)
threads_beside threads t o s next m after at h alike own =
    each_set (λ u x. StandsAt o u after x) threads t s next at own (λ u x other e.
    let k = h u x e in let a = alike u other in record { holds = k.holds ∙ sym a.standing; listed = a.listed ∙ k.listed })

-- the same where the monitor doesn't change
threads_steady : (threads : List ThreadState) (t o : ℕ) (s next : ThreadState) (m : PlainMonitor) → slice_get threads t ≡ Some s
    → AtEach (λ u x. StandsAt o u m x) threads → IsSteady s next o → AtEach (λ u x. StandsAt o u m x) (slice_set threads t next)
threads_steady threads t o s next m at h steady =
    let k = h t s at in
    threads_beside threads t o s next m m at h (λ u other. record { standing = refl; listed = refl })
    (record { holds = steady.holds ∙ k.holds; listed = k.listed ∙ sym steady.waits })

-- the machine after the move is well where its objects are as they may be beside the threads
well_with : (m : PlainMachine) (t : ℕ) (next : ThreadState) (objects : List PlainObject)
    → IsReached m → IsThreadOf m.program next → length objects ≡ length m.objects
    → AtEach (HasSlots m.program) objects → AtEach HasHash objects → AtEach (HasMonitor (length m.threads)) objects
    → AtEach (HasThreads (slice_set m.threads t next)) objects → IsWell m.program objects (slice_set m.threads t next)
well_with m t next objects h thread same slots hashes monitors standing =
    let count : length (slice_set m.threads t next) ≡ length m.threads = length-set m.threads t next in
    record {
      program = h.program;
      thread_count = count ∙ h.thread_count;
      object_count = same ∙ h.object_count;
      threads = all_set (IsThreadOf m.program) m.threads t next thread h.threads;
      slots = slots;
      hashes = hashes;
      monitors = subst (λ (n : ℕ). AtEach (HasMonitor n) objects) (sym count) monitors;
      standing = standing;
    }

-- the thread moved, and no object did
pub progress_alone : (m : PlainMachine) (t : ℕ) (s next : ThreadState) → IsMaker m t s
    → IsThreadMove m s next → ((o : ℕ) → IsSteady s next o) → IsProgress m (moved_to m t next m.objects)
progress_alone m t s next h move steady =
    let r = h.reached in
    record {
      well = well_with m t next m.objects r move.thread refl r.slots r.hashes r.monitors
          (λ o x e. threads_steady m.threads t o s next x.monitor h.at (r.standing o x e) (steady o));
      work = less_work m t s next m.objects h.at move;
    }

-- object o, which was x, becomes y with a step of thread t
pub record IsObjectStep (m : PlainMachine) (t o : ℕ) (change : Shift) (x y : PlainObject) : Type 0 where
  pub there : slice_get m.objects o ≡ Some x
  pub slots : HasSlots m.program o y
  pub hash : HasHash o y
  pub monitor : IsMonitorStep (length m.threads) t change x.monitor y.monitor

-- the thread moved with object o
pub progress_at : (m : PlainMachine) (t o : ℕ) (change : Shift) (s next : ThreadState) (x y : PlainObject) → IsMaker m t s → IsThreadMove m s next
    → IsObjectStep m t o change x y → IsChanged change s next o → ((k : ℕ) → k ≢ o → IsSteady s next k)
    → IsProgress m (moved_to m t next (slice_set m.objects o y))
progress_at m t o change s next x y h move step changed steady =
    record {
      well =
          well_with m t next (slice_set m.objects o y) h.reached move.thread (length-set m.objects o y)
          (each_set (HasSlots m.program) m.objects o x y step.there step.slots (λ k z other e. h.reached.slots k z e))
          (each_set HasHash m.objects o x y step.there step.hash (λ k z other e. h.reached.hashes k z e))
          (each_set (HasMonitor (length m.threads)) m.objects o x y step.there step.monitor.monitor (λ k z other e. h.reached.monitors k z e))
          (each_set (HasThreads (slice_set m.threads t next)) m.objects o x y step.there beside
          (λ k z other e. threads_steady m.threads t k s next z.monitor h.at (h.reached.standing k z e) (steady k other)));
      work = less_work m t s next (slice_set m.objects o y) h.at move;
    }
  where
    before : StandsAt o t x.monitor s
    before = h.reached.standing o x step.there t s h.at

    own : StandsAt o t y.monitor next
    own = record {
      holds = omega (arith, before.holds, step.monitor.own.standing, changed.holds);
      listed = omega (arith, before.listed, step.monitor.own.listed, changed.waits);
    }

    beside : HasThreads (slice_set m.threads t next) o y
    beside = threads_beside m.threads t o s next x.monitor y.monitor h.at (h.reached.standing o x step.there) step.monitor.others own
