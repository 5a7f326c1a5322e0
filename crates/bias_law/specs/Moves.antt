-- What a step changes of that which the bias law reads, and what it has to respect.
use Rattle.std.specs.Prelude.{◌≡◌, ◌≢◌, ◌⊎◌, ℕ, Bool, true, false, List, [], ◌∷◌, ◌++◌, Option, Some, None}
use Rattle.plain_monitor.specs.declared.entry.Entry.{Entry}
use Rattle.plain_monitor.specs.declared.entry.Entry.TheVariants as entry
use Rattle.plain_monitor.specs.declared.entry.Logged.{Logged}
use Rattle.plain_monitor.specs.declared.entry.Path.{Path}
use Rattle.plain_monitor.specs.declared.entry.Path.TheVariants.{BiasTaken}
use Rattle.plain_history.specs.Tied.{bound_to, is_same_object}
use Rattle.lock_policy.specs.declared.policy.Verdict.{Verdict}
use Rattle.lock_policy.specs.declared.policy.Verdict.TheVariants.{BulkRevoke}
use Rattle.core_world.specs.declared.word_id.WordId.{WordId}
use Rattle.core_world.specs.declared.word_id.WordId.TheVariants.{Mark, Revocations, Class}
use Rattle.core_world.specs.declared.stage.Stage.{Stage}
use Rattle.core_world.specs.declared.heap_call.Operation.TheVariants as op
use Rattle.core_world.specs.declared.heap_call.Unfinished.{Unfinished}
use Rattle.core_world.specs.Words.Forms.{is_biased}
use Rattle.core_world.specs.Locks.{Lock, BiasedTo}
use Rattle.core_world.specs.Clauses.Safepoints.{IsUnfinished}
use Rattle.core_world.specs.Threads.Stages.{path_into}
use Rattle.plain_history.specs.EnterPaths.{ends_bias, first_path, is_by_bias, is_hash}
use Rattle.core_law.specs.BiasOwners.{bias_owner}
use Rattle.core_law.specs.MarksAndLogs.{is_anonymous}

-- what a lock under a bias says of the mark, in every world
abbrev pub LockFitsMark : (ℕ → ℕ) → (ℕ → Lock) → Type 0
LockFitsMark mark lock =
    (i u : ℕ) → lock i ≡ BiasedTo u
    → (is_biased (mark i) ≡ true) × (is_anonymous (mark i) ≡ false) × (bias_owner (mark i) ≡ Some u)

-- each mark is as biased as it was
pub record BiasesKept (mark : ℕ → ℕ) (lock : ℕ → Lock) (mark2 : ℕ → ℕ) (lock2 : ℕ → Lock) : Type 0 where
  pub pattern : (i : ℕ) → is_biased (mark2 i) ≡ is_biased (mark i)
  pub nobody : (i : ℕ) → is_anonymous (mark2 i) ≡ is_anonymous (mark i)
  pub owners : (i : ℕ) → bias_owner (mark2 i) ≡ bias_owner (mark i)
  pub leans : (i u : ℕ) → lock i ≡ BiasedTo u → lock2 i ≡ BiasedTo u

-- the other threads have what they had
pub record OthersStay (t : ℕ) (log : ℕ → List Logged) (stage : ℕ → Stage) (unfinished : ℕ → Option Unfinished)
    (log2 : ℕ → List Logged) (stage2 : ℕ → Stage) (unfinished2 : ℕ → Option Unfinished) : Type 0 where
  pub logs : (u : ℕ) → u ≢ t → log2 u ≡ log u
  pub stages : (u : ℕ) → u ≢ t → stage2 u ≡ stage u
  pub operations : (u : ℕ) → u ≢ t → unfinished2 u ≡ unfinished u

-- thread t logs y, by a step that leaves the biases
pub record LogsEntry (t : ℕ) (y : Logged) (mark : ℕ → ℕ) (entries : ℕ → List Entry) (log : ℕ → List Logged)
    (stage : ℕ → Stage) (unfinished : ℕ → Option Unfinished) (entries2 : ℕ → List Entry)
    (log2 : ℕ → List Logged) (stage2 : ℕ → Stage) (unfinished2 : ℕ → Option Unfinished) : Type 0 where
  pub here : (i : ℕ) → is_same_object (bound_to y.entry) (Some i) ≡ true → entries2 i ≡ entries i ++ y.entry ∷ []
  pub elsewhere : (i : ℕ) → is_same_object (bound_to y.entry) (Some i) ≡ false → entries2 i ≡ entries i
  pub grows : log2 t ≡ log t ++ y ∷ []
  -- it logs the enter that it was about to log, and is about to log none
  pub left : (i : ℕ) → path_into (stage2 t) i ≡ None
  pub came : (i : ℕ) (path : Path) → path_into (stage t) i ≡ Some path → y.entry ≡ entry.Enter i path
  pub enters : (i : ℕ) (path : Path) → y.entry ≡ entry.Enter i path → path_into (stage t) i ≡ Some path
  -- a hash that it had unfinished goes on, or is what it logs
  pub hash : (i : ℕ) → IsUnfinished (unfinished t) op.Hash i → IsUnfinished (unfinished2 t) op.Hash i
      ⊎ (is_hash i y.entry ≡ true)
  -- an entry that ends a bias comes where there is none
  pub ends : (i : ℕ) → is_same_object (bound_to y.entry) (Some i) ≡ true → ends_bias y.entry ≡ true
      → is_biased (mark i) ≡ false

-- Thread t makes a step that logs nothing, or has carried out a revocation as a whole. Of the classes fewer may be without a bulk revoke.
pub record LogsNothing (biasing : Bool) (t : ℕ) (class mark : ℕ → ℕ) (lock : ℕ → Lock)
    (entries : ℕ → List Entry) (stage : ℕ → Stage) (unfinished : ℕ → Option Unfinished)
    (revoked mark2 : ℕ → ℕ) (lock2 : ℕ → Lock) (stage2 : ℕ → Stage) (unfinished2 : ℕ → Option Unfinished)
    (revoked2 : ℕ → ℕ) : Type 0 where
  -- no mark gets the bias pattern that hadn't it
  pub pattern : (i : ℕ) → is_biased (mark2 i) ≡ true → is_biased (mark i) ≡ true
  -- a mark is biased to whom it was, or to the thread, which is taking the bias
  pub owners : (i u : ℕ) → bias_owner (mark2 i) ≡ Some u
      → (bias_owner (mark i) ≡ Some u) ⊎ ((u ≡ t) × (path_into (stage2 t) i ≡ Some BiasTaken))
  -- who is about to log an enter by a bias keeps it
  pub leans : (i u : ℕ) (path : Path) → u ≢ t → path_into (stage u) i ≡ Some path → lock i ≡ BiasedTo u
      → lock2 i ≡ BiasedTo u
  -- the enter that the thread is about to log
  pub biased : (i : ℕ) (path : Path) → path_into (stage2 t) i ≡ Some path → is_by_bias path ≡ true
      → lock2 i ≡ BiasedTo t
  pub unbiased : (i : ℕ) (path : Path) → path_into (stage2 t) i ≡ Some path → is_by_bias path ≡ false
      → is_biased (mark2 i) ≡ false
  pub taking : (i : ℕ) → path_into (stage t) i ≡ Some BiasTaken → path_into (stage2 t) i ≡ Some BiasTaken
  -- a hash that is open stays so
  pub hash : (i : ℕ) → IsUnfinished (unfinished t) op.Hash i → IsUnfinished (unfinished2 t) op.Hash i
  -- an object that nobody has entered stays biased to nobody, or the thread takes it, or wants its hash
  pub nobody : biasing ≡ true → (i : ℕ) → revoked2 (class i) ≡ 0 → first_path (entries i) ≡ None
      → is_anonymous (mark i) ≡ true
      → (is_anonymous (mark2 i) ≡ true)
      ⊎ ((path_into (stage2 t) i ≡ Some BiasTaken) ⊎ IsUnfinished (unfinished2 t) op.Hash i)
  pub fewer : (c : ℕ) → revoked2 c ≡ 0 → revoked c ≡ 0

-- From these words to those no mark gets the bias pattern, none but that of o gets another bias owner, and an object that was biased to
-- nobody is so, but where Q says so.
pub record AddsNoBias (o : ℕ) (Q : ℕ → Type 0) (f g : WordId → ℕ) : Type 0 where
  pub pattern : (i : ℕ) → is_biased (g (Mark i)) ≡ true → is_biased (f (Mark i)) ≡ true
  pub owners : (i u : ℕ) → i ≢ o → bias_owner (g (Mark i)) ≡ Some u → bias_owner (f (Mark i)) ≡ Some u
  pub nobody : (i : ℕ) → (Q i → ⊥) → is_anonymous (f (Mark i)) ≡ true → is_anonymous (g (Mark i)) ≡ true
  -- the counts stay, and so do the class words
  pub counts : (c : ℕ) → g (Revocations c) ≡ f (Revocations c)
  pub classes : (i : ℕ) → g (Class i) ≡ f (Class i)

-- which objects a revocation may leave without an anonymous mark: its own, and in a bulk revoke those of its class
abbrev pub MayLoseBias : (ℕ → ℕ) → ℕ → Verdict → ℕ → Type 0
MayLoseBias class o BulkRevoke i = class i ≡ class o
MayLoseBias class o _ i = i ≡ o
