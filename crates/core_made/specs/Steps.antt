-- When a step keeps the law of what is there: what it leaves of objects that aren't, what it begins, and what it logs.
use Rattle.std.specs.Prelude.{◌≡◌, ◌⊎◌, ℕ, ◌≤◌, Bool, true, false, [], ◌∷◌, ◌++◌, Some, None}
use Rattle.std.specs.List.{AllByRecursion}
use Rattle.plain_monitor.specs.declared.entry.Logged.{Logged}
use Rattle.plain_monitor.specs.History.{last_stamp}
use Rattle.plain_monitor.specs.Made.{creates, needs}
use Rattle.plain_history.specs.Tied.{bound_to}
use Rattle.core_world.specs.declared.act.Act.{Act}
use Rattle.core_world.specs.declared.act.Act.TheVariants.{Load, CompareExchange}
use Rattle.core_world.specs.declared.word_id.WordId.{WordId}
use Rattle.core_world.specs.declared.word_id.WordId.TheVariants.{Safepoint, Mark, Hold, Stamp, Class}
use Rattle.core_world.specs.declared.plan.StepPlan.{StepPlan}
use Rattle.core_world.specs.Words.Acts.{word_after, hits}
use Rattle.core_world.specs.Words.Forms.{names}
use Rattle.core_world.specs.Steps.{log_after, unfinished_after, shots_after, is_taking, stamp_by}
use Rattle.core_world.specs.World.{World, logs}
use Rattle.core_world.specs.Threads.References.{numbering, knows_by_log, is_on, making_in}
use Rattle.core_law.specs.MadeLaw.{is_there_by}

-- What a step finds in its word and leaves there: the mark of an object that isn't there stays, and so does each class word; a new hold word names
-- only objects that are there; and no stamp word falls.
abbrev pub SparesAbsent : (ℕ → Bool) → WordId → ℕ → ℕ → Type 0
SparesAbsent there (Mark o) found left = (there o ≡ true) ⊎ (left ≡ found)
SparesAbsent there (Hold t p) found left = (o : ℕ) → names o left ≡ true → there o ≡ true
SparesAbsent there (Stamp o) found left = found ≤ left
SparesAbsent there (Class o) found left = left ≡ found
SparesAbsent there _ found left = Unit {0}

-- the objects that are there in this world, by its logs
abbrev pub is_there_in : World → ℕ → Bool
is_there_in w o = is_there_by (numbering w.shape) (logs w) o

-- thread t knows the object by its log
abbrev pub knows_in : World → ℕ → ℕ → Bool
knows_in w t o = knows_by_log (numbering w.shape) (w.known t).log o

-- the thread whose safepoint is reached only loads or exchanges the safepoint word
abbrev pub EndsByExchange : WordId → Act → Bool → Type 0
EndsByExchange Safepoint Load reached = Unit {0}
EndsByExchange Safepoint (CompareExchange expected word) reached = Unit {0}
EndsByExchange Safepoint act reached = reached ≡ false
EndsByExchange _ act reached = Unit {0}

-- A step of thread t spares what isn't there, leaves unfinished nothing but an operation on an object that the thread knows, makes no shot, and neither
-- begins nor ends the making of an object. But at its reached safepoint the thread comes to no mark of another object than it knows.
pub record IsFair (w : World) (t : ℕ) (p : StepPlan) : Type 0 where
  pub spares : SparesAbsent (is_there_in w) p.at (w.words p.at) (word_after p.act (w.words p.at))
  pub begins : (o : ℕ) → is_on (unfinished_after p.note (w.words p.at) p.after) o ≡ true → knows_in w t o ≡ true
  pub looks : (o : ℕ) → p.at ≡ Mark o → (w.known t).reached ≡ false → knows_in w t o ≡ true
  pub ends : EndsByExchange p.at p.act (w.known t).reached
  pub shots : shots_after p.own w.shape (w.known t) ≡ (w.known t).shots
  pub makes : making_in (unfinished_after p.note (w.words p.at) p.after) ≡ making_in (w.known t).unfinished

-- such a step that logs nothing
pub record IsFairQuietly (w : World) (t : ℕ) (p : StepPlan) : Type 0 where
  pub fair : IsFair w t p
  pub log : log_after p.note (w.words p.at) (w.known t).log ≡ (w.known t).log

-- Such a step that logs y: the thread knows what the entry needs. An entry that takes an object is stamped by that object's stamp word.
pub record IsFairTelling (w : World) (t : ℕ) (p : StepPlan) (y : Logged) : Type 0 where
  pub fair : IsFair w t p
  pub hits : hits p.act (w.words p.at) ≡ true
  pub grows : log_after p.note (w.words p.at) (w.known t).log ≡ (w.known t).log ++ y ∷ []
  pub stamp : y.stamp ≡ stamp_by y.entry (w.words p.at) (last_stamp (w.known t).log)
  pub takes : (o : ℕ) → is_taking y.entry ≡ true → bound_to y.entry ≡ Some o → p.at ≡ Stamp o
  pub makes_none : creates y.entry ≡ None
  pub needs : AllByRecursion (λ o. knows_in w t o ≡ true) (needs y.entry)
