-- When a thread may make a step that changes no word, and what such a step changes.
use Rattle.std.specs.Prelude.{◌≡◌, ◌⊎◌, ℕ, false, true, Some, None}
use Rattle.core_world.specs.declared.act.Act.TheVariants.{Load}
use Rattle.core_world.specs.declared.word_id.WordId.{WordId}
use Rattle.core_world.specs.declared.word_id.WordId.TheVariants.{Safepoint, Mark}
use Rattle.core_world.specs.declared.plan.LogEffect.TheVariants.{Quiet}
use Rattle.core_world.specs.declared.plan.LocalEffect.TheVariants.{Unchanged}
use Rattle.core_world.specs.declared.plan.StepPlan.{StepPlan}
use Rattle.core_world.specs.Words.Acts.{hits}
use Rattle.core_world.specs.Words.Names.{its_monitor}
use Rattle.core_world.specs.Words.Forms.{monitor_in}
use Rattle.core_world.specs.Threads.ThreadView.{ThreadView, last_seen}

-- the word is one of m
abbrev pub IsOfMonitor : ℕ → WordId → Type 0
IsOfMonitor m at = its_monitor at ≡ Some m

-- the thread keeps m, or has seen in its call a mark that names it
abbrev pub HasFound : ThreadView → ℕ → Type 0
HasFound k m = (k.kept ≡ Some m) ⊎ ((o v : ℕ) × (last_seen (Mark o) k.seen ≡ Some v) × (monitor_in v ≡ Some m))

-- the thread may look at this word: one that neither runs nor stands at its reached safepoint looks at the safepoint word alone, and
-- one that runs looks at no word of a monitor that it hasn't found
pub record MayLook (k : ThreadView) (at : WordId) : Type 0 where
  pub outside : k.running ≡ false → k.reached ≡ false → at ≡ Safepoint
  pub found : k.running ≡ true → (m : ℕ) → IsOfMonitor m at → HasFound k m

-- a load that logs nothing and keeps nothing: it leaves the thread where it stands, and what it had unfinished, if that was something
pub record IsLook (k : ThreadView) (p : StepPlan) : Type 0 where
  pub act : p.act ≡ Load
  pub note : p.note ≡ Quiet
  pub own : p.own ≡ Unchanged
  pub stage : p.stage ≡ k.stage
  pub check : p.check ≡ k.checking
  pub after : (p.after ≡ k.unfinished) ⊎ (k.unfinished ≡ None)
  pub may : MayLook k p.at

-- an exchange that finds another word than it expects
pub record IsMiss (k : ThreadView) (p : StepPlan) (found : ℕ) : Type 0 where
  pub missed : hits p.act found ≡ false
  pub may : MayLook k p.at
