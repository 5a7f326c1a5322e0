-- What a pass keeps agrees with what its thread knows.
use Rattle.std.specs.Prelude.{◌≡◌, ℕ, ◌+◌, ◌<◌, ◌≤◌, ◌==◌, ◌^◌, Bool, true, false, not, List, [], length, drop}
use Rattle.plain_monitor.specs.declared.entry.Logged.{Logged}
use Rattle.plain_monitor.specs.History.{last_stamp}
use Rattle.plain_history.specs.Known.{news}
use Rattle.core_world.specs.declared.plan.LogEffect.{LogEffect}
use Rattle.core_world.specs.declared.plan.LogEffect.TheVariants.{Quiet}
use Rattle.core_world.specs.Threads.ThreadView.{ThreadView}
use Rattle.core_world.specs.Locks.{count_where}
use Rattle.lock_policy.specs.Draws.{state_after}
use Rattle.heap_table.specs.Tallies.{counts_shown}
use Rattle.heap_table.specs.declared.mirror.Mirror.{Mirror}

-- the number of hold words that are not empty
abbrev pub all_holds : List ℕ → ℕ
all_holds hs = count_where (λ p h. not (h == 0)) 0 hs

-- A pass that keeps its entries has a page of them, and one that doesn't has none. So its page has the log's entries from this number on, or is empty,
abbrev pub AreKept : Bool → ℕ → List Logged → List Logged → Type 0
AreKept true given log page = drop given log ≡ page
AreKept false given log page = page ≡ []

-- and so many were handed out, or passed over.
pub record IsPageFrom (keeps : Bool) (given : ℕ) (log page : List Logged) : Type 0 where
  pub entries : AreKept keeps given log page
  pub whole : given + length page ≡ length log

-- How many entries the log may have before it hands out its next page. Where none are kept, that is out of reach: no log has so many.
abbrev pub limit_by : Bool → ℕ → ℕ → ℕ
limit_by true given room = given + room
limit_by false given room = 2 ^ 42 + room

pub record Mirrors (m : Mirror) (k : ThreadView) : Type 0 where
  pub thread : k.thread ≡ m.thread
  pub log : IsPageFrom m.keeps m.given k.log m.log.items
  pub last : last_stamp k.log ≡ m.last
  pub running : k.running ≡ m.stand.running
  pub requesting : k.requesting ≡ m.stand.requesting
  pub reached : k.reached ≡ m.stand.reached
  pub halted : k.halted ≡ m.stand.halted
  pub kept : k.kept ≡ m.kept
  pub saved : k.saved ≡ m.saved
  pub holds : k.holds ≡ m.holds.words
  pub wait : k.wait ≡ m.wait
  pub published : k.published ≡ m.published
  pub unfinished : k.unfinished ≡ m.unfinished
  pub checking : k.checking ≡ m.checking
  pub counts : m.counts.items ≡ counts_shown 0 m.classes k.counts
  pub draws : k.draws ≡ m.drawing.installed
  pub made : length (news k.log) ≡ m.made
  pub shots : k.shots ≡ m.shots.taken.items
  pub few : k.draws ≤ length k.log
  pub generator : m.drawing.generator ≡ state_after m.first (k.draws + 1)

abbrev pub LogHasRoom : LogEffect → List Logged → ℕ → Type 0
LogHasRoom Quiet log room = Unit {0}
LogHasRoom _ log room = length log < room
