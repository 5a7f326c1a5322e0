-- When the turns of runners are over.
use Rattle.std.specs.Prelude.{◌≡◌, ℕ, Bool, true, false, List, length, slice_get, Some}
use Rattle.std.specs.List.{list_all}
use Rattle.heap_table.specs.Seen.{HeapSeen}
use Rattle.object_program.specs.Program.{ProgramText}
use Rattle.thread_frame.specs.Frames.{has_ended}
use Rattle.thread_interp.specs.Runners.{RunnerSeen}
use Rattle.run_rounds.specs.Rounds.{AreRunners, AreTimed}

-- all their threads have ended
abbrev pub have_ended : List RunnerSeen → Bool
have_ended rs = list_all (λ (r : RunnerSeen). has_ended r.frame) rs

-- one of them knows the halt
abbrev pub KnowsHalt : List RunnerSeen → Type 0
KnowsHalt rs = (t : ℕ) × (r : RunnerSeen) × (slice_get rs t ≡ Some r) × (r.pass.known.halted ≡ true)

-- the turns are over: the run was halted, or all threads have ended
abbrev pub AreOver : List RunnerSeen → Bool → Type 0
AreOver rs true = KnowsHalt rs
AreOver rs false = have_ended rs ≡ true

-- so many runners when their turns are over
pub record AreDone (h : HeapSeen) (p : ProgramText) (fuel tick count : ℕ) (rs : List RunnerSeen) : Type 0 where
  pub runners : AreRunners h p fuel rs
  pub timed : AreTimed tick rs
  pub many : length rs ≡ count
  pub over : (halted : Bool) × AreOver rs halted
