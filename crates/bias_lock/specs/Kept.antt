-- What an attempt on a bias leaves of its thread's knowledge.
use Rattle.std.specs.Prelude.{◌≡◌}
use Rattle.core_world.specs.declared.answer.BiasTry.{BiasTry}
use Rattle.core_world.specs.declared.answer.BiasTry.TheVariants.{Took}
use Rattle.core_world.specs.Threads.ThreadView.{Local}

-- the thread's log and its own words are as they were, unless the hold was taken
abbrev pub IsKeptUnlessTook : BiasTry → Local → Local → Type 0
IsKeptUnlessTook (Took path) before after = Unit {0}
IsKeptUnlessTook _ before after = after ≡ before
