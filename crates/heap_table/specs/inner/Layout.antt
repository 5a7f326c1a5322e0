-- Which names have a place.
use Rattle.std.specs.Prelude.{◌<◌}
use Rattle.plain_monitor.specs.Limits.{most_holds}
use Rattle.core_world.specs.declared.word_id.WordId.{WordId}
use Rattle.core_world.specs.declared.word_id.WordId.TheVariants.{Hold}

-- a hold word has one of its thread's places
abbrev pub IsPlaced : WordId → Type 0
IsPlaced (Hold t p) = p < most_holds
IsPlaced _ = Unit {0}
