-- A heap of two threads that race: both load the safepoint word, to resume; then thread 1 exchanges it, and then thread 0 misses.
use Rattle.std.specs.Prelude.{[], ◌∷◌, false}
use Rattle.core_world.specs.declared.word_id.WordId.TheVariants.{Safepoint}
use Rattle.core_world.specs.declared.heap_call.HeapCall.TheVariants.{Resume}
use Rattle.core_world.specs.Opening.{opening}
use Rattle.core_world.specs.Steps.{world_after}
use Rattle.core_world.specs.Trees.Operations.{lone_context}
use Rattle.core_world.specs.Trees.Plans.{CallContext, load}
use Rattle.core_world.specs.Trees.SafepointSteps.{resume_plan}
use Rattle.core_world.specs.World.{World}
use Rattle.core_law.specs.Logic.{Heap}

abbrev pub rivals : Heap
rivals = record { shape = record { threads = 2; classes = 1; declared = 1; objects = (0, 0) ∷ [] }; start = 0; biasing = false }

abbrev pub resuming : CallContext
resuming = lone_context Resume

abbrev pub at_first : World
at_first = opening rivals.shape rivals.start rivals.biasing

abbrev pub seen_by_both : World
seen_by_both = world_after (load resuming Safepoint) 1 (world_after (load resuming Safepoint) 0 at_first)

abbrev pub one_runs : World
one_runs = world_after (resume_plan resuming 1 0) 1 seen_by_both

abbrev pub other_missed : World
other_missed = world_after (resume_plan resuming 0 0) 0 one_runs
