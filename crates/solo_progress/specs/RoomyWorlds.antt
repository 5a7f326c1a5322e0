-- A heap without biases, whose one thread may make objects: it has the numbers of as many as a thread may make, and none is declared.
use Rattle.std.specs.Prelude.{false, replicate}
use Rattle.plain_monitor.specs.Limits.{most_made}
use Rattle.core_world.specs.declared.word_id.WordId.TheVariants.{Safepoint}
use Rattle.core_world.specs.Opening.{opening}
use Rattle.core_world.specs.Steps.{world_after}
use Rattle.core_world.specs.Trees.Plans.{load}
use Rattle.core_world.specs.Trees.SafepointSteps.{resume_plan}
use Rattle.core_world.specs.World.{World}
use Rattle.core_law.specs.Logic.{Heap}
use Rattle.core_steps.specs.SmallWorlds.{resuming}

abbrev pub roomy : Heap
roomy =
    record {
      shape = record { threads = 1; classes = 1; declared = 0; objects = replicate most_made (0, 0) };
      start = 0;
      biasing = false;
    }

-- the thread has loaded the safepoint word, to resume; and it runs
abbrev pub roomy_looked : World
roomy_looked = world_after (load resuming Safepoint) 0 (opening roomy.shape roomy.start roomy.biasing)

abbrev pub roomy_running : World
roomy_running = world_after (resume_plan resuming 0 0) 0 roomy_looked
