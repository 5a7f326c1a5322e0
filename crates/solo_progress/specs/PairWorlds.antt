-- A heap with biases, of two threads and one object, and worlds to which it comes one after the other: thread 0 resumes, enters the
-- object under a bias, and stops; then thread 1 resumes.
use Rattle.std.specs.Prelude.{ℕ, [], ◌∷◌, true}
use Rattle.mark_word.specs.Mark.{mark_of}
use Rattle.mark_word.specs.declared.mark.MarkForm.TheVariants.{Anonymous}
use Rattle.plain_monitor.specs.declared.entry.Path.TheVariants.{BiasTaken}
use Rattle.core_world.specs.declared.word_id.WordId.TheVariants.{Safepoint, Mark, Prototype}
use Rattle.core_world.specs.declared.heap_call.Operation.TheVariants as op
use Rattle.core_world.specs.declared.heap_call.HeapCall.TheVariants as task
use Rattle.core_world.specs.Opening.{opening}
use Rattle.core_world.specs.Trees.Operations.{lone_context}
use Rattle.core_world.specs.Trees.Plans.{CallContext, call_context, load}
use Rattle.core_world.specs.Trees.SafepointSteps.{resume_plan, publish_log_plan, stop_plan}
use Rattle.core_world.specs.Trees.BiasSteps.{rebias_plan}
use Rattle.core_world.specs.Trees.LockSteps.{hold_plan, log_enter_plan}
use Rattle.core_world.specs.Steps.{world_after}
use Rattle.core_world.specs.World.{World}
use Rattle.core_law.specs.Logic.{Heap}

abbrev pub pair : Heap
pair = record { shape = record { threads = 2; classes = 1; declared = 1; objects = (0, 0) ∷ [] }; start = 0; biasing = true }

abbrev pub resuming : CallContext
resuming = lone_context task.Resume

abbrev pub entering : CallContext
entering = call_context (task.Enter 0 0) op.Enter 0

abbrev pub stopping : CallContext
stopping = lone_context task.Stop

abbrev pub anonymous : ℕ
anonymous = mark_of (Anonymous 0 0)

-- thread 0 has loaded the safepoint word, and runs
abbrev pub looked : World
looked = world_after (load resuming Safepoint) 0 (opening pair.shape pair.start pair.biasing)

abbrev pub running : World
running = world_after (resume_plan resuming 0 0) 0 looked

-- it has loaded the anonymous mark and the class's prototype, exchanged the mark for its own bias, stored the hold word, and logged
-- its Enter
abbrev pub marked : World
marked = world_after (load entering (Mark 0)) 0 running

abbrev pub compared : World
compared = world_after (load entering (Prototype 0)) 0 marked

abbrev pub biased : World
biased = world_after (rebias_plan entering 0 0 anonymous 0) 0 compared

abbrev pub held : World
held = world_after (hold_plan entering 0 0 1 0 BiasTaken) 0 biased

abbrev pub entered : World
entered = world_after (log_enter_plan entering 0 BiasTaken) 0 held

-- it has published the length of its log, and stopped
abbrev pub published : World
published = world_after (publish_log_plan stopping 0 1) 0 entered

abbrev pub stopped : World
stopped = world_after (stop_plan stopping 0) 0 published

-- thread 1 has loaded the safepoint word, and runs
abbrev pub seen : World
seen = world_after (load resuming Safepoint) 1 stopped

abbrev pub alone : World
alone = world_after (resume_plan resuming 1 0) 1 seen
