-- How a thread makes an object: it loads the prototype of the class, stores the object's class word, and then the prototype as its first mark; that
-- step logs its New. Between the two stores the operation is unfinished: so the class word of an object that isn't there yet has its thread.
use Rattle.std.specs.Prelude.{ℕ, ◌+◌, length}
use Rattle.plain_monitor.specs.declared.entry.Entry.TheVariants.{New}
use Rattle.plain_monitor.specs.Made.{made_number}
use Rattle.plain_history.specs.Known.{news}
use Rattle.core_world.specs.declared.act.Act.TheVariants.{Store}
use Rattle.core_world.specs.declared.word_id.WordId.TheVariants.{Prototype, Mark, Class}
use Rattle.core_world.specs.declared.plan.StepPlan.{StepPlan}
use Rattle.core_world.specs.declared.heap_call.Operation.TheVariants as op
use Rattle.core_world.specs.declared.heap_call.HeapCall.TheVariants.{Create}
use Rattle.core_world.specs.Words.Shape.{Shape}
use Rattle.core_world.specs.Threads.ThreadView.{Local}
use Rattle.core_world.specs.Threads.References.{numbering}
use Rattle.core_world.specs.Trees.Plans.{CallContext, call_context, lone_context, load, store, logging_plan}
use Rattle.core_world.specs.Trees.StepTree.{StepTree, done, ◌>>=◌, ask}

-- how many objects the thread has made, and which one it makes next, by its own log
abbrev pub count_made : Local → ℕ
count_made k = length (news k.log)

abbrev pub next_made : Shape → Local → ℕ
next_made s k = made_number (numbering s) k.thread (count_made k)

-- a class word is the class plus 1
abbrev pub class_plan : CallContext → ℕ → ℕ → StepPlan
class_plan e o c = store e (Class o) (c + 1)

-- the first mark
abbrev pub make_plan : CallContext → ℕ → ℕ → ℕ → StepPlan
make_plan e o c mark = logging_plan (New o c) e (Mark o) (Store mark)

-- the call that makes o, from the store of the class word on
abbrev pub creating : ℕ → ℕ → CallContext
creating o c = call_context (Create c) op.Create o

abbrev pub make_steps : ℕ → ℕ → StepTree ℕ
make_steps o c = do
  prototype ← ask (load (lone_context (Create c)) (Prototype c))
  _ ← ask (class_plan (creating o c) o c)
  _ ← ask (make_plan (creating o c) o c prototype)
  done o
