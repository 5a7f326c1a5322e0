-- The steps that give idle monitors back at a reached safepoint, after OpenJDK 8's synchronizer.cpp (deflate_idle_monitors, deflate_monitor).
use Rattle.std.specs.Prelude.{ℕ, ◌+◌, ◌%◌, ◌^◌, ◌==◌, ◌&&◌, not, if◌then◌else◌, Bool, false, length, Option, Some, None}
use Rattle.std.specs.List.{list_all}
use Rattle.mark_word.specs.declared.owner.OwnerForm.TheVariants.{Free}
use Rattle.mark_word.specs.Owner.{owner_of}
use Rattle.core_world.specs.declared.word_id.WordId.{WordId}
use Rattle.core_world.specs.declared.word_id.WordId.TheVariants.{Mark, Waiting, Owner, Recursions, Header, Object, End, Ring}
use Rattle.core_world.specs.declared.plan.LocalEffect.TheVariants as own
use Rattle.core_world.specs.declared.plan.StepPlan.{StepPlan}
use Rattle.core_world.specs.declared.stage.Stage.{Stage}
use Rattle.core_world.specs.Words.Shape.{Shape, monitor_count, ring_places}
use Rattle.core_world.specs.Words.Forms.{monitor_in, waits_on, says_notified, enters_on}
use Rattle.core_world.specs.Trees.StepTree.{StepTree, done, ◌>>=◌, ask, each_from, all_from}
use Rattle.core_world.specs.Trees.Plans.{CallContext, with_stage, with_own, load_plan, store}

-- THE PLANS, of a thread at its reached safepoint that stands at this stage. The mark of o becomes the header of its monitor m.
abbrev pub detach_plan : CallContext → Stage → ℕ → ℕ → ℕ → StepPlan
detach_plan e stage o m header = with_own (own.Detach m) (with_stage stage (store e (Mark o) header))

-- A word of the monitor that it gives back is cleared.
abbrev pub clean_plan : CallContext → Stage → WordId → StepPlan
clean_plan e stage at = with_stage stage (store e at 0)

-- The monitor is stored at the ring's place of the end position, and then the end goes on by one: the monitor stands there.
abbrev pub enqueue_plan : CallContext → Stage → Shape → ℕ → ℕ → StepPlan
enqueue_plan e stage s end m = with_stage stage (store e (Ring (end % ring_places s)) m)

abbrev pub advance_plan : CallContext → Stage → ℕ → StepPlan
advance_plan e stage end = with_own own.Enqueue (with_stage stage (store e End ((end + 1) % 2 ^ 64)))

-- THE STEPS. The thread looks at a word.
abbrev pub look_at : CallContext → Stage → WordId → StepTree ℕ
look_at e stage at = ask (load_plan e stage at)

-- The monitor m of o is idle: its header becomes o's mark, its words are cleared, and it stands in the ring.
abbrev pub give_back_steps : Shape → CallContext → Stage → ℕ → ℕ → StepTree (Unit {0})
give_back_steps s e stage o m = do
  header ← look_at e stage (Header m)
  end ← look_at e stage End
  _ ← ask (detach_plan e stage o m header)
  _ ← ask (clean_plan e stage (Owner m))
  _ ← ask (clean_plan e stage (Recursions m))
  _ ← ask (clean_plan e stage (Header m))
  _ ← ask (clean_plan e stage (Object m))
  _ ← ask (enqueue_plan e stage s end m)
  _ ← ask (advance_plan e stage end)
  done tt

-- by its waiting word no thread waits on o, was notified from it or enters it
abbrev pub is_untouched : ℕ → ℕ → Bool
is_untouched o word = not (waits_on word o) && not (says_notified word o) && not (enters_on word o)

-- o's mark names m, and nobody owns it: it is idle where no waiting word names o
abbrev pub deflate_free : Shape → CallContext → Stage → ℕ → ℕ → StepTree (Unit {0})
deflate_free s e stage o m = do
  words ← each_from 0 s.threads (λ t. look_at e stage (Waiting t))
  if list_all (λ w. is_untouched o w) words then give_back_steps s e stage o m else done tt

-- o's mark names m
abbrev pub deflate_named : Shape → CallContext → Stage → ℕ → ℕ → StepTree (Unit {0})
deflate_named s e stage o m = do
  owner ← look_at e stage (Owner m)
  if owner == owner_of Free then deflate_free s e stage o m else done tt

abbrev pub names_monitor : Option ℕ → ℕ → Bool
names_monitor None m = false
names_monitor (Some n) m = n == m

-- The visit of a monitor. Its object word may be an old one, so that the mark decides.
abbrev pub deflate_monitor : Shape → CallContext → Stage → ℕ → StepTree (Unit {0})
deflate_monitor s e stage m = do
  o ← look_at e stage (Object m)
  mark ← look_at e stage (Mark o)
  if names_monitor (monitor_in mark) m then deflate_named s e stage o m else done tt

-- all monitors by rising number; in a heap without objects none has an object
abbrev pub deflate_steps : Shape → CallContext → Stage → StepTree (Unit {0})
deflate_steps s e stage =
    if length s.objects == 0 then done tt else all_from 0 (monitor_count s) (λ m. deflate_monitor s e stage m)
