-- The steps that inflate a lock, and that take and leave a monitor, after OpenJDK 8's synchronizer.cpp (inflate) and objectMonitor.cpp
-- (enter, exit).
use Rattle.std.specs.Prelude.{ℕ, ◌+◌, ◌-◌, ◌%◌, ◌==◌, if◌then◌else◌, Option, Some, None}
use Rattle.mark_word.specs.declared.mark.MarkForm.{MarkForm}
use Rattle.mark_word.specs.declared.mark.MarkForm.TheVariants.{Inflating, Neutral, Locked, Inflated}
use Rattle.mark_word.specs.declared.owner.OwnerForm.{OwnerForm}
use Rattle.mark_word.specs.declared.owner.OwnerForm.TheVariants.{Free, ByThread, ByRecord}
use Rattle.mark_word.specs.declared.wait.WaitForm.TheVariants.{Entering}
use Rattle.mark_word.specs.Mark.{mark_of, read_mark}
use Rattle.mark_word.specs.Owner.{owner_of, read_owner}
use Rattle.mark_word.specs.Wait.{wait_of}
use Rattle.plain_monitor.specs.declared.entry.Entry.TheVariants as entry
use Rattle.plain_monitor.specs.declared.entry.Path.{Path}
use Rattle.plain_monitor.specs.declared.entry.Path.TheVariants.{MonitorFirst, MonitorAgain}
use Rattle.core_world.specs.declared.act.Act.TheVariants as act
use Rattle.core_world.specs.declared.word_id.WordId.{WordId}
use Rattle.core_world.specs.declared.word_id.WordId.TheVariants.{Mark, Displaced, Waiting, Owner, Recursions, Header, Object, Claim, Ring}
use Rattle.core_world.specs.declared.plan.LocalEffect.TheVariants as own
use Rattle.core_world.specs.declared.plan.StepPlan.{StepPlan}
use Rattle.core_world.specs.declared.stage.Stage.{Stage}
use Rattle.core_world.specs.declared.stage.Stage.TheVariants.{Settled, MonitorAcquired, Exits, OwnerConverted, RecursionsRaised, RecursionsLowered, Inflates}
use Rattle.core_world.specs.declared.answer.Progress.{Progress}
use Rattle.core_world.specs.declared.answer.PendingCause.TheVariants as why
use Rattle.core_world.specs.Words.Shape.{Shape, ring_places}
use Rattle.core_world.specs.Threads.ThreadView.{Local}
use Rattle.core_world.specs.Trees.StepTree.{StepTree, done, unreachable, ◌>>=◌, ask}
use Rattle.core_world.specs.Trees.Plans.{CallContext, quiet_plan, with_stage, with_own, logging_plan, load_plan}
use Rattle.core_world.specs.Trees.Plans.{load, store, swap, done_with, pending_for, free_place, top_place}
use Rattle.core_world.specs.Trees.LockSteps.{displace_plan, hold_steps, leave_steps, clear_steps}

-- THE PLANS, of thread t's steps. It claims a ring position, and keeps the monitor that stands there.
abbrev pub claim_plan : CallContext → StepPlan
claim_plan e = with_own own.Position (quiet_plan e Claim act.FetchAdd)

abbrev pub fetch_plan : CallContext → Shape → ℕ → StepPlan
fetch_plan e s position = with_own own.Claim (load e (Ring (position % ring_places s)))

-- It stores a word of the monitor that it keeps, wherever it stands.
abbrev pub prepare_plan : CallContext → Stage → WordId → ℕ → StepPlan
prepare_plan e stage at word = with_stage stage (store e at word)

-- The mark of o, which names place p of thread u, is exchanged for 0.
abbrev pub inflate_plan : CallContext → ℕ → ℕ → ℕ → ℕ → StepPlan
inflate_plan e o mark u p = with_stage (Inflates o u p) (swap e (Mark o) mark 0)

-- Its kept monitor m is named by the mark of o: by a store at the end of an inflation, and by an exchange of a neutral mark.
abbrev pub name_plan : CallContext → ℕ → ℕ → StepPlan
name_plan e o m = with_own own.DropClaim (store e (Mark o) (mark_of (Inflated m)))

abbrev pub name_neutral_plan : CallContext → ℕ → ℕ → ℕ → StepPlan
name_neutral_plan e o mark m = with_own own.DropClaim (swap e (Mark o) mark (mark_of (Inflated m)))

-- The owner word of o's monitor m is exchanged from Free, to enter.
abbrev pub grab_plan : CallContext → ℕ → ℕ → ℕ → StepPlan
grab_plan e t o m = with_stage (MonitorAcquired o) (swap e (Owner m) (owner_of Free) (owner_of (ByThread t)))

-- It becomes the owner of o's monitor m, where its own record stood.
abbrev pub take_over_plan : CallContext → ℕ → ℕ → ℕ → StepPlan
take_over_plan e t o m = with_stage (OwnerConverted o) (store e (Owner m) (owner_of (ByThread t)))

-- The recursions of o's monitor m are raised by one from r, lowered by one from r, and 0 where it took over from its record.
abbrev pub raise_count_plan : CallContext → ℕ → ℕ → ℕ → StepPlan
raise_count_plan e o m r = with_stage (RecursionsRaised o) (store e (Recursions m) (r + 1))

abbrev pub lower_count_plan : CallContext → ℕ → ℕ → ℕ → StepPlan
lower_count_plan e o m r = with_stage (RecursionsLowered o) (store e (Recursions m) (r - 1))

abbrev pub reset_count_plan : CallContext → ℕ → StepPlan
reset_count_plan e m = store e (Recursions m) 0

-- Its waiting word says that it enters o, whose monitor another owns.
abbrev pub store_entering_plan : CallContext → ℕ → ℕ → StepPlan
store_entering_plan e t o = store e (Waiting t) (wait_of (Entering o))

-- The owner word of o's monitor m is cleared, which logs Exit; the last hold word, at its place p, is still to be cleared.
abbrev pub free_plan : CallContext → ℕ → ℕ → ℕ → StepPlan
free_plan e o m p = with_stage (Exits o p) (logging_plan (entry.Exit o) e (Owner m) (act.Store (owner_of Free)))

-- THE STEPS. The words of the kept monitor: header, owner, recursions 0 and object.
abbrev pub prepare_steps : CallContext → Stage → ℕ → ℕ → ℕ → ℕ → StepTree (Unit {0})
prepare_steps e stage o m header owner = do
  _ ← ask (prepare_plan e stage (Header m) header)
  _ ← ask (prepare_plan e stage (Owner m) owner)
  _ ← ask (prepare_plan e stage (Recursions m) 0)
  _ ← ask (prepare_plan e stage (Object m) o)
  done tt

-- Locked: the mark is exchanged for 0, and only then the displaced word of the record that it named is loaded. The monitor gets both,
-- and the object's new mark is stored.
abbrev pub inflate_locked : CallContext → ℕ → ℕ → ℕ → ℕ → ℕ → StepTree (Progress ℕ)
inflate_locked e o mark m thread place = do
  found ← ask (inflate_plan e o mark thread place)
  if found == mark then (do
    header ← ask (load_plan e (Inflates o thread place) (Displaced thread place))
    _ ← prepare_steps e (Inflates o thread place) o m header (owner_of (ByRecord thread place))
    _ ← ask (name_plan e o m)
    done_with m) else pending_for (why.Raced mark found)

-- Neutral: the monitor gets the mark as header and no owner, and the mark is exchanged.
abbrev pub inflate_neutral : CallContext → ℕ → ℕ → ℕ → StepTree (Progress ℕ)
inflate_neutral e o mark m = do
  _ ← prepare_steps e Settled o m mark (owner_of Free)
  found ← ask (name_neutral_plan e o mark m)
  if found == mark then done_with m else pending_for (why.Raced mark found)

abbrev pub inflate_with : Option MarkForm → CallContext → ℕ → ℕ → ℕ → StepTree (Progress ℕ)
inflate_with (Some (Locked thread place)) e o mark m = inflate_locked e o mark m thread place
inflate_with (Some (Neutral hash age)) e o mark m = inflate_neutral e o mark m
inflate_with _ e o mark m = unreachable

-- with the monitor that the thread keeps, or else with one that it claims
abbrev pub inflate_by : Option ℕ → Shape → CallContext → ℕ → ℕ → StepTree (Progress ℕ)
inflate_by (Some m) s e o mark = inflate_with (read_mark mark) e o mark m
inflate_by None s e o mark = do
  position ← ask (claim_plan e)
  m ← ask (fetch_plan e s position)
  inflate_with (read_mark mark) e o mark m

abbrev pub inflate_at : Option MarkForm → Shape → CallContext → Option ℕ → ℕ → ℕ → StepTree (Progress ℕ)
inflate_at (Some Inflating) s e kept o mark = pending_for why.Inflating
inflate_at (Some (Inflated monitor)) s e kept o mark = done_with monitor
inflate_at _ s e kept o mark = inflate_by kept s e o mark

-- the number of o's monitor, found or made; o's mark has no bias pattern
abbrev pub inflate_steps : Shape → CallContext → Option ℕ → ℕ → StepTree (Progress ℕ)
inflate_steps s e kept o = do
  mark ← ask (load e (Mark o))
  inflate_at (read_mark mark) s e kept o mark

-- The displaced word 3 says that the hold goes by the monitor.
abbrev pub record_steps : CallContext → Stage → Local → ℕ → Path → StepTree (Progress Path)
record_steps e stage k o by = do
  _ ← ask (displace_plan e stage k.thread (free_place k.holds) 3)
  path ← hold_steps e k o by
  done_with path

-- Owned by another: the waiting word says for what the thread stands.
abbrev pub owned_steps : CallContext → Local → ℕ → ℕ → StepTree (Progress Path)
owned_steps e k o found = do
  _ ← ask (store_entering_plan e k.thread o)
  pending_for (why.Owned found)

-- Owned by this thread: the recursions rise.
abbrev pub monitor_again_steps : CallContext → Local → ℕ → ℕ → StepTree (Progress Path)
monitor_again_steps e k o m = do
  recursions ← ask (load e (Recursions m))
  _ ← ask (raise_count_plan e o m recursions)
  record_steps e (RecursionsRaised o) k o MonitorAgain

-- Owned by a record of this thread: the thread itself becomes the owner.
abbrev pub monitor_own_steps : CallContext → Local → ℕ → ℕ → StepTree (Progress Path)
monitor_own_steps e k o m = do
  _ ← ask (take_over_plan e k.thread o m)
  _ ← ask (raise_count_plan e o m 0)
  record_steps e (RecursionsRaised o) k o MonitorAgain

abbrev pub monitor_enter_at : Option OwnerForm → CallContext → Local → ℕ → ℕ → ℕ → StepTree (Progress Path)
monitor_enter_at (Some Free) e k o m found = record_steps e (MonitorAcquired o) k o MonitorFirst
monitor_enter_at (Some (ByThread thread)) e k o m found =
    if thread == k.thread then monitor_again_steps e k o m else owned_steps e k o found
monitor_enter_at (Some (ByRecord thread place)) e k o m found =
    if thread == k.thread then monitor_own_steps e k o m else owned_steps e k o found
monitor_enter_at None e k o m found = unreachable

-- The owner word is exchanged from Free; what was found says whose the monitor is.
abbrev pub monitor_enter_steps : CallContext → Local → ℕ → ℕ → StepTree (Progress Path)
monitor_enter_steps e k o m = do
  found ← ask (grab_plan e k.thread o m)
  monitor_enter_at (read_owner found) e k o m found

-- the owner is to be this thread itself, and no record of it
abbrev pub own_steps : Option OwnerForm → CallContext → Local → ℕ → ℕ → StepTree (Unit {0})
own_steps (Some (ByRecord thread place)) e k o m = do
  _ ← ask (take_over_plan e k.thread o m)
  _ ← ask (reset_count_plan e m)
  done tt
own_steps (Some (ByThread thread)) e k o m = done tt
own_steps _ e k o m = unreachable

-- The last hold: the owner word is cleared, and this step logs Exit.
abbrev pub release_steps : CallContext → Local → ℕ → ℕ → StepTree (Unit {0})
release_steps e k o m = do
  _ ← ask (free_plan e o m (top_place o k.holds))
  clear_steps e k o

-- the hold that the thread leaves is no recursive record, and o is inflated with m
abbrev pub monitor_exit_steps : CallContext → Local → ℕ → ℕ → StepTree (Unit {0})
monitor_exit_steps e k o m = do
  owner ← ask (load e (Owner m))
  _ ← own_steps (read_owner owner) e k o m
  recursions ← ask (load e (Recursions m))
  if recursions == 0 then release_steps e k o m else (do
    _ ← ask (lower_count_plan e o m recursions)
    leave_steps e k o)
