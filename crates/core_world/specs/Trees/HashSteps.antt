-- The steps that find an object's identity hash or give it one, after OpenJDK 8's synchronizer.cpp (FastHashCode).
use Rattle.std.specs.Prelude.{ℕ, ◌==◌, if◌then◌else◌, Option, Some, None}
use Rattle.mark_word.specs.declared.mark.MarkForm.{MarkForm}
use Rattle.mark_word.specs.declared.mark.MarkForm.TheVariants.{Inflating, Neutral, Locked, Inflated}
use Rattle.mark_word.specs.Mark.{mark_of, read_mark}
use Rattle.plain_monitor.specs.declared.entry.Entry.TheVariants as entry
use Rattle.core_world.specs.declared.act.Act.TheVariants.{CompareExchange}
use Rattle.core_world.specs.declared.word_id.WordId.{WordId}
use Rattle.core_world.specs.declared.word_id.WordId.TheVariants.{Mark, Displaced, Header}
use Rattle.core_world.specs.declared.plan.LogEffect.TheVariants.{LogHash}
use Rattle.core_world.specs.declared.plan.StepPlan.{StepPlan}
use Rattle.core_world.specs.declared.answer.Progress.{Progress}
use Rattle.core_world.specs.declared.answer.Progress.TheVariants.{Done, Pending}
use Rattle.core_world.specs.declared.answer.PendingCause.TheVariants as why
use Rattle.core_world.specs.Words.Forms.{hash_in}
use Rattle.core_world.specs.Threads.ThreadView.{Local}
use Rattle.core_world.specs.RevocationRules.{first_place}
use Rattle.core_world.specs.Words.Shape.{Shape}
use Rattle.core_world.specs.Trees.StepTree.{StepTree, done, unreachable, ◌>>=◌, ask}
use Rattle.core_world.specs.Trees.Plans.{CallContext, logging_plan, load, done_with, pending_for}
use Rattle.core_world.specs.Trees.MonitorSteps.{inflate_steps}

-- the value of a thread's next draw, and its number
pub record NextDraw : Type 0 where
  pub number : ℕ
  pub value : ℕ

-- THE PLANS. A load that logs Hash where the word found is neutral and has a hash.
abbrev pub find_hash_plan : CallContext → WordId → ℕ → StepPlan
find_hash_plan e at o = record (load e at) { note = LogHash o }

-- A header without a hash is exchanged for the same one with the hash drawn, which logs Hash.
abbrev pub draw_plan : CallContext → NextDraw → WordId → ℕ → ℕ → StepPlan
draw_plan e draw at o header =
    logging_plan (entry.Hash o draw.value (Some draw.number)) e at
    (CompareExchange header (mark_of (Neutral draw.value 0)))

-- THE STEPS. The header without a hash is exchanged for the same one with the hash drawn; this step logs Hash.
abbrev pub draw_steps : CallContext → NextDraw → WordId → ℕ → ℕ → StepTree (Progress ℕ)
draw_steps e draw at o header = do
  found ← ask (draw_plan e draw at o header)
  if found == header then done_with draw.value else pending_for (why.Raced header found)

-- o is inflated with m: its header is the monitor's
abbrev pub hash_monitor_steps : CallContext → NextDraw → ℕ → ℕ → StepTree (Progress ℕ)
hash_monitor_steps e draw o m = do
  header ← ask (find_hash_plan e (Header m) o)
  if hash_in header == 0 then draw_steps e draw (Header m) o header else done_with (hash_in header)

-- the mark is neutral and has no hash
abbrev pub hash_neutral_steps : CallContext → NextDraw → ℕ → ℕ → StepTree (Progress ℕ)
hash_neutral_steps e draw o mark = draw_steps e draw (Mark o) o mark

-- o is locked by this thread: a displaced header in the record is never changed to hold a hash
abbrev pub hash_displaced_steps : CallContext → Local → ℕ → StepTree (Option ℕ)
hash_displaced_steps e k o = do
  header ← ask (find_hash_plan e (Displaced k.thread (first_place o k.holds)) o)
  done (if hash_in header == 0 then None else Some (hash_in header))

abbrev pub hash_inflated : CallContext → NextDraw → ℕ → Progress ℕ → StepTree (Progress ℕ)
hash_inflated e draw o (Done m) = hash_monitor_steps e draw o m
hash_inflated e draw o (Pending why) = pending_for why

abbrev pub hash_inflate_steps : Shape → CallContext → Option ℕ → NextDraw → ℕ → StepTree (Progress ℕ)
hash_inflate_steps s e kept draw o = inflate_steps s e kept o >>= hash_inflated e draw o

abbrev pub hash_unless : Option ℕ → Shape → CallContext → Option ℕ → NextDraw → ℕ → StepTree (Progress ℕ)
hash_unless (Some value) s e kept draw o = done_with value
hash_unless None s e kept draw o = hash_inflate_steps s e kept draw o

abbrev pub hash_mark_steps : Option MarkForm → Shape → CallContext → Local → Option ℕ → NextDraw → ℕ → ℕ → StepTree (Progress ℕ)
hash_mark_steps (Some Inflating) s e k kept draw o mark = pending_for why.Inflating
hash_mark_steps (Some (Neutral hash age)) s e k kept draw o mark =
    if hash == 0 then hash_neutral_steps e draw o mark else done_with hash
hash_mark_steps (Some (Locked thread place)) s e k kept draw o mark =
    if thread == k.thread then (hash_displaced_steps e k o >>= λ found. hash_unless found s e kept draw o)
    else hash_inflate_steps s e kept draw o
hash_mark_steps (Some (Inflated monitor)) s e k kept draw o mark = hash_monitor_steps e draw o monitor
hash_mark_steps _ s e k kept draw o mark = unreachable

-- the hash of o, whose mark has no bias pattern
abbrev pub hash_header_steps : Shape → CallContext → Local → Option ℕ → NextDraw → ℕ → StepTree (Progress ℕ)
hash_header_steps s e k kept draw o = do
  mark ← ask (find_hash_plan e (Mark o) o)
  hash_mark_steps (read_mark mark) s e k kept draw o mark
