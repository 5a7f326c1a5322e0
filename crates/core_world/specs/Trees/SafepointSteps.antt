-- The steps on the safepoint word: stop, resume, poll, and a safepoint that a thread requests.
use Rattle.std.specs.Prelude.{ℕ, ◌+◌, ◌-◌, ◌^◌, ◌==◌, if◌then◌else◌, is_some, Bool, true, false, length, Option, Some, None}
use Rattle.mark_word.specs.declared.safe.SafeForm.{SafeForm}
use Rattle.mark_word.specs.Safe.{safe_of, read_safe}
use Rattle.core_world.specs.declared.act.Act.TheVariants.{FetchAnd}
use Rattle.core_world.specs.declared.word_id.WordId.TheVariants.{Safepoint, Length}
use Rattle.core_world.specs.declared.answer.Progress.{Progress}
use Rattle.core_world.specs.declared.answer.Progress.TheVariants.{Done, Pending}
use Rattle.core_world.specs.declared.answer.PendingCause.{PendingCause}
use Rattle.core_world.specs.declared.answer.PendingCause.TheVariants as why
use Rattle.core_world.specs.declared.plan.StepPlan.{StepPlan}
use Rattle.core_world.specs.declared.stage.Stage.{Stage}
use Rattle.core_world.specs.declared.stage.Stage.TheVariants.{Settled}
use Rattle.core_world.specs.Words.Forms.{requester_in, is_halted, is_still}
use Rattle.core_world.specs.Threads.ThreadView.{Local}
use Rattle.core_world.specs.Trees.StepTree.{StepTree, done, unreachable, ◌>>=◌, ask}
use Rattle.core_world.specs.Trees.Plans.{CallContext, quiet_plan, with_stage, load, store, swap, done_with, pending_for}

abbrev pub has_requester : ℕ → Bool
has_requester word = is_some (requester_in word)

-- the word with thread t running too
abbrev pub running_too : Option SafeForm → ℕ → ℕ
running_too None t = 0
running_too (Some f) t = safe_of (record f { running = f.running + 2 ^ t })

-- the word with t's request, and t not running
abbrev pub requested_by : Option SafeForm → ℕ → ℕ
requested_by None t = 0
requested_by (Some f) t = safe_of (record f { running = f.running - 2 ^ t; requester = Some t })

-- the word at t's reached safepoint, after its release, and after a halt
abbrev pub reached_word : ℕ → ℕ
reached_word t = safe_of (record { running = 0; requester = Some t; halted = false })

abbrev pub released_word : ℕ → ℕ
released_word t = safe_of (record { running = 2 ^ t; requester = None; halted = false })

abbrev pub halted_word : ℕ
halted_word = safe_of (record { running = 0; requester = None; halted = true })

-- all bits but that of t
abbrev pub all_but : ℕ → ℕ
all_but t = 2 ^ 64 - 1 - 2 ^ t

-- THE PLANS, of thread t's steps. The length of its log is published, which logs nothing.
abbrev pub publish_log_plan : CallContext → ℕ → ℕ → StepPlan
publish_log_plan e t n = store e (Length t) n

-- Its bit is cleared; set, in a word without a requester; and exchanged for its request.
abbrev pub stop_plan : CallContext → ℕ → StepPlan
stop_plan e t = quiet_plan e Safepoint (FetchAnd (all_but t))

abbrev pub resume_plan : CallContext → ℕ → ℕ → StepPlan
resume_plan e t word = swap e Safepoint word (running_too (read_safe word) t)

abbrev pub request_plan : CallContext → ℕ → ℕ → StepPlan
request_plan e t word = swap e Safepoint word (requested_by (read_safe word) t)

-- Its reached safepoint ends, by a release after which it stands at this stage, or by the halt.
abbrev pub release_plan : CallContext → Stage → ℕ → StepPlan
release_plan e stage t = with_stage stage (swap e Safepoint (reached_word t) (released_word t))

abbrev pub halt_plan : CallContext → ℕ → StepPlan
halt_plan e t = swap e Safepoint (reached_word t) halted_word

-- THE STEPS. The log length is published, and then the thread's bit is cleared.
abbrev pub stop_steps : CallContext → Local → StepTree (Unit {0})
stop_steps e k = do
  _ ← ask (publish_log_plan e k.thread (length k.log))
  _ ← ask (stop_plan e k.thread)
  done tt

-- what stands in the way of a resume, or of a request
abbrev pub bar : ℕ → Option PendingCause
bar word = if is_halted word then Some why.Halted else if has_requester word then Some (why.Requested word) else None

abbrev pub unless : {A : Type 0} → Option PendingCause → StepTree (Progress A) → StepTree (Progress A)
unless (Some why) d = pending_for why
unless None d = d

abbrev pub resume_swap_steps : CallContext → Local → ℕ → StepTree (Progress (Unit {0}))
resume_swap_steps e k word = do
  found ← ask (resume_plan e k.thread word)
  if found == word then done_with tt else unless (bar found) (pending_for (why.Raced word found))

abbrev pub resume_steps : CallContext → Local → StepTree (Progress (Unit {0}))
resume_steps e k = do
  word ← ask (load e Safepoint)
  unless (bar word) (resume_swap_steps e k word)

abbrev pub poll_steps : CallContext → StepTree (Progress (Unit {0}))
poll_steps e = do
  word ← ask (load e Safepoint)
  if has_requester word then pending_for (why.Requested word) else done_with tt

-- The request is one exchange, which needs no other requester. Nothing is halted, since this thread runs.
abbrev pub request_swap_steps : CallContext → ℕ → ℕ → StepTree (Progress (Unit {0}))
request_swap_steps e t word = do
  found ← ask (request_plan e t word)
  if found == word then done_with tt else if has_requester found then pending_for (why.Requested found)
      else pending_for (why.Raced word found)

-- a check is unfinished from the request on
abbrev pub request_steps : CallContext → ℕ → StepTree (Progress (Unit {0}))
request_steps e t = do
  word ← ask (load (record e { check = false }) Safepoint)
  if has_requester word then pending_for (why.Requested word) else request_swap_steps e t word

-- whether the safepoint is reached: no thread runs
abbrev pub reached_steps : CallContext → StepTree (Progress (Unit {0}))
reached_steps e = do
  word ← ask (load e Safepoint)
  if is_still word then done_with tt else pending_for (why.Stopping word)

abbrev pub then_reached : CallContext → Progress (Unit {0}) → StepTree (Progress (Unit {0}))
then_reached e (Done x) = reached_steps e
then_reached e (Pending why) = pending_for why

-- A safepoint of thread t. A call whose request stands goes on where the last one stopped.
abbrev pub safepoint_steps : CallContext → ℕ → Bool → StepTree (Progress (Unit {0}))
safepoint_steps e t requesting = if requesting then reached_steps e else request_steps e t >>= then_reached e

-- The release can't miss, because nobody else may change the word. With it a check ends.
abbrev pub release_to : Stage → CallContext → ℕ → StepTree (Unit {0})
release_to stage e t = do
  found ← ask (release_plan (record e { check = false }) stage t)
  if found == reached_word t then done tt else unreachable

abbrev pub release_safepoint : CallContext → ℕ → StepTree (Unit {0})
release_safepoint e t = release_to Settled e t

-- The halt takes the request away, and leaves the thread stopped. It can't miss either.
abbrev pub halt_steps : CallContext → ℕ → StepTree (Unit {0})
halt_steps e t = do
  found ← ask (halt_plan (record e { check = false }) t)
  if found == reached_word t then done tt else unreachable
