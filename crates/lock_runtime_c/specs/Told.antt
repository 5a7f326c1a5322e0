-- What the outcome says of the call that was made, or that none was.
use Rattle.std.specs.Prelude.{◌≡◌, true, if◌then◌else◌, List, Option, Some, None, Ok, option_map}
use Rattle.plain_monitor.specs.declared.entry.Value.{Value}
use Rattle.core_world.specs.Due.{Ran}
use Rattle.core_world.specs.Threads.References.{is_value}
use Rattle.core_world.specs.Threads.ThreadView.{StepMade}
use Rattle.core_world.specs.Trees.StepTree.{StepTree}
use Rattle.core_world.specs.Trees.Calls.{side_context}
use Rattle.core_world.specs.Trees.Operations as steps
use Rattle.core_world.specs.Trees.SafepointSteps.{poll_steps, stop_steps, resume_steps}
use Rattle.core_world.specs.declared.heap_call.HeapCall.{HeapCall}
use Rattle.core_world.specs.declared.heap_call.HeapCall.TheVariants.{Enter, Exit, Wait, Notify, NotifyAll, Hash, Get, Put}
use Rattle.core_world.specs.declared.heap_call.HeapCall.TheVariants.{Print, Dump, Finish, Poll, Stop, Resume, Check}
use Rattle.core_calls.specs.Paths.{Tells}
use Rattle.core_calls.specs.CallsSay as says
use Rattle.core_calls.specs.Stuck.{CheckFinds}
use Rattle.core_calls.specs.Woken.{IfDone}
use Rattle.lock_runtime.specs.Locking.{OwnerWakes, OwnerWakesAll}
use Rattle.lock_runtime.specs.Others.{PendsForAnother, PendsOrRefused}
use Rattle.lock_runtime.specs.Refusals.{IsRefusedUnheld}
use Rattle.lock_runtime.specs.Shots.{HasShots}
use Rattle.lock_runtime.specs.Standing.{HasStopped, IsRunning, RunsOrSame, StandsAfterTurn, StandsAfterCheckTurn, StandsAfterResumeTurn, StandsOrSame}
use Rattle.heap_table.specs.Resting.{start_now}
use Rattle.heap_table.specs.Seen.{HeapSeen, PassSeen}
use Rattle.lock_runtime_c.specs.declared.outcome.Outcome.{Outcome}
use Rattle.lock_runtime_c.specs.declared.outcome.Outcome.TheVariants.{Misused, Full}
use Rattle.lock_runtime_c.specs.declared.outcome.Refusal.TheVariants as refusal
use Rattle.lock_runtime_c.specs.declared.outcome.Said.TheVariants as said
use Rattle.lock_runtime_c.specs.LogRoom.{is_full}
use Rattle.lock_runtime_c.specs.Reasons.{first_reason, or_else}
use Rattle.lock_runtime_c.specs.Outcomes.{nothing, of_progress, of_result, read, stored}

-- Why nothing could begin: a misuse, or the log has no room for the call.
abbrev pub barred : HeapSeen → PassSeen → HeapCall → Option Outcome
barred h p t = or_else (option_map Misused (first_reason h.heap.shape p.known t)) (if is_full p t then Some Full else None)

-- The steps of the call were made, with a result of which this outcome tells. This is said of the steps and the result, and this of how it leaves the thread.
abbrev pub HasResult : {R : Type 0} → HeapSeen → StepTree R → (List StepMade → R → Type 0) → (R → Type 0) → (R → Outcome) → PassSeen → PassSeen
    → Outcome → Type 0
HasResult h d says leaves told p q out =
    (r : _) × (out ≡ told r)
    × Ran h.heap.shape h.heap.start d p.known q.known r
    × Tells p.known q.known (λ ms. says ms r)
    × leaves r

-- so of the call of each task
abbrev pub IsMade : HeapSeen → HeapCall → PassSeen → PassSeen → Outcome → Type 0
IsMade h (Enter o now) p q out =
    HasResult h (steps.enter_steps h.heap.shape (start_now h p) o now) (says.EnterSays (start_now h p) o)
    (λ r. StandsOrSame p.known q.known r × PendsOrRefused p.known.thread r)
    (of_result (of_progress said.Entered) refusal.TooDeep) p q out
IsMade h (Exit o) p q out =
    HasResult h (steps.exit_steps (start_now h p) o) (says.ExitSays (start_now h p) o)
    (λ r. StandsOrSame p.known q.known r × IsRefusedUnheld p.known.log o r)
    (of_result (of_progress nothing) refusal.NotOwner) p q out
IsMade h (Wait o now) p q out =
    HasResult h (steps.wait_steps h.heap.shape (start_now h p) o now) (says.WaitSays (start_now h p) o)
    (λ r. StandsOrSame p.known q.known r × PendsOrRefused p.known.thread r × IsRefusedUnheld p.known.log o r)
    (of_result (of_progress nothing) refusal.NotOwner) p q out
IsMade h (Notify o now) p q out =
    HasResult h (steps.notify_steps h.heap.shape (start_now h p) o now) (says.NotifySays (start_now h p) o)
    (λ r. Tells p.known q.known (λ ms. IfDone (OwnerWakes p.known.thread h.heap.shape o) ms r)
    × StandsOrSame p.known q.known r × PendsOrRefused p.known.thread r × IsRefusedUnheld p.known.log o r)
    (of_result (of_progress said.Woke) refusal.NotOwner) p q out
IsMade h (NotifyAll o now) p q out =
    HasResult h (steps.notify_all_steps h.heap.shape (start_now h p) o now) (says.NotifyAllSays (start_now h p) o)
    (λ r. Tells p.known q.known (λ ms. IfDone (OwnerWakesAll p.known.thread h.heap.shape o) ms r)
    × StandsOrSame p.known q.known r × PendsOrRefused p.known.thread r × IsRefusedUnheld p.known.log o r)
    (of_result (of_progress said.WokeAll) refusal.NotOwner) p q out
IsMade h (Hash o now) p q out =
    HasResult h (steps.hash_steps h.heap.shape (start_now h p) o now) (says.HashSays (start_now h p) o)
    (λ r. StandsAfterTurn q.known r × PendsForAnother p.known.thread r)
    (of_progress said.Hash) p q out
IsMade h (Get o slot) p q out =
    HasResult h (steps.get_steps (start_now h p) o slot) (says.GetSays (start_now h p) o slot)
    (λ r. RunsOrSame p.known q.known r × IsRefusedUnheld p.known.log o r × ((v : Value) → r ≡ Ok v → is_value h.heap.shape v ≡ true))
    (of_result read refusal.Unguarded) p q out
IsMade h (Put o slot value) p q out =
    HasResult h (steps.put_steps (start_now h p) o slot value) (says.PutSays (start_now h p) o slot value)
    (λ r. RunsOrSame p.known q.known r × IsRefusedUnheld p.known.log o r)
    (of_result stored refusal.Unguarded) p q out
IsMade h (Print value) p q out =
    HasResult h (steps.print_steps (start_now h p) value) (says.PrintSays value)
    (λ r. IsRunning q.known)
    stored p q out
IsMade h Dump p q out =
    HasResult h (steps.dump_steps h.heap.shape (start_now h p)) (says.DumpSays (start_now h p))
    (λ r. HasShots p.known.shots q.known.shots r × StandsOrSame p.known q.known r × PendsOrRefused p.known.thread r)
    (of_result (of_progress said.Dump) refusal.TooManyDumps) p q out
IsMade h (Finish ending) p q out =
    HasResult h (steps.finish_steps (start_now h p) ending) (says.FinishSays ending)
    (λ r. IsRunning q.known)
    stored p q out
IsMade h Poll p q out =
    HasResult h (poll_steps (side_context Poll (start_now h p))) (says.PollSays (start_now h p))
    (λ r. IsRunning q.known × PendsForAnother p.known.thread r)
    (of_progress nothing) p q out
IsMade h Stop p q out =
    HasResult h (stop_steps (side_context Stop (start_now h p)) (start_now h p).local) (says.StopSays (start_now h p))
    (λ r. HasStopped q.known)
    stored p q out
IsMade h Resume p q out =
    HasResult h (resume_steps (side_context Resume (start_now h p)) (start_now h p).local) (says.ResumeSays (start_now h p))
    (λ r. StandsAfterResumeTurn q.known r × PendsForAnother p.known.thread r)
    (of_progress nothing) p q out
IsMade h Check p q out =
    HasResult h (steps.check_steps h.heap.shape (start_now h p)) (says.CheckSays (start_now h p))
    (λ r. Tells p.known q.known (λ ms. CheckFinds h.heap.shape ms r) × StandsAfterCheckTurn q.known r × PendsForAnother p.known.thread r)
    (of_progress said.Stuck) p q out
IsMade h t p q out = ⊥

-- the call was made, and no page was handed out; or it could not begin, and the pass is as it was
abbrev pub ToldBy : Option Outcome → HeapSeen → HeapCall → PassSeen → PassSeen → Outcome → Type 0
ToldBy (Some why) h t p q out = (out ≡ why) × (q ≡ p)
ToldBy None h t p q out = (q.limit ≡ p.limit) × IsMade h t p q out

abbrev pub Told : HeapSeen → HeapCall → PassSeen → PassSeen → Outcome → Type 0
Told h t p q out = ToldBy (barred h p t) h t p q out
