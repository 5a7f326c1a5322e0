-- The steps of each call, and when a call may begin.
use Rattle.std.specs.Prelude.{ℕ, ◌+◌, ◌*◌, ◌==◌, ◌&&◌, ◌||◌, nat_lt, nat_le, not, is_none, if◌then◌else◌, Bool, false, length}
use Rattle.std.specs.List.{list_all}
use Rattle.plain_monitor.specs.Limits.{most_holds, most_made}
use Rattle.core_world.specs.declared.heap_call.Operation.TheVariants as op
use Rattle.core_world.specs.declared.heap_call.HeapCall.{HeapCall}
use Rattle.core_world.specs.declared.heap_call.HeapCall.TheVariants.{Enter, Exit, Wait, Notify, NotifyAll, Hash, Get, Put}
use Rattle.core_world.specs.declared.heap_call.HeapCall.TheVariants.{Print, Dump, Create, Finish, Poll, Stop, Resume, Check}
use Rattle.core_world.specs.declared.heap_call.HeapCall.TheVariants.{StackEnter, StackExit, Request, Reached, Release}
use Rattle.core_world.specs.Words.Shape.{Shape, slots_of}
use Rattle.mark_word.specs.Mark.{mark_of}
use Rattle.mark_word.specs.declared.mark.MarkForm.TheVariants.{Locked}
use Rattle.core_world.specs.Words.Forms.{is_neutral, waits_on}
use Rattle.core_world.specs.Locks.{hold_count}
use Rattle.core_world.specs.RevocationRules.{first_place}
use Rattle.core_world.specs.Clauses.Safepoints.{ends}
use Rattle.core_world.specs.Clauses.Lengths.{log_limit}
use Rattle.core_world.specs.Threads.ThreadView.{ThreadView, Start}
pub use Rattle.core_world.specs.Threads.References.{is_object, is_value}
use Rattle.core_world.specs.Threads.References.{has_reference, has_value}
use Rattle.core_world.specs.Trees.StepTree.{StepTree, done, ◌>>=◌}
use Rattle.core_world.specs.Trees.Plans.{CallContext, call_context, lone_context, free_place}
use Rattle.core_world.specs.Trees.LockSteps.{stack_enter_steps, stack_exit_steps}
use Rattle.core_world.specs.Trees.SafepointSteps.{stop_steps, resume_steps, poll_steps, request_steps, reached_steps, release_safepoint}
use Rattle.core_world.specs.Trees.Operations.{goes_on_with, enter_steps, exit_steps, wait_steps, notify_steps, notify_all_steps, hash_steps}
use Rattle.core_world.specs.Trees.Operations.{get_steps, put_steps, print_steps, finish_steps, dump_steps, create_steps, check_steps}

-- whatever the answer is
abbrev pub end : {A : Type 0} → A → StepTree (Unit {0})
end a = done tt

-- a call that leaves as they are the unfinished operation and the check
abbrev pub side_context : HeapCall → Start → CallContext
side_context task k = record { task = task; unfinished = k.unfinished; check = k.checking }

-- all that is to do in a call that begins when its thread knows this
unfoldable pub steps_of : Shape → HeapCall → Start → StepTree (Unit {0})
steps_of s (Enter o now) k = enter_steps s k o now >>= end
steps_of s (Exit o) k = exit_steps k o >>= end
steps_of s (Wait o now) k = wait_steps s k o now >>= end
steps_of s (Notify o now) k = notify_steps s k o now >>= end
steps_of s (NotifyAll o now) k = notify_all_steps s k o now >>= end
steps_of s (Hash o now) k = hash_steps s k o now >>= end
steps_of s (Get o slot) k = get_steps k o slot >>= end
steps_of s (Put o slot value) k = put_steps k o slot value >>= end
steps_of s (Print value) k = print_steps k value
steps_of s Dump k = dump_steps s k >>= end
steps_of s (Create c) k = create_steps s k c >>= end
steps_of s (Finish ending) k = finish_steps k ending
steps_of s Poll k = poll_steps (side_context Poll k) >>= end
steps_of s Stop k = stop_steps (side_context Stop k) k.local
steps_of s Resume k = resume_steps (side_context Resume k) k.local >>= end
steps_of s Check k = check_steps s k >>= end
steps_of s (StackEnter o mark) k = stack_enter_steps (lone_context (StackEnter o mark)) k.local o mark >>= end
steps_of s (StackExit o) k = stack_exit_steps (call_context (StackExit o) op.Exit o) k.local o >>= end
steps_of s Request k = request_steps (lone_context Request) k.local.thread >>= end
steps_of s Reached k = reached_steps (lone_context Reached) >>= end
steps_of s Release k = release_safepoint (lone_context Release) k.local.thread

-- nothing is unfinished but this operation on o, which then goes on
abbrev pub is_free_for : ThreadView → Bool → Bool
is_free_for k going_on = is_none k.unfinished || going_on

-- an operation may begin: its thread runs, or has a standing request that this same operation made; no check is unfinished; the log has
-- no ending entry, and room for one entry
abbrev pub may_operate : ThreadView → Bool → Bool
may_operate k going_on =
    not k.checking && (k.running || (k.requesting && going_on)) && is_free_for k going_on && not (ends k.log)
    && nat_lt (length k.log) log_limit

-- How many entries an operation logs at most. A wait that begins may log that its thread waits, and that it has the object again; one that
-- has let go logs the latter alone. So a wait that begins with room for what it logs can end.
abbrev pub most_logged : ThreadView → HeapCall → ℕ
most_logged k (Wait o now) = if waits_on k.wait o then 1 else 2
most_logged k t = 1

-- a call that makes one entry at once may begin: nothing is unfinished
abbrev pub may_act : ThreadView → Bool
may_act k = may_operate k false

-- a part that logs one entry may begin by itself: its thread runs, and the log has no ending entry, and room for that one
abbrev pub may_log_once : ThreadView → Bool → Bool
may_log_once k going_on =
    not k.checking && k.running && is_free_for k going_on && not (ends k.log)
    && nat_lt (length k.log) log_limit

-- the heap has the numbers of all objects that its threads may make
abbrev pub has_made_numbers : Shape → Bool
has_made_numbers s = nat_le (s.declared + most_made * s.threads) (length s.objects)

-- the mark names the thread's record of o with depth 1, and the thread has one
abbrev pub is_own_first : ThreadView → ℕ → ℕ → Bool
is_own_first k o mark = nat_lt 0 (hold_count o k.holds) && (mark == mark_of (Locked k.thread (first_place o k.holds)))

-- The call may begin, by its own conditions. The two parts of an operation that may be called by themselves on a lock can't know that its mark has no
-- bias pattern, so they are calls of heaps without biases.
abbrev pub may_begin : Shape → Bool → ThreadView → HeapCall → Bool
may_begin s biasing k (Enter o now) = has_reference s k o && may_operate k (goes_on_with op.Enter o k.unfinished)
may_begin s biasing k (Exit o) = has_reference s k o && may_operate k (goes_on_with op.Exit o k.unfinished)
may_begin s biasing k (Wait o now) =
    has_reference s k o && may_operate k (goes_on_with op.Wait o k.unfinished)
    && nat_le (length k.log + most_logged k (Wait o now)) log_limit
may_begin s biasing k (Notify o now) = has_reference s k o && may_operate k (goes_on_with op.Notify o k.unfinished)
may_begin s biasing k (NotifyAll o now) = has_reference s k o && may_operate k (goes_on_with op.NotifyAll o k.unfinished)
may_begin s biasing k (Hash o now) = has_reference s k o && may_operate k (goes_on_with op.Hash o k.unfinished)
may_begin s biasing k (Get o slot) = has_reference s k o && nat_lt slot (slots_of s o) && may_act k
may_begin s biasing k (Put o slot value) = has_reference s k o && nat_lt slot (slots_of s o) && has_value s k value && may_act k
may_begin s biasing k (Print value) = has_value s k value && may_act k
may_begin s biasing k Dump = may_operate k (goes_on_with op.Dump 0 k.unfinished)
may_begin s biasing k (Create c) = nat_lt c s.classes && has_made_numbers s && may_act k
may_begin s biasing k (Finish ending) = list_all (λ h. h == 0) k.holds && may_act k
may_begin s biasing k Poll = k.running
may_begin s biasing k Stop = k.running
may_begin s biasing k Resume = not k.running && not k.requesting
may_begin s biasing k Check = not (ends k.log) && (if k.requesting then k.checking else k.running)
may_begin s biasing k (StackEnter o mark) =
    not biasing && has_reference s k o && may_log_once k false && nat_lt (free_place k.holds) most_holds
    && (is_neutral mark || is_own_first k o mark)
may_begin s biasing k (StackExit o) =
    not biasing && has_reference s k o && nat_lt 0 (hold_count o k.holds)
    && may_log_once k (goes_on_with op.Exit o k.unfinished)
may_begin s biasing k Request = k.running && is_none k.unfinished && not k.checking
may_begin s biasing k Reached = k.requesting && is_none k.unfinished && not k.checking
may_begin s biasing k Release = k.reached && is_none k.unfinished && not k.checking
