-- Every call begins well: a line for each.
use Rattle.core_world.specs.declared.heap_call.HeapCall.{HeapCall}
use Rattle.core_world.specs.declared.heap_call.HeapCall.TheVariants.{Get, Put, Print, Finish, Poll, Stop, Resume, Request}
use Rattle.core_world.specs.declared.heap_call.HeapCall.TheVariants.{Reached, Release, StackEnter, StackExit, Check, Dump}
use Rattle.core_world.specs.declared.heap_call.HeapCall.TheVariants.{Create, Exit, Enter, Wait, Notify, NotifyAll, Hash}
use Rattle.core_law.specs.Logic.{Heap}
use Rattle.core_law.specs.Begins.{BeginsWell}
use Rattle.core_steps.proofs.safepoint.SafeCalls.{stop_begins, resume_begins, poll_begins, request_begins, reached_begins, release_begins}
use Rattle.core_steps.proofs.JournalCalls.{get_begins, put_begins, print_begins, finish_begins}
use Rattle.core_steps.proofs.enter_exit.StackEnters.{stack_enter_begins}
use Rattle.core_steps.proofs.enter_exit.StackExits.{stack_exit_begins}
use Rattle.core_steps.proofs.safepoint.CheckCall.{check_begins}
use Rattle.core_steps.proofs.shot.DumpCall.{dump_begins}
use Rattle.core_steps.proofs.made.CreateCall.{create_begins}
use Rattle.core_steps.proofs.enter_exit.ExitCalls.{exit_begins}
use Rattle.core_steps.proofs.enter_exit.EnterCalls.{enter_begins}
use Rattle.core_steps.proofs.wait.WaitCalls.{wait_begins}
use Rattle.core_steps.proofs.wait.NotifyCalls.{notify_begins, notify_all_begins}
use Rattle.core_steps.proofs.hash.HashCalls.{hash_begins}

pub calls_begin : (heap : Heap) (task : HeapCall) → BeginsWell heap task
calls_begin heap Stop = stop_begins heap
calls_begin heap Resume = resume_begins heap
calls_begin heap Poll = poll_begins heap
calls_begin heap Request = request_begins heap
calls_begin heap Reached = reached_begins heap
calls_begin heap Release = release_begins heap
calls_begin heap (Get o slot) = get_begins heap o slot
calls_begin heap (Put o slot value) = put_begins heap o slot value
calls_begin heap (Print value) = print_begins heap value
calls_begin heap (Finish ending) = finish_begins heap ending
calls_begin heap (StackEnter o mark) = stack_enter_begins heap o mark
calls_begin heap (StackExit o) = stack_exit_begins heap o
calls_begin heap Check = check_begins heap
calls_begin heap Dump = dump_begins heap
calls_begin heap (Create c) = create_begins heap c
calls_begin heap (Exit o) = exit_begins heap o
calls_begin heap (Enter o now) = enter_begins heap o now
calls_begin heap (Wait o now) = wait_begins heap o now
calls_begin heap (Notify o now) = notify_begins heap o now
calls_begin heap (NotifyAll o now) = notify_all_begins heap o now
calls_begin heap (Hash o now) = hash_begins heap o now
