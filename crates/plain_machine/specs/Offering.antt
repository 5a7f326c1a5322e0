-- What a thread may do next: its next entry, with what the objects answer, or why there is none.
use Rattle.std.specs.Prelude.{ℕ, Bool, true, false, if◌then◌else◌, List, [], ◌∷◌, length, slice_get, Option, Some, None, option_and_then}
use Rattle.plain_monitor.specs.declared.entry.Path.TheVariants.{StackFirst}
use Rattle.plain_monitor.specs.declared.entry.Entry.{Entry}
use Rattle.plain_monitor.specs.declared.entry.Entry.TheVariants.{Enter, Exit, Get, Put, Wait, Resume, Notify, NotifyAll, Hash, New, Print, Dump}
use Rattle.plain_monitor.specs.Endings.{ending_entry}
use Rattle.plain_monitor.specs.Monitor.{PlainMonitor, is_listed}
use Rattle.plain_monitor.specs.Made.{made_by, made_number}
use Rattle.object_program.specs.Program.{numbering_of}
use Rattle.plain_machine.specs.declared.monitor_call.MonitorCall.{MonitorCall}
use Rattle.plain_machine.specs.declared.monitor_call.MonitorCall.TheVariants as call
use Rattle.plain_machine.specs.declared.monitor_call.NextEntry.{NextEntry}
use Rattle.plain_machine.specs.declared.monitor_call.NextEntry.TheVariants.{Calls, Resumes, Leaves, Ends}
use Rattle.plain_machine.specs.declared.offer.Offer.{Offer}
use Rattle.plain_machine.specs.declared.offer.Offer.TheVariants.{Next, NextHash, Blocked, Waiting, Ended}
use Rattle.plain_machine.specs.Asking.{ask}
use Rattle.plain_machine.specs.Machine.{PlainMachine, monitor_at, object_at, slot_at, other_owner}

-- the entry, unless another thread has the monitor
abbrev pub unless_owned : ℕ → Option ℕ → Entry → Offer
unless_owned o None e = Next e
unless_owned o (Some owner) e = Blocked o owner

-- the oldest of those who wait
abbrev pub oldest : List (ℕ × ℕ) → Option ℕ
oldest [] = None
oldest (w ∷ ws) = Some w.0

-- the hash that the object has, or a wish for one
abbrev pub hash_offer : ℕ → Option ℕ → Offer
hash_offer o None = NextHash o
hash_offer o (Some value) = Next (Hash o value None)

-- the number of the object that thread t makes next
abbrev pub next_made : PlainMachine → ℕ → ℕ
next_made m t = made_number (numbering_of m.program) t (length (made_by m.made t))

abbrev pub call_offer : PlainMachine → ℕ → MonitorCall → Offer
call_offer m t (call.Enter o) = unless_owned o (other_owner (monitor_at m o) t) (Enter o StackFirst)
call_offer m t (call.Exit o) = Next (Exit o)
call_offer m t (call.Wait o) = Next (Wait o)
call_offer m t (call.Notify o) = Next (Notify o (oldest (monitor_at m o).waits))
call_offer m t (call.NotifyAll o) = Next (NotifyAll o (length (monitor_at m o).waits))
call_offer m t (call.Get x o k) = Next (Get o k (slot_at m o k))
call_offer m t (call.Put o k v) = Next (Put o k v)
call_offer m t (call.Hash x o) = hash_offer o (object_at m o).hash
call_offer m t (call.New x c) = Next (New (next_made m t) c)
call_offer m t (call.Print v) = Next (Print v)
call_offer m t (call.Dump n) = Next (Dump n)

-- a thread that waits is offered nothing until it is notified
abbrev pub resume_offer : PlainMonitor → ℕ → ℕ → Option ℕ → Offer
resume_offer m t o owner = if is_listed m.waits t then Waiting o else unless_owned o owner (Resume o)

abbrev pub asked_offer : PlainMachine → ℕ → Option NextEntry → Offer
asked_offer m t None = Ended
asked_offer m t (Some (Calls c)) = call_offer m t c
asked_offer m t (Some (Resumes o)) = resume_offer (monitor_at m o) t o (other_owner (monitor_at m o) t)
asked_offer m t (Some (Leaves o)) = Next (Exit o)
asked_offer m t (Some (Ends e)) = Next (ending_entry e)

-- what thread t is offered
abbrev pub offered : PlainMachine → ℕ → Offer
offered m t = asked_offer m t (option_and_then ask (slice_get m.threads t))

-- the thread has an entry to make
abbrev pub is_next : Offer → Bool
is_next (Next e) = true
is_next (NextHash o) = true
is_next (Blocked o owner) = false
is_next (Waiting o) = false
is_next Ended = false
