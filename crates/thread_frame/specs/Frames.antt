-- A thread of a program between two of its entries, apart from its holds: its pass knows those.
use Rattle.std.specs.Prelude.{ℕ, pos, ◌+◌, ◌-◌, ◌*◌, ◌<◌, Bool, true, false, List, [], length, map}
use Rattle.std.specs.Prelude.{replicate, take, slice_index_or, slice_set, Option, Some, None}
use Rattle.plain_monitor.specs.Limits.{most_made}
use Rattle.plain_monitor.specs.declared.entry.Ending.TheVariants.{Done}
use Rattle.plain_monitor.specs.declared.entry.Entry.{Entry}
use Rattle.plain_monitor.specs.declared.entry.Entry.TheVariants as entry
use Rattle.plain_monitor.specs.declared.entry.Value.{Value}
use Rattle.plain_monitor.specs.declared.entry.Value.TheVariants.{Nil, Int, Ref}
use Rattle.object_program.specs.Limits.{most_code}
use Rattle.object_program.specs.declared.program.Code.{Code}
use Rattle.object_program.specs.Program.{ProgramText}
use Rattle.plain_machine.specs.declared.monitor_call.MonitorCall.{MonitorCall}
use Rattle.plain_machine.specs.declared.monitor_call.MonitorCall.TheVariants as call
use Rattle.plain_machine.specs.declared.monitor_call.Mode.{Mode}
use Rattle.plain_machine.specs.declared.monitor_call.Mode.TheVariants.{Calling, Waiting, Unwinding, Ended}
use Rattle.plain_machine.specs.declared.monitor_call.NextEntry.{NextEntry}
use Rattle.plain_machine.specs.declared.monitor_call.NextEntry.TheVariants.{Calls, Resumes, Leaves, Ends}
use Rattle.plain_machine.specs.Machine.{code_of}
use Rattle.plain_machine.specs.Running.{run_on}
use Rattle.plain_machine.specs.Thread.{ThreadState}

pub record FrameSeen : Type 0 where
  -- how many instructions stand before the one that it is at
  pub place : ℕ
  -- 32 values, of which the first are the locals that the thread declares
  pub locals : List Value
  -- how many instructions it may still pay for
  pub fuel : ℕ
  -- how many dumps it has made
  pub dumps : ℕ
  -- how many objects it has made
  pub made : ℕ
  -- what it stands before, or how it ended; none in the middle of its local instructions
  pub mode : Option Mode

-- before its first instruction
abbrev pub first_frame : ℕ → FrameSeen
first_frame fuel = record { place = 0; locals = replicate 32 Nil; fuel = fuel; dumps = 0; made = 0; mode = None }

-- how many locals thread t of the program declares
abbrev pub locals_of : ProgramText → ℕ → ℕ
locals_of p t = length (slice_index_or (map (λ d. d.locals) p.threads) t [])

-- in the middle of its local instructions its mode is that of a thread that has not run, which tells nothing
abbrev pub shown_mode : Option Mode → Mode
shown_mode None = Unwinding Done
shown_mode (Some mode) = mode

-- as a thread of the plain machine that has so many locals and these holds
abbrev pub state_in : ℕ → List ℕ → FrameSeen → ThreadState
state_in n holds f =
    record {
      place = f.place;
      locals = take n f.locals;
      fuel = f.fuel;
      holds = holds;
      dumps = f.dumps;
      made = f.made;
      mode = shown_mode f.mode;
    }

abbrev pub led_on : ProgramText → List Code → Option Mode → ThreadState → ThreadState
led_on p c None s = run_on p c s.fuel s
led_on p c (Some mode) s = s

-- the thread of the plain machine before its next entry, where it is thread t of the program and has these holds
abbrev pub next_state : ProgramText → ℕ → List ℕ → FrameSeen → ThreadState
next_state p t holds f = led_on p (code_of p t) f.mode (state_in (locals_of p t) holds f)

-- what the call's answer makes of it
abbrev pub frame_answered : FrameSeen → MonitorCall → Entry → FrameSeen
frame_answered f (call.Get x o k) (entry.Get object slot value) = record f { locals = slice_set f.locals x value }
frame_answered f (call.Hash x o) (entry.Hash object value drawn) =
    record f { locals = slice_set f.locals x (Int (pos value)) }
frame_answered f (call.New x c) (entry.New object class) =
    record f { made = f.made + 1; locals = slice_set f.locals x (Ref object) }
frame_answered f (call.Dump n) e = record f { dumps = n }
frame_answered f c e = f

-- after the call, which is paid for: a thread that waits stands still, each other goes on with its local instructions
abbrev pub frame_after_call : FrameSeen → MonitorCall → Entry → FrameSeen
frame_after_call f (call.Wait o) e = record f { place = f.place + 1; fuel = f.fuel - 1; mode = Some (Waiting o) }
frame_after_call f c e = record (frame_answered f c e) { place = f.place + 1; fuel = f.fuel - 1; mode = None }

-- after an entry that is what it asked
abbrev pub frame_after : FrameSeen → NextEntry → Entry → FrameSeen
frame_after f (Calls c) e = frame_after_call f c e
frame_after f (Resumes o) e = record f { mode = None }
frame_after f (Leaves o) e = f
frame_after f (Ends g) e = record f { mode = Some (Ended g) }

-- where it stands before this call
abbrev pub before_call : FrameSeen → MonitorCall → FrameSeen
before_call f c = record f { mode = Some (Calling c) }

-- HOW FAR IT IS. A wait is an instruction that is paid for when it lets go, and done when it has the monitor again.
abbrev pub is_in_wait : Option Mode → ℕ
is_in_wait (Some (Waiting o)) = 1
is_in_wait mode = 0

-- the fuel that it has not yet spent on instructions that are done
abbrev pub unspent : FrameSeen → ℕ
unspent f = f.fuel + is_in_wait f.mode

-- with its holds, what falls with each instruction and each entry: so a turn ends
abbrev pub mode_rank : Option Mode → ℕ
mode_rank None = 2
mode_rank (Some (Calling c)) = 2
mode_rank (Some (Waiting o)) = 3
mode_rank (Some (Unwinding g)) = 1
mode_rank (Some (Ended g)) = 0

abbrev pub rank_of : FrameSeen → ℕ
rank_of f = 3 * f.fuel + mode_rank f.mode

abbrev pub is_ended_mode : Option Mode → Bool
is_ended_mode (Some (Ended g)) = true
is_ended_mode mode = false

abbrev pub has_ended : FrameSeen → Bool
has_ended f = is_ended_mode f.mode

-- a thread that makes an object has made fewer than it may
abbrev pub MayMakeMore : ℕ → MonitorCall → Type 0
MayMakeMore made (call.New x c) = made < most_made
MayMakeMore made c = Unit {0}

-- a thread that stands before a call is at an instruction, of which a thread has at most 4,096
abbrev pub IsAtInstruction : ℕ → ℕ → Option Mode → Type 0
IsAtInstruction place made (Some (Calling c)) = (place < most_code) × MayMakeMore made c
IsAtInstruction place made mode = Unit {0}

-- a thread that is to go on after a call is at an instruction that makes such a call, whether it stands before it or not
abbrev pub MayFollow : FrameSeen → NextEntry → Type 0
MayFollow f (Calls c) = IsAtInstruction f.place f.made (Some (Calling c))
MayFollow f a = Unit {0}
