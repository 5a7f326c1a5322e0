-- A program of one thread, which enters an object, reads its slot and leaves it; and the frame of the thread before it reads.
use Rattle.std.specs.Prelude.{ℕ, pos, false, List, [], ◌∷◌, codes, replicate, Some}
use Rattle.object_program.specs.Program.{ProgramText}
use Rattle.object_program.specs.declared.program.Code.TheVariants as code
use Rattle.plain_machine.specs.declared.monitor_call.Mode.TheVariants.{Calling}
use Rattle.plain_machine.specs.declared.monitor_call.MonitorCall.{MonitorCall}
use Rattle.plain_machine.specs.declared.monitor_call.MonitorCall.TheVariants as call
use Rattle.plain_monitor.specs.declared.entry.Entry.{Entry}
use Rattle.plain_monitor.specs.declared.entry.Entry.TheVariants as entry
use Rattle.plain_monitor.specs.declared.entry.Value.TheVariants.{Nil, Int, Ref}
use Rattle.thread_frame.specs.Frames.{FrameSeen}

abbrev pub reader : ProgramText
reader =
    record {
      classes = record { name = codes "C"; slots = 1 } ∷ [];
      objects = record { name = codes "a"; class = 0; first = 0; size = 1; array = false } ∷ [];
      threads =
          record {
            name = codes "t";
            locals = codes "x" ∷ codes "y" ∷ [];
            labels = [];
            code = code.Ref 0 0 ∷ code.Enter 0 ∷ code.Get 1 0 0 ∷ code.Exit 0 ∷ code.End ∷ [];
          } ∷ [];
    }

-- it reads slot 0 of object 0 to its local y, and finds this number
abbrev pub reads : MonitorCall
reads = call.Get 1 0 0

abbrev pub has_read : ℕ → Entry
has_read n = entry.Get 0 0 (Int (pos n))

-- it holds the object once
abbrev pub held : List ℕ
held = 1 ∷ []

abbrev pub before_reading : FrameSeen
before_reading =
    record {
      place = 2;
      locals = Ref 0 ∷ replicate 31 Nil;
      fuel = 6;
      dumps = 0;
      made = 0;
      mode = Some (Calling reads);
    }
