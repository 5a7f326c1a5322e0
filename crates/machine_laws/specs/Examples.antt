-- Three small programs, and logs of the first two: of threads that do well without each other, of one that waits for ever, and of some of which each
-- asks at first for something else.
use Rattle.std.specs.Prelude.{ℕ, false, List, [], ◌∷◌, codes}
use Rattle.object_program.specs.Program.{ProgramText}
use Rattle.object_program.specs.declared.program.Code.{Code}
use Rattle.object_program.specs.declared.program.Code.TheVariants as code
use Rattle.object_program.specs.declared.program.ThreadDef.{ThreadDef}
use Rattle.plain_monitor.specs.declared.entry.Entry.{Entry}
use Rattle.plain_monitor.specs.declared.entry.Entry.TheVariants.{Enter, Exit, Put, Wait, Print, Done}
use Rattle.plain_monitor.specs.declared.entry.Logged.{Logged}
use Rattle.plain_monitor.specs.declared.entry.Path.TheVariants.{StackFirst}
use Rattle.plain_monitor.specs.declared.entry.Value.TheVariants.{Nil, Ref}

abbrev pub thread : List ℕ → List Code → ThreadDef
thread name instructions = record { name = name; locals = codes "x" ∷ []; labels = []; code = instructions }

-- threads with an object of a class with a slot
abbrev pub with_object : List ThreadDef → ProgramText
with_object threads = record {
  classes = record { name = codes "C"; slots = 1 } ∷ [];
  objects = record { name = codes "a"; class = 0; first = 0; size = 1; array = false } ∷ [];
  threads = threads;
}

-- the first enters the object, prints it and leaves it, and the second prints what its local is at first
abbrev pub printing : List Code
printing = code.Ref 0 0 ∷ code.Enter 0 ∷ code.Print 0 ∷ code.Exit 0 ∷ code.End ∷ []

abbrev pub printers : ProgramText
printers = with_object (thread (codes "t1") printing ∷ thread (codes "t2") (code.Print 0 ∷ code.End ∷ []) ∷ [])

-- the thread puts the object into the object's own slot and waits, and nobody notifies it
abbrev pub waiter : ProgramText
waiter = with_object (thread (codes "t1") (code.Ref 0 0 ∷ code.Enter 0 ∷ code.Put 0 0 0 ∷ code.Wait 0 ∷ code.Exit 0 ∷ code.End ∷ []) ∷ [])

abbrev pub askers : ProgramText
askers =
    with_object
    (thread (codes "t1") (code.Ref 0 0 ∷ code.Hash 0 0 ∷ code.End ∷ [])
    ∷ thread (codes "t2") (code.New 0 0 ∷ code.End ∷ [])
    ∷ thread (codes "t3") (code.Dump ∷ code.End ∷ []) ∷ [])

-- LOGS
abbrev pub logged : ℕ → Entry → Logged
logged stamp e = record { stamp = stamp; entry = e }

abbrev pub entered : Logged
entered = logged 1 (Enter 0 StackFirst)

-- until both have ended
abbrev pub printed : List (List Logged)
printed =
    (entered ∷ logged 2 (Print (Ref 0)) ∷ logged 3 (Exit 0) ∷ logged 4 Done ∷ [])
    ∷ (logged 1 (Print Nil) ∷ logged 2 Done ∷ []) ∷ []

abbrev pub waited : List (List Logged)
waited = (entered ∷ logged 2 (Put 0 0 (Ref 0)) ∷ logged 3 (Wait 0) ∷ []) ∷ []
