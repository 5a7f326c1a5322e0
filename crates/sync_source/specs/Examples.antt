-- A program with blocks of two threads, of which one ends and one faults in its block, and their logs; and what has no such code: a block that
-- changes its local, and one that ends its thread.
use Rattle.std.specs.Prelude.{ℕ, false, List, [], ◌∷◌, codes, pos}
use Rattle.object_program.specs.Program.{ProgramText}
use Rattle.object_program.specs.declared.program.Code.{Code}
use Rattle.object_program.specs.declared.program.Code.TheVariants as code
use Rattle.plain_monitor.specs.declared.entry.Entry.TheVariants.{Enter, Exit, Print, Trap, Done}
use Rattle.plain_monitor.specs.declared.entry.Fault.TheVariants.{NotInt, NotRef}
use Rattle.plain_monitor.specs.declared.entry.Logged.{Logged}
use Rattle.plain_monitor.specs.declared.entry.Path.TheVariants.{StackFirst}
use Rattle.plain_monitor.specs.declared.entry.Value.TheVariants.{Ref}
use Rattle.sync_source.specs.Source.{Statements, Nothing, Plain, Sync, SyncText, SyncThreadText}

-- a thread with the locals x and y
abbrev pub thread : List ℕ → Statements → SyncThreadText
thread name body = record { name = name; locals = codes "x" ∷ codes "y" ∷ []; body = body }

-- class C, its object a, and these threads
abbrev pub text : List SyncThreadText → SyncText
text threads =
    record {
      classes = record { name = codes "C"; slots = 0 } ∷ [];
      objects = record { name = codes "a"; class = 0; first = 0; size = 1; array = false } ∷ [];
      threads = threads;
    }

-- x refers to the object, and its block is this
abbrev pub in_sync : Statements → Statements
in_sync body = Plain (code.Ref 0 0) (Sync 0 body (Plain code.End Nothing))

-- prints x in its block, or adds what is no number there
abbrev pub printing : Statements
printing = in_sync (Plain (code.Print 0) Nothing)

abbrev pub adding : Statements
adding = in_sync (Plain (code.Add 1 1 1) Nothing)

-- one thread prints, the other adds
abbrev pub guarded : SyncText
guarded = text (thread (codes "t") printing ∷ thread (codes "u") adding ∷ [])

abbrev pub entered : ℕ → Logged
entered stamp = record { stamp = stamp; entry = Enter 0 StackFirst }

abbrev pub exited : ℕ → Logged
exited stamp = record { stamp = stamp; entry = Exit 0 }

abbrev pub printed : ℕ → Logged
printed stamp = record { stamp = stamp; entry = Print (Ref 0) }

abbrev pub done : ℕ → Logged
done stamp = record { stamp = stamp; entry = Done }

abbrev pub not_added : Logged
not_added = record { stamp = 6; entry = Trap NotInt 3 }

-- the first thread prints and ends, and then the other faults, and leaves the monitor
abbrev pub guarded_logs : List (List Logged)
guarded_logs =
    (entered 1 ∷ printed 2 ∷ exited 3 ∷ done 4 ∷ []) ∷ (entered 4 ∷ exited 5 ∷ not_added ∷ []) ∷ []

-- WHAT IS WRONG. Code that prints after the exit, and code that neither enters nor exits
abbrev pub one_printer : SyncText
one_printer = text (thread (codes "t") printing ∷ [])

abbrev pub of_code : List Code → ProgramText
of_code instructions =
    record {
      classes = one_printer.classes;
      objects = one_printer.objects;
      threads = record { name = codes "t"; locals = codes "x" ∷ codes "y" ∷ []; labels = []; code = instructions } ∷ [];
    }

abbrev pub prints_late : ProgramText
prints_late = of_code (code.Ref 0 0 ∷ code.Enter 0 ∷ code.Exit 0 ∷ code.Print 0 ∷ code.End ∷ [])

abbrev pub enters_nothing : ProgramText
enters_nothing = of_code (code.Ref 0 0 ∷ code.Print 0 ∷ code.End ∷ [])

-- a block in which the local of its `sync` becomes a number, and the log of its thread
abbrev pub changes_local : SyncText
changes_local = text (thread (codes "t") (in_sync (Plain (code.Set 0 (pos 1)) Nothing)) ∷ [])

abbrev pub changed_logs : List (List Logged)
changed_logs = (entered 1 ∷ exited 2 ∷ record { stamp = 3; entry = Trap NotRef 4 } ∷ []) ∷ []

-- a block that has an `end`
abbrev pub ends_inside : SyncText
ends_inside = text (thread (codes "t") (in_sync (Plain code.End Nothing)) ∷ [])

-- a thread without an `end`
abbrev pub has_no_end : SyncText
has_no_end = text (thread (codes "t") (Plain (code.Ref 0 0) Nothing) ∷ [])
