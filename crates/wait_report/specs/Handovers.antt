-- Who took an object's monitor, one after the other, and how often it went from one thread to another.
use Rattle.std.specs.Prelude.{ℕ, ◌+◌, Bool, false, not, ◌&&◌, ◌==◌, if◌then◌else◌, List, [], ◌∷◌, Option, Some, None}
use Rattle.plain_monitor.specs.declared.entry.Entry.{Entry}
use Rattle.plain_monitor.specs.declared.entry.Entry.TheVariants.{Enter, Resume}
use Rattle.plain_monitor.specs.declared.entry.Logged.{Logged}
use Rattle.plain_monitor.specs.Objects.{PlainObject, new_objects, take_entry}
use Rattle.object_program.specs.Program.{ProgramText, shape_of}
use Rattle.plain_machine.specs.Sound.{monitor_in}

-- the entry takes object o, whose count is n after it: a resume, or an enter that makes the count 1
abbrev pub is_taking : ℕ → ℕ → Entry → Bool
is_taking o n (Resume object) = object == o
is_taking o n (Enter object path) = (object == o) && (n == 1)
is_taking o n e = false

-- the thread of the entry, where it takes object o, and then those of the entries after it
abbrev pub takers_on : ℕ → ℕ × Logged → Option (List PlainObject) → (List PlainObject → List ℕ) → List ℕ
takers_on o x None others = []
takers_on o x (Some objects) others =
    if is_taking o (monitor_in objects o).count x.1.entry then x.0 ∷ others objects else others objects

-- the threads that take object o, one for each taking, where these are the objects before the entries
abbrev pub takers_from : List PlainObject → ℕ → List (ℕ × Logged) → List ℕ
takers_from objects o [] = []
takers_from objects o (x ∷ xs) = takers_on o x (take_entry objects x.0 x.1.entry) (λ after. takers_from after o xs)

-- another thread took the object before
abbrev pub is_handover : Option ℕ → ℕ → Bool
is_handover None t = false
is_handover (Some u) t = not (u == t)

-- the takings whose thread isn't that of the taking before, where this thread took the object before the first
abbrev pub handovers_from : Option ℕ → List ℕ → ℕ
handovers_from before [] = 0
handovers_from before (t ∷ ts) = (if is_handover before t then 1 else 0) + handovers_from (Some t) ts

-- the handovers of object o by a program's entries; the first taking is none
abbrev pub handovers : ProgramText → List (ℕ × Logged) → ℕ → ℕ
handovers p xs o = handovers_from None (takers_from (new_objects (shape_of p)) o xs)
