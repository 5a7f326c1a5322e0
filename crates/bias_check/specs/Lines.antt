-- The lines of a journal, and which entries a line tells.
use Rattle.std.specs.Prelude.{◌≡◌, ℕ, ◌+◌, ◌*◌, ◌<◌, ◌^◌, ◌==◌, if◌then◌else◌, List, [], ◌∷◌, length, MatchOption}
use Rattle.std.specs.List.{onto_first}
use Rattle.plain_monitor.specs.Limits.{most_made}
use Rattle.plain_monitor.specs.declared.entry.Entry.{Entry}
use Rattle.plain_monitor.specs.declared.entry.Entry.TheVariants.{Enter, Exit, Get, Put, Wait, Resume, Notify, NotifyAll}
use Rattle.plain_monitor.specs.declared.entry.Entry.TheVariants.{Hash, New, Print, Dump, Trap, Spent, Done}
use Rattle.plain_monitor.specs.declared.entry.Logged.{Logged}
use Rattle.object_program.specs.Program.{ProgramText, declared_total}
use Rattle.plain_machine.specs.Values.{IsValueOf}
use Rattle.lock_journal.specs.RunText.{journal_line}

-- the lines of a text, each with its line feed; bytes after the last line feed are a line without one
abbrev pub lines_of : List ℕ → List (List ℕ)
lines_of [] = []
lines_of (b ∷ bs) = if b == 10 then (b ∷ []) ∷ lines_of bs else onto_first b (lines_of bs)

-- a number of 32 bits
abbrev pub IsWord : ℕ → Type 0
IsWord n = n < 2 ^ 32

-- how many numbers there are for objects: first one for each that is declared, and then, for each thread, as many as it may make
abbrev pub numbers_total : ProgramText → ℕ
numbers_total p = declared_total p + most_made * length p.threads

-- an object can have the number, whether the object is there or not
abbrev pub HasNumber : ProgramText → ℕ → Type 0
HasNumber p o = o < numbers_total p

-- an entry of the program: its objects have numbers of the program, its threads and its values are the program's, and its other numbers have
-- 32 bits
abbrev pub IsEntryIn : ProgramText → Entry → Type 0
IsEntryIn p (Enter o path) = HasNumber p o
IsEntryIn p (Exit o) = HasNumber p o
IsEntryIn p (Wait o) = HasNumber p o
IsEntryIn p (Resume o) = HasNumber p o
IsEntryIn p (Get o k v) = HasNumber p o × IsWord k × IsValueOf (numbers_total p) v
IsEntryIn p (Put o k v) = HasNumber p o × IsWord k × IsValueOf (numbers_total p) v
IsEntryIn p (Notify o woken) = HasNumber p o × MatchOption woken (Unit {0}) (λ t. t < length p.threads)
IsEntryIn p (NotifyAll o n) = HasNumber p o × IsWord n
IsEntryIn p (Hash o v drawn) = HasNumber p o × IsWord v × MatchOption drawn (Unit {0}) IsWord
IsEntryIn p (New o c) = HasNumber p o × c < length p.classes
IsEntryIn p (Print v) = IsValueOf (numbers_total p) v
IsEntryIn p (Dump n) = IsWord n
IsEntryIn p (Trap fault index) = IsWord index
IsEntryIn p Spent = Unit {0}
IsEntryIn p Done = Unit {0}

-- the line tells this entry of this thread: it is the entry's line of the journal. Stamps have 46 bits. One that is 0 can be told, though no line with it
-- is a step of a run
pub record Tells (p : ProgramText) (line : List ℕ) (x : ℕ × Logged) : Type 0 where
  pub thread : x.0 < length p.threads
  pub below : x.1.stamp < 2 ^ 46
  pub entry : IsEntryIn p x.1.entry
  pub text : journal_line p x ≡ line

-- the line tells an entry. It may tell two, where an object is named `nil` or a thread `none`
pub record IsReadable (p : ProgramText) (line : List ℕ) : Type 0 where
  pub told : ℕ × Logged
  pub tells : Tells p line told
