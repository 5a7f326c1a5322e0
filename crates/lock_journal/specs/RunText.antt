-- The text of a run: what it prints and dumps in stamped order, how each thread ended, and where asked the statistics of the
-- classes and the journal of all entries.
use Rattle.std.specs.Prelude.{ℕ, ◌+◌, ◌-◌, Bool, false, ◌&&◌, ◌==◌, if◌then◌else◌, List, [], ◌∷◌, ◌++◌}
use Rattle.std.specs.Prelude.{codes, decimal, map, slice_get, slice_index_or, Option, Some, None}
use Rattle.std.specs.List.{flat_map}
use Rattle.plain_monitor.specs.declared.entry.Path.{Path}
use Rattle.plain_monitor.specs.declared.entry.Path.TheVariants.{BiasOwn, BiasTaken, StackFirst, StackAgain, MonitorFirst, MonitorAgain}
use Rattle.plain_monitor.specs.declared.entry.Ending.{Ending}
use Rattle.plain_monitor.specs.declared.entry.Ending.TheVariants as ending
use Rattle.plain_monitor.specs.declared.entry.Entry.{Entry}
use Rattle.plain_monitor.specs.declared.entry.Entry.TheVariants.{Enter, Exit, Get, Put, Wait, Resume, Notify, NotifyAll}
use Rattle.plain_monitor.specs.declared.entry.Entry.TheVariants.{Hash, New, Print, Dump, Trap, Spent, Done}
use Rattle.plain_monitor.specs.declared.entry.Logged.{Logged}
use Rattle.plain_monitor.specs.Order.{order}
use Rattle.object_program.specs.declared.program.ClassDef.{ClassDef}
use Rattle.object_program.specs.Program.{ProgramText}
use Rattle.plain_machine.specs.Thread.{ThreadState}
use Rattle.plain_machine.specs.Machine.{PlainMachine, class_at, ending_in}
use Rattle.plain_machine.specs.Offering.{offered}
use Rattle.plain_machine.specs.declared.offer.Offer.{Offer}
use Rattle.plain_machine.specs.declared.offer.Offer.TheVariants.{Waiting, Blocked}
use Rattle.lock_journal.specs.declared.record.RunRecord.{RunRecord}
use Rattle.lock_journal.specs.declared.record.Shot.{Shot}
use Rattle.lock_journal.specs.declared.record.Cell.{Cell}
use Rattle.lock_journal.specs.declared.record.ClassLine.{ClassLine}
use Rattle.lock_journal.specs.Words.{object_text, thread_text, value_text, path_text, fault_text}

abbrev pub newline : List ℕ
newline = codes "\n"

-- an object that has an owner
abbrev pub cell_lines : ProgramText → ℕ → Option ℕ → ℕ → List (List ℕ)
cell_lines p o None count = []
cell_lines p o (Some owner) count =
    (object_text p o ++ codes " held by " ++ thread_text p owner ++ codes " " ++ decimal count ++ newline) ∷ []

-- the cells from object o on
abbrev pub cells_lines : ProgramText → ℕ → List Cell → List (List ℕ)
cells_lines p o [] = []
cells_lines p o (c ∷ cs) = cell_lines p o c.owner c.count ++ cells_lines p (o + 1) cs

abbrev pub shot_cells : Option Shot → List Cell
shot_cells None = []
shot_cells (Some shot) = shot.cells

-- the dump with this number, from 1, of a thread with these shots
abbrev pub dump_lines : ProgramText → ℕ → List Shot → ℕ → List (List ℕ)
dump_lines p t shots number =
    (codes "dump " ++ thread_text p t ++ codes " " ++ decimal number ++ newline)
    ∷ cells_lines p 0 (shot_cells (slice_get shots (number - 1)))

-- what an entry of thread t prints
abbrev pub printed : ProgramText → List (List Shot) → ℕ → Entry → List (List ℕ)
printed p shots t (Print value) = (thread_text p t ++ codes ": " ++ value_text p value ++ newline) ∷ []
printed p shots t (Dump number) = dump_lines p t (slice_index_or shots t []) number
printed p shots t e = []

-- how a thread ended
abbrev pub ending_text : Ending → List ℕ
ending_text ending.Done = codes "done"
ending_text ending.Spent = codes "spent"
ending_text (ending.Trap fault index) = codes "fault " ++ fault_text fault ++ codes " at " ++ decimal index

-- where a thread that has not ended stands: it waits on an object, or asks for one whose monitor another thread has
abbrev pub standing_text : ProgramText → Offer → List ℕ
standing_text p (Waiting o) = codes "waiting on " ++ object_text p o
standing_text p (Blocked o owner) = codes "blocked on " ++ object_text p o
standing_text p offer = []

abbrev pub state_text : PlainMachine → ℕ → Option Ending → List ℕ
state_text m t None = standing_text m.program (offered m t)
state_text m t (Some e) = ending_text e

-- the threads from t on
abbrev pub thread_lines : PlainMachine → ℕ → List ThreadState → List (List ℕ)
thread_lines m t [] = []
thread_lines m t (s ∷ ss) =
    (codes "thread " ++ thread_text m.program t ++ codes " " ++ state_text m t (ending_in s.mode) ++ newline)
    ∷ thread_lines m (t + 1) ss

abbrev pub path_number : Path → ℕ
path_number BiasOwn = 0
path_number BiasTaken = 1
path_number StackFirst = 2
path_number StackAgain = 3
path_number MonitorFirst = 4
path_number MonitorAgain = 5

-- whether the class of an object, if it has one, is c
abbrev pub is_class : ℕ → Option ℕ → Bool
is_class c None = false
is_class c (Some k) = k == c

-- an entry is an enter by this path of an object of class c, which is that of its declaration or of the New that made it
abbrev pub is_enter_by : PlainMachine → ℕ → Path → Entry → Bool
is_enter_by m c path (Enter object by) = is_class c (class_at m object) && (path_number by == path_number path)
is_enter_by m c path e = false

abbrev pub enters_by : PlainMachine → ℕ → Path → List (ℕ × Logged) → ℕ
enters_by m c path [] = 0
enters_by m c path (x ∷ xs) = (if is_enter_by m c path x.1.entry then 1 else 0) + enters_by m c path xs

-- how often the objects of class c were entered by each path
abbrev pub enters_text : PlainMachine → ℕ → List (ℕ × Logged) → List ℕ
enters_text m c xs =
    flat_map (λ path. codes " " ++ decimal (enters_by m c path xs))
    (BiasOwn ∷ BiasTaken ∷ StackFirst ∷ StackAgain ∷ MonitorFirst ∷ MonitorAgain ∷ [])

abbrev pub class_name : Option ClassDef → List ℕ
class_name None = []
class_name (Some c) = c.name

abbrev pub class_line : ProgramText → PlainMachine → ℕ → ClassLine → List (ℕ × Logged) → List ℕ
class_line p m c l xs =
    codes "class " ++ class_name (slice_get p.classes c) ++ codes " single " ++ decimal l.single
    ++ codes " rebias " ++ decimal l.rebias
    ++ codes " revoke " ++ decimal l.revoke ++ codes " count " ++ decimal l.count ++ codes " prototype "
    ++ decimal l.prototype
    ++ codes " enters" ++ enters_text m c xs ++ newline

-- the classes from c on
abbrev pub class_lines : ProgramText → PlainMachine → ℕ → List ClassLine → List (ℕ × Logged) → List (List ℕ)
class_lines p m c [] xs = []
class_lines p m c (l ∷ ls) xs = class_line p m c l xs ∷ class_lines p m (c + 1) ls xs

abbrev pub woken_text : ProgramText → Option ℕ → List ℕ
woken_text p None = codes "none"
woken_text p (Some t) = thread_text p t

abbrev pub draw_text : Option ℕ → List ℕ
draw_text None = []
draw_text (Some n) = codes " draw " ++ decimal n

-- an entry in the journal
abbrev pub entry_text : ProgramText → Entry → List ℕ
entry_text p (Enter o path) = codes "enter " ++ object_text p o ++ codes " " ++ path_text path
entry_text p (Exit o) = codes "exit " ++ object_text p o
entry_text p (Wait o) = codes "wait " ++ object_text p o
entry_text p (Resume o) = codes "resume " ++ object_text p o
entry_text p (Get o k v) = codes "get " ++ object_text p o ++ codes " " ++ decimal k ++ codes " " ++ value_text p v
entry_text p (Put o k v) = codes "put " ++ object_text p o ++ codes " " ++ decimal k ++ codes " " ++ value_text p v
entry_text p (Notify o woken) = codes "notify " ++ object_text p o ++ codes " " ++ woken_text p woken
entry_text p (NotifyAll o n) = codes "notifyall " ++ object_text p o ++ codes " " ++ decimal n
entry_text p (Hash o v drawn) = codes "hash " ++ object_text p o ++ codes " " ++ decimal v ++ draw_text drawn
entry_text p (New o c) = codes "new " ++ object_text p o ++ codes " " ++ class_name (slice_get p.classes c)
entry_text p (Print v) = codes "print " ++ value_text p v
entry_text p (Dump n) = codes "dump " ++ decimal n
entry_text p (Trap fault index) = ending_text (ending.Trap fault index)
entry_text p Spent = codes "spent"
entry_text p Done = codes "done"

abbrev pub journal_line : ProgramText → ℕ × Logged → List ℕ
journal_line p x =
    codes "@" ++ decimal x.1.stamp ++ codes " " ++ thread_text p x.0 ++ codes " " ++ entry_text p x.1.entry
    ++ newline

abbrev pub only_where : Bool → List (List ℕ) → List (List ℕ)
only_where asked lines = if asked then lines else []

-- the lines of a run's text, in order, each with its line feed; the machine is the one under the record
abbrev pub lines_of_run : Bool → Bool → RunRecord → PlainMachine → List (List ℕ)
lines_of_run stats journal run m =
    flat_map (λ x. printed run.program run.shots x.0 x.1.entry) (order run.logs)
    ++ thread_lines m 0 m.threads
    ++ only_where stats (class_lines run.program m 0 run.classes (order run.logs))
    ++ only_where journal (map (journal_line run.program) (order run.logs))

abbrev pub text_of_lines : List (List ℕ) → List ℕ
text_of_lines lines = flat_map (λ line. line) lines

-- the text of a run
abbrev pub text_of_run : Bool → Bool → RunRecord → PlainMachine → List ℕ
text_of_run stats journal run m = text_of_lines (lines_of_run stats journal run m)
