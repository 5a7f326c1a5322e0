-- How the output writes names, values, paths and faults.
use Rattle.std.specs.Prelude.{ℕ, nat_lt, if◌then◌else◌, List, [], ◌++◌, codes, decimal, slice_get, Option, Some, None}
use Rattle.std.specs.Fmt.{signed_decimal}
use Rattle.plain_monitor.specs.declared.entry.Value.{Value}
use Rattle.plain_monitor.specs.declared.entry.Value.TheVariants.{Nil, Int, Ref}
use Rattle.plain_monitor.specs.declared.entry.Path.{Path}
use Rattle.plain_monitor.specs.declared.entry.Path.TheVariants.{BiasOwn, BiasTaken, StackFirst, StackAgain, MonitorFirst, MonitorAgain}
use Rattle.plain_monitor.specs.declared.entry.Fault.{Fault}
use Rattle.plain_monitor.specs.declared.entry.Fault.TheVariants.{IllegalMonitorState, Unguarded, NotRef, NotInt}
use Rattle.plain_monitor.specs.declared.entry.Fault.TheVariants.{Range, Overflow, TooDeep, TooManyDumps, TooMany}
use Rattle.plain_monitor.specs.Made.{maker_of}
use Rattle.plain_monitor.specs.Made.{place_of as nth_made}
use Rattle.object_program.specs.declared.program.ObjectDef.{ObjectDef}
use Rattle.object_program.specs.declared.program.ThreadDef.{ThreadDef}
use Rattle.object_program.specs.Program.{ProgramText, declared_total, place_of, numbering_of}

-- element i of a declaration: the name of an object, or that of an array with the element in brackets
abbrev pub element_text : ℕ → Option ObjectDef → List ℕ
element_text i None = []
element_text i (Some d) = if d.array then d.name ++ codes "[" ++ decimal i ++ codes "]" else d.name

abbrev pub declared_text : ProgramText → ℕ → List ℕ
declared_text p o = element_text (place_of p o).1 (slice_get p.objects (place_of p o).0)

abbrev pub name_of : Option ThreadDef → List ℕ
name_of None = []
name_of (Some t) = t.name

abbrev pub thread_text : ProgramText → ℕ → List ℕ
thread_text p t = name_of (slice_get p.threads t)

-- an object that a thread makes: the thread, and which of its objects it is, from 0
abbrev pub made_text : ProgramText → ℕ → List ℕ
made_text p o = thread_text p (maker_of (numbering_of p) o) ++ codes "." ++ decimal (nth_made (numbering_of p) o)

abbrev pub object_text : ProgramText → ℕ → List ℕ
object_text p o = if nat_lt o (declared_total p) then declared_text p o else made_text p o

abbrev pub value_text : ProgramText → Value → List ℕ
value_text p Nil = codes "nil"
value_text p (Int z) = signed_decimal z
value_text p (Ref o) = object_text p o

abbrev pub path_text : Path → List ℕ
path_text BiasOwn = codes "bias-own"
path_text BiasTaken = codes "bias-taken"
path_text StackFirst = codes "stack-first"
path_text StackAgain = codes "stack-again"
path_text MonitorFirst = codes "monitor-first"
path_text MonitorAgain = codes "monitor-again"

abbrev pub fault_text : Fault → List ℕ
fault_text IllegalMonitorState = codes "IllegalMonitorState"
fault_text Unguarded = codes "Unguarded"
fault_text NotRef = codes "NotRef"
fault_text NotInt = codes "NotInt"
fault_text Range = codes "Range"
fault_text Overflow = codes "Overflow"
fault_text TooDeep = codes "TooDeep"
fault_text TooManyDumps = codes "TooManyDumps"
fault_text TooMany = codes "TooMany"
