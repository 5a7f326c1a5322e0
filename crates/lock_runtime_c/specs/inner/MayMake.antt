-- What a call that begins asks.
use Rattle.core_world.specs.declared.heap_call.HeapCall.{HeapCall}
use Rattle.core_world.specs.declared.heap_call.HeapCall.TheVariants.{Poll, Stop, Resume, Check, Create, StackEnter, StackExit, Request, Reached, Release}
use Rattle.heap_table.specs.Resting.{MayCall, MayOperate}
use Rattle.heap_table.specs.Seen.{HeapSeen, PassSeen}

-- an operation also that the log has room for it
abbrev pub MayMake : HeapSeen → PassSeen → HeapCall → Type 0
MayMake h p Poll = MayCall h p Poll
MayMake h p Stop = MayCall h p Stop
MayMake h p Resume = MayCall h p Resume
MayMake h p Check = MayCall h p Check
MayMake h p (Create class) = ⊥
MayMake h p (StackEnter o mark) = ⊥
MayMake h p (StackExit o) = ⊥
MayMake h p Request = ⊥
MayMake h p Reached = ⊥
MayMake h p Release = ⊥
MayMake h p t = MayOperate h p t
