-- The plain objects of small heaps, and turns.
use Rattle.std.specs.Prelude.{ℕ, List, [], ◌∷◌, ◌++◌, replicate, Some}
use Rattle.plain_monitor.specs.Monitor.{free_monitor}
use Rattle.plain_monitor.specs.Objects.{PlainObject, new_object}
use Rattle.core_world.specs.declared.heap_call.HeapCall.{HeapCall}
use Rattle.core_world.specs.declared.heap_call.HeapCall.TheVariants.{Resume, Request, Reached, Notify, Exit, Stop}
use Rattle.step_history.specs.Examples.{owns_beside}

abbrev pub unowned : PlainObject
unowned = new_object 0

-- entered once by thread 0
abbrev pub owned : PlainObject
owned = record (new_object 0) { monitor = record free_monitor { owner = Some 0; count = 1 } }

-- an object with a slot: as it is at first, entered once by thread 0, and let go by it to wait
abbrev pub slotted : PlainObject
slotted = new_object 1

abbrev pub held : PlainObject
held = record (new_object 1) { monitor = record free_monitor { owner = Some 0; count = 1 } }

abbrev pub waiting : PlainObject
waiting = record (new_object 1) { monitor = record free_monitor { waits = (0, 1) ∷ [] } }

-- thread t resumes, asks for a safepoint, and sees that it is reached
abbrev pub reaches : ℕ → List (ℕ × HeapCall)
reaches t = replicate 2 (t, Resume) ++ replicate 2 (t, Request) ++ (t, Reached) ∷ []

-- Thread 0 waits; thread 1 enters the object, notifies thread 0, leaves the object, and stops. So the object is as after this.
abbrev pub told : List (ℕ × HeapCall)
told = owns_beside ++ replicate 5 (1, Notify 0 0) ++ replicate 9 (1, Exit 0) ++ replicate 2 (1, Stop)

abbrev pub notified : PlainObject
notified = record (new_object 0) { monitor = record free_monitor { called = (0, 1) ∷ [] } }
