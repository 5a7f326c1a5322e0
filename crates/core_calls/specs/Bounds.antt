-- How many atomic steps a call makes at most, whatever words its steps find: no call waits or tries again.
use Rattle.std.specs.Prelude.{ℕ, zero, suc, ◌+◌, ◌*◌, length, nat_lt, if◌then◌else◌}
use Rattle.plain_monitor.specs.Limits.{most_holds}
use Rattle.core_world.specs.declared.heap_call.HeapCall.{HeapCall}
use Rattle.core_world.specs.declared.heap_call.HeapCall.TheVariants.{Enter, Exit, Wait, Notify, NotifyAll, Hash, Get, Put}
use Rattle.core_world.specs.declared.heap_call.HeapCall.TheVariants.{Print, Dump, Create, Finish, Poll, Stop, Resume, Check}
use Rattle.core_world.specs.declared.heap_call.HeapCall.TheVariants.{StackEnter, StackExit, Request, Reached, Release}
use Rattle.core_world.specs.Words.Shape.{Shape, monitor_count}
use Rattle.core_world.specs.Trees.StepTree.{StepTree, done, unreachable, step, after_answer}

-- on no path are there more than n steps
abbrev pub IsWithin : {A : Type 0} → ℕ → StepTree A → Type 0
IsWithin n (done a) = Unit {0}
IsWithin n unreachable = Unit {0}
IsWithin zero (step p f) = ⊥
IsWithin (suc n) (step p f) = (word : ℕ) → IsWithin n (f word)

-- the visit of a lock record at a bulk operation: its hold word, the class and the mark of its object, the hold words of the thread that has the
-- bias, and at most a store for each of these and for the mark
abbrev pub a_visit : ℕ
a_visit = 1 + 1 + 1 + most_holds + most_holds + 1

-- the deflation at a safepoint: for each monitor its object word, the mark of that object, its owner and the waiting word of each thread; and where it
-- is idle two loads and seven stores
abbrev pub a_deflation : Shape → ℕ
a_deflation s = (s.threads + 12) * monitor_count s

-- the revocation of a bias: a safepoint is requested, and released at the end; the lock records of each thread are visited at most
-- once; idle monitors are given back; and there are at most 144 steps besides
abbrev pub a_revocation : Shape → ℕ
a_revocation s = most_holds * a_visit * s.threads + 144 + a_deflation s

-- at most so many steps has a call; a dump and a check give idle monitors back too
abbrev pub most_steps : Shape → HeapCall → ℕ
most_steps s (Enter o now) = a_revocation s + 21
most_steps s (Exit o) = 11
most_steps s (Wait o now) = a_revocation s + 27
most_steps s (Notify o now) = a_revocation s + s.threads + 5
most_steps s (NotifyAll o now) = a_revocation s + 2 * s.threads + 5
most_steps s (Hash o now) = a_revocation s + 17
most_steps s (Get o slot) = 1
most_steps s (Put o slot value) = 1
most_steps s (Print value) = 1
most_steps s Dump = (most_holds + 3) * length s.objects + s.threads + 6 + a_deflation s
most_steps s (Create c) = 3
most_steps s (Finish ending) = 2
most_steps s Poll = 1
most_steps s Stop = 2
most_steps s Resume = 2
most_steps s Check = 3 * s.threads + 4 + a_deflation s
most_steps s (StackEnter o mark) = 5
most_steps s (StackExit o) = 5
most_steps s Request = 2
most_steps s Reached = 1
most_steps s Release = 1

-- what is left to do once the class of o is found, whatever its class word is: nothing is loaded where o is declared
abbrev pub after_class : {A : Type 0} → Shape → ℕ → ℕ → StepTree A → StepTree A
after_class s o word d = if nat_lt o s.declared then d else after_answer d word
