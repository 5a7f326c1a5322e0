-- Threads that wait for one another in a circle, and the list of all such circles.
use Rattle.std.specs.Prelude.{◌≢◌, ℕ, ◌+◌, ◌<◌, ◌≤◌, List, [], ◌∷◌, Contains}
use Rattle.std.specs.List.{AllByRecursion}
use Rattle.plain_machine.specs.Machine.{PlainMachine}
use Rattle.wait_report.specs.declared.cycles.Link.{Link}
use Rattle.wait_report.specs.declared.cycles.Cycle.{Cycle}
use Rattle.wait_report.specs.Waiting.{WaitsFor}

-- the thread of the first of these links, or `first` after the last
abbrev pub next_thread : ℕ → List Link → ℕ
next_thread first [] = first
next_thread first (x ∷ xs) = x.thread

-- each link's thread waits for the next one's by the link's object, and the last one's for `first`
abbrev pub AreLinked : PlainMachine → ℕ → List Link → Type 0
AreLinked m first [] = Unit {0}
AreLinked m first (x ∷ xs) = WaitsFor m x.thread (next_thread first xs) x.object × AreLinked m first xs

-- no two of these links have the same thread
abbrev pub AreApart : List Link → Type 0
AreApart [] = Unit {0}
AreApart (x ∷ xs) = AllByRecursion (λ y. x.thread ≢ y.thread) xs × AreApart xs

-- these links, of which x is the first, are a circle of threads, no two the same, with the least in front
pub record IsCircle (m : PlainMachine) (x : Link) (xs : List Link) : Type 0 where
  pub linked : AreLinked m x.thread (x ∷ xs)
  pub least : AllByRecursion (λ y. x.thread < y.thread) xs
  pub distinct : AreApart (x ∷ xs)

abbrev pub IsCycleOf : PlainMachine → List Link → Type 0
IsCycleOf m [] = ⊥
IsCycleOf m (x ∷ xs) = IsCircle m x xs

abbrev pub IsCycle : PlainMachine → Cycle → Type 0
IsCycle m c = IsCycleOf m c.links

abbrev pub first_thread : Cycle → ℕ
first_thread c = next_thread 0 c.links

-- the first threads rise, each above the one before, and are at least n
abbrev pub RiseFrom : ℕ → List Cycle → Type 0
RiseFrom n [] = Unit {0}
RiseFrom n (c ∷ cs) = (n ≤ first_thread c) × RiseFrom (first_thread c + 1) cs

-- these are the cycles of the machine, each once, by rising first thread
pub record AreCycles (m : PlainMachine) (cs : List Cycle) : Type 0 where
  -- each of these is a cycle
  pub each : AllByRecursion (IsCycle m) cs
  -- each cycle is one of these
  pub all : (c : Cycle) → IsCycle m c → Contains cs c
  pub rising : RiseFrom 0 cs
