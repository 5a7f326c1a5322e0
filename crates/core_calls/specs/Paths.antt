-- What the steps of a call log and leave, along every path through their tree: whatever words they find.
use Rattle.std.specs.Prelude.{◌≡◌, ℕ, ◌==◌, cond, Bool, List, [], ◌∷◌, ◌++◌, map, Option, None}
use Rattle.plain_monitor.specs.declared.entry.Entry.{Entry}
use Rattle.plain_monitor.specs.declared.entry.Entry.TheVariants as entry
use Rattle.plain_monitor.specs.declared.entry.Logged.{Logged}
use Rattle.plain_monitor.specs.ValueWords.{read_value}
use Rattle.core_world.specs.declared.plan.LogEffect.{LogEffect}
use Rattle.core_world.specs.declared.plan.LogEffect.TheVariants.{Quiet, Log, LogGet, LogHash}
use Rattle.core_world.specs.declared.plan.StepPlan.{StepPlan}
use Rattle.core_world.specs.declared.heap_call.Unfinished.{Unfinished}
use Rattle.core_world.specs.Words.Acts.{hits}
use Rattle.core_world.specs.Words.Forms.{hash_in}
use Rattle.core_world.specs.Threads.ThreadView.{ThreadView, StepMade}
use Rattle.core_world.specs.Trees.Operations.{value_found}
use Rattle.core_world.specs.Words.Shape.{Shape}
use Rattle.core_world.specs.Steps.{unfinished_after, known_along}
use Rattle.core_world.specs.Trees.StepTree.{StepTree, done, unreachable, step}

abbrev pub made : StepPlan → ℕ → StepMade
made p n = record { plan = p; found = n }

-- at the end P holds of the steps made, the newest first, and of the answer, whatever words the steps find
abbrev pub Always : {A : Type 0} → (List StepMade → A → Type 0) → List StepMade → StepTree A → Type 0
Always P ms (done a) = P ms a
Always P ms unreachable = Unit {0}
Always P ms (step p f) = (n : ℕ) → Always P (made p n ∷ ms) (f n)

-- so it is when these are all the steps of a call
pub record Says {A : Type 0} (d : StepTree A) (P : List StepMade → A → Type 0) : Type 0 where
  pub by : Always P [] d

-- after the steps so far, these are all the steps of a path, the newest first, and its answer
abbrev pub IsPath : {A : Type 0} → StepTree A → List StepMade → List StepMade → A → Type 0
IsPath (done b) sofar ms a = (ms ≡ sofar) × (a ≡ b)
IsPath unreachable sofar ms a = ⊥
IsPath (step p f) sofar ms a = (n : ℕ) × IsPath (f n) (made p n ∷ sofar) ms a

-- what a step with this effect logs, where it hits and finds n
abbrev pub noted : LogEffect → ℕ → List Entry
noted Quiet n = []
noted (Log e) n = e ∷ []
noted (LogGet o slot) n = entry.Get o slot (value_found (read_value n)) ∷ []
noted (LogHash o) n = cond (hash_in n == 0) [] (entry.Hash o (hash_in n) None ∷ [])

-- the entries that these steps log, the oldest first; an exchange that misses logs nothing
abbrev pub entries_of : List StepMade → List Entry
entries_of [] = []
entries_of (m ∷ ms) = entries_of ms ++ cond (hits m.plan.act m.found) (noted m.plan.note m.found) []

-- the operation and the check that they leave unfinished, where these were before; an exchange that misses leaves both as they were
abbrev pub left_unfinished : List StepMade → Option Unfinished → Option Unfinished
left_unfinished [] before = before
left_unfinished (m ∷ ms) before =
    cond (hits m.plan.act m.found) (unfinished_after m.plan.note m.found m.plan.after)
    (left_unfinished ms before)

abbrev pub left_checking : List StepMade → Bool → Bool
left_checking [] before = before
left_checking (m ∷ ms) before = cond (hits m.plan.act m.found) m.plan.check (left_checking ms before)

-- these steps log these entries, and leave this operation unfinished and this said of a check, whatever was before
pub record Leaves (es : List Entry) (u : Option Unfinished) (check : Bool) (ms : List StepMade) : Type 0 where
  pub entries : entries_of ms ≡ es
  pub unfinished : (before : Option Unfinished) → left_unfinished ms before ≡ u
  pub checking : (before : Bool) → left_checking ms before ≡ check

-- A thread that knew this makes the steps of a path through the tree, with its answer; and all that it knows then is what they make of it.
pub record FollowsTree {A : Type 0} (s : Shape) (start : ℕ) (d : StepTree A) (k l : ThreadView) (a : A) : Type 0 where
  pub steps : List StepMade
  pub path : IsPath d [] steps a
  pub added : l.steps ≡ steps ++ k.steps
  pub known : l ≡ known_along s start steps k

-- What a thread knew became this by steps of which P holds: they are added to its steps, and their entries, with some stamps, to its log.
pub record Tells (k l : ThreadView) (P : List StepMade → Type 0) : Type 0 where
  pub steps : List StepMade
  pub added : l.steps ≡ steps ++ k.steps
  pub new : List Logged
  pub log : l.log ≡ k.log ++ new
  pub entries : map (λ (x : Logged). x.entry) new ≡ entries_of steps
  pub unfinished : l.unfinished ≡ left_unfinished steps k.unfinished
  pub checking : l.checking ≡ left_checking steps k.checking
  pub says : P steps

-- What steps that leave this make of what a thread knew: these entries after its log, with some stamps.
pub record ThreadHasLogged (es : List Entry) (u : Option Unfinished) (check : Bool) (k l : ThreadView) : Type 0 where
  pub new : List Logged
  pub log : l.log ≡ k.log ++ new
  pub entries : map (λ (x : Logged). x.entry) new ≡ es
  pub unfinished : l.unfinished ≡ u
  pub checking : l.checking ≡ check
