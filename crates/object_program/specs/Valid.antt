-- Which programs there are: those whose names, numbers, targets and counts a text may have.
use Rattle.std.specs.Prelude.{◌≡◌, ℕ, ◌+◌, ◌<◌, ◌≤◌, ◌==◌, Bool, true, false, List, [], ◌∷◌, length, map, IsTrue}
use Rattle.std.specs.List.{AllByRecursion, list_any}
use Rattle.std.specs.Str.{bytes_eq}
use Rattle.plain_monitor.specs.Numbers.{IsInRange}
use Rattle.object_program.specs.Limits.{most_classes, most_slots, most_objects, most_threads, most_locals, most_code}
use Rattle.object_program.specs.Name.{is_name}
use Rattle.object_program.specs.Program.{ProgramText, total_of}
use Rattle.object_program.specs.declared.program.ObjectDef.{ObjectDef}
use Rattle.object_program.specs.declared.program.LabelDef.{LabelDef}
use Rattle.object_program.specs.declared.program.ThreadDef.{ThreadDef}
use Rattle.object_program.specs.declared.program.Code.{Code}
use Rattle.object_program.specs.declared.program.Code.TheVariants.{Set, Add, Sub, Mul, Ref, Elem, Enter, Exit, Wait, Notify, NotifyAll}
use Rattle.object_program.specs.declared.program.Code.TheVariants.{Get, Put, Hash, New, Print, Jump, Jlt, Jeq, Dump, End}

-- the name stands among these
abbrev pub is_among : List (List ℕ) → List ℕ → Bool
is_among names name = list_any (λ n. bytes_eq n name) names

-- names of one space: each is a name, and none stands twice
abbrev pub AreNames : List (List ℕ) → Type 0
AreNames [] = Unit {0}
AreNames (n ∷ ns) = IsTrue (is_name n) × (is_among ns n ≡ false) × AreNames ns

-- each declaration has a class of these, and stands for at least one object from number n on, an object for one
abbrev pub AreObjects : ℕ → ℕ → List ObjectDef → Type 0
AreObjects classes n [] = Unit {0}
AreObjects classes n (d ∷ ds) = IsObject classes n d × AreObjects classes (n + d.size) ds where
  IsObject : ℕ → ℕ → ObjectDef → Type 0
  IsObject classes n d = (d.class < classes) × (d.first ≡ n) × (1 ≤ d.size) × (d.array ≡ false → d.size ≡ 1)

-- some label names the instruction with this number
abbrev pub is_target : List LabelDef → ℕ → Bool
is_target labels l = list_any (λ d. d.index == l) labels

-- the operands of an instruction: its locals are declared, its class and its declaration of objects too, its slot is one that objects may
-- have, its number is in range, and a label of its thread names its target
abbrev pub IsInstruction : ℕ → ℕ → ℕ → List LabelDef → Code → Type 0
IsInstruction classes locals objects labels (Set x v) = (x < locals) × IsInRange v
IsInstruction classes locals objects labels (Add x y z) = (x < locals) × (y < locals) × (z < locals)
IsInstruction classes locals objects labels (Sub x y z) = (x < locals) × (y < locals) × (z < locals)
IsInstruction classes locals objects labels (Mul x y z) = (x < locals) × (y < locals) × (z < locals)
IsInstruction classes locals objects labels (Ref x n) = (x < locals) × (n < objects)
IsInstruction classes locals objects labels (Elem x n i) = (x < locals) × (n < objects) × (i < locals)
IsInstruction classes locals objects labels (Enter x) = x < locals
IsInstruction classes locals objects labels (Exit x) = x < locals
IsInstruction classes locals objects labels (Wait x) = x < locals
IsInstruction classes locals objects labels (Notify x) = x < locals
IsInstruction classes locals objects labels (NotifyAll x) = x < locals
IsInstruction classes locals objects labels (Get x o k) = (x < locals) × (o < locals) × (k < most_slots)
IsInstruction classes locals objects labels (Put o k x) = (o < locals) × (k < most_slots) × (x < locals)
IsInstruction classes locals objects labels (Hash x o) = (x < locals) × (o < locals)
IsInstruction classes locals objects labels (New x c) = (x < locals) × (c < classes)
IsInstruction classes locals objects labels (Print x) = x < locals
IsInstruction classes locals objects labels (Jump l) = is_target labels l ≡ true
IsInstruction classes locals objects labels (Jlt x y l) = (x < locals) × (y < locals) × (is_target labels l ≡ true)
IsInstruction classes locals objects labels (Jeq x y l) = (x < locals) × (y < locals) × (is_target labels l ≡ true)
IsInstruction classes locals objects labels Dump = Unit {0}
IsInstruction classes locals objects labels End = Unit {0}

-- the last instruction is `end`, and no other is
abbrev pub EndsOnce : List Code → Type 0
EndsOnce [] = ⊥
EndsOnce (c ∷ []) = c ≡ End
EndsOnce (c ∷ d ∷ cs) = (c ≡ End → ⊥) × EndsOnce (d ∷ cs)

-- targets rise from n on, and each is an instruction
abbrev pub AreTargets : ℕ → ℕ → List LabelDef → Type 0
AreTargets code n [] = Unit {0}
AreTargets code n (l ∷ ls) = (n ≤ l.index) × (l.index ≤ code) × AreTargets code l.index ls

pub record IsThread (classes objects : ℕ) (t : ThreadDef) : Type 0 where
  pub locals : AreNames t.locals
  pub locals_few : length t.locals ≤ most_locals
  pub labels : AreNames (map (λ l. l.name) t.labels)
  pub targets : AreTargets (length t.code) 1 t.labels
  pub code : AllByRecursion (IsInstruction classes (length t.locals) objects t.labels) t.code
  pub code_few : length t.code ≤ most_code
  pub ends : EndsOnce t.code

pub record IsProgram (p : ProgramText) : Type 0 where
  pub class_names : AreNames (map (λ c. c.name) p.classes)
  pub class_slots : AllByRecursion (λ c. c.slots ≤ most_slots) p.classes
  pub classes_few : length p.classes ≤ most_classes
  pub object_names : AreNames (map (λ d. d.name) p.objects)
  pub objects : AreObjects (length p.classes) 0 p.objects
  pub objects_few : total_of p.objects ≤ most_objects
  pub thread_names : AreNames (map (λ t. t.name) p.threads)
  pub threads : AllByRecursion (IsThread (length p.classes) (length p.objects)) p.threads
  pub threads_some : 1 ≤ length p.threads
  pub threads_few : length p.threads ≤ most_threads
