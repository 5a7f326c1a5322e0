-- Which programs with blocks there are: those whose names, numbers, blocks and counts a text may have.
use Rattle.std.specs.Prelude.{◌≡◌, ℕ, ◌+◌, ◌<◌, ◌≤◌, ◌==◌, max, Bool, true, false, List, [], ◌∷◌, length, map}
use Rattle.std.specs.List.{AllByRecursion}
use Rattle.object_program.specs.Limits.{most_classes, most_slots, most_objects, most_threads, most_locals, most_code}
use Rattle.object_program.specs.Program.{total_of}
use Rattle.object_program.specs.Valid.{IsInstruction, AreNames, AreObjects}
use Rattle.object_program.specs.declared.program.Code.{Code}
use Rattle.object_program.specs.declared.program.Code.TheVariants as instr
use Rattle.sync_source.specs.declared.source.Test.{Test}
use Rattle.sync_source.specs.Source.{Statements, Nothing, Plain, Sync, If, While, SyncThreadText, SyncText}
use Rattle.sync_source.specs.Compiled.{size}

-- blocks that may stand one in another
abbrev pub most_depth : ℕ
most_depth = 32

-- an instruction that a block may have: it enters and exits nothing, and goes nowhere else
abbrev pub IsPlain : Code → Type 0
IsPlain (instr.Enter x) = ⊥
IsPlain (instr.Exit x) = ⊥
IsPlain (instr.Jump l) = ⊥
IsPlain (instr.Jlt x y l) = ⊥
IsPlain (instr.Jeq x y l) = ⊥
IsPlain c = Unit {0}

-- the locals of a test are declared
abbrev pub IsTest : ℕ → Test → Type 0
IsTest locals t = (t.x < locals) × (t.y < locals)

-- the instructions are plain, and the operands of all statements are declared and in range
abbrev pub AreStatements : ℕ → ℕ → ℕ → Statements → Type 0
AreStatements classes locals objects Nothing = Unit {0}
AreStatements classes locals objects (Plain c rest) =
    IsPlain c × IsInstruction classes locals objects [] c × AreStatements classes locals objects rest
AreStatements classes locals objects (Sync x body rest) =
    (x < locals) × AreStatements classes locals objects body × AreStatements classes locals objects rest
AreStatements classes locals objects (If t body other rest) =
    IsTest locals t
    × AreStatements classes locals objects body
    × AreStatements classes locals objects other
    × AreStatements classes locals objects rest
AreStatements classes locals objects (While t body rest) =
    IsTest locals t × AreStatements classes locals objects body × AreStatements classes locals objects rest

abbrev pub is_end : Code → Bool
is_end instr.End = true
is_end c = false

-- no statement is an `end`
abbrev pub HasNoEnd : Statements → Type 0
HasNoEnd Nothing = Unit {0}
HasNoEnd (Plain c rest) = (is_end c ≡ false) × HasNoEnd rest
HasNoEnd (Sync x body rest) = HasNoEnd body × HasNoEnd rest
HasNoEnd (If t body other rest) = HasNoEnd body × HasNoEnd other × HasNoEnd rest
HasNoEnd (While t body rest) = HasNoEnd body × HasNoEnd rest

-- the last statement is an `end`, and no other is
abbrev pub EndsWell : Statements → Type 0
EndsWell Nothing = ⊥
EndsWell (Plain c Nothing) = c ≡ instr.End
EndsWell (Plain c rest) = (is_end c ≡ false) × EndsWell rest
EndsWell (Sync x body rest) = HasNoEnd body × EndsWell rest
EndsWell (If t body other rest) = HasNoEnd body × HasNoEnd other × EndsWell rest
EndsWell (While t body rest) = HasNoEnd body × EndsWell rest

-- the instruction gives a value to local x
abbrev pub assigns : ℕ → Code → Bool
assigns x (instr.Set y v) = y == x
assigns x (instr.Add y a b) = y == x
assigns x (instr.Sub y a b) = y == x
assigns x (instr.Mul y a b) = y == x
assigns x (instr.Ref y n) = y == x
assigns x (instr.Elem y n i) = y == x
assigns x (instr.Get y o k) = y == x
assigns x (instr.Hash y o) = y == x
assigns x (instr.New y c) = y == x
assigns x c = false

-- no instruction gives a value to one of these locals, nor to the local of a `sync` that it stands in
abbrev pub KeepsLocals : List ℕ → Statements → Type 0
KeepsLocals open_syncs Nothing = Unit {0}
KeepsLocals open_syncs (Plain c rest) =
    AllByRecursion (λ x. assigns x c ≡ false) open_syncs × KeepsLocals open_syncs rest
KeepsLocals open_syncs (Sync x body rest) = KeepsLocals (x ∷ open_syncs) body × KeepsLocals open_syncs rest
KeepsLocals open_syncs (If t body other rest) =
    KeepsLocals open_syncs body × KeepsLocals open_syncs other × KeepsLocals open_syncs rest
KeepsLocals open_syncs (While t body rest) = KeepsLocals open_syncs body × KeepsLocals open_syncs rest

-- how many blocks stand one in another, at most. The `else` of an `if` stands beside its block, and not in it
abbrev pub depth : Statements → ℕ
depth Nothing = 0
depth (Plain c rest) = depth rest
depth (Sync x body rest) = max (depth body + 1) (depth rest)
depth (If t body other rest) = max (max (depth body) (depth other) + 1) (depth rest)
depth (While t body rest) = max (depth body + 1) (depth rest)

pub record IsSyncThread (classes objects : ℕ) (t : SyncThreadText) : Type 0 where
  pub locals : AreNames t.locals
  pub locals_few : length t.locals ≤ most_locals
  pub body : AreStatements classes (length t.locals) objects t.body
  pub ends : EndsWell t.body
  pub keeps : KeepsLocals [] t.body
  pub nested : depth t.body ≤ most_depth
  -- its code is short enough
  pub code_few : size t.body ≤ most_code

pub record IsSyncText (p : SyncText) : Type 0 where
  pub class_names : AreNames (map (λ c. c.name) p.classes)
  pub class_slots : AllByRecursion (λ c. c.slots ≤ most_slots) p.classes
  pub classes_few : length p.classes ≤ most_classes
  pub object_names : AreNames (map (λ d. d.name) p.objects)
  pub objects : AreObjects (length p.classes) 0 p.objects
  pub objects_few : total_of p.objects ≤ most_objects
  pub thread_names : AreNames (map (λ t. t.name) p.threads)
  pub threads : AllByRecursion (IsSyncThread (length p.classes) (length p.objects)) p.threads
  pub threads_some : 1 ≤ length p.threads
  pub threads_few : length p.threads ≤ most_threads
