-- Programs with blocks, as contracts see them. The language is this project's own; its `sync` is the `synchronized` statement of the Java
-- Language Specification 8, 14.19.
use Rattle.std.specs.Prelude.{ℕ, List}
use Rattle.object_program.specs.declared.program.ClassDef.{ClassDef}
use Rattle.object_program.specs.declared.program.ObjectDef.{ObjectDef}
use Rattle.object_program.specs.declared.program.Code.{Code}
use Rattle.sync_source.specs.declared.source.Test.{Test}

-- the statements of a block: each stands before those that follow it
pub data Statements : Type 0 where
  -- no more statements
  Nothing : Statements
  -- an instruction
  Plain : Code → Statements → Statements
  -- a `sync` on the local, and its block
  Sync : ℕ → Statements → Statements → Statements
  -- an `if`, its block, and the block of its `else`
  If : Test → Statements → Statements → Statements → Statements
  -- a `while`, and its block
  While : Test → Statements → Statements → Statements

pub record SyncThreadText : Type 0 where
  pub name : List ℕ
  pub locals : List (List ℕ)
  pub body : Statements

-- the classes, the declarations of objects and the threads, each in the order of their lines
pub record SyncText : Type 0 where
  pub classes : List ClassDef
  pub objects : List ObjectDef
  pub threads : List SyncThreadText
