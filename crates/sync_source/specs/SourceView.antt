-- What contracts see of a `SyncProgram`: its parts, and the program with blocks that they are.
use Rattle.std.specs.Prelude.{List, map}
use Rattle.object_program.specs.declared.program.ClassDef.{ClassDef}
use Rattle.object_program.specs.declared.program.ObjectDef.{ObjectDef}
use Rattle.sync_source.specs.declared.source.SyncProgram.TheInside.{Inside}
use Rattle.sync_source.specs.declared.source.SyncThread.{SyncThread}
use Rattle.sync_source.specs.Source.{SyncText, SyncThreadText}
use Rattle.sync_source.specs.BlockView.{all_of}
use Rattle.sync_source.specs.Valid.{IsSyncText}

pub record SyncParts : Type 0 where
  pub classes : List ClassDef
  pub objects : List ObjectDef
  pub threads : List SyncThread

abbrev pub parts : Inside → SyncParts
parts a = record { classes = a.classes; objects = a.objects; threads = a.threads }

abbrev pub thread_text : SyncThread → SyncThreadText
thread_text t = record { name = t.name; locals = t.locals; body = all_of t.body.statements.items }

-- the program with blocks that has these parts
abbrev pub sync_text : SyncParts → SyncText
sync_text a = record { classes = a.classes; objects = a.objects; threads = map thread_text a.threads }

abbrev pub IsAllowed : Inside → Type 0
IsAllowed a = IsSyncText (sync_text (parts a))
