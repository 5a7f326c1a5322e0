-- A program of one thread, which prints nil; and its log, after which there are sixteen others that are empty.
use Rattle.std.specs.Prelude.{List, [], ◌∷◌, codes, replicate}
use Rattle.object_program.specs.Program.{ProgramText}
use Rattle.object_program.specs.declared.program.Code.TheVariants as code
use Rattle.plain_monitor.specs.declared.entry.Entry.TheVariants.{Print, Done}
use Rattle.plain_monitor.specs.declared.entry.Logged.{Logged}
use Rattle.plain_monitor.specs.declared.entry.Value.TheVariants.{Nil}

abbrev pub printer : ProgramText
printer =
    record {
      classes = [];
      objects = [];
      threads =
          record {
            name = codes "t";
            locals = codes "x" ∷ [];
            labels = [];
            code = code.Print 0 ∷ code.End ∷ [];
          } ∷ [];
    }

abbrev pub seventeen_logs : List (List Logged)
seventeen_logs =
    (record { stamp = 1; entry = Print Nil } ∷ record { stamp = 2; entry = Done } ∷ []) ∷ replicate 16 []
