-- The program that counts to two under a monitor, and what it logs.
use Rattle.std.specs.Prelude.{ℕ, ◌+◌, pos, false, List, [], ◌∷◌, ◌++◌, codes}
use Rattle.plain_monitor.specs.declared.entry.Value.TheVariants.{Int}
use Rattle.plain_monitor.specs.declared.entry.Path.TheVariants.{StackFirst}
use Rattle.plain_monitor.specs.declared.entry.Entry.{Entry}
use Rattle.plain_monitor.specs.declared.entry.Entry.TheVariants as entry
use Rattle.plain_monitor.specs.declared.entry.Logged.{Logged}
use Rattle.object_program.specs.declared.program.Code.TheVariants.{Set, Add, Ref, Print, End}
use Rattle.sync_source.specs.Source.{Statements, Nothing, Plain, Sync, While, SyncText}

abbrev pub round : Statements
round = Sync 0 (Plain (Print 1) Nothing) (Plain (Add 1 1 3) Nothing)

abbrev pub loop : Statements
loop = While (record { equal = false; x = 1; y = 2 }) round (Plain End Nothing)

abbrev pub counting : Statements
counting = Plain (Ref 0 0) (Plain (Set 1 (pos 0)) (Plain (Set 2 (pos 2)) (Plain (Set 3 (pos 1)) loop)))

-- the same with one class, one object and four locals
abbrev pub counting_text : SyncText
counting_text =
    record {
      classes = record { name = codes "C"; slots = 1 } ∷ [];
      objects = record { name = codes "a"; class = 0; first = 0; size = 1; array = false } ∷ [];
      threads = record { name = codes "t1"; locals = codes "o" ∷ codes "i" ∷ codes "n" ∷ codes "one" ∷ []; body = counting } ∷ [];
    }

-- an entry with its stamp
abbrev pub at : ℕ → Entry → Logged
at n e = record { stamp = n; entry = e }

-- a pass: what it logs from the stamp n on, where it prints the number k
abbrev pub pass : ℕ → ℕ → List Logged
pass n k = at n (entry.Enter 0 StackFirst) ∷ at (n + 1) (entry.Print (Int (pos k))) ∷ at (n + 2) (entry.Exit 0) ∷ []

-- both passes, and then this end
abbrev pub passes : Entry → List (List Logged)
passes last = (pass 1 0 ++ pass 4 1 ++ at 7 last ∷ []) ∷ []
