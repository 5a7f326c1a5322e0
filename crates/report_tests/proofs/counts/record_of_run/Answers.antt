use Rattle.std.proofs.Common.{◌≡◌, false, codes, List, [], ◌∷◌, IsSome, refl, sym, subst, arith}
use Rattle.std.proofs.lemmas.Grind.{common_steps}
use Rattle.plain_monitor.specs.declared.entry.Logged.{Logged}
use Rattle.object_program.specs.Program.{ProgramText}
use Rattle.plain_machine.specs.Running.{run_on}
use Rattle.plain_machine.specs.Legal.{IsLegal, machine_after}
use Rattle.report_tests.specs.declared.counts.TheConstants.{CODE_OF_T1, CODE_OF_T2, LOG_OF_T1, LOG_OF_T2}
use Rattle.report_tests.proofs.counts.record_of_run.Goals as goal

-- the program, and its logs
abbrev two_threads : ProgramText
two_threads = record {
  classes = record { name = codes "C"; slots = 0 } ∷ [];
  objects =
      record { name = codes "a"; class = 0; first = 0; size = 1; array = false }
      ∷ record { name = codes "b"; class = 0; first = 1; size = 1; array = false }
      ∷ record { name = codes "c"; class = 0; first = 2; size = 1; array = false } ∷ [];
  threads =
      record { name = codes "t1"; locals = codes "x" ∷ []; labels = []; code = CODE_OF_T1 }
      ∷ record { name = codes "t2"; locals = codes "x" ∷ []; labels = []; code = CODE_OF_T2 } ∷ [];
}

abbrev two_logs : List (List Logged)
two_logs = LOG_OF_T1 ∷ LOG_OF_T2 ∷ []

-- the machine takes them all
taken : IsSome (machine_after two_threads 100 two_logs)
unfolding run_on
taken = refl

legal : IsLegal two_threads 100 two_logs
legal = record { rises = grind arith; taken = taken }

pub returns : goal.returns
returns c =
    let logs : c.of-3.result ≡ two_logs = grind (arith, common_steps) in
    subst (λ (p : ProgramText). IsLegal p 100 c.of-3.result) (sym c.in_ok-program.ensures) (subst (IsLegal two_threads 100) (sym logs) legal)
