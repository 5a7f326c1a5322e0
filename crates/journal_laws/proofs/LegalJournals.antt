-- The journal of a run is legal.
use Rattle.std.proofs.Common.{◌≡◌, ℕ, ◌≤◌, not, cond, Bool, true, false, List, length, Some, refl, sym, ◌∙◌, Ok}
use Rattle.std.specs.List.{list_all}
use Rattle.plain_monitor.specs.Limits.{most_fuel}
use Rattle.plain_monitor.specs.declared.entry.Logged.{Logged}
use Rattle.plain_monitor.specs.Order.{order}
use Rattle.plain_history.specs.ExactStamps.{StampsAreExact}
use Rattle.object_program.specs.Program.{ProgramText}
use Rattle.object_program.specs.Valid.{IsProgram}
use Rattle.plain_machine.specs.Legal.{IsLegal, machine_after}
use Rattle.plain_machine.specs.Machine.{PlainMachine, is_live, is_stuck}
use Rattle.machine_laws.proofs.ReachedOver.{ended_is_not_stuck}
use Rattle.bias_check.specs.declared.answer.Checked.TheVariants.{Legal}
use Rattle.bias_check.specs.declared.answer.Reached.TheVariants.{Ended, Stuck, Open}
use Rattle.bias_check.specs.Answer.{IsTrueOf, state_of}
use Rattle.lock_journal.specs.Hashes.{hash_fits}
use Rattle.bias_check.specs.Printed.{journal_of}
use Rattle.bias_check.proofs.JournalsRun.{journal_run}
use Rattle.std.proofs.lemmas.Bool.{false≢true}
use Rattle.journal_laws.proofs.EntriesTold.{all_tellable}

pub legal_journal : (p : ProgramText) (fuel start : ℕ) (logs : List (List Logged)) (m : PlainMachine) → IsProgram p → fuel ≤ most_fuel
    → IsLegal p fuel logs → StampsAreExact logs → ((o : ℕ) → hash_fits start (order logs) o ≡ true) → machine_after p fuel logs ≡ Some m
    → IsTrueOf p fuel start (journal_of p logs) (Ok (Legal (length (order logs)) (state_of m)))
legal_journal p fuel start logs m is few legal exact fits under =
    record {
      entries = order logs;
      machine = m;
      run = journal_run p fuel logs m legal.rises under (all_tellable p fuel start logs is few legal exact fits);
      fits = fits;
      counted = refl;
      stands = refl;
    }

pub ended_state : (m : PlainMachine) → list_all (λ s. not (is_live s)) m.threads ≡ true → state_of m ≡ Ended
ended_state m h = rw h refl

pub stuck_state : (m : PlainMachine) → is_stuck m ≡ true → state_of m ≡ Stuck
stuck_state m h = by_test (list_all (λ s. not (is_live s)) m.threads) refl
  where
    by_test : (b : Bool) → list_all (λ s. not (is_live s)) m.threads ≡ b → cond b Ended (cond (is_stuck m) Stuck Open) ≡ Stuck
    by_test true ended = absurd (false≢true (sym (ended_is_not_stuck m ended) ∙ h))
    by_test false live = rw h refl
