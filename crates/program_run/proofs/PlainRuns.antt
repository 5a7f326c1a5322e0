-- What a run is by what neither its workers nor its biases tell.
use Rattle.std.proofs.Common.{◌≡◌, false, ◌++◌, [], append-nil, Some, sym, ap, ◌∙◌}
use Rattle.std.proofs.lemmas.List.{length-map}
use Rattle.core_law.specs.Draws.{HasDraws}
use Rattle.hash_laws.proofs.LegalHashes.{fitting_hashes_are_draws, legal_hashes_fit}
use Rattle.heap_table.specs.Seen.{ClosedSeen}
use Rattle.lock_journal.specs.RunText.{text_of_lines, text_of_run, thread_lines}
use Rattle.lock_journal.specs.declared.record.RunRecord.{RunRecord}
use Rattle.single_thread_law.specs.LoneRun.{with_no_paths}
use Rattle.object_program.specs.Program.{ProgramText}
use Rattle.plain_machine.specs.Legal.{machine_after}
use Rattle.plain_machine.specs.Machine.{PlainMachine}
use Rattle.plain_monitor.specs.Order.{order}
use Rattle.program_run.specs.declared.settings.Settings.{Settings}
use Rattle.program_run.specs.PlainRun.{IsPlainRun, plain_text}
use Rattle.program_run.specs.Ran.{IsRan}
use Rattle.program_run.proofs.Lone.{is_over}
use Rattle.program_run.proofs.BareShots.{shots_to}
use Rattle.program_run.proofs.NoPaths.{after_bare, all_twice, bare, draws_to, legal_to, prints, prints_bare, stamps_to}

module _ (s : Settings) (p : ProgramText) (r : RunRecord) (c : ClosedSeen) (m : PlainMachine) (ran : IsRan s p r c)
    (under : machine_after p s.fuel r.logs ≡ Some m) where
  draws : HasDraws s.start (with_no_paths r.logs)
  draws = draws_to s.start r.logs (fitting_hashes_are_draws p s.fuel s.start r.logs ran.legal ran.hashes ran.first)

  pub plain_run : IsPlainRun p s.fuel s.start (with_no_paths r.logs) r.shots m
  plain_run =
      record {
        pathless = all_twice r.logs;
        all_logs = length-map r.logs bare ∙ ran.all.logs;
        all_shots = ran.all.shots;
        legal = legal_to p s.fuel r.logs ran.legal;
        under = after_bare p s.fuel r.logs ∙ under;
        over = is_over m r.halted (ran.over m under);
        right = shots_to p s.fuel r.logs r.shots ran.shots;
        hashes = legal_hashes_fit p s.fuel s.start (with_no_paths r.logs) (legal_to p s.fuel r.logs ran.legal) draws;
        first = draws.first;
        stamps = stamps_to r.logs ran.stamps;
      }

  pub plain_text_is : text_of_run false false r m ≡ plain_text p (with_no_paths r.logs) r.shots m
  plain_text_is =
      ap (λ (x : ProgramText). text_of_lines (prints x r.shots (order r.logs) ++ thread_lines m 0 m.threads ++ [] ++ [])) ran.of.program
      ∙ ap text_of_lines (append-nil (prints p r.shots (order r.logs) ++ thread_lines m 0 m.threads ++ [])
      ∙ append-nil (prints p r.shots (order r.logs) ++ thread_lines m 0 m.threads))
      ∙ ap (λ xs. text_of_lines (xs ++ thread_lines m 0 m.threads)) (sym (prints_bare p r.shots r.logs))
