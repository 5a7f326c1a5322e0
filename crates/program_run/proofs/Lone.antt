-- A run of a program of one thread is one of a log alone.
use Rattle.std.proofs.Common.{◌≡◌, ℕ, Bool, true, false, List, [], ◌∷◌, length, take, slice_index, Some, refl, sym, ap, ◌∙◌, inl, inr, arith}
use Rattle.std.specs.List.{AllByRecursion}
use Rattle.core_law.specs.Draws.{HasDraws}
use Rattle.hash_laws.proofs.LegalHashes.{fitting_hashes_are_draws}
use Rattle.heap_table.specs.Seen.{ClosedSeen}
use Rattle.lock_journal.specs.declared.record.RunRecord.{RunRecord}
use Rattle.lock_journal.specs.declared.record.Shot.{Shot}
use Rattle.single_thread_law.specs.LoneRun.{IsLoneRun}
use Rattle.single_thread_law.specs.LoneRun as lone
use Rattle.single_thread_law.specs.Shots.{IsShotOfLog, HasShotsOf}
use Rattle.object_program.specs.Program.{ProgramText}
use Rattle.plain_machine.specs.Legal.{machine_after}
use Rattle.plain_machine.specs.Machine.{PlainMachine}
use Rattle.plain_monitor.specs.declared.entry.Logged.{Logged}
use Rattle.plain_monitor.specs.History.{log_of}
use Rattle.plain_history.specs.Cuts.{cut_logs}
use Rattle.run_rounds.specs.Outcome.{IsOver}
use Rattle.program_run.specs.declared.settings.Settings.{Settings}
use Rattle.program_run.specs.Ran.{IsRan}
use Rattle.program_run.specs.Shots.{IsRightShot, AreRightShots, shots_of}

-- one log is cut by one number
cut_one : (cut : List ℕ) (logs : List (List Logged)) → length logs ≡ 1 → length cut ≡ length logs
    → cut_logs cut logs ≡ take (slice_index cut 0) (log_of logs 0) ∷ []
cut_one [] [] one same = absurd (omega (arith, one))
cut_one [] (log ∷ logs) one same = absurd (omega (arith, same))
cut_one (n ∷ ns) [] one same = absurd (omega (arith, one))
cut_one (n ∷ []) (log ∷ []) one same = refl
cut_one (n ∷ []) (log ∷ more ∷ logs) one same = absurd (omega (arith, one))
cut_one (n ∷ k ∷ ns) (log ∷ logs) one same = absurd (omega (arith, one, same))

shot_of : (p : ProgramText) (fuel : ℕ) (logs : List (List Logged)) (shot : Shot) → length logs ≡ 1 → IsRightShot p fuel logs shot
    → IsShotOfLog p fuel (log_of logs 0) shot
shot_of p fuel logs shot one s =
    record { machine = s.machine; under = ap (machine_after p fuel) (sym (cut_one shot.cut logs one s.threads)) ∙ s.under; cells = s.cells }

shots_right : (p : ProgramText) (fuel : ℕ) (logs : List (List Logged)) (shots : List Shot) → length logs ≡ 1
    → AllByRecursion (IsRightShot p fuel logs) shots → AllByRecursion (IsShotOfLog p fuel (log_of logs 0)) shots
shots_right p fuel logs [] one all = tt
shots_right p fuel logs (s ∷ shots) one all = (shot_of p fuel logs s one all.0, shots_right p fuel logs shots one all.1)

has_shots : (p : ProgramText) (fuel : ℕ) (r : RunRecord) → length r.logs ≡ 1 → AreRightShots p fuel r.logs r.shots → HasShotsOf p fuel r
has_shots p fuel r one s = record { right = shots_right p fuel r.logs (shots_of r.shots 0) one (s.right 0); dumps = s.dumps 0 }

pub is_over : (m : PlainMachine) (halted : Bool) → IsOver m halted → lone.NoneGoesOn m
is_over m true h = inl h
is_over m false h = inr h

module _ (s : Settings) (p : ProgramText) (r : RunRecord) (c : ClosedSeen) (alone : length p.threads ≡ 1) (ran : IsRan s p r c) where
  one_log : length r.logs ≡ 1
  one_log = ran.all.logs ∙ alone

  draws : HasDraws s.start r.logs
  draws = fitting_hashes_are_draws p s.fuel s.start r.logs ran.legal ran.hashes ran.first

  pub lone_run : (m : PlainMachine) → machine_after p s.fuel r.logs ≡ Some m → IsLoneRun p s.fuel s.start r.logs m
  lone_run m under =
      record {
        one = one_log;
        rises = ran.legal.rises;
        under = under;
        over = is_over m r.halted (ran.over m under);
        drawn = draws.drawn;
        one_drawn = draws.one;
        drawn_first = ran.first;
        exact = ran.stamps;
      }

  pub lone_shots : HasShotsOf p s.fuel r
  lone_shots = has_shots p s.fuel r one_log ran.shots
