-- The shots of a run over its logs, and over these without the paths of enters.
use Rattle.std.proofs.Common.{◌≡◌, ℕ, ◌+◌, List, [], ◌∷◌, length, refl, sym, ap, ◌∙◌, arith}
use Rattle.std.specs.List.{AllByRecursion}
use Rattle.std.proofs.lemmas.List.{length-map}
use Rattle.core_world.specs.Shots.{dumps_from, placed}
use Rattle.lock_journal.specs.declared.record.Shot.{Shot}
use Rattle.single_thread_law.specs.LoneRun.{with_no_path, with_no_paths, without_path}
use Rattle.object_program.specs.Program.{ProgramText}
use Rattle.plain_history.specs.Cuts.{cut_logs}
use Rattle.plain_machine.specs.Legal.{machine_after}
use Rattle.plain_monitor.specs.declared.entry.Entry.{Entry}
use Rattle.plain_monitor.specs.declared.entry.Entry.TheVariants as entry
use Rattle.plain_monitor.specs.declared.entry.Logged.{Logged}
use Rattle.plain_monitor.specs.History.{log_of}
use Rattle.program_run.specs.Shots.{AreRightShots, IsRightShot, shots_of}
use Rattle.program_run.proofs.BareCuts.{cut_bare, in_order_from, in_order_to}
use Rattle.program_run.proofs.NoPaths.{after_bare, bare, log_bare}

placed_bare : (n : ℕ) (e : Entry) (rest : List (ℕ × ℕ)) → placed n (without_path e) rest ≡ placed n e rest
placed_bare n (entry.Enter o path) rest = refl
placed_bare n e rest = refl

dumps_bare : (n : ℕ) (log : List Logged) → dumps_from n (bare log) ≡ dumps_from n log
dumps_bare n [] = refl
dumps_bare n (l ∷ log) =
    ap (placed n (without_path l.entry)) (dumps_bare (n + 1) log) ∙ placed_bare n l.entry (dumps_from (n + 1) log)

length_at : (logs : List (List Logged)) (t : ℕ) → length (log_of (with_no_paths logs) t) ≡ length (log_of logs t)
length_at logs t = ap (λ (log : List Logged). length log) (log_bare logs t) ∙ length-map (log_of logs t) with_no_path

right_to : (p : ProgramText) (fuel : ℕ) (logs : List (List Logged)) (shot : Shot) → IsRightShot p fuel logs shot
    → IsRightShot p fuel (with_no_paths logs) shot
right_to p fuel logs shot s =
    record {
      threads = s.threads ∙ sym (length-map logs bare);
      within = λ u. let few = s.within u in let same = length_at logs u in omega (arith, few, same);
      in_order = in_order_to shot.cut logs s.in_order;
      machine = s.machine;
      under = ap (machine_after p fuel) (cut_bare shot.cut logs) ∙ after_bare p fuel (cut_logs shot.cut logs) ∙ s.under;
      cells = s.cells;
    }

all_right_to : (p : ProgramText) (fuel : ℕ) (logs : List (List Logged)) (shots : List Shot) → AllByRecursion (IsRightShot p fuel logs) shots
    → AllByRecursion (IsRightShot p fuel (with_no_paths logs)) shots
all_right_to p fuel logs [] all = tt
all_right_to p fuel logs (shot ∷ shots) all = (right_to p fuel logs shot all.0, all_right_to p fuel logs shots all.1)

pub shots_to : (p : ProgramText) (fuel : ℕ) (logs : List (List Logged)) (shots : List (List Shot)) → AreRightShots p fuel logs shots
    → AreRightShots p fuel (with_no_paths logs) shots
shots_to p fuel logs shots s =
    record {
      right = λ t. all_right_to p fuel logs (shots_of shots t) (s.right t);
      dumps = λ t. s.dumps t ∙ sym (ap (dumps_from 0) (log_bare logs t) ∙ dumps_bare 0 (log_of logs t));
      ordered = s.ordered;
    }

right_from : (p : ProgramText) (fuel : ℕ) (logs : List (List Logged)) (shot : Shot) → IsRightShot p fuel (with_no_paths logs) shot
    → IsRightShot p fuel logs shot
right_from p fuel logs shot s =
    record {
      threads = s.threads ∙ length-map logs bare;
      within = λ u. let few = s.within u in let same = length_at logs u in omega (arith, few, same);
      in_order = in_order_from shot.cut logs s.in_order;
      machine = s.machine;
      under = sym (ap (machine_after p fuel) (cut_bare shot.cut logs) ∙ after_bare p fuel (cut_logs shot.cut logs)) ∙ s.under;
      cells = s.cells;
    }

all_right_from : (p : ProgramText) (fuel : ℕ) (logs : List (List Logged)) (shots : List Shot)
    → AllByRecursion (IsRightShot p fuel (with_no_paths logs)) shots → AllByRecursion (IsRightShot p fuel logs) shots
all_right_from p fuel logs [] all = tt
all_right_from p fuel logs (shot ∷ shots) all = (right_from p fuel logs shot all.0, all_right_from p fuel logs shots all.1)

pub shots_from : (p : ProgramText) (fuel : ℕ) (logs : List (List Logged)) (shots : List (List Shot))
    → AreRightShots p fuel (with_no_paths logs) shots → AreRightShots p fuel logs shots
shots_from p fuel logs shots s =
    record {
      right = λ t. all_right_from p fuel logs (shots_of shots t) (s.right t);
      dumps = λ t. s.dumps t ∙ ap (dumps_from 0) (log_bare logs t) ∙ dumps_bare 0 (log_of logs t);
      ordered = s.ordered;
    }
