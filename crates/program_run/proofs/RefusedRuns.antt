-- Runs that are none, what tells no run's text, and lines that no run's entries come to.
use Rattle.std.proofs.Common.{◌≡◌, ℕ, ◌+◌, ◌*◌, ◌≤◌, Bool, false, if◌then◌else◌, List, [], ◌∷◌, ◌++◌, Some, None, Option}
use Rattle.std.proofs.Common.{length, take, IsSome, refl, sym, ap, ◌∙◌, subst, inl, inr, arith}
use Rattle.std.specs.List.{AllByRecursion, sum_by}
use Rattle.std.specs.Prelude.{decimal}
use Rattle.std.proofs.lemmas.Fmt.{decimal_digit}
use Rattle.std.proofs.lemmas.Option.{same_Some}
use Rattle.heap_table.specs.Seen.{ClosedSeen}
use Rattle.lock_journal.specs.MachineCells.{cells_in}
use Rattle.lock_journal.specs.RunText.{text_of_run}
use Rattle.lock_journal.specs.declared.record.ClassLine.{ClassLine}
use Rattle.lock_journal.specs.declared.record.RunRecord.{RunRecord}
use Rattle.lock_journal.specs.declared.record.Shot.{Shot}
use Rattle.lock_policy.specs.Policy.{rebias_threshold}
use Rattle.object_program.specs.Program.{ProgramText}
use Rattle.plain_history.specs.Cuts.{cut_logs}
use Rattle.plain_machine.specs.Legal.{machine_after}
use Rattle.plain_machine.specs.Machine.{PlainMachine}
use Rattle.plain_machine.specs.Running.{run_on}
use Rattle.plain_machine.specs.declared.monitor_call.Mode.TheVariants.{Unwinding}
use Rattle.plain_monitor.specs.Monitor.{free_monitor}
use Rattle.plain_monitor.specs.declared.entry.Ending.TheVariants as ending
use Rattle.plain_monitor.specs.declared.entry.Entry.TheVariants.{Done}
use Rattle.plain_monitor.specs.declared.entry.Logged.{Logged}
use Rattle.plain_monitor.specs.declared.entry.Value.TheVariants.{Ref}
use Rattle.plain_monitor.specs.History.{log_of}
use Rattle.single_thread_law.specs.LoneExample.{lone_end, lone_fuel, lone_logs, lone_program, lone_shots}
use Rattle.single_thread_law.specs.LoneRun.{NoneGoesOn, with_no_paths}
use Rattle.single_thread_law.proofs.LoneExample.{lone_cut}
use Rattle.thread_logs.specs.Passed.{IsOnTheWay}
use Rattle.program_run.specs.declared.settings.Settings.{Settings}
use Rattle.program_run.specs.Biases.{verdicts_on}
use Rattle.program_run.specs.PlainRun.{IsMadeBy, IsPlainRun, plain_text}
use Rattle.program_run.specs.Ran.{IsRan}
use Rattle.program_run.specs.Verdicts.{entries_in, most_verdicts}
use Rattle.program_run.proofs.PlainRuns.{plain_run}
use Rattle.program_run.proofs.Verdicts.{operations_few, revoked_late}

-- PLAIN RUNS. What a run of some settings makes is a plain run.
some_machine : (x : Option PlainMachine) → IsSome x → (m : PlainMachine) × (x ≡ Some m)
some_machine None is = cc
some_machine (Some m) is = (m, refl)

plain_of : (s : Settings) (p : ProgramText) (logs : List (List Logged)) (shots : List (List Shot)) → IsMadeBy s p logs shots
    → (m : PlainMachine) × IsPlainRun p s.fuel s.start logs shots m
plain_of s p logs shots made =
    let after = some_machine (machine_after p s.fuel made.run.logs) made.ran.legal.taken in
    let plain = plain_run s p made.run made.closed after.0 made.ran after.1 in (
      after.0,
      subst (λ (ls : List (List Logged)). IsPlainRun p s.fuel s.start ls shots after.0) made.logs_are
          (subst (λ (x : List (List Shot)). IsPlainRun p s.fuel s.start (with_no_paths made.run.logs) x after.0) made.shots_are plain),
    )

-- no settings make what is no plain run
none_made : (logs : List (List Logged)) (shots : List (List Shot))
    → ((start : ℕ) (m : PlainMachine) → IsPlainRun lone_program lone_fuel start logs shots m → ⊥)
    → (s : Settings) → s.fuel ≡ lone_fuel → IsMadeBy s lone_program logs shots → ⊥
none_made logs shots none s fuel made =
    let plain = plain_of s lone_program logs shots made in
    none s.start plain.0 (subst (λ (n : ℕ). IsPlainRun lone_program n s.start logs shots plain.0) fuel plain.1)

-- the machine before the thread's last entry
abbrev before_end : PlainMachine
before_end =
    record {
      program = lone_program;
      objects = record { monitor = free_monitor; slots = []; hash = None } ∷ [];
      made = [] ∷ [];
      threads =
          record {
            place = 5;
            locals = Ref 0 ∷ [];
            fuel = 4;
            holds = 0 ∷ [];
            dumps = 1;
            made = 0;
            mode = Unwinding ending.Done;
          } ∷ [];
    }

under_front : machine_after lone_program lone_fuel (cut_logs (4 ∷ []) lone_logs) ≡ Some before_end
unfolding run_on
under_front = refl

goes_on : NoneGoesOn before_end → ⊥
goes_on (inl h) = cc
goes_on (inr h) = cc

pub unfinished : (start : ℕ) (shots : List (List Shot)) (m : PlainMachine)
    → IsPlainRun lone_program lone_fuel start (cut_logs (4 ∷ []) lone_logs) shots m → ⊥
unfinished start shots m plain =
    goes_on (subst NoneGoesOn (same_Some m before_end (sym plain.under ∙ under_front)) plain.over)

pub made_unfinished : (s : Settings) (shots : List (List Shot)) → s.fuel ≡ lone_fuel
    → IsMadeBy s lone_program (cut_logs (4 ∷ []) lone_logs) shots → ⊥
made_unfinished s shots = none_made (cut_logs (4 ∷ []) lone_logs) shots (λ start. unfinished start shots) s

-- the last entry of the run, with a stamp too late by one
abbrev gapped : List (List Logged)
gapped = (take 4 (log_of lone_logs 0) ++ record { stamp = 6; entry = Done } ∷ []) ∷ []

pub late : (start : ℕ) (shots : List (List Shot)) (m : PlainMachine) → IsPlainRun lone_program lone_fuel start gapped shots m → ⊥
late start shots m plain =
    let stamp : 6 ≡ 5 = plain.stamps 0 (take 4 (log_of lone_logs 0)) (record { stamp = 6; entry = Done }) [] refl in omega (arith, stamp)

pub made_late : (s : Settings) (shots : List (List Shot)) → s.fuel ≡ lone_fuel → IsMadeBy s lone_program gapped shots → ⊥
made_late s shots = none_made gapped shots (λ start. late start shots) s

-- TEXTS
module _ (start : ℕ) (bias halted : Bool) (classes : List ClassLine) where
  abbrev record_of : RunRecord
  record_of =
      record {
        program = lone_program;
        fuel = lone_fuel;
        start = start;
        bias = bias;
        logs = lone_logs;
        shots = lone_shots;
        classes = classes;
        halted = halted;
      }

  pub other_text : text_of_run false false record_of lone_end ≡ plain_text lone_program lone_logs [] lone_end → ⊥
  other_text same =
      let one : decimal 1 ≡ 49 ∷ [] = decimal_digit 1 (omega arith) in
      let lengths = simp one at (ap (λ (text : List ℕ). length text) same) in
      absurd (omega (arith, lengths))

-- DUMPS
pub wrong_dump : (m : PlainMachine) → IsOnTheWay lone_program lone_fuel lone_logs (1 ∷ []) lone_end m
    → record { owner = None; count = 0 } ∷ [] ≡ cells_in m → ⊥
unfolding run_on
wrong_dump m way cells =
    let is : m ≡ lone_cut = same_Some m lone_cut (sym way.under ∙ refl) in
    let counts = ap (λ x. sum_by (λ cell. cell.count) x) (cells ∙ ap cells_in is) in
    omega (arith, counts)

-- VERDICTS
most_is : (r : RunRecord) → entries_in r.logs ≡ 4 → r.halted ≡ false → most_verdicts r ≡ 4
most_is r entries live =
    let more = ap (λ (b : Bool). if b then length r.logs else 0) live in omega (arith, entries, more)

pub more_verdicts : (r : RunRecord) (line : ClassLine) → entries_in r.logs ≡ 4 → r.halted ≡ false → r.classes ≡ line ∷ [] → line.single ≡ 5
    → sum_by verdicts_on r.classes ≤ most_verdicts r → ⊥
more_verdicts r line entries live classes five few =
    let most = most_is r entries live in
    let sum = ap (λ (lines : List ClassLine). sum_by verdicts_on lines) classes in
    omega (arith, most, sum, five, few)

pub too_early : (r : RunRecord) (line : ClassLine) → entries_in r.logs ≡ 4 → r.halted ≡ false → r.classes ≡ line ∷ [] → line.rebias ≡ 1
    → rebias_threshold * sum_by (λ (l : ClassLine). l.rebias + l.revoke) r.classes ≤ most_verdicts r → ⊥
too_early r line entries live classes one few =
    let most = most_is r entries live in
    let sum = ap (λ (lines : List ClassLine). sum_by (λ (l : ClassLine). l.rebias + l.revoke) lines) classes in
    omega (arith, most, sum, one, few)

pub no_run_so_early : (s : Settings) (p : ProgramText) (r : RunRecord) (c : ClosedSeen) (line : ClassLine) → entries_in r.logs ≡ 4
    → r.halted ≡ false → r.classes ≡ line ∷ [] → line.rebias ≡ 1 → IsRan s p r c → ⊥
no_run_so_early s p r c line entries live classes one ran =
    too_early r line entries live classes one (operations_few r c ran.biases)

pub no_run_revoked_so_early : (s : Settings) (p : ProgramText) (r : RunRecord) (c : ClosedSeen) (line : ClassLine) → entries_in r.logs ≡ 4
    → r.halted ≡ false → r.classes ≡ line ∷ [] → line.revoke ≡ 1 → IsRan s p r c → ⊥
no_run_revoked_so_early s p r c line entries live classes one ran =
    let most = most_is r entries live in
    let none = revoked_late r c ran.biases (omega (arith, most)) in
    let here = subst (AllByRecursion (λ (l : ClassLine). l.revoke ≡ 0)) classes none in
    omega (arith, one, here.0)
