-- What is written of a run whose machine isn't at hand.
use Rattle.std.proofs.Common.{◌≡◌, ℕ, ◌+◌, Bool, true, false, List, [], ◌∷◌, ◌++◌, map, Option, Some, None, IsSome, refl, ap, sym, ◌∙◌, append-nil}
use Rattle.std.specs.List.{list_any}
use Rattle.plain_monitor.specs.declared.entry.Ending.{Ending}
use Rattle.plain_monitor.specs.declared.entry.Logged.{Logged}
use Rattle.plain_monitor.specs.Order.{order}
use Rattle.object_program.specs.Program.{ProgramText}
use Rattle.plain_machine.specs.Thread.{ThreadState}
use Rattle.plain_machine.specs.Machine.{PlainMachine, ending_in}
use Rattle.plain_machine.specs.Legal.{machine_after}
use Rattle.machine_laws.proofs.Ended.{EndedAt, ended_at, never_stuck}
use Rattle.heap_table.specs.Seen.{ClosedSeen}
use Rattle.machine_laws.specs.LogEnds.{last_said}
use Rattle.lock_journal.specs.LinesLeft.{prints_of, lines_of_ended}
use Rattle.lock_journal.specs.EndedLines.{ended_lines, said_text}
use Rattle.lock_journal.specs.RunText.{class_lines, journal_line, lines_of_run, only_where, state_text, thread_lines}
use Rattle.lock_journal.specs.declared.record.RunRecord.{RunRecord}
use Rattle.cli_args.specs.declared.options.Options.{Options}
use Rattle.bias_cli.specs.Finish.{IsRunOf, is_cut_short, status_of}
use Rattle.bias_cli.specs.Report.{IsReportWhere}
use Rattle.bias_cli.proofs.Under.{under_logs}
use Rattle.bias_cli.specs.inner.Briefly.{IsRunBy, IsReportBy, lines_by, logs_cut_short, status_by}

-- the machine under the record, where a run is told of without it, and what it says
pub record IsUnder (o : Options) (p : ProgramText) (r : RunRecord) (c : ClosedSeen) (at : Option PlainMachine) (report : List (List ℕ)) : Type 0 where
  pub machine : PlainMachine
  pub run : IsRunOf o p r c machine
  pub status : status_by r at ≡ status_of machine
  pub lines : lines_by o.stats o.journal r at ≡ lines_of_run o.stats o.journal r machine
  pub reported : IsReportWhere o.report r machine report

cut_same : (ss : List ThreadState) (logs : List (List Logged)) → EndedAt ss logs → list_any (λ s. is_cut_short (ending_in s.mode)) ss ≡ logs_cut_short logs
cut_same [] [] h = refl
cut_same [] (log ∷ logs) h = absurd h
cut_same (s ∷ ss) [] h = absurd h
cut_same (s ∷ ss) (log ∷ logs) h = rw (h.0, cut_same ss logs h.2) refl

state_said : (m : PlainMachine) (t : ℕ) (r q : Option Ending) → r ≡ q → IsSome q → state_text m t r ≡ said_text q
state_said m t None None same some = absurd (cc some)
state_said m t None (Some e) same some = absurd (cc same)
state_said m t (Some e) None same some = absurd (cc same)
state_said m t (Some e) (Some f) same some = ap (λ (r : Option Ending). said_text r) same

lines_from : (m : PlainMachine) (t : ℕ) (ss : List ThreadState) (logs : List (List Logged))
    → EndedAt ss logs → thread_lines m t ss ≡ ended_lines m.program t logs
lines_from m t [] [] h = refl
lines_from m t [] (log ∷ logs) h = absurd h
lines_from m t (s ∷ ss) [] h = absurd h
lines_from m t (s ∷ ss) (log ∷ logs) h =
    rw (state_said m t (ending_in s.mode) (last_said log) h.0 h.1, lines_from m (t + 1) ss logs h.2) refl

-- where each log ends with its ending, the lines on threads are those that the logs say
lines_said : (p : ProgramText) (fuel : ℕ) (logs : List (List Logged)) (m : PlainMachine) → machine_after p fuel logs ≡ Some m → EndedAt m.threads logs
    → thread_lines m 0 m.threads ≡ ended_lines p 0 logs
lines_said p fuel logs m after ended = lines_from m 0 m.threads logs ended ∙ ap (λ q. ended_lines q 0 logs) (under_logs p fuel logs m after).program

-- nothing is added that isn't asked for
unasked : (asked : Bool) (xs ys : List (List ℕ)) → asked ≡ false → ys ≡ ys ++ only_where asked xs
unasked false xs ys h = sym (append-nil ys)
unasked true xs ys h = absurd (cc h)

-- so are all lines, where no statistics are asked for
lines_same : (stats journal : Bool) (r : RunRecord) (m : PlainMachine) → stats ≡ false → thread_lines m 0 m.threads ≡ ended_lines r.program 0 r.logs
    → lines_of_ended journal r ≡ lines_of_run stats journal r m
lines_same stats journal r m none same =
    let said = prints_of r (order r.logs) in
    let classes = class_lines r.program m 0 r.classes (order r.logs) in
    ap (λ lines. lines ++ only_where journal (map (journal_line r.program) (order r.logs)))
    (ap (λ lines. said ++ lines) (sym same) ∙ unasked stats classes (said ++ thread_lines m 0 m.threads) none)

unreported : (asked : Bool) (r : RunRecord) (m : PlainMachine) (report : List (List ℕ)) → asked ≡ false → report ≡ [] → IsReportWhere asked r m report
unreported false r m report e none = none
unreported true r m report e none = absurd (cc e)

some_machine : (x : Option PlainMachine) → IsSome x → (m : PlainMachine) × (x ≡ Some m)
some_machine None h = absurd (cc h)
some_machine (Some m) h = (m, refl)

pub is_under : (o : Options) (p : ProgramText) (r : RunRecord) (c : ClosedSeen) (at : Option PlainMachine) (report : List (List ℕ)) → IsRunBy o p r c at
    → IsReportBy o.report r at report → IsUnder o p r c at report
is_under o p r c (Some m) report run reported =
    let ran = run.ran in
    record {
      machine = m;
      run = record { ran = ran; under = rw (ran.of.program, ran.of.fuel) at run.told };
      status = refl;
      lines = refl;
      reported = reported;
    }
is_under o p r c None report run reported =
    let ran = run.ran in
    let told = run.told in
    let there = some_machine (machine_after p o.fuel r.logs) ran.legal.taken in
    let m = there.0 in
    let each = ended_at p o.fuel r.logs m ran.legal there.1 ran.all.logs told.0 in
    record {
      machine = m;
      run = record { ran = ran; under = there.1 };
      status = sym (rw (never_stuck p o.fuel r.logs m ran.legal there.1 ran.all.logs told.0, cut_same m.threads r.logs each) refl);
      lines = lines_same o.stats o.journal r m told.2 (rw ran.of.program (lines_said p o.fuel r.logs m there.1 each));
      reported = unreported o.report r m report told.1 reported;
    }
