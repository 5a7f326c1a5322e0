-- What doesn't hold of calls, records and answers that are wrong in one way.
use Rattle.std.proofs.Common.{◌≡◌, ◌≢◌, ◌⊎◌, inl, inr, ℕ, zero, suc, ◌+◌, ◌<◌, ◌≤◌, ◌^◌, Bool, true, false, if◌then◌else◌, codes, decimal, length}
use Rattle.std.proofs.Common.{List, [], ◌∷◌, ◌++◌, map, slice_get, slice_index, sum, take, Option, Some, None, Ok, refl, sym, ap, ◌∙◌, arith, true≢false}
use Rattle.std.proofs.lemmas.Bool.{lt-ltb}
use Rattle.std.proofs.lemmas.List.{length-append, length-map}
use Rattle.std.proofs.lemmas.Option.{none-some, same_Some}
use Rattle.std.specs.List.{flat_map}
use Rattle.heap_table.specs.Seen.{ClosedSeen}
use Rattle.plain_monitor.specs.declared.entry.Ending.TheVariants.{Done, Trap}
use Rattle.plain_monitor.specs.declared.entry.Fault.TheVariants.{NotRef}
use Rattle.plain_monitor.specs.declared.entry.Logged.{Logged}
use Rattle.plain_monitor.specs.declared.entry.Value.TheVariants.{Nil, Ref}
use Rattle.plain_monitor.specs.History.{last_above, log_of}
use Rattle.plain_monitor.specs.Limits.{most_fuel}
use Rattle.plain_monitor.specs.Order.{order}
use Rattle.object_program.specs.Program.{ProgramText}
use Rattle.object_program.specs.Valid.{IsProgram}
use Rattle.program_syntax.specs.Refusal.{program_of}
use Rattle.plain_machine.specs.Legal.{IsLegal, machine_after}
use Rattle.plain_machine.specs.Machine.{PlainMachine, is_stuck}
use Rattle.plain_machine.specs.Running.{run_on}
use Rattle.plain_machine.specs.Thread.{ThreadState}
use Rattle.plain_machine.specs.declared.monitor_call.Mode.{Mode}
use Rattle.plain_machine.specs.declared.monitor_call.Mode.TheVariants.{Ended, Waiting}
use Rattle.lock_journal.specs.RunText.{class_lines, journal_line, lines_of_run, only_where, printed, text_of_lines, text_of_run, thread_lines}
use Rattle.lock_journal.specs.declared.record.RunRecord.{RunRecord}
use Rattle.single_thread_law.specs.LoneExample.{lone_end, lone_fuel, lone_logs, lone_program}
use Rattle.single_thread_law.specs.LoneRun.{AreSameButForPaths}
use Rattle.every_outcome.specs.Covered.{IsSeen}
use Rattle.every_outcome.specs.Fuel.{HasSpent, is_spent, refuelled}
use Rattle.outcome_search.specs.Outcomes.{top_fuel}
use Rattle.bias_check.specs.declared.answer.Checked.TheVariants.{Legal}
use Rattle.bias_check.specs.declared.answer.Reached.{Reached}
use Rattle.bias_check.specs.declared.answer.Reached.TheVariants as reached
use Rattle.bias_check.specs.Answer.{IsTrueOf}
use Rattle.bias_check.specs.Parts.{has_journal, journal_part, program_part}
use Rattle.bias_check.specs.Printed.{journal_of}
use Rattle.bias_check.specs.Steps.{IsRun}
use Rattle.cli_args.specs.declared.options.Command.{Command}
use Rattle.cli_args.specs.declared.options.Options.{Options}
use Rattle.sync_source.specs.Compiled.{compiled}
use Rattle.sync_source.specs.Source.{SyncText}
use Rattle.bias_cli.specs.declared.finish.Finish.{Finish}
use Rattle.bias_cli.specs.Example.{faulted_end, in_mode, later_logs, lone_lines, lone_options, nothing_held, printing, waiting_end}
use Rattle.bias_cli.specs.Finish.{Checks, Due, Finds, IsFinish, IsGivenUp, IsRunOf, IsWritten, LeavesRun, Meets, Runs, RunsBlocks, Tells}
use Rattle.bias_cli.specs.Finish.{check_due, journal_due, run_due, status_of, sync_due}
use Rattle.bias_cli.specs.Input.{most_of_journal}
use Rattle.bias_cli.specs.MayBeWritten.{IsAllowedBy, MayBeWritten, WroteAllowed}
use Rattle.bias_cli.specs.Seen.{SourceSeen, SinkSeen}
use Rattle.bias_cli.specs.Verdict.{IsVerdict, with_journal}
use Rattle.bias_cli.proofs.Exemplified.{made_run}
use Rattle.bias_cli.proofs.JournalsLegal.{journal_only}
use Rattle.bias_cli.proofs.LoneRuns.{same_machines}
use Rattle.bias_cli.proofs.PlainRuns.{all_allowed}
use Rattle.bias_cli.proofs.Statuses.{finished_another}

-- STATUS 7
pub wrote_with_7 : (c : Option Command) (sb sa : SourceSeen) (kb ka : SinkSeen) (f : Finish) → f.status ≡ 7 → ka ≢ kb
    → IsGivenUp kb ka f ⊎ IsFinish c sb sa kb ka f → ⊥
wrote_with_7 c sb sa kb ka f seven wrote (inl given_up) = wrote given_up.unwritten
wrote_with_7 c sb sa kb ka f seven wrote (inr finished) = finished_another c sb sa kb ka f finished seven

pub given_up_has_7 : (kb ka : SinkSeen) (f : Finish) → IsGivenUp kb ka f → f.status ≢ 7 → ⊥
given_up_has_7 kb ka f given_up other = other given_up.status

-- REPLAYS
pub too_little_fuel : IsLegal lone_program 4 lone_logs → ⊥
unfolding run_on
too_little_fuel legal = absurd (cc legal.taken)

pub no_threads : IsLegal (record lone_program { threads = [] }) lone_fuel lone_logs → ⊥
unfolding run_on
no_threads legal = absurd (cc legal.taken)

pub log_too_many : length ([] ∷ lone_logs) ≡ length lone_program.threads → ⊥
log_too_many e = absurd (cc e)

-- RUNS OF ONE THREAD
pub other_stamps : AreSameButForPaths lone_logs later_logs → ⊥
other_stamps e =
    let first : last_above 0 (take 1 (log_of lone_logs 0)) ≡ last_above 0 (take 1 (log_of later_logs 0)) =
    ap (λ (logs : List (List Logged)). last_above 0 (take 1 (log_of logs 0))) e in
    omega (arith, first)

-- the fuel that is left to all threads
abbrev fuel_left : Option PlainMachine → ℕ
fuel_left None = 0
fuel_left (Some m) = sum (map (λ (s : ThreadState). s.fuel) m.threads)

pub other_fuel : (m n : PlainMachine) → machine_after lone_program lone_fuel lone_logs ≡ Some m
    → machine_after lone_program (lone_fuel + 1) lone_logs ≡ Some n → m ≡ n → ⊥
unfolding run_on
other_fuel m n e f same =
    let left = ap fuel_left (e ∙ ap (λ (k : PlainMachine). Some k) same ∙ sym f) in
    omega (arith, left)

pub other_print : text_of_run false false (printing Nil) lone_end ≡ text_of_run false false (printing (Ref 0)) lone_end → ⊥
other_print e =
    let third = ap (λ (text : List ℕ). slice_index text 3) e in
    omega (arith, third)

pub other_status : status_of lone_end ≡ status_of faulted_end → ⊥
other_status e = absurd (cc e)

-- JOURNALS
pub no_line_more : (stats : Bool) (m : PlainMachine) → lines_of_run stats true (printing Nil) m ≡ lines_of_run stats false (printing Nil) m → ⊥
no_line_more stats m e =
    let others : List (List ℕ) =
    flat_map (λ x. printed lone_program ([] ∷ []) x.0 x.1.entry) (order (printing Nil).logs) ++ thread_lines m 0 m.threads
    ++ only_where stats (class_lines lone_program m 0 [] (order (printing Nil).logs)) in
    let line : List (List ℕ) = map (journal_line lone_program) (order (printing Nil).logs) in
    let one : length (others ++ line) ≡ length (others ++ []) = ap length e in
    omega (arith, one, length-append others line, length-append others [])

module _ (p : ProgramText) where
  lines_long : (xs : List (ℕ × Logged)) → length xs ≤ length (text_of_lines (map (journal_line p) xs))
  lines_long [] = omega arith
  lines_long (x ∷ xs) =
      let rest = lines_long xs in
      let both = length-append (journal_line p x) (text_of_lines (map (journal_line p) xs)) in
      omega (arith, rest, both)

  pub too_many : (logs : List (List Logged)) → 2 ^ 32 ≤ length (order logs) → length (text_of_lines (journal_of p logs)) < 2 ^ 32 → ⊥
  too_many logs many few = omega (arith, many, few, lines_long (order logs))

  -- a run has an entry for each line
  as_many : (before : Option (ℕ × Logged)) (m n : PlainMachine) (lines : List (List ℕ)) (xs : List (ℕ × Logged))
      → IsRun p before m lines xs n → length xs ≡ length lines
  as_many before m n [] [] run = refl
  as_many before m n [] (x ∷ xs) run = absurd run
  as_many before m n (line ∷ lines) [] run = absurd run
  as_many before m n (line ∷ lines) (x ∷ xs) run = omega (arith, as_many (Some x) run.0 n lines xs run.2)

  pub one_more : (fuel start : ℕ) (logs : List (List Logged)) (state : Reached)
      → IsTrueOf p fuel start (journal_of p logs) (Ok (Legal (length (order logs) + 1) state)) → ⊥
  one_more fuel start logs state legal =
      let lines : length legal.entries ≡ length (journal_of p logs) = as_many None _ legal.machine (journal_of p logs) legal.entries legal.run in
      omega (arith, lines, length-map (order logs) (journal_line p), legal.counted)

pub stuck_for_ended : (o : Options) (p : ProgramText) (r : RunRecord) (c : ClosedSeen) (m : PlainMachine)
    → IsProgram p → o.fuel ≤ most_fuel → IsRunOf o p r c m → r.halted ≡ false
    → IsVerdict p o.fuel o.start (journal_of p r.logs) (Ok (Legal (length (order r.logs)) reached.Stuck)) → ⊥
stuck_for_ended o p r c m is few run ended verdict =
    let same = journal_only o p r c m (Ok (Legal (length (order r.logs)) reached.Stuck)) is few run verdict in
    let answers : Ok (Legal (length (order r.logs)) reached.Stuck) ≡ Ok (Legal (length (order r.logs)) reached.Ended) = rw ended at same in
    absurd (cc answers)

-- what is due is to tell a text
abbrev tells : Due → Bool
tells (Tells status text) = true
tells (Runs o p) = false
tells (RunsBlocks o s) = false
tells (Checks p fuel start lines) = false
tells (Finds p states witness) = false

pub unterminated : (fuel start : ℕ)
    → check_due fuel start (with_journal lone_lines lone_program []) ≡ Checks lone_program fuel start (journal_of lone_program []) → ⊥
unterminated fuel start e = true≢false (ap tells e)

pub too_long : (fuel start : ℕ) (p : ProgramText) (logs : List (List Logged)) (text : List ℕ) → most_of_journal < length (with_journal text p logs)
    → check_due fuel start (with_journal text p logs) ≡ Checks p fuel start (journal_of p logs) → ⊥
too_long fuel start p logs text long e =
    let all : List ℕ = with_journal text p logs in
    let told : check_due fuel start all ≡ Tells 3 (codes "program: Limit\n") =
    ap (λ (b : Bool). if b then Tells 3 (codes "program: Limit\n")
    else if has_journal all then journal_due fuel start (journal_part all) (program_of (program_part all))
    else Tells 3 (codes "program: NoJournal\n")) (lt-ltb most_of_journal (length all) long) in
    true≢false (ap tells (sym told ∙ e))

pub other_status_written : (kb ka : SinkSeen) (text : List ℕ) → IsWritten kb ka 1 0 text → ⊥
other_status_written kb ka text (inl written) = absurd (cc written.0)
other_status_written kb ka text (inr failed) = absurd (cc failed.0)

pub other_line_written : (text other : List ℕ) (faults : ℕ) → other ≢ text
    → IsWritten nothing_held (record { held = Some other; faults = faults }) 0 0 text → ⊥
other_line_written text other faults differ (inl written) = differ (same_Some other text (written.1 [] refl))
other_line_written text other faults differ (inr failed) = absurd (cc failed.0)

-- RUN AND SYNC
module _ (o : Options) (before after : SinkSeen) (f : Finish) where
  without_record : (p : ProgramText) → f.run ≡ None → LeavesRun before after f o p → ⊥
  without_record p none left = none-some left.0 (sym none ∙ left.2)

  of_another : (p : ProgramText) (r : RunRecord) → f.run ≡ Some r → r.program ≢ p → LeavesRun before after f o p → ⊥
  of_another p r is other left =
      other (ap (λ (q : RunRecord). q.program) (same_Some r left.0 (sym is ∙ left.2)) ∙ left.4.run.ran.of.program)

  pub run_without_record : (p : ProgramText) → f.run ≡ None → Meets before after f (run_due o (Ok p)) → ⊥
  run_without_record p none met = without_record p none met

  pub sync_without_record : (s : SyncText) → f.run ≡ None → Meets before after f (sync_due o (Ok s)) → ⊥
  sync_without_record s none met = without_record (compiled decimal s) none met.0

  pub run_of_another : (p : ProgramText) (r : RunRecord) → f.run ≡ Some r → r.program ≢ p → Meets before after f (run_due o (Ok p)) → ⊥
  run_of_another p r is other met = of_another p r is other met

  pub sync_of_another : (s : SyncText) (r : RunRecord) → f.run ≡ Some r → r.program ≢ compiled decimal s
      → Meets before after f (sync_due o (Ok s)) → ⊥
  sync_of_another s r is other met = of_another (compiled decimal s) r is other met.0

-- SEARCHES
abbrev mode_spent : Option ThreadState → Bool
mode_spent None = false
mode_spent (Some s) = is_spent s.mode

-- the only thread isn't spent
unspent : (mode : Mode) → is_spent mode ≡ false → (t : ℕ) (s : ThreadState) → slice_get (in_mode mode).threads t ≡ Some s → is_spent s.mode ≡ true → ⊥
unspent mode alive zero s at spent =
    true≢false (sym spent ∙ sym (ap mode_spent at) ∙ alive)
unspent mode alive (suc t) s at spent = none-some s at

pub not_kept : HasSpent lone_end ⊎ IsSeen [] (refuelled top_fuel lone_end) → ⊥
not_kept (inl h) = unspent (Ended Done) refl h.thread h.state h.at h.spent
not_kept (inr seen) = none-some (refuelled top_fuel lone_end) seen.1

pub stuck_end : HasSpent waiting_end ⊎ (is_stuck waiting_end ≡ false) → ⊥
stuck_end (inl h) = unspent (Waiting 0) refl h.thread h.state h.at h.spent
stuck_end (inr free) = true≢false free

pub faulty_end : HasSpent faulted_end ⊎ (status_of faulted_end ≡ 0) → ⊥
faulty_end (inl h) = unspent (Ended (Trap NotRef 1)) refl h.thread h.state h.at h.spent
faulty_end (inr ended) = absurd (cc ended)

-- SETTINGS
module _ (o : Options) (status : ℕ) (other : status ≢ 0) (fuel : o.fuel ≡ lone_fuel) where
  pub not_allowed : (text : List ℕ) → IsAllowedBy o lone_program status text → ⊥
  not_allowed text allowed =
      let a = made_run o fuel in
      let same : allowed.machine ≡ lone_end =
      same_machines o o lone_program allowed.record_of a.0 allowed.closed a.1 allowed.machine lone_end refl refl refl allowed.run a.2 in
      other (allowed.status_is ∙ ap status_of same)

pub not_written : (start status : ℕ) (text : List ℕ) → status ≢ 0 → MayBeWritten lone_program lone_fuel start status text → ⊥
not_written start status text other may =
    let o : Options = record lone_options { start = start } in
    not_allowed o status other refl text (all_allowed o lone_program status text may)

pub no_call_wrote : (start status : ℕ) (before after : SinkSeen) → status ≢ 0 → status ≢ 6
    → WroteAllowed lone_program lone_fuel start before after status → ⊥
no_call_wrote start status before after other failed wrote = by_way wrote.written
  where
    by_way : IsWritten before after status wrote.due wrote.text → ⊥
    by_way (inl written) =
        not_written start wrote.due wrote.text (λ e. other (written.0 ∙ e)) wrote.may
    by_way (inr failing) = failed failing.0
