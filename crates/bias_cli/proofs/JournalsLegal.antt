-- The journal of a run is legal for a check.
use Rattle.std.proofs.Common.{◌≡◌, ◌≢◌, ℕ, ◌<◌, ◌≤◌, ◌^◌, cond, Bool, true, false, List, [], ◌++◌, length, nat_lt}
use Rattle.std.proofs.Common.{Option, Some, None, Result, Ok, Err, refl, sym, ap, ◌∙◌, subst, decimal}
use Rattle.std.specs.List.{flat_map}
use Rattle.std.proofs.lemmas.List.{append-nil}
use Rattle.std.proofs.lemmas.Option.{none-some, same_Some}
use Rattle.heap_table.specs.Seen.{ClosedSeen}
use Rattle.object_program.specs.Program.{ProgramText}
use Rattle.object_program.specs.Valid.{IsProgram}
use Rattle.program_syntax.specs.Refusal.{program_of}
use Rattle.program_syntax.specs.declared.error.ProgramError.{ProgramError}
use Rattle.program_syntax.proofs.Allowed.{allowed_law}
use Rattle.sync_source.specs.Source.{SyncText}
use Rattle.sync_source.specs.Valid.{IsSyncText}
use Rattle.sync_source.proofs.Names.{compiled_is_program}
use Rattle.sync_syntax.specs.Refusal.{sync_program_of}
use Rattle.sync_syntax.specs.declared.error.SyncError.{SyncError}
use Rattle.plain_machine.specs.Machine.{PlainMachine}
use Rattle.plain_monitor.specs.Limits.{most_fuel}
use Rattle.plain_monitor.specs.Order.{order}
use Rattle.lock_journal.specs.RunText.{class_lines, lines_of_run, only_where, printed, text_of_lines, thread_lines}
use Rattle.lock_journal.specs.declared.record.RunRecord.{RunRecord}
use Rattle.journal_laws.proofs.EntriesTold.{all_tellable}
use Rattle.journal_laws.proofs.LegalJournals.{ended_state, legal_journal, stuck_state}
use Rattle.journal_laws.proofs.ShortJournals.{journal_short}
use Rattle.bias_check.specs.declared.answer.Checked.{Checked}
use Rattle.bias_check.specs.declared.answer.Checked.TheVariants.{Legal}
use Rattle.bias_check.specs.declared.answer.CheckFault.{CheckFault}
use Rattle.bias_check.specs.declared.answer.CheckFault.TheVariants.{NoMemory}
use Rattle.bias_check.specs.declared.answer.Reached.TheVariants.{Ended, Stuck}
use Rattle.bias_check.specs.Answer.{IsTrueOf, state_of}
use Rattle.bias_check.specs.Lines.{lines_of}
use Rattle.bias_check.specs.Parts.{has_journal, journal_part, program_part}
use Rattle.bias_check.specs.Printed.{journal_of}
use Rattle.bias_check.proofs.JournalsRun.{journal_lines}
use Rattle.bias_check.proofs.TrueAnswers.{found_only}
use Rattle.outcome_search.specs.Outcomes.{has_hash}
use Rattle.cli_args.specs.Command.{accepted}
use Rattle.cli_args.specs.declared.options.Command.{Command}
use Rattle.cli_args.specs.declared.options.Command.TheVariants.{Run, Sync, Compile, Check, Make, Outcomes}
use Rattle.cli_args.specs.declared.options.Options.{Options}
use Rattle.sync_source.specs.Compiled.{compiled}
use Rattle.bias_cli.specs.declared.finish.Finish.{Finish}
use Rattle.bias_cli.specs.Seen.{SourceSeen, SinkSeen}
use Rattle.bias_cli.specs.Finish.{Finds, IsFinish, IsRunOf, LeavesRun, Meets, ReadFault, Reading, Tells, Text, Unread}
use Rattle.bias_cli.specs.Finish.{compile_due, due_of, finds_due, journal_due, run_due, sync_due, text_due}
use Rattle.bias_cli.specs.Input.{most_of_journal}
use Rattle.bias_cli.specs.Verdict.{IsVerdict, answer_to}
use Rattle.bias_cli.proofs.BlocksAllowed.{blocks_allowed}
use Rattle.bias_cli.proofs.RunOptions.{runnable, sync_runnable}

given : (n : Checked) → Ok n ≢ Err NoMemory
given n e = absurd (cc e)

module _ (o : Options) (p : ProgramText) (r : RunRecord) (c : ClosedSeen) (m : PlainMachine) where
  -- the journal stands after all other lines
  pub journal_written : (stats : Bool) → IsRunOf o p r c m → lines_of_run stats true r m ≡ lines_of_run stats false r m ++ journal_of p r.logs
  journal_written stats run =
      let others : List (List ℕ) = told ++ thread_lines m 0 m.threads ++ only_where stats (class_lines r.program m 0 r.classes (order r.logs)) in
      ap (λ (lines : List (List ℕ)). lines ++ journal_of r.program r.logs) (sym (append-nil others))
      ∙ ap (λ (q : ProgramText). lines_of_run stats false r m ++ journal_of q r.logs) run.ran.of.program
    where
      told : List (List ℕ)
      told = flat_map (λ x. printed r.program r.shots x.0 x.1.entry) (order r.logs)

  module _ (is : IsProgram p) (few : o.fuel ≤ most_fuel) (run : IsRunOf o p r c m) where
    pub journal_lines_again : lines_of (text_of_lines (journal_of p r.logs)) ≡ journal_of p r.logs
    journal_lines_again = journal_lines p r.logs is (all_tellable p o.fuel o.start r.logs is few run.ran.legal run.ran.stamps run.ran.hashes)

    pub journal_few_bytes : length (text_of_lines (journal_of p r.logs)) < 2 ^ 32
    journal_few_bytes = journal_short p o.fuel o.start r.logs is few run.ran.legal run.ran.stamps run.ran.hashes

    -- the halt says how the threads stand
    over_state : state_of m ≡ cond r.halted Stuck Ended
    over_state = by_halted r.halted refl
      where
        by_halted : (halted : Bool) → r.halted ≡ halted → state_of m ≡ cond halted Stuck Ended
        by_halted true e = stuck_state m (rw e at (run.ran.over m run.under))
        by_halted false e = ended_state m (rw e at (run.ran.over m run.under))

    pub journal_legal : IsTrueOf p o.fuel o.start (journal_of p r.logs) (answer_to r)
    journal_legal =
        subst (λ state. IsTrueOf p o.fuel o.start (journal_of p r.logs) (Ok (Legal (length (order r.logs)) state)))
        over_state
        (legal_journal p o.fuel o.start r.logs m is few run.ran.legal run.ran.stamps run.ran.hashes run.under)

    pub journal_verdict : IsVerdict p o.fuel o.start (journal_of p r.logs) (answer_to r)
    journal_verdict = record { holds = journal_legal; given = given _ }

pub journal_only : (o : Options) (p : ProgramText) (r : RunRecord) (c : ClosedSeen) (m : PlainMachine) (answer : Result Checked CheckFault)
    → IsProgram p → o.fuel ≤ most_fuel
    → IsRunOf o p r c m → IsVerdict p o.fuel o.start (journal_of p r.logs) answer → answer ≡ answer_to r
journal_only o p r c m answer is few run h =
    sym (found_only p o.fuel o.start (journal_of p r.logs) answer is h.holds h.given)
    ∙ found_only p o.fuel o.start (journal_of p r.logs) (answer_to r) is (journal_legal o p r c m is few run) (given _)

-- CALLS
-- what holds of a record whose journal was told to be legal
abbrev IsLegalOf : RunRecord → Type 0
IsLegalOf r = IsVerdict r.program r.fuel r.start (journal_of r.program r.logs) (answer_to r)

run_legal : (o : Options) (p : ProgramText) (r : RunRecord) (c : ClosedSeen) (m : PlainMachine)
    → IsProgram p → o.fuel ≤ most_fuel → IsRunOf o p r c m → IsLegalOf r
run_legal o p r c m is few run =
    rw (run.ran.of.program, run.ran.of.fuel, run.ran.of.start) (journal_verdict o p r c m is few run)

module _ (before after : SinkSeen) (f : Finish) where
  -- a check leaves no record
  check_leaves : (fuel start : ℕ) (a b : List ℕ) (lines : List (List ℕ)) (large marked : Bool) (p : Result ProgramText ProgramError)
      → Meets before after f (cond large (Tells 3 a) (cond marked (journal_due fuel start lines p) (Tells 3 b))) → f.run ≡ None
  check_leaves fuel start a b lines true marked p met = met.0.0
  check_leaves fuel start a b lines false false p met = met.0.0
  check_leaves fuel start a b lines false true (Ok p) met = met.0.0
  check_leaves fuel start a b lines false true (Err e) met = met.0.0

  -- nor does what is compiled
  compiled_leaves : (p : Result SyncText SyncError) → Meets before after f (compile_due p) → f.run ≡ None
  compiled_leaves (Ok s) met = met.0.0
  compiled_leaves (Err e) met = met.0.0

  -- nor does a search
  found_leaves : (states : ℕ) (witness : Bool) (text : List ℕ) (p : ProgramText) (hash : Bool)
      → Meets before after f (cond hash (Tells 3 text) (Finds p states witness)) → f.run ≡ None
  found_leaves states witness text p true met = met.0.0
  found_leaves states witness text p false met = met.0.0

  searched_leaves : (states : ℕ) (witness : Bool) (p : Result ProgramText ProgramError) → Meets before after f (finds_due states witness p) → f.run ≡ None
  searched_leaves states witness (Ok p) met = found_leaves states witness _ p (has_hash p) met
  searched_leaves states witness (Err e) met = met.0.0

  ran_leaves : (o : Options) (p : ProgramText) (r : RunRecord) → o.fuel ≤ most_fuel → IsProgram p → LeavesRun before after f o p → f.run ≡ Some r → IsLegalOf r
  ran_leaves o p r few is met h =
      subst IsLegalOf (same_Some met.0 r (sym met.2 ∙ h)) (run_legal o p met.0 met.1 met.4.machine is few met.4.run)

  run_leaves : (o : Options) (p : Result ProgramText ProgramError) (r : RunRecord) → o.fuel ≤ most_fuel → ((q : ProgramText) → p ≡ Ok q → IsProgram q)
      → Meets before after f (run_due o p) → f.run ≡ Some r → IsLegalOf r
  run_leaves o (Err e) r few is met h = absurd (none-some r (sym met.0.0 ∙ h))
  run_leaves o (Ok p) r few is met h = ran_leaves o p r few (is p refl) met h

  sync_leaves : (o : Options) (p : Result SyncText SyncError) (r : RunRecord) → o.fuel ≤ most_fuel → ((s : SyncText) → p ≡ Ok s → IsSyncText s)
      → Meets before after f (sync_due o p) → f.run ≡ Some r → IsLegalOf r
  sync_leaves o (Err e) r few is met h = absurd (none-some r (sym met.0.0 ∙ h))
  sync_leaves o (Ok s) r few is met h = ran_leaves o (compiled decimal s) r few (compiled_is_program s (is s refl)) met.0 h

  text_leaves : (words : List (List ℕ)) (c : Option Command) (bytes : List ℕ) (r : RunRecord)
      → accepted words ≡ c → Meets before after f (text_due c bytes) → f.run ≡ Some r
      → IsLegalOf r
  text_leaves words None bytes r e met h = absurd (none-some r (sym met.0.0 ∙ h))
  text_leaves words (Some (Run o)) bytes r e met h = run_leaves o (program_of bytes) r (runnable words o e).fuel (allowed_law bytes) met h
  text_leaves words (Some (Sync o)) bytes r e met h = sync_leaves o (sync_program_of bytes) r (sync_runnable words o e).fuel (blocks_allowed bytes) met h
  text_leaves words (Some Compile) bytes r e met h = absurd (none-some r (sym (compiled_leaves (sync_program_of bytes) met) ∙ h))
  text_leaves words (Some (Check fuel start)) bytes r e met h =
      absurd (none-some r (sym (check_leaves fuel start _ _ (journal_part bytes)
      (nat_lt most_of_journal (length bytes)) (has_journal bytes) (program_of (program_part bytes)) met) ∙ h))
  text_leaves words (Some (Make items)) bytes r e met h = absurd (none-some r (sym met.0.0 ∙ h))
  text_leaves words (Some (Outcomes states witness)) bytes r e met h = absurd (none-some r (sym (searched_leaves states witness (program_of bytes) met) ∙ h))

  reading_leaves : (words : List (List ℕ)) (reading : Reading) (r : RunRecord)
      → Meets before after f (due_of (accepted words) reading) → f.run ≡ Some r → IsLegalOf r
  reading_leaves words Unread r met h = text_leaves words (accepted words) [] r refl met h
  reading_leaves words ReadFault r met h = absurd (none-some r (sym met.0.0 ∙ h))
  reading_leaves words (Text bytes) r met h = text_leaves words (accepted words) bytes r refl met h

pub call_legal : (words : List (List ℕ)) (source_before source_after : SourceSeen) (sink_before sink_after : SinkSeen) (f : Finish) (r : RunRecord)
    → IsFinish (accepted words) source_before source_after sink_before sink_after f → f.run ≡ Some r → IsLegalOf r
call_legal words sb sa kb ka f r d h = reading_leaves kb ka f words d.reading r d.met h
