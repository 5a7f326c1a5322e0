-- The small program: its texts, its runs, and calls that did what was due of it.
use Rattle.std.proofs.Common.{◌≡◌, ℕ, ◌+◌, ◌≤◌, false, true, List, [], ◌++◌, codes, length, take, drop, decimal}
use Rattle.std.proofs.Common.{Some, None, Ok, refl, sym, ap, ◌∙◌, subst, arith, inl}
use Rattle.std.proofs.lemmas.Fmt.{decimal_digit}
use Rattle.std.proofs.lemmas.List.{take_all, drop_all}
use Rattle.std.proofs.lemmas.Option.{same_Some}
use Rattle.heap_table.specs.Seen.{ClosedSeen}
use Rattle.plain_monitor.specs.Limits.{most_fuel}
use Rattle.plain_machine.specs.Legal.{machine_after}
use Rattle.object_program.specs.Valid.{IsProgram}
use Rattle.program_syntax.specs.Canonical.{canonical}
use Rattle.program_syntax.specs.Refusal.{program_of}
use Rattle.program_syntax.specs.Text.{most_bytes}
use Rattle.program_syntax.proofs.Allowed.{allowed_law}
use Rattle.program_syntax.proofs.CanonicalPrograms.{program_of-canonical}
use Rattle.lock_journal.specs.RunText.{text_of_run}
use Rattle.lock_journal.specs.declared.record.RunRecord.{RunRecord}
use Rattle.single_thread_law.specs.LoneExample.{lone_end, lone_fuel, lone_logs, lone_program, lone_shots}
use Rattle.single_thread_law.specs.LoneRun.{with_no_paths}
use Rattle.program_run.specs.PlainRun.{IsPlainRun, plain_text}
use Rattle.program_run.proofs.ChosenPaths.{made}
use Rattle.program_run.proofs.LonePlain.{plain}
use Rattle.program_run.proofs.NoPaths.{after_bare}
use Rattle.bias_check.specs.Parts.{lines_are_terminated}
use Rattle.bias_check.specs.Printed.{journal_of}
use Rattle.cli_args.specs.Command.{accepted}
use Rattle.cli_args.specs.declared.options.Command.TheVariants.{Check, Run}
use Rattle.cli_args.specs.declared.options.Options.{Options}
use Rattle.sync_source.specs.Compiled.{compiled}
use Rattle.sync_syntax.specs.Refusal.{sync_program_of}
use Rattle.bias_cli.specs.declared.finish.Finish.{Finish}
use Rattle.bias_cli.specs.Asked.{settings_of}
use Rattle.bias_cli.specs.Example.{block_text, has_left, lone_blocks, lone_options, lone_text, lone_words, nothing_held}
use Rattle.bias_cli.specs.Finish.{IsFinish, IsGivenUp, IsRunOf, LeavesRun, Meets, Text, Unread, check_due, run_due, sync_due}
use Rattle.bias_cli.specs.Input.{most_of_journal, Took}
use Rattle.bias_cli.specs.MayBeWritten.{AsksForNoMore, IsAllowedBy, MayBeWritten}
use Rattle.bias_cli.specs.Output.{Wrote}
use Rattle.bias_cli.specs.Seen.{SinkSeen}
use Rattle.bias_cli.specs.Verdict.{IsVerdict, answer_to, verdict_text, with_journal}
use Rattle.bias_cli.proofs.BlockRuns.{run_of_compiled}
use Rattle.bias_cli.proofs.JournalsChecked.{joined_due}
use Rattle.bias_cli.proofs.JournalsLegal.{journal_verdict}
use Rattle.bias_cli.proofs.PlainRuns.{all_allowed}
use Rattle.bias_cli.proofs.ShortExample.{lone_short}

-- TEXTS AND ARGUMENTS
pub text_has : program_of lone_text ≡ Ok lone_program
text_has = refl

pub terminated : lines_are_terminated lone_text ≡ true
terminated = refl

pub is_program : IsProgram lone_program
is_program = allowed_law lone_text lone_program text_has

pub few_units : lone_fuel ≤ most_fuel
few_units = omega arith

pub words_ask : accepted lone_words ≡ Some (Run lone_options)
words_ask = refl

-- RUNS
module _ (o : Options) (fuel : o.fuel ≡ lone_fuel) where
  plain_under : IsPlainRun lone_program o.fuel o.start lone_logs lone_shots lone_end
  plain_under = subst (λ n. IsPlainRun lone_program n o.start lone_logs lone_shots lone_end) (sym fuel) (plain o.start)

  pub made_run : (r : RunRecord) × (c : ClosedSeen) × IsRunOf o lone_program r c lone_end × (with_no_paths r.logs ≡ lone_logs)
  made_run =
      let a = made (settings_of o) lone_program lone_logs lone_shots lone_end plain_under in
      let under : machine_after lone_program o.fuel a.run.logs ≡ Some lone_end =
      sym (after_bare lone_program o.fuel a.run.logs) ∙ ap (machine_after lone_program o.fuel) a.logs_are ∙ plain_under.under in
      (a.run, a.closed, record { ran = a.ran; under = under }, a.logs_are)

  pub checked_run : (r : RunRecord) × (c : ClosedSeen) × IsRunOf o lone_program r c lone_end
      × IsVerdict lone_program o.fuel o.start (journal_of lone_program r.logs) (answer_to r)
      × (length (with_journal lone_text lone_program r.logs) ≤ most_of_journal)
  checked_run =
      let a = made_run in
      let few : o.fuel ≤ most_fuel = omega (arith, fuel, few_units) in
      (a.0, a.1, a.2, journal_verdict o lone_program a.0 a.1 lone_end is_program few a.2, lone_short a.0.logs a.3)

  pub allowed_text : (text : List ℕ) × IsAllowedBy o lone_program 0 text
  allowed_text =
      let text : List ℕ = plain_text lone_program lone_logs lone_shots lone_end in (
        text,
        all_allowed o lone_program 0 text
            (record { logs = lone_logs; shots = lone_shots; machine = lone_end; run = plain_under; status_is = refl; text_is = refl }),
      )

pub plain_written : (start : ℕ) → (text : List ℕ) × MayBeWritten lone_program lone_fuel start 0 text
plain_written start = (
  plain_text lone_program lone_logs lone_shots lone_end,
  record { logs = lone_logs; shots = lone_shots; machine = lone_end; run = plain start; status_is = refl; text_is = refl },
)

-- CALLS
abbrev holds : List ℕ → SinkSeen
holds text = record { held = Some text; faults = 0 }

wrote : (text : List ℕ) → Wrote nothing_held.held (holds text).held text
wrote text held e = ap (λ (h : List ℕ). Some (h ++ text)) (same_Some [] held e)

took : (most : ℕ) (bytes : List ℕ) → length bytes ≤ most → Took most (has_left bytes).left (has_left []).left bytes
took most bytes few left e =
    let same : bytes ≡ left = same_Some bytes left e in (
      sym (take_all (most + 1) bytes (omega (arith, few))) ∙ ap (take (most + 1)) same,
      ap (λ (bs : List ℕ). Some bs) (sym (drop_all (most + 1) bytes (omega (arith, few))) ∙ ap (drop (most + 1)) same),
    )

-- it wrote this text with status 0, and left no record
abbrev told : Finish
told = record { status = 0; run = None; closed = None }

abbrev ran : RunRecord → ClosedSeen → Finish
ran r c = record { status = 0; run = Some r; closed = Some c }

-- the arguments are refused
pub refused_call : (k : SinkSeen) × (finish : Finish) × IsFinish None (has_left []) (has_left []) nothing_held k finish
    × (finish.status ≡ 7 → IsGivenUp nothing_held k finish)
refused_call = (
  holds (codes "words refused\n"),
  record { status = 2; run = None; closed = None },
  record { reading = Unread; read = refl; met = ((refl, refl), inl (refl, wrote (codes "words refused\n"))) },
  λ e. absurd (omega (arith, e)),
)

pub left_run : (r : RunRecord) × (c : ClosedSeen) × (k : SinkSeen) × LeavesRun nothing_held k (ran r c) lone_options lone_program
left_run =
    let a = made_run lone_options refl in
    let text : List ℕ = text_of_run false false a.0 lone_end in (
      a.0,
      a.1,
      holds (text ++ []),
      (a.0, a.1, refl, refl, record { machine = lone_end; run = a.2; report = []; reported = refl; written = inl (refl, wrote (text ++ [])) }),
    )

pub leaving_call : (k : SinkSeen) × (finish : Finish) × LeavesRun nothing_held k finish lone_options lone_program × AsksForNoMore lone_options
leaving_call = (left_run.2, ran left_run.0 left_run.1, left_run.3, (refl, refl, refl))

pub run_call : (r : RunRecord) × (k : SinkSeen) × (finish : Finish)
    × IsFinish (accepted lone_words) (has_left lone_text) (has_left []) nothing_held k finish × (finish.run ≡ Some r)
run_call = (
  left_run.0,
  left_run.2,
  ran left_run.0 left_run.1,
  record { reading = Text lone_text; read = took most_bytes lone_text (omega arith); met = left_run.3 },
  refl,
)

pub check_call : (r : RunRecord) × (c : ClosedSeen) × (k : SinkSeen) × (finish : Finish) × IsRunOf lone_options lone_program r c lone_end
    × (length (with_journal lone_text lone_program r.logs) ≤ most_of_journal)
    × IsFinish (Some (Check lone_options.fuel lone_options.start)) (has_left (with_journal lone_text lone_program r.logs)) (has_left [])
    nothing_held k finish
check_call =
    let a = checked_run lone_options refl in
    let text : List ℕ = with_journal lone_text lone_program a.0.logs in
    let line : List ℕ = verdict_text lone_program (answer_to a.0) in
    let due = joined_due lone_options lone_program a.0 a.1 lone_end lone_text text_has terminated few_units a.2 a.4 in
    let met : Meets nothing_held (holds line) told (check_due lone_fuel 1 text) =
    subst (Meets nothing_held (holds line) told) (sym due)
    ((refl, refl), record { answer = answer_to a.0; verdict = a.3; written = inl (refl, wrote line) }) in
    (a.0, a.1, holds line, told, a.2, a.4, record { reading = Text text; read = took most_of_journal text a.4; met = met })

-- BLOCKS
pub blocks_read : sync_program_of block_text ≡ Ok lone_blocks
blocks_read = refl

pub blocks_code : compiled decimal lone_blocks ≡ lone_program
blocks_code = refl

pub code_short : length (canonical (compiled decimal lone_blocks)) ≤ most_bytes
code_short = rw (decimal_digit 0 (omega arith)) (omega arith)

pub blocks_met : (k : SinkSeen) × (finish : Finish)
    × Meets nothing_held k finish (run_due lone_options (program_of (canonical (compiled decimal lone_blocks))))
    × Meets nothing_held k finish (sync_due lone_options (sync_program_of block_text))
blocks_met =
    let k = left_run.2 in
    let f : Finish = ran left_run.0 left_run.1 in
    let read = program_of-canonical lone_program is_program code_short in
    let met : Meets nothing_held k f (run_due lone_options (program_of (canonical (compiled decimal lone_blocks)))) =
    subst (λ r. Meets nothing_held k f (run_due lone_options r)) (sym read) left_run.3 in
    (k, f, met, run_of_compiled lone_options block_text lone_blocks nothing_held k f blocks_read code_short met)
