-- What `check` answers to a program and the journal of a run of it.
use Rattle.std.proofs.Common.{◌≡◌, ◌⊎◌, inl, inr, ℕ, ◌+◌, ◌≤◌, Bool, true, false, if◌then◌else◌, List, codes, length}
use Rattle.std.proofs.Common.{IsTrue, Some, Result, Ok, sym, ap, ◌∙◌, subst, arith}
use Rattle.std.proofs.lemmas.Bool.{le-ltb}
use Rattle.std.proofs.lemmas.List.{take_all}
use Rattle.run_io.specs.Faults.{rose}
use Rattle.heap_table.specs.Seen.{ClosedSeen}
use Rattle.object_program.specs.Program.{ProgramText}
use Rattle.object_program.specs.Valid.{IsProgram}
use Rattle.plain_machine.specs.Machine.{PlainMachine}
use Rattle.plain_monitor.specs.Limits.{most_fuel}
use Rattle.program_syntax.specs.Refusal.{program_of}
use Rattle.program_syntax.specs.declared.error.ProgramError.{ProgramError}
use Rattle.program_syntax.proofs.Allowed.{allowed_law}
use Rattle.lock_journal.specs.RunText.{text_of_lines}
use Rattle.lock_journal.specs.declared.record.RunRecord.{RunRecord}
use Rattle.bias_check.specs.declared.answer.Checked.{Checked}
use Rattle.bias_check.specs.declared.answer.CheckFault.{CheckFault}
use Rattle.bias_check.specs.Parts.{ArePartsOf, has_journal, journal_part, lines_are_terminated, program_part}
use Rattle.bias_check.specs.Printed.{journal_of}
use Rattle.bias_check.proofs.Joined.{joined_parts}
use Rattle.bias_check.proofs.Unmarked.{unmarked}
use Rattle.cli_args.specs.declared.options.Command.TheVariants.{Check}
use Rattle.cli_args.specs.declared.options.Options.{Options}
use Rattle.bias_cli.specs.declared.finish.Finish.{Finish}
use Rattle.bias_cli.specs.Seen.{SourceSeen, SinkSeen}
use Rattle.bias_cli.specs.Input.{most_of_journal}
use Rattle.bias_cli.specs.Finish.{Checks, Due, IsCheck, IsFinish, IsReading, IsRunOf, IsWritten, Meets, ReadFault, Reading, Tells, Text, Unread}
use Rattle.bias_cli.specs.Finish.{check_due, due_of, journal_due}
use Rattle.bias_cli.specs.Verdict.{answer_to, verdict_status, verdict_text, with_journal}
use Rattle.bias_cli.proofs.JournalsLegal.{journal_lines_again, journal_only}

module _ (o : Options) (p : ProgramText) (r : RunRecord) (c : ClosedSeen) (m : PlainMachine) (text : List ℕ)
    (has : program_of text ≡ Ok p) (terminated : lines_are_terminated text ≡ true) (few : o.fuel ≤ most_fuel) (run : IsRunOf o p r c m) where
  is_program : IsProgram p
  is_program = allowed_law text p has

  parts : ArePartsOf (with_journal text p r.logs) text (text_of_lines (journal_of p r.logs))
  parts = joined_parts text (text_of_lines (journal_of p r.logs)) terminated (unmarked text p has)

  -- what is due of a check, by what its text has
  abbrev due_by : Bool → Bool → List (List ℕ) → Result ProgramText ProgramError → Due
  due_by long marked lines program =
      if long then Tells 3 (codes "program: Limit\n")
      else if marked then journal_due o.fuel o.start lines program
      else Tells 3 (codes "program: NoJournal\n")

  module _ (short : length (with_journal text p r.logs) ≤ most_of_journal) where
    pub joined_due : check_due o.fuel o.start (with_journal text p r.logs) ≡ Checks p o.fuel o.start (journal_of p r.logs)
    joined_due =
        let all : List ℕ = with_journal text p r.logs in
        ap (λ long. due_by long (has_journal all) (journal_part all) (program_of (program_part all))) (le-ltb most_of_journal (length all) short)
        ∙ ap (λ marked. due_by false marked (journal_part all) (program_of (program_part all))) parts.marked
        ∙ ap (λ lines. due_by false true lines (program_of (program_part all))) (sym parts.journal_is ∙ journal_lines_again o p r c m is_program few run)
        ∙ ap (λ program. due_by false true (journal_of p r.logs) program) (ap program_of (sym parts.program_is) ∙ has)

    -- of the answers that hold of these lines there is just one
    checked : (before after : SinkSeen) (status : ℕ) → IsCheck p o.fuel o.start (journal_of p r.logs) before after status
        → IsWritten before after status 0 (verdict_text p (answer_to r))
    checked before after status check =
        subst (λ (a : Result Checked CheckFault). IsWritten before after status (verdict_status a) (verdict_text p a))
        (journal_only o p r c m check.answer is_program few run check.verdict) check.written

    module _ (sb sa : SourceSeen) (kb ka : SinkSeen) (f : Finish) (left : sb.left ≡ Some (with_journal text p r.logs)) where
      by_reading : (reading : Reading) → IsReading (Some most_of_journal) sb sa reading
          → Meets kb ka f (due_of (Some (Check o.fuel o.start)) reading)
          → IsTrue (rose sb.faults sa.faults) ⊎ IsWritten kb ka f.status 0 (verdict_text p (answer_to r))
      by_reading Unread read met = absurd read
      by_reading ReadFault read met = inl read
      by_reading (Text bytes) read met =
          let all : List ℕ = with_journal text p r.logs in
          let same : bytes ≡ all = (read all left).0 ∙ take_all (most_of_journal + 1) all (omega (arith, short)) in
          inr (checked kb ka f.status (subst (Meets kb ka f) (ap (check_due o.fuel o.start) same ∙ joined_due) met).1)

      pub answered : IsFinish (Some (Check o.fuel o.start)) sb sa kb ka f
          → IsTrue (rose sb.faults sa.faults) ⊎ IsWritten kb ka f.status 0 (verdict_text p (answer_to r))
      answered d = by_reading d.reading d.read d.met
