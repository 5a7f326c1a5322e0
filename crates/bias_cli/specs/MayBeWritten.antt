-- What runs of a program may write and answer where neither statistics, nor a journal, nor a report is asked for. No workers, no turns, no
-- ticks and no biases are named.
use Rattle.std.specs.Prelude.{◌≡◌, ℕ, false, List}
use Rattle.heap_table.specs.Seen.{ClosedSeen}
use Rattle.lock_journal.specs.RunText.{text_of_run}
use Rattle.lock_journal.specs.declared.record.RunRecord.{RunRecord}
use Rattle.lock_journal.specs.declared.record.Shot.{Shot}
use Rattle.object_program.specs.Program.{ProgramText}
use Rattle.plain_machine.specs.Machine.{PlainMachine}
use Rattle.plain_monitor.specs.declared.entry.Logged.{Logged}
use Rattle.program_run.specs.PlainRun.{IsPlainRun, plain_text}
use Rattle.cli_args.specs.declared.options.Options.{Options}
use Rattle.bias_cli.specs.Finish.{IsRunOf, IsWritten, status_of}
use Rattle.bias_cli.specs.Seen.{SinkSeen}

abbrev pub AsksForNoMore : Options → Type 0
AsksForNoMore o = (o.stats ≡ false) × (o.journal ≡ false) × (o.report ≡ false)

-- the status and the text of a plain run
pub record MayBeWritten (p : ProgramText) (fuel start status : ℕ) (text : List ℕ) : Type 0 where
  pub logs : List (List Logged)
  pub shots : List (List Shot)
  pub machine : PlainMachine
  pub run : IsPlainRun p fuel start logs shots machine
  pub status_is : status ≡ status_of machine
  pub text_is : text ≡ plain_text p logs shots machine

-- such a text was written with its status; or a write failed, the status is 6, and a prefix of such a text was written
pub record WroteAllowed (p : ProgramText) (fuel start : ℕ) (before after : SinkSeen) (status : ℕ) : Type 0 where
  pub due : ℕ
  pub text : List ℕ
  pub may : MayBeWritten p fuel start due text
  pub written : IsWritten before after status due text

-- what is said of a run under these options allows it to have this status and this text
pub record IsAllowedBy (o : Options) (p : ProgramText) (status : ℕ) (text : List ℕ) : Type 0 where
  pub record_of : RunRecord
  pub closed : ClosedSeen
  pub machine : PlainMachine
  pub run : IsRunOf o p record_of closed machine
  pub status_is : status ≡ status_of machine
  pub text_is : text ≡ text_of_run false false record_of machine
