-- A small program as texts, one of them with a block, how it is run, and records and ends that are wrong in one way.
use Rattle.std.specs.Prelude.{ℕ, ◌+◌, ◌++◌, true, false, List, [], ◌∷◌, codes, map, Some, None}
use Rattle.plain_monitor.specs.Monitor.{free_monitor}
use Rattle.plain_monitor.specs.declared.entry.Ending.TheVariants.{Trap}
use Rattle.plain_monitor.specs.declared.entry.Entry.TheVariants.{Print}
use Rattle.plain_monitor.specs.declared.entry.Fault.TheVariants.{NotRef}
use Rattle.plain_monitor.specs.declared.entry.Logged.{Logged}
use Rattle.plain_monitor.specs.declared.entry.Value.{Value}
use Rattle.plain_machine.specs.Machine.{PlainMachine}
use Rattle.plain_machine.specs.Thread.{ThreadState}
use Rattle.plain_machine.specs.declared.monitor_call.Mode.{Mode}
use Rattle.plain_machine.specs.declared.monitor_call.Mode.TheVariants.{Ended, Waiting}
use Rattle.object_program.specs.declared.program.Code.TheVariants as code
use Rattle.lock_journal.specs.RunText.{newline}
use Rattle.lock_journal.specs.declared.record.RunRecord.{RunRecord}
use Rattle.single_thread_law.specs.LoneExample.{lone_end, lone_fuel, lone_logs, lone_program}
use Rattle.outcome_search.specs.declared.outcome.Outcomes.{Outcomes}
use Rattle.cli_args.specs.declared.options.Options.{Options}
use Rattle.sync_source.specs.Source.{SyncText, Nothing, Plain, Sync}
use Rattle.bias_cli.specs.Seen.{SourceSeen, SinkSeen}

-- TEXTS
-- the text of the lone program, but for the line feed of its last line
abbrev pub lone_lines : List ℕ
lone_lines = codes "class C 0\nobject o C\nthread t\nlocal x\nref x o\nenter x\ndump\nprint x\nexit x\nend"

abbrev pub lone_text : List ℕ
lone_text = lone_lines ++ newline

-- the same with a block
abbrev pub block_text : List ℕ
block_text = codes "class C 0\nobject o C\nthread t\nlocal x\nref x o\nsync x\ndump\nprint x\ndone\nend\n"

abbrev pub lone_blocks : SyncText
lone_blocks =
    record {
      classes = lone_program.classes;
      objects = lone_program.objects;
      threads =
          record {
            name = 116 ∷ [];
            locals = (120 ∷ []) ∷ [];
            body = Plain (code.Ref 0 0) (Sync 0 (Plain code.Dump (Plain (code.Print 0) Nothing)) (Plain code.End Nothing));
          } ∷ [];
    }

-- ARGUMENTS
abbrev pub lone_words : List (List ℕ)
lone_words = codes "biasrun" ∷ codes "run" ∷ codes "--fuel" ∷ codes "10" ∷ []

-- what they ask for
abbrev pub lone_options : Options
lone_options =
    record {
      workers = 4;
      fuel = lone_fuel;
      quantum = 1000;
      bias = true;
      start = 1;
      tick = 0;
      stats = false;
      journal = false;
      report = false;
    }

-- other options with this fuel
abbrev pub with_lone_fuel : Options → Options
with_lone_fuel o = record o { fuel = lone_fuel }

-- what a source and a sink tell that have had no faults: that these bytes are left, and that nothing is held yet
abbrev pub has_left : List ℕ → SourceSeen
has_left bytes = record { left = Some bytes; faults = 0 }

abbrev pub nothing_held : SinkSeen
nothing_held = record { held = Some []; faults = 0 }

-- RECORDS, COUNTS AND ENDS
-- the thread prints this, and no more
abbrev pub printing : Value → RunRecord
printing v =
    record {
      program = lone_program;
      fuel = lone_fuel;
      start = 1;
      bias = true;
      logs = (record { stamp = 1; entry = Print v } ∷ []) ∷ [];
      shots = [] ∷ [];
      classes = [];
      halted = false;
    }

-- the run's entries, each with a later stamp
abbrev pub later_logs : List (List Logged)
later_logs = map (λ (log : List Logged). map (λ (l : Logged). record l { stamp = l.stamp + 1 }) log) lone_logs

-- of the two machines that a search keeps one is at its end
abbrev pub lone_counts : Outcomes
lone_counts =
    record {
      states = 2;
      ended = 1;
      faulted = 0;
      stuck = 0;
      spent = 0;
      «open» = 0;
      first_stuck = None;
      first_faulted = None;
    }

-- the machine after the run, but that its thread is in this mode
abbrev pub in_mode : Mode → PlainMachine
in_mode mode = record lone_end { threads = map (λ (s : ThreadState). record s { mode = mode }) lone_end.threads }

-- it has a fault at its first instruction
abbrev pub faulted_end : PlainMachine
faulted_end = in_mode (Ended (Trap NotRef 1))

-- it waits on the object
abbrev pub waiting_end : PlainMachine
waiting_end = record (in_mode (Waiting 0)) {
  objects = record { monitor = record free_monitor { waits = (0, 1) ∷ [] }; slots = []; hash = None } ∷ [];
}
