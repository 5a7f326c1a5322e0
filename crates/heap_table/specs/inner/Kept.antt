-- What a pass has to keep after a step, by the word that it found.
use Rattle.std.specs.Prelude.{ℕ, ◌+◌, ◌^◌, ◌<◌, ◌==◌, ◌&&◌, ◌||◌, cond, List, Option, Some, None}
use Rattle.plain_monitor.specs.declared.entry.Entry.{Entry}
use Rattle.plain_monitor.specs.declared.entry.Entry.TheVariants as entry
use Rattle.plain_monitor.specs.declared.entry.Logged.{Logged}
use Rattle.plain_monitor.specs.ValueWords.{read_value}
use Rattle.core_world.specs.declared.plan.LogEffect.{LogEffect}
use Rattle.core_world.specs.declared.plan.LogEffect.TheVariants.{Quiet, Log, LogGet, LogHash}
use Rattle.core_world.specs.declared.act.Act.{Act}
use Rattle.core_world.specs.declared.act.Act.TheVariants as act
use Rattle.core_world.specs.declared.word_id.WordId.{WordId}
use Rattle.core_world.specs.declared.word_id.WordId.TheVariants.{Safepoint}
use Rattle.mark_word.specs.declared.safe.SafeForm.{SafeForm}
use Rattle.mark_word.specs.Safe.{read_safe}
use Rattle.plain_monitor.specs.Monitor.{is_thread}
use Rattle.core_world.specs.Words.Forms.{hash_in, runs_form, requester_form, halted_form, still_form}
use Rattle.core_world.specs.Trees.Operations.{value_found}
use Rattle.core_world.specs.Steps.{stamp_by, with_entry}
use Rattle.heap_table.specs.declared.afters.Stand.{Stand}

-- what the thread knows of the safepoint word after it loaded this form, and after it left this form there
abbrev pub looked : Option SafeForm → Stand → Stand
looked f s =
    record {
      running = s.running;
      requesting = s.requesting;
      reached = s.reached || (s.requesting && still_form f);
      halted = s.halted || halted_form f;
    }

abbrev pub left : Option SafeForm → ℕ → Stand → Stand
left f t s =
    record {
      running = runs_form f t;
      requesting = is_thread (requester_form f) t;
      reached = s.reached && is_thread (requester_form f) t;
      halted = s.halted || halted_form f;
    }

abbrev pub stand_after : WordId → Act → ℕ → ℕ → Stand → Stand
stand_after Safepoint act.Load word t s = looked (read_safe word) s
stand_after Safepoint _ word t s = left (read_safe word) t s
stand_after _ act word t s = s

-- what a step logs that found this word
abbrev pub entry_after : LogEffect → ℕ → Option Entry
entry_after Quiet found = None
entry_after (Log e) found = Some e
entry_after (LogGet o slot) found = Some (entry.Get o slot (value_found (read_value found)))
entry_after (LogHash o) found = cond (hash_in found == 0) None (Some (entry.Hash o (hash_in found) None))

abbrev pub with_any_entry : Option Entry → ℕ → List Logged → List Logged
with_any_entry None found log = log
with_any_entry (Some e) found log = with_entry e found log

abbrev pub StampFits : LogEffect → ℕ → ℕ → Type 0
StampFits (Log e) found last = stamp_by e found last < 2 ^ 64
StampFits _ found last = last + 1 < 2 ^ 64

-- how many objects the thread has made
abbrev pub made_after : LogEffect → ℕ → ℕ
made_after (Log (entry.New o class)) made = made + 1
made_after _ made = made
