-- What a closed heap has, as C reads it.
use Rattle.std.specs.Prelude.{ℕ, List, length, slice_index, slice_get, Result, Ok, Err, Option, Some, None, option_and_then, option_map}
use Rattle.plain_monitor.specs.declared.entry.Logged.{Logged}
use Rattle.core_world.specs.Threads.ThreadView.{DumpShot}
use Rattle.core_world.specs.Words.Forms.{is_halted}
use Rattle.heap_table.specs.declared.counts.ClassCounts.{ClassCounts}
use Rattle.lock_runtime_c.specs.declared.answers.Answer.{Answer}
use Rattle.lock_runtime_c.specs.declared.inner.Inner.{Inner}
use Rattle.lock_runtime_c.specs.declared.inner.Inner.TheVariants as inner
use Rattle.lock_runtime_c.specs.declared.left.Counts.{Counts}
use Rattle.lock_runtime_c.specs.declared.numbers.Row.{Row}
use Rattle.lock_runtime_c.specs.declared.outcome.Misuse.{Misuse}
use Rattle.lock_runtime_c.specs.declared.outcome.Misuse.TheVariants.{NoClass, NoDump, NoEntry, NoObject, NoThread, OtherKind}
use Rattle.lock_runtime_c.specs.Numbers.{bool_number, misused, plain, row_of, with_kind}

-- the answer for what is found, or this misuse
abbrev pub found_or : {A : Type 0} → Misuse → (A → Answer) → Option A → Answer
found_or why answer None = misused why
found_or why answer (Some a) = answer a

-- THE LOGS: how many entries of the thread's log no page had, and one of them
abbrev pub rest_answer : Inner → ℕ → Answer
rest_answer (inner.Closed c) t = found_or NoThread (λ log. with_kind 0 0 (length log)) (slice_get c.logs t)
rest_answer _ t = misused OtherKind

abbrev pub entry_answer : List Logged → ℕ → Answer
entry_answer log number = found_or NoEntry (λ l. plain 0) (slice_get log number)

abbrev pub entry_row : List Logged → ℕ → Option Row
entry_row log number = option_map row_of (slice_get log number)

abbrev pub rest_entry_answer : Inner → ℕ → ℕ → Answer
rest_entry_answer (inner.Closed c) t number = found_or NoThread (λ log. entry_answer log number) (slice_get c.logs t)
rest_entry_answer _ t number = misused OtherKind

abbrev pub rest_row : Inner → ℕ → ℕ → Option Row
rest_row (inner.Closed c) t number = option_and_then (λ log. entry_row log number) (slice_get c.logs t)
rest_row _ t number = None

-- THE COUNTS of a class: the verdicts that the thread counted
abbrev pub counts_of : ClassCounts → Counts
counts_of k = record { single = k.single; rebias = k.rebias; revoke = k.revoke; reset = k.reset }

abbrev pub class_answer : List ClassCounts → ℕ → Answer
class_answer all class = found_or NoClass (λ k. plain 0) (slice_get all class)

abbrev pub class_counts : List ClassCounts → ℕ → Option Counts
class_counts all class = option_map counts_of (slice_get all class)

abbrev pub counts_answer : Inner → ℕ → ℕ → Answer
counts_answer (inner.Closed c) t class = found_or NoThread (λ all. class_answer all class) (slice_get c.counts t)
counts_answer _ t class = misused OtherKind

abbrev pub counts_found : Inner → ℕ → ℕ → Option Counts
counts_found (inner.Closed c) t class = option_and_then (λ all. class_counts all class) (slice_get c.counts t)
counts_found _ t class = None

-- THE DUMPS of a thread, each by its number from 0
abbrev pub shot_or : Misuse → Option DumpShot → Result DumpShot Misuse
shot_or why None = Err why
shot_or why (Some s) = Ok s

abbrev pub shot_among : Option (List DumpShot) → ℕ → Result DumpShot Misuse
shot_among None dump = Err NoThread
shot_among (Some shots) dump = shot_or NoDump (slice_get shots dump)

abbrev pub shot_at : List (List DumpShot) → ℕ → ℕ → Result DumpShot Misuse
shot_at shots t dump = shot_among (slice_get shots t) dump

abbrev pub of_shot : (DumpShot → Answer) → Result DumpShot Misuse → Answer
of_shot answer (Ok s) = answer s
of_shot answer (Err why) = misused why

abbrev pub of_dump : (DumpShot → Answer) → Inner → ℕ → ℕ → Answer
of_dump answer (inner.Closed c) t dump = of_shot answer (shot_at c.shots t dump)
of_dump answer _ t dump = misused OtherKind

-- so many entries the log of thread u had at it
abbrev pub shot_cut : ℕ → DumpShot → Answer
shot_cut u s = found_or NoThread (λ count. with_kind 0 0 count) (slice_get s.cut u)

abbrev pub cut_answer : Inner → ℕ → ℕ → ℕ → Answer
cut_answer x t dump u = of_dump (shot_cut u) x t dump

abbrev pub owner_word : Option ℕ → ℕ
owner_word None = 0
owner_word (Some t) = t

-- and object o was held so often, by this thread
abbrev pub shot_cell : ℕ → DumpShot → Answer
shot_cell o s = found_or NoObject (λ cell. with_kind 0 cell.1 (owner_word cell.0)) (slice_get s.cells o)

abbrev pub cell_answer : Inner → ℕ → ℕ → ℕ → Answer
cell_answer x t dump o = of_dump (shot_cell o) x t dump

-- HALTED
abbrev pub halted_answer : Inner → Answer
halted_answer (inner.Closed c) = with_kind 0 (bool_number (is_halted (slice_index c.words 0))) 0
halted_answer _ = misused OtherKind
