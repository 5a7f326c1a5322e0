-- What the loops that read words do to what they write.
use Rattle.std.specs.Prelude.{◌≡◌, ℕ, ◌+◌, ◌-◌, ◌*◌, ◌/◌, if◌then◌else◌, List, [], ◌∷◌, ◌++◌, length, slice_set, take, drop}
use Rattle.plain_monitor.specs.Limits.{most_made}
use Rattle.plain_monitor.specs.declared.entry.Ending.TheVariants.{Done}
use Rattle.plain_monitor.specs.Objects.{PlainObject, new_object}
use Rattle.object_program.specs.declared.program.Code.{Code}
use Rattle.object_program.specs.Program.{ProgramText}
use Rattle.plain_machine.specs.declared.monitor_call.MonitorCall.TheVariants.{Dump}
use Rattle.plain_machine.specs.declared.monitor_call.Mode.{Mode}
use Rattle.plain_machine.specs.declared.monitor_call.Mode.TheVariants.{Calling, Unwinding}
use Rattle.plain_machine.specs.Thread.{ThreadState, step_of}
use Rattle.plain_machine.specs.Running.{instruction_at}
use Rattle.plain_machine.specs.Machine.{code_of}
use Rattle.machine_laws.specs.ReachedMonitor.{standing}
use Rattle.machine_words.specs.MadeWords.{read_row}
use Rattle.machine_words.specs.ModeWords.{mode_with}
use Rattle.machine_words.specs.ObjectWords.{begins, after_one, read_object}
use Rattle.machine_words.specs.ThreadWords.{ThreadParts, read_thread, holds_in, calling_in}

-- so many items are read off these words, after others: `done` are they and those that were read, `left` are not read, which begin at `rest`
pub record Reads {A : Type 0} (read : ℕ → List ℕ → List A × List ℕ) (start : List A) (count : ℕ) (words : List ℕ) (done : List A) (left : ℕ)
    (rest : List ℕ) : Type 0 where
  pub items : start ++ (read count words).0 ≡ done ++ (read left rest).0
  pub beyond : (read count words).1 ≡ (read left rest).1

-- each item, of which the first has number k, becomes what the step makes of it and the words, which goes on with the words that the step leaves
abbrev pub walk : {A : Type 0} → (ℕ → A → List ℕ → A × List ℕ) → ℕ → List A → List ℕ → List A × List ℕ
walk step k [] ws = ([], ws)
walk step k (x ∷ xs) ws =
    ((step k x ws).0 ∷ (walk step (k + 1) xs (step k x ws).1).0, (walk step (k + 1) xs (step k x ws).1).1)

-- such a walk over the first items has come to item k, and what it made of those before stands in their places
pub record Walks {A : Type 0} (step : ℕ → A → List ℕ → A × List ℕ) (first : List A) (words : List ℕ) (k : ℕ) (items : List A) (rest : List ℕ)
    : Type 0 where
  pub done : (walk step 0 first words).0 ≡ take k items ++ (walk step k (drop k first) rest).0
  pub beyond : (walk step 0 first words).1 ≡ (walk step k (drop k first) rest).1
  pub left : drop k items ≡ drop k first
  pub count : length items ≡ length first

-- the object as at first
abbrev pub renewed : PlainObject → PlainObject
renewed x = new_object (length x.slots)

abbrev pub renew_step : ℕ → PlainObject → List ℕ → PlainObject × List ℕ
renew_step k x ws = (renewed x, ws)

-- object k, which has as many slots as the one that stands there, by the words that begin with its number; else it is as at first
abbrev pub object_step : ℕ → PlainObject → List ℕ → PlainObject × List ℕ
object_step k x ws = if begins k ws then read_object (length x.slots) (after_one ws) else (renewed x, ws)

-- after the numbers of the thread that makes this object, where those that threads make begin with the first
abbrev pub after_row : ℕ → ℕ → ℕ
after_row first number = first + ((number - first) / most_made + 1) * most_made

abbrev pub row_step : ℕ → List ℕ → List ℕ → List ℕ × List ℕ
row_step t row ws = read_row ws

-- a thread with these holds and parts, of which it isn't yet told before which call it stands
abbrev pub unplaced : ℕ → List ℕ → ThreadParts → ThreadState
unplaced fuel holds parts = record {
  place = parts.place;
  locals = parts.locals;
  fuel = fuel;
  holds = holds;
  dumps = parts.dumps;
  made = parts.made;
  mode = mode_with (Calling (Dump 0)) parts.kind parts.rest;
}

abbrev pub thread_step : ℕ → ℕ → ThreadState → List ℕ → ThreadState × List ℕ
thread_step fuel t s ws = (unplaced fuel s.holds (read_thread ws).0, (read_thread ws).1)

-- thread t holds the object with this number as often as its monitor says
abbrev pub hold_step : ℕ → PlainObject → ℕ → ThreadState → List ℕ → ThreadState × List ℕ
hold_step number x t s ws = (record s { holds = slice_set s.holds number (standing x.monitor t) }, ws)

-- these threads, of which the first is thread t, with the holds that all objects say
abbrev pub beside : List PlainObject → ℕ → List ThreadState → List ThreadState
beside objects t [] = []
beside objects t (s ∷ ss) = record s { holds = holds_in t objects } ∷ beside objects (t + 1) ss

abbrev pub placed_mode : Mode → Mode → Mode
placed_mode calling (Calling c) = calling
placed_mode calling mode = mode

-- the thread before it is told in which mode it is
abbrev pub modeless : ℕ → ThreadState → ThreadState
modeless fuel s = record s { fuel = fuel; mode = Unwinding Done }

-- the thread, which was told that it stands before a call, before the one that its instruction tells
abbrev pub placed : ProgramText → List Code → ℕ → ThreadState → ThreadState
placed p code fuel s =
    record (modeless fuel s) { mode = placed_mode (calling_in (step_of p (modeless fuel s) (instruction_at code s.place))) s.mode }

abbrev pub place_step : ProgramText → ℕ → ℕ → ThreadState → List ℕ → ThreadState × List ℕ
place_step p fuel t s ws = (placed p (code_of p t) fuel s, ws)
