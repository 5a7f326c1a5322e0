-- The words of a thread: its place, its dumps and its mode, how many objects it has made, and its locals. Neither its fuel nor its holds are in them,
-- nor the call that it stands before: the objects tell its holds, and the instruction that it is at tells the call.
use Rattle.std.specs.Prelude.{ℕ, zero, suc, ◌+◌, ◌*◌, ◌/◌, ◌%◌, List, [], ◌∷◌, ◌++◌, length, map}
use Rattle.plain_monitor.specs.declared.entry.Value.{Value}
use Rattle.plain_monitor.specs.declared.entry.Ending.TheVariants.{Done}
use Rattle.plain_monitor.specs.Objects.{PlainObject}
use Rattle.plain_monitor.specs.ValueWords.{word_of}
use Rattle.object_program.specs.declared.program.Code.{Code}
use Rattle.object_program.specs.Program.{ProgramText}
use Rattle.plain_machine.specs.declared.monitor_call.Mode.{Mode}
use Rattle.plain_machine.specs.declared.monitor_call.Mode.TheVariants.{Calling, Unwinding}
use Rattle.plain_machine.specs.Thread.{ThreadState, Step, Calls, step_of}
use Rattle.plain_machine.specs.Running.{instruction_at}
use Rattle.plain_machine.specs.Machine.{code_of}
use Rattle.machine_laws.specs.ReachedMonitor.{standing}
use Rattle.machine_words.specs.Readers.{read_values}
use Rattle.machine_words.specs.ModeWords.{mode_kind, mode_rest, mode_with}

-- a thread makes at most 4 dumps, and there are fewer than 32 kinds of modes
abbrev pub head_word : ThreadState → ℕ
head_word s = (s.place * 8 + s.dumps) * 32 + mode_kind s.mode

abbrev pub thread_words : ThreadState → List ℕ
thread_words s = head_word s ∷ mode_rest s.mode ∷ s.made ∷ length s.locals ∷ map word_of s.locals

abbrev pub threads_words : List ThreadState → List ℕ
threads_words [] = []
threads_words (s ∷ ss) = thread_words s ++ threads_words ss

-- what the words of a thread say by themselves
pub record ThreadParts : Type 0 where
  pub place : ℕ
  pub dumps : ℕ
  pub kind : ℕ
  pub rest : ℕ
  pub made : ℕ
  pub locals : List Value

abbrev pub no_parts : ThreadParts
no_parts = record { place = 0; dumps = 0; kind = 0; rest = 0; made = 0; locals = [] }

abbrev pub parts_with : ℕ → ℕ → ℕ → List Value → ThreadParts
parts_with head rest made locals =
    record { place = head / 256; dumps = head / 32 % 8; kind = head % 32; rest = rest; made = made; locals = locals }

-- the parts of a thread, and the words after it
abbrev pub read_thread : List ℕ → ThreadParts × List ℕ
read_thread (head ∷ rest ∷ made ∷ locals ∷ ws) =
    (parts_with head rest made (read_values locals ws).0, (read_values locals ws).1)
read_thread ws = (no_parts, [])

-- the parts of so many threads, and the words after them
abbrev pub read_threads : ℕ → List ℕ → List ThreadParts × List ℕ
read_threads zero ws = ([], ws)
read_threads (suc n) ws =
    ((read_thread ws).0 ∷ (read_threads n (read_thread ws).1).0, (read_threads n (read_thread ws).1).1)

-- how often thread t holds each of the objects
abbrev pub holds_in : ℕ → List PlainObject → List ℕ
holds_in t objects = map (λ x. standing x.monitor t) objects

-- the mode of a thread that stands before a call, by the instruction that it is at
abbrev pub calling_in : Step → Mode
calling_in (Calls c) = Calling c
calling_in step = Unwinding Done

-- the thread with these parts before it is told in which mode it is
abbrev pub unmoded : ℕ → ℕ → List PlainObject → ThreadParts → ThreadState
unmoded fuel t objects parts = record {
  place = parts.place;
  locals = parts.locals;
  fuel = fuel;
  holds = holds_in t objects;
  dumps = parts.dumps;
  made = parts.made;
  mode = Unwinding Done;
}

abbrev pub thread_with : ProgramText → List Code → ThreadParts → ThreadState → ThreadState
thread_with p code parts s =
    record s { mode = mode_with (calling_in (step_of p s (instruction_at code s.place))) parts.kind parts.rest }

-- the threads with these parts, where the first is thread t
abbrev pub threads_with : ProgramText → ℕ → List PlainObject → ℕ → List ThreadParts → List ThreadState
threads_with p fuel objects t [] = []
threads_with p fuel objects t (parts ∷ others) =
    thread_with p (code_of p t) parts (unmoded fuel t objects parts) ∷ threads_with p fuel objects (t + 1) others
