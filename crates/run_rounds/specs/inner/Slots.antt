-- Runners in the slots of a pool.
use Rattle.std.specs.Prelude.{◌≡◌, ⊤, ℕ, true, false, []}
use Rattle.heap_table.specs.Seen.{HeapSeen}
use Rattle.object_program.specs.Program.{ProgramText}
use Rattle.thread_calls.specs.Timed.{IsTimed}
use Rattle.thread_frame.specs.Frames.{has_ended}
use Rattle.thread_interp.specs.Runners.{RunnerSeen}
use Rattle.turn_pool.specs.declared.word.Word.{Word}
use Rattle.turn_pool.specs.declared.word.Word.TheVariants.{Ready, Ended, Stopped}
use Rattle.run_rounds.specs.Rounds.{IsRunnerAt}

-- how a runner stands that lies at home under this word
abbrev pub StandsUnder : Word → RunnerSeen → Type 0
StandsUnder Ready r = ⊤
StandsUnder Ended r = has_ended r.frame ≡ true
StandsUnder Stopped r = r.pass.known.halted ≡ true

-- in slot i lies the runner of thread i
pub record MayLie (h : HeapSeen) (p : ProgramText) (fuel tick : ℕ) (w : Word) (i : ℕ) (r : RunnerSeen) : Type 0 where
  pub at : IsRunnerAt h p fuel i r
  pub timed : IsTimed tick r.pass.known
  pub stands : StandsUnder w r

-- A type stands for a run: the heap, the program, the fuel and the tick of the run are its ghost members. They are those that a call is given.
pub record IsCourse (ch : HeapSeen) (cp : ProgramText) (cf ct : ℕ) (h : HeapSeen) (p : ProgramText) (fuel tick : ℕ)
    : Type 0 where
  pub heap : ch ≡ h
  pub program : cp ≡ p
  pub fuel_is : cf ≡ fuel
  pub tick_is : ct ≡ tick

-- what stands for a run before one is named
abbrev pub no_heap : HeapSeen
no_heap =
    record {
      table = record { words = 0; slots = 0; views_name = 0; atom = 0; block = 0; offset = 0; slot_names = [] };
      heap = record { shape = record { threads = 0; classes = 0; declared = 0; objects = [] }; start = 0; biasing = false };
      room = 0;
    }

abbrev pub no_program : ProgramText
no_program = record { classes = []; objects = []; threads = [] }
