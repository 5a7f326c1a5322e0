-- Programs that ask for no hash, and machines whose threads ask for none.
use Rattle.std.specs.Prelude.{◌≡◌, ℕ, Bool, true, false}
use Rattle.std.specs.List.{AllByRecursion, list_any}
use Rattle.object_program.specs.declared.program.Code.{Code}
use Rattle.object_program.specs.declared.program.Code.TheVariants as code
use Rattle.object_program.specs.Program.{ProgramText}
use Rattle.plain_machine.specs.declared.monitor_call.MonitorCall.TheVariants as call
use Rattle.plain_machine.specs.declared.monitor_call.Mode.{Mode}
use Rattle.plain_machine.specs.declared.monitor_call.Mode.TheVariants.{Calling}
use Rattle.plain_machine.specs.Thread.{ThreadState}
use Rattle.plain_machine.specs.Machine.{PlainMachine}
use Rattle.machine_laws.specs.Reached.{AtEach}

abbrev pub is_hash_code : Code → Bool
is_hash_code (code.Hash x o) = true
is_hash_code c = false

-- no thread has a `hash` instruction
abbrev pub HasNoHash : ProgramText → Type 0
HasNoHash p = AllByRecursion (λ d. list_any is_hash_code d.code ≡ false) p.threads

abbrev pub asks_hash : Mode → Bool
asks_hash (Calling (call.Hash x o)) = true
asks_hash mode = false

-- no thread has the instruction, and none stands before such a call
pub record AsksNoHash (m : PlainMachine) : Type 0 where
  pub program : HasNoHash m.program
  pub threads : AtEach (λ (t : ℕ) (s : ThreadState). asks_hash s.mode ≡ false) m.threads
