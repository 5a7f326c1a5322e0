-- The keys of a search for all ends: the words of machines. Which key a key leads to by an entry of a thread.
use Rattle.std.specs.Prelude.{ℕ, Bool, if◌then◌else◌, List, Option, None, option_map}
use Rattle.std.specs.List.{list_any}
use Rattle.object_program.specs.Program.{ProgramText}
use Rattle.plain_machine.specs.Machine.{PlainMachine, new_machine}
use Rattle.every_outcome.specs.Fuel.{is_spent, refuelled}
use Rattle.machine_words.specs.MachineWords.{words_of, machine_of}
use Rattle.outcome_search.specs.Settled.{after_next, settled}

-- some thread had no fuel left before an instruction
abbrev pub is_any_spent : PlainMachine → Bool
is_any_spent m = list_any (λ s. is_spent s.mode) m.threads

-- the words of the machine where it comes to by entries that go alone, at most so many
abbrev pub key_of : ℕ → ℕ → PlainMachine → List ℕ
key_of fuel steps m = words_of (settled fuel steps (refuelled fuel m))

abbrev pub first_key : ProgramText → ℕ → ℕ → List ℕ
first_key p fuel steps = key_of fuel steps (new_machine p fuel)

-- the key after the entry of thread t; none where a thread is spent, as its machine isn't gone into
abbrev pub next_of : ℕ → ℕ → ℕ → PlainMachine → Option (List ℕ)
next_of fuel steps t m = if is_any_spent m then None else option_map (λ n. key_of fuel steps n) (after_next m t)

abbrev pub next_key : ProgramText → ℕ → ℕ → List ℕ → ℕ → Option (List ℕ)
next_key p fuel steps key t = next_of fuel steps t (machine_of p fuel key)
