-- The words of a machine, and the machine that they tell, with its fuel filled up.
use Rattle.std.specs.Prelude.{ℕ, List, ◌++◌, length}
use Rattle.plain_monitor.specs.Objects.{PlainObject}
use Rattle.object_program.specs.Program.{ProgramText, objects_total, slots_of}
use Rattle.plain_machine.specs.Machine.{PlainMachine}
use Rattle.machine_words.specs.ThreadWords.{ThreadParts, threads_words, read_threads, threads_with}
use Rattle.machine_words.specs.MadeWords.{made_words, read_made}
use Rattle.machine_words.specs.ObjectWords.{objects_words, read_objects}

-- the program isn't in them
abbrev pub words_of : PlainMachine → List ℕ
words_of m = threads_words m.threads ++ (made_words m.made ++ objects_words 0 m.objects)

abbrev pub machine_with : ProgramText → ℕ → List ThreadParts → List (List ℕ) → List PlainObject → PlainMachine
machine_with p fuel parts made objects =
    record { program = p; objects = objects; made = made; threads = threads_with p fuel objects 0 parts }

-- the machine of the program whose threads have these parts and this much fuel each, with what is made and the words of its objects
abbrev pub machine_beside : ProgramText → ℕ → List ThreadParts → List (List ℕ) × List ℕ → PlainMachine
machine_beside p fuel parts r = machine_with p fuel parts r.0 (read_objects (slots_of p) 0 (objects_total p) r.1)

-- the same, by the words that stand after those of its threads
abbrev pub machine_from : ProgramText → ℕ → List ThreadParts × List ℕ → PlainMachine
machine_from p fuel r = machine_beside p fuel r.0 (read_made (length p.threads) r.1)

-- the same, by all its words
abbrev pub machine_of : ProgramText → ℕ → List ℕ → PlainMachine
machine_of p fuel words = machine_from p fuel (read_threads (length p.threads) words)
