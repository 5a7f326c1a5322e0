-- How large a program may be, and so a heap and the logs of its threads.
use Rattle.std.specs.Prelude.{ℕ, ◌+◌, ◌*◌}

abbrev pub most_threads : ℕ
most_threads = 16

abbrev pub most_classes : ℕ
most_classes = 64

-- slots of an object
abbrev pub most_slots : ℕ
most_slots = 16

-- objects that a program declares
abbrev pub most_objects : ℕ
most_objects = 4096

-- objects that a thread may make, besides those that the program declares
abbrev pub most_made : ℕ
most_made = 1024

-- objects in all: the declared ones, and those that each of the threads may make
abbrev pub most_in_all : ℕ
most_in_all = most_objects + most_made * most_threads

-- holds of a thread, on all objects together, and so its lock records
abbrev pub most_holds : ℕ
most_holds = 64

-- instructions that a thread may execute
abbrev pub most_fuel : ℕ
most_fuel = 200000

-- what a log may have at most: two entries for each unit of fuel, an Exit for each hold, a hash and an end
abbrev pub entries_for : ℕ → ℕ
entries_for fuel = 2 * fuel + (most_holds + 2)
