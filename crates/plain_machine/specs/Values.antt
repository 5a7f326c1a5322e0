-- Which objects and values may stand beside the objects of a program.
use Rattle.std.specs.Prelude.{ℕ, ◌<◌}
use Rattle.plain_monitor.specs.declared.entry.Value.{Value}
use Rattle.plain_monitor.specs.declared.entry.Value.TheVariants.{Nil, Int, Ref}
use Rattle.plain_monitor.specs.Numbers.{IsInRange}
use Rattle.object_program.specs.Program.{ProgramText, objects_total}

-- a reference is to one of the first n objects
abbrev pub RefersBelow : ℕ → Value → Type 0
RefersBelow n Nil = Unit {0}
RefersBelow n (Int z) = Unit {0}
RefersBelow n (Ref o) = o < n

-- a number is in the range of values
abbrev pub HasRange : Value → Type 0
HasRange (Int z) = IsInRange z
HasRange v = Unit {0}

-- a value that may stand beside n objects
abbrev pub IsValueOf : ℕ → Value → Type 0
IsValueOf n v = RefersBelow n v × HasRange v

-- object o is one of the program's
abbrev pub IsObject : ProgramText → ℕ → Type 0
IsObject p o = o < objects_total p
