-- How large a program may be: the limits of its heap, and those of its text alone.
use Rattle.std.specs.Prelude.{ℕ}
pub use Rattle.plain_monitor.specs.Limits.{most_classes, most_slots, most_objects, most_threads}

-- locals of a thread
abbrev pub most_locals : ℕ
most_locals = 32

-- instructions of a thread
abbrev pub most_code : ℕ
most_code = 4096
