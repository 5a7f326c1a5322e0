-- What no step changes of a heap: how many there are of everything.
use Rattle.std.specs.Prelude.{ℕ, zero, suc, ◌+◌, ◌^◌, ◌<◌, ◌≤◌, nat_le, if◌then◌else◌, List, length, slice_index_or}
use Rattle.std.specs.List.{AllByRecursion}
use Rattle.plain_monitor.specs.Limits.{most_threads, most_classes, most_slots, most_in_all}

pub record Shape : Type 0 where
  pub threads : ℕ
  pub classes : ℕ
  -- how many objects are declared: they have the first numbers, and threads make the others
  pub declared : ℕ
  -- the class and the number of slots of each object; of one that is made, the number of slots alone counts
  pub objects : List (ℕ × ℕ)

-- the class of a declared object
abbrev pub class_in_shape : Shape → ℕ → ℕ
class_in_shape s o = (slice_index_or s.objects o (0, 0)).0

abbrev pub slots_of : Shape → ℕ → ℕ
slots_of s o = (slice_index_or s.objects o (0, 0)).1

-- a monitor for each object, and one that each thread may keep besides
abbrev pub monitor_count : Shape → ℕ
monitor_count s = length s.objects + s.threads

-- the least exponent from b on, and at most b + f, of which the power of two is at least n
abbrev pub bits_for : ℕ → ℕ → ℕ → ℕ
bits_for zero b n = b
bits_for (suc f) b n = if nat_le n (2 ^ b) then b else bits_for f (b + 1) n

-- the ring has the least power of two of places that is at least the number of monitors
unfoldable pub ring_bits : Shape → ℕ
ring_bits s = bits_for 15 0 (monitor_count s)

abbrev pub ring_places : Shape → ℕ
ring_places s = 2 ^ ring_bits s

-- the limits of a program
pub record IsInLimits (s : Shape) : Type 0 where
  pub threads : s.threads ≤ most_threads
  pub classes : s.classes ≤ most_classes
  pub declared : s.declared ≤ length s.objects
  pub objects : length s.objects ≤ most_in_all
  pub each : AllByRecursion (λ x. (x.0 < s.classes) × (x.1 ≤ most_slots)) s.objects
