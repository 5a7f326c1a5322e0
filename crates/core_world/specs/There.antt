-- What a step asks of its heap and its thread besides: that the heap has the word, and that there is a place for the shot that it takes.
use Rattle.std.specs.Prelude.{ℕ, ◌<◌, ◌≤◌, length}
use Rattle.plain_monitor.specs.Limits.{most_holds}
use Rattle.core_world.specs.declared.word_id.WordId.{WordId}
use Rattle.core_world.specs.declared.word_id.WordId.TheVariants.{Safepoint, Prototype, Revocations, LastBulk, Mark, Stamp, Slot, Hold, Displaced}
use Rattle.core_world.specs.declared.word_id.WordId.TheVariants.{Waiting, Length, Owner, Recursions, Header, Object, Claim, End, Ring, Class}
use Rattle.core_world.specs.declared.plan.LocalEffect.{LocalEffect}
use Rattle.core_world.specs.declared.plan.LocalEffect.TheVariants.{TakeShot}
use Rattle.core_world.specs.declared.plan.StepPlan.{StepPlan}
use Rattle.core_world.specs.Threads.ThreadView.{ThreadView}
use Rattle.core_world.specs.Words.Shape.{Shape, slots_of, monitor_count, ring_places}

-- the heap has such a word: each object has its slots, and each thread room for the most lock records
abbrev pub IsIn : Shape → WordId → Type 0
IsIn s Safepoint = Unit {0}
IsIn s (Prototype c) = c < s.classes
IsIn s (Revocations c) = c < s.classes
IsIn s (LastBulk c) = c < s.classes
IsIn s (Mark o) = o < length s.objects
IsIn s (Stamp o) = o < length s.objects
IsIn s (Slot o i) = (o < length s.objects) × (i < slots_of s o)
IsIn s (Hold t p) = (t < s.threads) × (p < most_holds)
IsIn s (Displaced t p) = (t < s.threads) × (p < most_holds)
IsIn s (Waiting t) = t < s.threads
IsIn s (Length t) = t < s.threads
IsIn s (Owner m) = m < monitor_count s
IsIn s (Recursions m) = m < monitor_count s
IsIn s (Header m) = m < monitor_count s
IsIn s (Object m) = m < monitor_count s
IsIn s Claim = Unit {0}
IsIn s End = Unit {0}
IsIn s (Ring p) = p < ring_places s
IsIn s (Class o) = (o < length s.objects) × (s.declared ≤ o)

-- there is a place for the shot: a thread takes at most 4
abbrev pub HasPlace : LocalEffect → ℕ → Type 0
HasPlace TakeShot taken = taken < 4
HasPlace _ taken = Unit {0}

abbrev pub IsThere : Shape → ThreadView → StepPlan → Type 0
IsThere s k p = IsIn s p.at × HasPlace p.own (length k.shots)
