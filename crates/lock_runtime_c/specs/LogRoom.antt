-- The room that a thread's log keeps.
use Rattle.std.specs.Prelude.{◌≡◌, ℕ, ◌+◌, ◌≤◌, ◌&&◌, nat_le, not, Bool, true, false, length, if◌then◌else◌}
use Rattle.core_world.specs.declared.heap_call.HeapCall.{HeapCall}
use Rattle.core_world.specs.declared.heap_call.HeapCall.TheVariants.{Enter, Exit, Wait, Finish, Poll, Stop, Resume, Check}
use Rattle.core_world.specs.Clauses.Lengths.{log_limit}
use Rattle.core_world.specs.Words.Forms.{waits_on}
use Rattle.heap_table.specs.Kept.{all_holds}
use Rattle.heap_table.specs.Seen.{PassSeen}

-- so many entries more fit into the page, and into what stamps allow a log
pub record Fits (p : PassSeen) (entries : ℕ) : Type 0 where
  pub page : length p.known.log + entries ≤ p.limit
  pub stamps : length p.known.log + entries ≤ log_limit

-- The log has room for an exit of each hold. And where a page has room for no entry, so that none are kept, it has as much room as stamps allow: a call
-- is full only by these then.
pub record KeepsRoom (p : PassSeen) : Type 0 where
  pub exits : Fits p (all_holds p.known.holds)
  pub wide : p.room ≡ 0 → log_limit ≤ p.limit

-- For how many entries it has to have room before the call. An exit only takes up what its hold had kept. All else
-- leaves the room that each hold needs for its exit, and but for an end and a wait that has let go it leaves one more, for these; an enter is a hold
-- more.
abbrev pub room_for : PassSeen → HeapCall → ℕ
room_for p (Exit o) = 1
room_for p (Finish ending) = all_holds p.known.holds + 1
room_for p (Wait o now) = all_holds p.known.holds + (if waits_on p.known.wait o then 1 else 3)
room_for p (Enter o now) = all_holds p.known.holds + 3
room_for p _ = all_holds p.known.holds + 2

-- calls that log nothing need none
abbrev pub needs_room : HeapCall → Bool
needs_room Poll = false
needs_room Stop = false
needs_room Resume = false
needs_room Check = false
needs_room t = true

-- the log hasn't that room
abbrev pub is_full : PassSeen → HeapCall → Bool
is_full p t = needs_room t && not (nat_le (length p.known.log + room_for p t) p.limit && nat_le (length p.known.log + room_for p t) log_limit)
