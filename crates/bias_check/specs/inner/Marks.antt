-- How a check follows the hash entries: a mark for each object, and a generator for each thread.
use Rattle.std.specs.Prelude.{ℕ, zero, suc, ◌+◌, Bool, true, false, ◌&&◌, ◌==◌, if◌then◌else◌, List, [], ◌∷◌}
use Rattle.std.specs.Prelude.{◌++◌, length, replicate, slice_index_or, slice_set, Option, Some, None}
use Rattle.lock_policy.specs.Draws.{start_state, next_state, value_of}
use Rattle.plain_monitor.specs.declared.entry.Entry.{Entry}
use Rattle.plain_monitor.specs.declared.entry.Entry.TheVariants.{Hash}
use Rattle.object_program.specs.Program.{ProgramText, objects_total}
use Rattle.bias_check.specs.declared.hashes.Mark.{Mark}
use Rattle.bias_check.specs.declared.hashes.Mark.TheVariants.{Unseen, Undrawn, Drawn, Bad}
use Rattle.bias_check.specs.declared.hashes.Drawer.{Drawer}
use Rattle.bias_check.specs.inner.HashState.{HashState}
use Rattle.lock_journal.specs.Hashes.{first_word}

-- thread t's generator before its first draw
abbrev pub new_drawer : ℕ → ℕ → Drawer
new_drawer start t = record { draw = start_state (first_word start t); count = 0 }

-- the generators of the threads before thread t
abbrev pub drawers_to : ℕ → ℕ → List Drawer
drawers_to start zero = []
drawers_to start (suc t) = drawers_to start t ++ new_drawer start t ∷ []

abbrev pub new_hashes : ProgramText → ℕ → HashState
new_hashes p start =
    record { marks = replicate (objects_total p) Unseen; drawers = drawers_to start (length p.threads) }

-- one draw
abbrev pub drawer_next : Drawer → Drawer
drawer_next d = record { draw = next_state d.draw; count = d.count + 1 }

-- the next draw has this number and gives this value
abbrev pub gives : Drawer → ℕ → ℕ → Bool
gives d value number = (number == d.count + 1) && (value == value_of (next_state d.draw))

-- the mark after a hash entry before which none was drawn; `drawn` tells whether the draw is right, where it is one
abbrev pub first_mark : ℕ → Option Bool → Mark
first_mark value None = Undrawn value
first_mark value (Some right) = if right then Drawn value else Bad

abbrev pub second_mark : ℕ → Option Bool → Mark
second_mark value None = Drawn value
second_mark value (Some right) = Bad

-- the mark after one more hash entry
abbrev pub marked : Mark → ℕ → Option Bool → Mark
marked Unseen value drawn = first_mark value drawn
marked (Undrawn first) value drawn = if first == value then first_mark value drawn else Bad
marked (Drawn first) value drawn = if first == value then second_mark first drawn else Bad
marked Bad value drawn = Bad

abbrev pub marked_at : HashState → ℕ → ℕ → Option Bool → HashState
marked_at h o value drawn =
    record h { marks = slice_set h.marks o (marked (slice_index_or h.marks o Unseen) value drawn) }

abbrev pub drawer_at : HashState → ℕ → Drawer
drawer_at h t = slice_index_or h.drawers t (new_drawer 0 0)

abbrev pub drawn_at : HashState → ℕ → ℕ → ℕ → ℕ → HashState
drawn_at h t o value number =
    let d = drawer_at h t in
    marked_at (record h { drawers = slice_set h.drawers t (drawer_next d) }) o value (Some (gives d value number))

-- after an entry of thread t
abbrev pub noted : HashState → ℕ → Entry → HashState
noted h t (Hash o value None) = marked_at h o value None
noted h t (Hash o value (Some number)) = drawn_at h t o value number
noted h t e = h

-- after the last line, an object with this mark breaks the rule
abbrev pub is_bad : Mark → Bool
is_bad Unseen = false
is_bad (Undrawn value) = true
is_bad (Drawn value) = false
is_bad Bad = true
