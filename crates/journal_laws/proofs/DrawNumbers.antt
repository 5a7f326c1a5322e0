-- The number of a draw is at most that of the entries of its log.
use Rattle.std.proofs.Common.{ℕ, ◌+◌, ◌<◌, ◌≤◌, ◌^◌, List, [], ◌∷◌, ◌++◌, length, Option, Some, None, MatchOption, arith}
use Rattle.plain_monitor.specs.declared.entry.Entry.{Entry}
use Rattle.plain_monitor.specs.declared.entry.Entry.TheVariants as entry
use Rattle.plain_monitor.specs.declared.entry.Logged.{Logged}
use Rattle.core_world.specs.Clauses.Draws.{AreDraws, Draw, IsNextDraw, draw_in, drawn_by}
use Rattle.bias_check.specs.Lines.{IsWord}

-- the number of a draw has 32 bits
abbrev pub HasShortDraw : Entry → Type 0
HasShortDraw (entry.Hash o value drawn) = MatchOption drawn (Unit {0}) IsWord
HasShortDraw e = Unit {0}

one_at_most : (d : Option Draw) → drawn_by d ≤ 1
one_at_most None = omega arith
one_at_most (Some d) = omega arith

-- the entry after these is the next draw after no more than so many
pub record IsNextAmong (first n : ℕ) (before : List Logged) (l : Logged) : Type 0 where
  pub done : ℕ
  pub few : done ≤ n + length before
  pub next : IsNextDraw first done (draw_in l.entry)

next_among : (first n : ℕ) (before : List Logged) (l : Logged) (later : List Logged) → AreDraws first n (before ++ l ∷ later) → IsNextAmong first n before l
next_among first n [] l later h = record { done = n; few = omega arith; next = h.0 }
next_among first n (b ∷ before) l later h =
    let r = next_among first (drawn_by (draw_in b.entry) + n) before l later h.1 in
    let few = r.few in
    let one = one_at_most (draw_in b.entry) in
    record { done = r.done; few = omega (arith, few, one); next = r.next }

short_next : (first done : ℕ) (e : Entry) → done + 1 < 2 ^ 32 → IsNextDraw first done (draw_in e) → HasShortDraw e
short_next first done (entry.Hash o value (Some number)) few h = let is = h.0 in omega (arith, is, few)
short_next first done (entry.Hash o value None) few h = tt
short_next first done e few h = tt

pub draw_is_short : (first : ℕ) (before : List Logged) (l : Logged) (later : List Logged) → AreDraws first 0 (before ++ l ∷ later) → length before + 1 < 2 ^ 32
    → HasShortDraw l.entry
draw_is_short first before l later h few =
    let r = next_among first 0 before l later h in
    short_next first r.done l.entry (omega (arith, r.few, few)) r.next
