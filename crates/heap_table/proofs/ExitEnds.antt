-- An exit that came so far, in other words, and what its mirror shows.
use Rattle.std.proofs.Common.{◌≡◌, ℕ, ◌+◌, ◌^◌, ◌<◌, ◌≤◌, Bool, true, false, [], ◌∷◌, length, length-append, ap, ◌∙◌, subst, arith}
use Rattle.plain_monitor.specs.declared.entry.Entry.TheVariants as entry
use Rattle.plain_monitor.specs.History.{last_stamp}
use Rattle.core_world.specs.Clauses.Lengths.{log_limit}
use Rattle.core_world.specs.Threads.ThreadView.{ThreadView, Local}
use Rattle.core_world.specs.Trees.Plans.{CallContext}
use Rattle.core_law.specs.Logic.{Heap}
use Rattle.heap_table.specs.Kept.{Mirrors}
use Rattle.heap_table.specs.Seen.{HeapSeen, PassSeen}
use Rattle.heap_table.specs.declared.mirror.Mirror.{Mirror}
use Rattle.heap_table.specs.declared.quick_exits.ExitPart.{ExitPart}
use Rattle.heap_table.specs.declared.quick_exits.ExitPart.TheVariants as parts
use Rattle.heap_table.specs.inner.Amid.{ExitTree, IsStartOf, Late, lagging}
use Rattle.heap_table.specs.inner.Leaving.{KeepsPart, LatePart, PartShown, ending_part, part_left}
use Rattle.heap_table.proofs.Follow.{few_given, last_end}
use Rattle.heap_table.proofs.Late.{start_since}
use Rattle.heap_table.proofs.StepsLeft.{left_as}

-- What the call took at its beginning is said in other words.
pub part_by : {h : HeapSeen} {p : PassSeen} {d : ExitTree} {e : CallContext} {o : ℕ} {r : ExitPart} {l n : Local} {m : Mirror} {k : ThreadView} → l ≡ n
    → LatePart h p d e o r l m k → LatePart h p d e o r n m k
part_by {h = h} {p = p} {d = d} {e = e} {o = o} {r = r} {m = m} {k = k} same late = subst (λ (x : Local). LatePart h p d e o r x m k) same late

-- A step that doesn't end the exit leaves all that the mirror shows: the hold is left to clear, or another thread's steps are in the way.
pub held_part : {h : HeapSeen} {p : PassSeen} {d x : ExitTree} {e : CallContext} {o : ℕ} {m : Mirror} {j : ThreadView} (l : Local) (r : ExitPart)
    → l.thread ≡ m.thread → l.holds ≡ m.holds.words → ((k : ThreadView) (g : Heap) → Mirrors (lagging e m) k → PartShown g e o r m k)
    → x ≡ part_left e l o r → Late h e.task p d j x (lagging e m) → LatePart h p d e o r l m j
held_part {h = h} {j = j} l r thread holds shows is late =
    record { left = left_as late.left is; home = late.home; own = late.mirrors.thread; thread = thread; holds = holds; shown = shows j h.heap late.mirrors }

-- Where two ways are made one after the other, what was taken at the beginning stays.
pub part_keeps : (r : ExitPart) (i k j : ThreadView) → IsStartOf i k → KeepsPart r k j → KeepsPart r i j
part_keeps (parts.Owned m owner) i k j since is = start_since since is
part_keeps parts.Held i k j since is = tt
part_keeps parts.Logged i k j since is = tt
part_keeps parts.Inflating i k j since is = tt
part_keeps (parts.Raced mark found) i k j since is = tt

-- THE LOG OF A MIRROR whose exit is left to clear has room by numbers for one more stamp and entry.
module _ (g : Heap) (e : CallContext) (o : ℕ) (m : Mirror) (k : ThreadView) where
  pub part_few : (logged : Bool) → PartShown g e o (ending_part logged) m k → length k.log ≤ log_limit → m.given + 1 < 2 ^ 42
  part_few false shown few = few_given _ _ shown few
  part_few true shown few =
      let before = shown.before.log in
      let longer = length-append before (record { stamp = last_stamp before + 1; entry = entry.Exit o } ∷ []) in
      let log = ap length shown.log in
      few_given _ _ shown.shown (omega (arith, few, longer, log))

  pub part_low : (logged : Bool) → PartShown g e o (ending_part logged) m k → last_stamp k.log ≤ 2 ^ 45 → m.last + 1 < 2 ^ 64
  part_low false shown low = let last = shown.last in omega (arith, low, last)
  part_low true shown low =
      let before = shown.before.log in
      let end = ap last_stamp shown.log ∙ last_end 0 before (record { stamp = last_stamp before + 1; entry = entry.Exit o }) in
      let last = shown.shown.last in
      omega (arith, low, end, last)
