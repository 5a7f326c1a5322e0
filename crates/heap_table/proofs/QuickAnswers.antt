-- What a quick enter or exit answers, by the steps that are left.
use Rattle.std.proofs.Common.{◌≡◌, ℕ, false, refl, sym, ap, ◌∙◌}
use Rattle.mark_word.specs.Mark.{read_mark}
use Rattle.mark_word.specs.Owner.{read_owner}
use Rattle.core_world.specs.declared.heap_call.HeapCall.TheVariants.{Enter, Exit}
use Rattle.core_world.specs.Threads.ThreadView.{ThreadView, local_of}
use Rattle.core_world.specs.Trees.BiasSteps.{bias_enter_by}
use Rattle.core_world.specs.Trees.Operations.{answer, enter_steps, enter_tried, exit_steps}
use Rattle.core_world.specs.Trees.Plans.{CallContext, done_with}
use Rattle.heap_table.specs.ExitParts.{owned_exit}
use Rattle.heap_table.specs.Kept.{Mirrors}
use Rattle.heap_table.specs.Quick.{EntersFree, HasEntered, HasLeft, IsFree, LeavesFree, entering, entered, leaving}
use Rattle.heap_table.specs.Resting.{start_now}
use Rattle.heap_table.specs.Seen.{HeapSeen, PassSeen}
use Rattle.heap_table.specs.declared.mirror.Mirror.{Mirror}
use Rattle.heap_table.specs.declared.quick.QuickEnter.{QuickEnter}
use Rattle.heap_table.specs.declared.quick.QuickEnter.TheVariants as enters
use Rattle.heap_table.specs.declared.quick.QuickExit.{QuickExit}
use Rattle.heap_table.specs.declared.quick.QuickExit.TheVariants as exits
use Rattle.heap_table.specs.declared.afters.Stand.{Stand}
use Rattle.heap_table.specs.inner.Amid.{EntersIdle, IsIdle, IsSameFrame, IsStartOf, KeepsExit, KeepsStart, Late, LeavesIdle, enter_left, exit_left}
use Rattle.heap_table.proofs.Late.{begun_on, late_as, made_on}
use Rattle.heap_table.proofs.Loops.{binds}
use Rattle.heap_table.proofs.StepsLeft.{never}

-- THE ANSWER, by what is left
pub enter_answered : (h : HeapSeen) (o q : PassSeen) (ob now : ℕ) (k j : ThreadView) (m : Mirror) (r : QuickEnter)
    → q ≡ record o { known = j } → IsStartOf o.known k → KeepsStart r k j
    → Late h (Enter ob now) o (enter_steps h.heap.shape (start_now h o) ob now) j (enter_left h.heap.shape (entering ob now) (start_now h o) (entered ob now) r) m
    → HasEntered h o q ob now r
enter_answered h o q ob now k j m enters.Not same first keeps late = absurd (never late.left refl)
enter_answered h o q ob now k j m (enters.Done path) same first keeps late = made_on late q same
enter_answered h o q ob now k j m (enters.Raced mark found) same first keeps late = made_on late q same
enter_answered h o q ob now k j m (enters.Unbiased mark) same first keeps late =
    begun_on late q same (keeps.local ∙ first.local) (keeps.kept ∙ first.kept)
enter_answered h o q ob now k j m (enters.Biased mark prototype) same first keeps late =
    begun_on (late_as late (sym (binds (bias_enter_by (read_mark prototype) (entering ob now) (start_now h o).local ob mark prototype)
    (λ t. enter_tried t h.heap.shape (entering ob now) (start_now h o) (entered ob now)) answer))) q same
    (keeps.local ∙ first.local) (keeps.kept ∙ first.kept)
enter_answered h o q ob now k j m (enters.Taken monitor found) same first keeps late =
    begun_on late q same (keeps.local ∙ first.local) (keeps.kept ∙ first.kept)

-- likewise of an exit
pub exit_answered : (h : HeapSeen) (p q : PassSeen) (o : ℕ) (j : ThreadView) (m : Mirror) (r : QuickExit)
    → Late h (Exit o) p (exit_steps (start_now h p) o) j (exit_left (leaving o) (local_of p.known) o r) m → KeepsExit o r p.known j
    → q ≡ record p { known = j } → HasLeft h p q o r
exit_answered h p q o j m exits.Not late keeps same = absurd (never late.left refl)
exit_answered h p q o j m exits.Left late keeps same = made_on late q same
exit_answered h p q o j m exits.Inflating late keeps same = made_on late q same
exit_answered h p q o j m (exits.Raced mark found) late keeps same = made_on late q same
exit_answered h p q o j m (exits.Owned n owner place) late keeps same = (
  keeps.0,
  begun_on (late_as late (sym (binds (owned_exit (read_owner owner) (leaving o) (local_of p.known) o n) (λ _. done_with tt) answer))) q same
      keeps.1.local keeps.1.kept,
)

-- THE THREAD IS FREE again, where the mirror stayed as idle as it was.
free_again : (e : CallContext) (k j : ThreadView) (m n : Mirror) → IsFree k → Mirrors m k → Mirrors n j → IsSameFrame m n
    → e.check ≡ false → IsIdle e n → IsFree j
free_again e k j m n free before after frame unchecked idle = record {
  runs = after.running ∙ ap (λ (s : Stand). s.running) frame.stand ∙ sym before.running ∙ free.runs;
  asks = after.requesting ∙ ap (λ (s : Stand). s.requesting) frame.stand ∙ sym before.requesting ∙ free.asks;
  waits = after.wait ∙ frame.wait ∙ sym before.wait ∙ free.waits;
  left = after.unfinished ∙ idle.left;
  checks = after.checking ∙ idle.check ∙ unchecked;
}

pub enters_free : (e : CallContext) (k j : ThreadView) (m n : Mirror) (r : QuickEnter) → IsFree k → Mirrors m k → Mirrors n j
    → IsSameFrame m n → e.check ≡ false → EntersIdle r e n → EntersFree j r
enters_free e k j m n (enters.Done path) free before after frame unchecked idle = free_again e k j m n free before after frame unchecked idle
enters_free e k j m n enters.Not free before after frame unchecked idle = tt
enters_free e k j m n (enters.Raced mark found) free before after frame unchecked idle = tt
enters_free e k j m n (enters.Unbiased mark) free before after frame unchecked idle = tt
enters_free e k j m n (enters.Biased mark prototype) free before after frame unchecked idle = tt
enters_free e k j m n (enters.Taken monitor found) free before after frame unchecked idle = tt

pub leaves_free : (e : CallContext) (k j : ThreadView) (m n : Mirror) (r : QuickExit) → IsFree k → Mirrors m k → Mirrors n j
    → IsSameFrame m n → e.check ≡ false → LeavesIdle r e n → LeavesFree j r
leaves_free e k j m n exits.Left free before after frame unchecked idle = free_again e k j m n free before after frame unchecked idle
leaves_free e k j m n exits.Not free before after frame unchecked idle = tt
leaves_free e k j m n exits.Inflating free before after frame unchecked idle = tt
leaves_free e k j m n (exits.Raced mark found) free before after frame unchecked idle = tt
leaves_free e k j m n (exits.Owned monitor owner place) free before after frame unchecked idle = tt

-- a mirror of a thread that is in the middle of nothing says so
pub is_idle : (e : CallContext) (k : ThreadView) (m : Mirror) → IsFree k → Mirrors m k → e.check ≡ false → IsIdle e m
is_idle e k m free shows unchecked = record { left = sym shows.unfinished ∙ free.left; check = sym shows.checking ∙ free.checks ∙ sym unchecked }
