-- Enters: by which marks none comes to an end, and that they take of their thread's knowledge its own words, its log and the monitor that it keeps.
use Rattle.std.proofs.Common.{◌≡◌, ℕ, ◌==◌, if◌then◌else◌, Option, Some, refl, ap, eq-eqb, ne_eqb}
use Rattle.plain_monitor.specs.declared.entry.Path.{Path}
use Rattle.mark_word.specs.declared.mark.MarkForm.{MarkForm}
use Rattle.mark_word.specs.declared.mark.MarkForm.TheVariants.{Inflating, Neutral, Locked, Inflated}
use Rattle.mark_word.specs.Mark.{read_mark}
use Rattle.core_world.specs.declared.answer.BiasTry.{BiasTry}
use Rattle.core_world.specs.declared.answer.BiasTry.TheVariants.{Unbiased}
use Rattle.core_world.specs.declared.answer.Progress.{Progress}
use Rattle.core_world.specs.Threads.ThreadView.{Start, local_of}
use Rattle.core_world.specs.Trees.LockSteps.{stack_enter_steps}
use Rattle.core_world.specs.Trees.MonitorSteps.{inflate_steps, monitor_enter_steps}
use Rattle.core_world.specs.Trees.Operations.{and_then, enter_at, enter_monitor_steps, enter_unbiased}
use Rattle.core_world.specs.Trees.Plans.{CallContext}
use Rattle.core_world.specs.Trees.StepTree.{StepTree, unreachable, ◌>>=◌}
use Rattle.core_world.specs.Words.Shape.{Shape}
use Rattle.heap_table.specs.Parts.{IsDueOn}
use Rattle.heap_table.specs.Resting.{start_now}
use Rattle.heap_table.specs.Seen.{HeapSeen, PassSeen, IsOf}
use Rattle.heap_table.proofs.StepsLeft.{AreLeft, all_left, left_as, left_then, left_else}

pub never_entered : (f : MarkForm) (s : Shape) (e : CallContext) (k : Start) (o mark : ℕ) → (f ≡ Inflating → ⊥) → ((hash age : ℕ) → f ≡ Neutral hash age → ⊥)
    → ((t p : ℕ) → f ≡ Locked t p → ⊥) → ((m : ℕ) → f ≡ Inflated m → ⊥) → enter_at (Some f) s e k o mark ≡ unreachable
never_entered Inflating s e k o mark inflating neutral locked inflated = absurd (inflating refl)
never_entered (Neutral hash age) s e k o mark inflating neutral locked inflated = absurd (neutral hash age refl)
never_entered (Locked t p) s e k o mark inflating neutral locked inflated = absurd (locked t p refl)
never_entered (Inflated m) s e k o mark inflating neutral locked inflated = absurd (inflated m refl)
never_entered _ s e k o mark inflating neutral locked inflated = refl

module _ (s : Shape) (e : CallContext) (k l : Start) (o : ℕ) (local : k.local ≡ l.local) (kept : k.kept ≡ l.kept) where
  by_record : (mark t : ℕ)
      → (if t == k.local.thread then stack_enter_steps e k.local o mark else enter_monitor_steps s e k o)
      ≡ (if t == l.local.thread then stack_enter_steps e l.local o mark else enter_monitor_steps s e l o)
  by_record mark t = λ i. if t == (local i).thread then stack_enter_steps e (local i) o mark
      else (inflate_steps s e (kept i) o >>= (λ (progress : Progress ℕ). and_then progress (λ m. monitor_enter_steps e (local i) o m)))

  pub enters_alike : (f : Option MarkForm) (mark : ℕ) → enter_at f s e k o mark ≡ enter_at f s e l o mark
  enters_alike (Some (Neutral hash age)) mark = λ i. stack_enter_steps e (local i) o mark
  enters_alike (Some (Locked t p)) mark = by_record mark t
  enters_alike (Some (Inflated m)) mark = λ i. monitor_enter_steps e (local i) o m
  enters_alike _ mark = refl

  pub unbiased_alike : (tried : BiasTry) → enter_unbiased tried s e k o ≡ enter_unbiased tried s e l o
  unbiased_alike (Unbiased mark) = enters_alike (read_mark mark) mark
  unbiased_alike _ = refl

-- what is left of an enter by its mark's form: where that is taken apart,
module _ {h : HeapSeen} {p : PassSeen} (e : CallContext) (o mark : ℕ) (f : MarkForm) (heap : IsOf h p)
    (due : IsDueOn h p e.task (enter_at (Some f) h.heap.shape e (start_now h p) o mark)) where
  abbrev pub IsLeft : StepTree (Progress Path) → Type 0
  IsLeft d = AreLeft h e.task p (enter_at (Some f) h.heap.shape e (start_now h p) o mark) p d

  pub by_form : {g : MarkForm} → f ≡ g → IsLeft (enter_at (Some g) h.heap.shape e (start_now h p) o mark)
  by_form is = left_as (all_left heap due) (ap (λ (form : MarkForm). enter_at (Some form) h.heap.shape e (start_now h p) o mark) is)

  -- by a record of the thread's own,
  pub by_own : {t place : ℕ} → f ≡ Locked t place → t ≡ p.known.thread → IsLeft (stack_enter_steps e (local_of p.known) o mark)
  by_own {t = t} is own = left_then (t == p.known.thread) _ _ (by_form is) (eq-eqb _ _ own)

  -- and by one of another thread
  pub by_other : {t place : ℕ} → f ≡ Locked t place → (t ≡ p.known.thread → ⊥) → IsLeft (enter_monitor_steps h.heap.shape e (start_now h p) o)
  by_other {t = t} is other = left_else (t == p.known.thread) _ _ (by_form is) (ne_eqb _ _ other)
