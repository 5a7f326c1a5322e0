-- What an inflation leaves of its thread's knowledge: its log and its own words are as they were.
use Rattle.std.proofs.Common.{◌≡◌, ℕ, ◌==◌, Bool, true, false, cond, if◌then◌else◌, Option, Some, None, refl, ap, ◌∙◌}
use Rattle.mark_word.specs.declared.mark.MarkForm.{MarkForm}
use Rattle.mark_word.specs.declared.mark.MarkForm.TheVariants.{Inflating, Neutral, Locked, Inflated}
use Rattle.mark_word.specs.Mark.{read_mark}
use Rattle.core_world.specs.declared.answer.Progress.{Progress}
use Rattle.core_world.specs.declared.answer.PendingCause.TheVariants as why
use Rattle.core_world.specs.declared.word_id.WordId.TheVariants.{Mark}
use Rattle.core_world.specs.Due.{Runs}
use Rattle.core_world.specs.Steps.{known_after, known_hit, known_miss}
use Rattle.core_world.specs.Threads.ThreadView.{ThreadView, local_of}
use Rattle.core_world.specs.Trees.MonitorSteps.{claim_plan, fetch_plan, inflate_plan, name_neutral_plan}
use Rattle.core_world.specs.Trees.MonitorSteps.{inflate_locked, inflate_neutral, inflate_with, inflate_by, inflate_at, inflate_steps}
use Rattle.core_world.specs.Trees.Plans.{CallContext, load, done_with, pending_for}
use Rattle.core_world.specs.Words.Shape.{Shape}
use Rattle.heap_table.specs.Parts.{HasMadeSteps}
use Rattle.heap_table.specs.Seen.{HeapSeen, PassSeen}
use Rattle.heap_table.proofs.StepsLeft.{known_alike}
use Rattle.object_monitor.proofs.Inflating.{locked_on}

module _ (s : Shape) (start : ℕ) (e : CallContext) (o : ℕ) (l : ThreadView) (a : Progress ℕ) where
  -- an exchange of the mark, whether it hits or not
  emptied : (mark t place n : ℕ) (k : ThreadView) → local_of (known_after s start (inflate_plan e o mark t place) n k) ≡ local_of k
  emptied mark t place n k = (known_alike s start (inflate_plan e o mark t place) n k refl refl refl).local

  named : (mark m n : ℕ) (k : ThreadView) → local_of (known_after s start (name_neutral_plan e o mark m) n k) ≡ local_of k
  named mark m n k = cases (n == mark)
    where
      cases : (b : Bool) → local_of (cond b (known_hit s start (name_neutral_plan e o mark m) n k) (known_miss s start (name_neutral_plan e o mark m) n k))
          ≡ local_of k
      cases true = refl
      cases false = refl

  -- what comes after it
  after_emptied : (b : Bool) (mark m t place found : ℕ) (k : ThreadView)
      → Runs s start (if b then locked_on e o m t place else pending_for (why.Raced mark found)) k l a → local_of l ≡ local_of k
  after_emptied true mark m t place found k run = ap local_of run.1.1.1.1.1.1.0
  after_emptied false mark m t place found k run = ap local_of run.0

  after_named : (b : Bool) (mark m found : ℕ) (k : ThreadView) → Runs s start (if b then done_with m else pending_for (why.Raced mark found)) k l a
      → local_of l ≡ local_of k
  after_named true mark m found k run = ap local_of run.0
  after_named false mark m found k run = ap local_of run.0

  naming : (mark m found : ℕ) (k : ThreadView)
      → Runs s start (if found == mark then done_with m else pending_for (why.Raced mark found))
      (known_after s start (name_neutral_plan e o mark m) found k) l a
      → local_of l ≡ local_of k
  naming mark m found k run =
      after_named (found == mark) mark m found (known_after s start (name_neutral_plan e o mark m) found k) run ∙ named mark m found k

  -- the steps by what the mark says
  by_record : (mark m t place : ℕ) (k : ThreadView) → Runs s start (inflate_locked e o mark m t place) k l a → local_of l ≡ local_of k
  by_record mark m t place k run =
      after_emptied (run.0 == mark) mark m t place run.0 (known_after s start (inflate_plan e o mark t place) run.0 k) run.1 ∙ emptied mark t place run.0 k

  by_header : (mark m : ℕ) (k : ThreadView) → Runs s start (inflate_neutral e o mark m) k l a → local_of l ≡ local_of k
  by_header mark m k run = naming mark m run.1.1.1.1.0 _ run.1.1.1.1.1

  by_form : (f : Option MarkForm) (mark m : ℕ) (k : ThreadView) → Runs s start (inflate_with f e o mark m) k l a → local_of l ≡ local_of k
  by_form (Some (Neutral hash age)) mark m k run = by_header mark m k run
  by_form (Some (Locked t place)) mark m k run = by_record mark m t place k run
  by_form _ mark m k run = absurd run

  by_kept : (kept : Option ℕ) (mark : ℕ) (k : ThreadView) → Runs s start (inflate_by kept s e o mark) k l a → local_of l ≡ local_of k
  by_kept (Some m) mark k run = by_form (read_mark mark) mark m k run
  by_kept None mark k run =
      by_form (read_mark mark) mark run.1.0 (known_after s start (fetch_plan e s run.0) run.1.0 (known_after s start (claim_plan e) run.0 k)) run.1.1

  by_mark : (f : Option MarkForm) (kept : Option ℕ) (mark : ℕ) (k : ThreadView) → Runs s start (inflate_at f s e kept o mark) k l a → local_of l ≡ local_of k
  by_mark (Some Inflating) kept mark k run = ap local_of run.0
  by_mark (Some (Inflated m)) kept mark k run = ap local_of run.0
  by_mark _ kept mark k run = by_kept kept mark k run

-- the whole of them
pub local_stays : (h : HeapSeen) (p q : PassSeen) (e : CallContext) (kept : Option ℕ) (o : ℕ) (a : Progress ℕ)
    → HasMadeSteps h (inflate_steps h.heap.shape e kept o) p q a
    → local_of q.known ≡ local_of p.known
local_stays h p q e kept o a run =
    let made = run.ran.by in
    let mark = made.0 in
    by_mark h.heap.shape h.heap.start e o q.known a (read_mark mark) kept mark (known_after h.heap.shape h.heap.start (load e (Mark o)) mark p.known) made.1
