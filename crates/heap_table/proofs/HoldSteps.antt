-- The last steps of an enter and of an exit, of which the code writes down just what they change of a mirror.
use Rattle.std.proofs.Common.{◌≡◌, ℕ, ◌^◌, ◌<◌, None, List, refl, sym, ap, ◌∙◌, subst, arith}
use Rattle.std.specs.Prelude.{slice_set}
use Rattle.core_law.specs.Logic.{Heap}
use Rattle.core_world.specs.declared.heap_call.HeapCall.{HeapCall}
use Rattle.core_world.specs.declared.plan.LocalEffect.TheVariants as own
use Rattle.core_world.specs.declared.plan.StepPlan.{StepPlan}
use Rattle.core_world.specs.declared.act.Act.TheVariants.{Load}
use Rattle.core_world.specs.declared.word_id.WordId.TheVariants.{Stamp}
use Rattle.core_world.specs.Steps.{known_after}
use Rattle.core_world.specs.There.{IsIn}
use Rattle.core_world.specs.Threads.ThreadView.{ThreadView}
use Rattle.core_world.specs.Trees.LockSteps.{clear_plan, leave_plan}
use Rattle.core_world.specs.Trees.Plans.{CallContext, logging_plan}
use Rattle.core_world.specs.Trees.StepTree.{StepTree, step}
use Rattle.core_world.specs.Words.Shape.{Shape}
use Rattle.core_world.proofs.CallRests.{next_due}
use Rattle.plain_monitor.specs.declared.entry.Entry.TheVariants as entry
use Rattle.heap_table.specs.Kept.{Mirrors}
use Rattle.heap_table.specs.Parts.{IsDueOn}
use Rattle.heap_table.specs.Ruled.{Stepped}
use Rattle.heap_table.specs.Seen.{HeapSeen, PassSeen, IsOf}
use Rattle.heap_table.specs.declared.holds.Holds.{Holds}
use Rattle.heap_table.specs.declared.mirror.Mirror.{Mirror}
use Rattle.heap_table.specs.inner.Amid.{Late}
use Rattle.heap_table.specs.inner.Parts.{is_shot}
use Rattle.heap_table.proofs.Follow.{follow_hit}
use Rattle.heap_table.proofs.Forms.{in_limits}
use Rattle.heap_table.proofs.Knows.{is_there}
use Rattle.heap_table.proofs.Late.{did_step}
use Rattle.heap_table.proofs.StepsLeft.{step_made}

-- a hold word is cleared
pub follow_clear : (s : Shape) (start : ℕ) (e : CallContext) (t p n : ℕ) (k : ThreadView) (m : Mirror) (holds : Holds)
    → holds.words ≡ slice_set m.holds.words p 0 → Mirrors m k
    → Mirrors (record m { holds = holds; unfinished = e.unfinished; checking = e.check }) (known_after s start (clear_plan e t p) n k)
follow_clear s start e t p n k m holds stored f =
    follow_hit s start (clear_plan e t p) n k m (record m { holds = holds; unfinished = e.unfinished; checking = e.check }) refl f refl
    (λ all p same. (p, same)) refl refl refl (λ l e. stored ∙ ap (λ (hs : List ℕ). slice_set hs p 0) (sym e)) (λ l t e. sym e) (λ l e. sym e)
    refl refl (refl, refl) (λ n k e. e) refl (λ first e. e) refl refl tt

-- The step that clears it logs Exit. A mirror that shows the entry, as if a load had logged it, lacks just the cleared word.
pub follow_left : (s : Shape) (start : ℕ) (e : CallContext) (t o p n : ℕ) (k : ThreadView) (m : Mirror) (holds : Holds)
    → holds.words ≡ slice_set m.holds.words p 0 → Mirrors m (known_after s start (logging_plan (entry.Exit o) e (Stamp o) Load) n k)
    → Mirrors (record m { holds = holds; unfinished = None; checking = e.check }) (known_after s start (leave_plan e t o p) n k)
follow_left s start e t o p n k m holds stored f = record {
  thread = f.thread;
  log = f.log;
  last = f.last;
  running = f.running;
  requesting = f.requesting;
  reached = f.reached;
  halted = f.halted;
  kept = f.kept;
  saved = f.saved;
  holds = ap (λ (hs : List ℕ). slice_set hs p 0) f.holds ∙ sym stored;
  wait = f.wait;
  published = f.published;
  unfinished = refl;
  checking = refl;
  counts = f.counts;
  draws = f.draws;
  made = f.made;
  shots = f.shots;
  few = f.few;
  generator = f.generator;
}

-- after a step the heap has the word of the next one, whatever a mirror shows of it
pub next_is_in : {A : Type 0} {h : HeapSeen} {t : HeapCall} {o : PassSeen} {d : StepTree A} {k : ThreadView} {m : Mirror} {plan said next : StepPlan} {b : Heap}
    {f g : ℕ → StepTree A} {n : ℕ} → Late h t o d k (step plan f) m → b ≡ h.heap → said ≡ plan → plan.task ≡ t → plan.own ≡ own.Unchanged
    → Stepped b k said n → f n ≡ step next g → next.task ≡ t → IsIn h.heap.shape next.at
next_is_in {A = A} {h = h} {t = t} {o = o} {d = d} {k = k} {plan = plan} {next = next} {g = g} {n = n} late its same task unchanged stood then task2 =
    let j = known_after h.heap.shape h.heap.start plan n k in
    let left = step_made late.left refl task (ap is_shot unchanged) (did_step late its same task unchanged stood) in
    let due = next_due h.heap.shape h.heap.start h.heap.biasing j t next g (subst (λ (x : StepTree A). IsDueOn h (record o { known = j }) t x) then left.due) task2 in
    (is_there h.heap j next due left.heap.within left.heap.real).0

-- an object of the heap has a number of a hold word
pub object_low : (h : HeapSeen) (p : PassSeen) (o : ℕ) → IsOf h p → IsIn h.heap.shape (Stamp o) → o < 2 ^ 15
object_low h p o is_of within = let most = (in_limits h p is_of).objects in omega (arith, most, within)
