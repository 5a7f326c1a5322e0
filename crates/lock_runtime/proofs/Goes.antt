-- A call that is not refused makes the steps of its operation, in the context that its code has for them, and answers what they answer.
use Rattle.std.proofs.Common.{◌≡◌, ℕ, ◌==◌, Bool, false, if◌then◌else◌, Result, Ok, Err, refl, sym, subst}
use Rattle.core_world.specs.declared.answer.IllegalMonitorState.{IllegalMonitorState}
use Rattle.core_world.specs.Locks.{hold_count}
use Rattle.core_world.specs.Trees.Calls.{steps_of, end}
use Rattle.core_world.specs.Trees.Operations.{answer}
use Rattle.core_world.specs.Trees.Plans.{CallContext}
use Rattle.core_world.specs.Trees.StepTree.{StepTree, done, ◌>>=◌}
use Rattle.heap_table.specs.Parts.{IsDueOn, HasMadeSteps}
use Rattle.heap_table.specs.Resting.{MayCall, Rests, start_now}
use Rattle.heap_table.specs.Seen.{HeapSeen, PassSeen}
use Rattle.heap_table.proofs.Arms.{due_else, run_else}
use Rattle.heap_table.proofs.Resting.{IsCallOf, whole_due, rests_after}
use Rattle.lock_runtime.proofs.After.{first_then, arm_first}
use Rattle.lock_runtime.proofs.PartMade.{first_due, then_ends}

-- the call of context e, which the code spells w, begins, and is not refused: it goes by d
pub record Goes {A E : Type 0} (h : HeapSeen) (p : PassSeen) (refuses : Bool) (refusal : StepTree (Result A E)) (d : CallContext → StepTree A)
    (e w : CallContext) : Type 0 where
  pub call : MayCall h p e.task
  pub steps : steps_of h.heap.shape e.task (start_now h p) ≡ ((if refuses then refusal else (d e >>= answer)) >>= end)
  pub goes : refuses ≡ false
  pub context : w ≡ e

-- one on o that is refused unless its thread has a hold on o
abbrev pub GoesIfHeld : {A : Type 0} → HeapSeen → PassSeen → ℕ → (CallContext → StepTree A) → CallContext → CallContext → Type 0
GoesIfHeld h p o d e w = Goes {E = IllegalMonitorState} h p (hold_count o p.known.holds == 0) (done (Err (record {}))) d e w

module _ {A E : Type 0} {h : HeapSeen} {p : PassSeen} {refuses : Bool} {refusal : StepTree (Result A E)} {d : CallContext → StepTree A} {e w : CallContext}
    (g : Goes h p refuses refusal d e w) where
  abbrev whole : StepTree (Result A E)
  whole = if refuses then refusal else (d e >>= answer)

  -- its steps are due
  pub goes_due : IsDueOn h p w.task (d w)
  goes_due =
      subst (λ (x : CallContext). IsDueOn h p x.task (d x)) (sym g.context)
      (first_due (answer {A = A} {E = E}) (due_else h p refuses refusal (d e >>= answer) e.task (whole_due h p e.task g.call whole g.steps) g.goes))

  -- when they are made, the whole call is
  pub goes_made : {q : PassSeen} {a : A} → HasMadeSteps h (d w) p q a → HasMadeSteps h (if refuses then refusal else (d e >>= answer)) p q (Ok a)
  goes_made {q = q} {a = a} made =
      run_else h p refuses refusal (d e >>= answer) q (Ok a) g.goes
      (then_ends (answer {A = A} {E = E}) refl (subst (λ (x : CallContext). HasMadeSteps h (d x) p q a) g.context made))

  -- and the thread rests
  pub goes_rests : {q : PassSeen} {a : A} → IsCallOf e.task refusal → IsCallOf e.task (d e) → HasMadeSteps h (d w) p q a → Rests h q
  goes_rests {q = q} {a = a} refused first made =
      rests_after h p e.task g.call whole g.steps
      (arm_first e.task refuses refusal (d e >>= answer) refused (first_then e.task (d e) (answer {A = A} {E = E}) first (λ a. tt))) q (Ok a) (goes_made made)
