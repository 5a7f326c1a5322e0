use Rattle.std.proofs.Common.{◌≡◌, ℕ, Some, ap}
use Rattle.mark_word.specs.declared.wait.WaitForm.{WaitForm}
use Rattle.core_world.specs.Trees.LookSteps.{look_at_wait}
use Rattle.core_world.specs.Trees.Plans.{CallContext}
use Rattle.heap_table.specs.Parts.{IsDueOn}
use Rattle.heap_table.specs.Seen.{HeapSeen, PassSeen, IsOf}
use Rattle.heap_table.proofs.StepsLeft.{AreLeft, all_left, left_as}
use Rattle.heap_census.proofs.stands.look_at_wait.Goals as goal

-- what is left by the form of the waiting word
formed : {h : HeapSeen} {p : PassSeen} (e : CallContext) (t : ℕ) {f g : WaitForm} → IsOf h p → IsDueOn h p e.task (look_at_wait (Some f) e t) → f ≡ g
    → AreLeft h e.task p (look_at_wait (Some f) e t) p (look_at_wait (Some g) e t)
formed e t heap due is = left_as (all_left heap due) (ap (λ (f : WaitForm). look_at_wait (Some f) e t) is)

pub look_at_object-requires-clause-due : goal.look_at_object-requires-clause-due
look_at_object-requires-clause-due c = (formed c.args.call.now c.args.thread c.requires.heap c.requires.due c.in-Entering.is).due

pub look_at_object-requires-in-Notified-clause-due : goal.look_at_object-requires-in-Notified-clause-due
look_at_object-requires-in-Notified-clause-due c = (formed c.args.call.now c.args.thread c.requires.heap c.requires.due c.in-Notified.is).due

pub returns-in-Entering : goal.returns-in-Entering
returns-in-Entering c = (formed c.args.call.now c.args.thread c.requires.heap c.requires.due c.in-Entering.is).whole _ _ c.look_at_object.ensures

pub returns-in-Notified : goal.returns-in-Notified
returns-in-Notified c =
    (formed c.args.call.now c.args.thread c.requires.heap c.requires.due c.in-Notified.is).whole _ _ c.look_at_object-in-Notified.ensures
