use Rattle.std.proofs.Common.{◌≡◌, Option, refl, sym, ap, ◌∙◌}
use Rattle.mark_word.specs.declared.owner.OwnerForm.{OwnerForm}
use Rattle.mark_word.specs.Owner.{read_owner}
use Rattle.core_world.specs.Threads.ThreadView.{local_of}
use Rattle.core_world.specs.Trees.MonitorSteps.{monitor_enter_at}
use Rattle.heap_table.proofs.StepsLeft.{AreLeft, all_left, left_as, never}
use Rattle.object_monitor.proofs.enters.monitor_enter_found.Goals as goal
use Rattle.object_monitor.proofs.enters.monitor_enter_found.Goals.{Start}

-- what is left, by whose the monitor is
by_form : (c : Start) (f : Option OwnerForm) → read_owner c.args.found ≡ f → AreLeft c.args.heap.now c.args.call.now.task c.args.pass.now
    (monitor_enter_at (read_owner c.args.found) c.args.call.now (local_of c.args.pass.now.known) c.args.object c.args.monitor c.args.found) c.args.pass.now
    (monitor_enter_at f c.args.call.now (local_of c.args.pass.now.known) c.args.object c.args.monitor c.args.found)
by_form c f form = left_as (all_left c.requires.heap c.requires.due)
    (ap (λ (g : Option OwnerForm). monitor_enter_at g c.args.call.now (local_of c.args.pass.now.known) c.args.object c.args.monitor c.args.found) form)

pub enter_by_owner-requires-clause-due : goal.enter_by_owner-requires-clause-due
enter_by_owner-requires-clause-due c =
    (by_form (goal.at.enter_by_owner-requires-clause-due c).Start _ (sym c.owner_of_word.ensures ∙ c.in-Some.is)).due

pub unreachable-requires : goal.unreachable-requires
unreachable-requires c = never (by_form (goal.at.unreachable-requires c).Start _ (sym c.owner_of_word.ensures ∙ c.in-None.is)) refl

pub returns : goal.returns
returns c = (by_form (goal.at.returns c).Start _ (sym c.owner_of_word.ensures ∙ c.in-Some.is)).whole _ _ c.enter_by_owner.ensures
