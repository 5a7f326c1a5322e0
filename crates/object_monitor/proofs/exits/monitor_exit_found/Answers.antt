use Rattle.std.proofs.Common.{◌≡◌, refl, sym, ap, ◌∙◌, Option, Some}
use Rattle.mark_word.specs.declared.owner.OwnerForm.{OwnerForm}
use Rattle.mark_word.specs.Owner.{read_owner}
use Rattle.core_world.specs.Threads.ThreadView.{Local, local_of}
use Rattle.core_world.specs.Trees.MonitorSteps.{own_steps}
use Rattle.core_world.specs.Trees.Plans.{top_place}
use Rattle.core_world.specs.Trees.StepTree.{◌>>=◌}
use Rattle.heap_table.specs.ExitParts.{counted_exit, owned_exit}
use Rattle.heap_table.proofs.StepsLeft.{AreLeft, all_left, left_as, never, part_of}
use Rattle.object_monitor.proofs.OwningSteps.{owning_left}
use Rattle.object_monitor.proofs.exits.monitor_exit_found.Goals as goal
use Rattle.object_monitor.proofs.exits.monitor_exit_found.Goals.{Start, After-own}

-- what is left once the owner word is loaded, by its form,
by_form : (c : Start) (f : Option OwnerForm) → read_owner c.args.owner ≡ f → AreLeft c.args.heap.now c.args.call.now.task c.args.pass.now
    (owned_exit (read_owner c.args.owner) c.args.call.now (local_of c.args.pass.now.known) c.args.object c.args.monitor) c.args.pass.now
    (own_steps f c.args.call.now (local_of c.args.pass.now.known) c.args.object c.args.monitor
    >>= (λ _. counted_exit c.args.call.now (local_of c.args.pass.now.known) c.args.object c.args.monitor))
by_form c f form = left_as (all_left c.requires.heap c.requires.due)
    (ap (λ (g : Option OwnerForm). owned_exit g c.args.call.now (local_of c.args.pass.now.known) c.args.object c.args.monitor) form)

-- and once the thread is the owner itself
owned : (c : After-own) → AreLeft c.args.heap.now c.args.call.now.task c.args.pass.now
    (owned_exit (read_owner c.args.owner) c.args.call.now (local_of c.args.pass.now.known) c.args.object c.args.monitor) c.own.new.pass
    (counted_exit c.args.call.now (local_of c.own.new.pass.known) c.args.object c.args.monitor)
owned c = left_as (owning_left (Some c.in-Some.form) c.args.call.now (local_of c.args.pass.now.known) c.args.object c.args.monitor
    (counted_exit c.args.call.now (local_of c.args.pass.now.known) c.args.object c.args.monitor) c.own.ensures.run
    (by_form c.before.before.before.before _ (sym c.owner_of_word.ensures ∙ c.in-Some.is)))
    (λ i. counted_exit c.args.call.now (sym c.own.ensures.kept i) c.args.object c.args.monitor)

pub own-requires-clause-due : goal.own-requires-clause-due
own-requires-clause-due c = part_of (λ _. counted_exit c.args.call.now (local_of c.args.pass.now.known) c.args.object c.args.monitor)
    (by_form (goal.at.own-requires-clause-due c).Start _ (sym c.owner_of_word.ensures ∙ c.in-Some.is))

pub leave_owned-requires-clause-due : goal.leave_owned-requires-clause-due
leave_owned-requires-clause-due c = (owned (goal.at.leave_owned-requires-clause-due c).After-own).due

pub leave_owned-requires-clause-place : goal.leave_owned-requires-clause-place
leave_owned-requires-clause-place c =
    let local : local_of c.own.new.pass.known ≡ local_of c.args.pass.now.known = c.own.ensures.kept in
    c.requires.place ∙ ap (λ (l : Local). top_place c.args.object l.holds) (sym local)

pub unreachable-requires : goal.unreachable-requires
unreachable-requires c = never (by_form (goal.at.unreachable-requires c).Start _ (sym c.owner_of_word.ensures ∙ c.in-None.is)) refl

pub returns : goal.returns
returns c = (owned (goal.at.returns c).After-own).whole _ _ c.leave_owned.ensures
