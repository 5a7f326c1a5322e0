use Rattle.std.proofs.Common.{◌≡◌, ℕ, Some, ap, ◌∙◌}
use Rattle.mark_word.specs.declared.mark.MarkForm.{MarkForm}
use Rattle.core_world.specs.Trees.LookSteps.{look_at_named}
use Rattle.core_world.specs.Trees.Plans.{CallContext}
use Rattle.heap_table.specs.Parts.{IsDueOn}
use Rattle.heap_table.specs.Seen.{HeapSeen, PassSeen, IsOf}
use Rattle.heap_table.proofs.StepsLeft.{AreLeft, all_left, left_as, all_made}
use Rattle.heap_census.specs.inner.ShotParts.{cell_at}
use Rattle.heap_census.proofs.Later.{later_itself}
use Rattle.heap_census.proofs.Unlocked.{names_no_lock}
use Rattle.heap_census.proofs.shots.look_at_named.Goals as goal

-- what is left by the form of the mark
formed : {h : HeapSeen} {p : PassSeen} (e : CallContext) (o : ℕ) {f g : MarkForm} → IsOf h p
    → IsDueOn h p e.task (look_at_named (Some f) e h.heap.shape o) → f ≡ g
    → AreLeft h e.task p (look_at_named (Some f) e h.heap.shape o) p (look_at_named (Some g) e h.heap.shape o)
formed {h = h} e o heap due is = left_as (all_left heap due) (ap (λ (f : MarkForm). look_at_named (Some f) e h.heap.shape o) is)

pub look_at_bias-requires-clause-due : goal.look_at_bias-requires-clause-due
look_at_bias-requires-clause-due c = (formed c.args.call.now c.args.object c.requires.heap c.requires.due c.in-Biased.is).due

pub look_at_owned-requires-clause-due : goal.look_at_owned-requires-clause-due
look_at_owned-requires-clause-due c = (formed c.args.call.now c.args.object c.requires.heap c.requires.due c.in-Locked.is).due

pub look_at_monitor-requires-clause-due : goal.look_at_monitor-requires-clause-due
look_at_monitor-requires-clause-due c = (formed c.args.call.now c.args.object c.requires.heap c.requires.due c.in-Inflated.is).due

pub returns-in-Biased : goal.returns-in-Biased
returns-in-Biased c =
    let a = c.args in
    let s = a.heap.now.heap.shape in
    record {
      run = (formed a.call.now a.object c.requires.heap c.requires.due c.in-Biased.is).whole _ _ c.look_at_bias.ensures.run;
      later = c.look_at_bias.ensures.later;
      cell = λ l later. ap (λ (f : MarkForm). cell_at (Some f) s a.object l) c.in-Biased.is ∙ c.look_at_bias.ensures.cell l later;
    }

pub returns-in-Locked : goal.returns-in-Locked
returns-in-Locked c =
    let a = c.args in
    let s = a.heap.now.heap.shape in
    record {
      run = (formed a.call.now a.object c.requires.heap c.requires.due c.in-Locked.is).whole _ _ c.look_at_owned.ensures.run;
      later = c.look_at_owned.ensures.later;
      cell = λ l later. ap (λ (f : MarkForm). cell_at (Some f) s a.object l) c.in-Locked.is ∙ c.look_at_owned.ensures.cell l later;
    }

pub returns-in-Inflated : goal.returns-in-Inflated
returns-in-Inflated c =
    let a = c.args in
    let s = a.heap.now.heap.shape in
    record {
      run = (formed a.call.now a.object c.requires.heap c.requires.due c.in-Inflated.is).whole _ _ c.look_at_monitor.ensures.run;
      later = c.look_at_monitor.ensures.later;
      cell = λ l later. ap (λ (f : MarkForm). cell_at (Some f) s a.object l) c.in-Inflated.is ∙ c.look_at_monitor.ensures.cell l later;
    }

pub returns-in_default : goal.returns-in_default
returns-in_default c =
    let a = c.args in
    let not = c.in_default in
    let no_lock = names_no_lock a.call.now a.heap.now.heap.shape a.object a.form not.not-Biased not.not-Locked not.not-Inflated in
    record {
      run = all_made (left_as (all_left c.requires.heap c.requires.due) no_lock.0);
      later = later_itself a.pass.now.known;
      cell = λ l later. no_lock.1 l;
    }
