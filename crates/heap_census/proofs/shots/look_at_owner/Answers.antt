use Rattle.std.proofs.Common.{◌≡◌, Some, ap, ◌∙◌}
use Rattle.mark_word.specs.declared.owner.OwnerForm.{OwnerForm}
use Rattle.core_world.specs.Locks.{owner_lock}
use Rattle.core_world.specs.Trees.LookSteps.{look_at_owner}
use Rattle.core_world.specs.Trees.Plans.{CallContext}
use Rattle.heap_table.specs.Parts.{IsDueOn}
use Rattle.heap_table.specs.Seen.{HeapSeen, PassSeen, IsOf}
use Rattle.heap_table.proofs.StepsLeft.{AreLeft, all_left, left_as, all_made}
use Rattle.heap_census.specs.inner.ShotParts.{cell_by}
use Rattle.heap_census.proofs.Later.{later_itself}
use Rattle.heap_census.proofs.shots.look_at_owner.Goals as goal

-- what is left by the form of the owner word
formed : {h : HeapSeen} {p : PassSeen} (e : CallContext) {f g : OwnerForm} → IsOf h p → IsDueOn h p e.task (look_at_owner (Some f) e) → f ≡ g
    → AreLeft h e.task p (look_at_owner (Some f) e) p (look_at_owner (Some g) e)
formed e heap due is = left_as (all_left heap due) (ap (λ (f : OwnerForm). look_at_owner (Some f) e) is)

pub look_at_owned-requires-clause-due : goal.look_at_owned-requires-clause-due
look_at_owned-requires-clause-due c = (formed c.args.call.now c.requires.heap c.requires.due c.in-ByThread.is).due

pub look_at_owned-requires-in-ByRecord-clause-due : goal.look_at_owned-requires-in-ByRecord-clause-due
look_at_owned-requires-in-ByRecord-clause-due c = (formed c.args.call.now c.requires.heap c.requires.due c.in-ByRecord.is).due

pub returns-in-Free : goal.returns-in-Free
returns-in-Free c = record {
  run = all_made (formed c.args.call.now c.requires.heap c.requires.due c.in-Free.is);
  later = later_itself c.args.pass.now.known;
  cell = λ l later. ap (λ (f : OwnerForm). cell_by (owner_lock (Some f)) c.args.object l) c.in-Free.is;
}

pub returns-in-ByThread : goal.returns-in-ByThread
returns-in-ByThread c = record {
  run = (formed c.args.call.now c.requires.heap c.requires.due c.in-ByThread.is).whole _ _ c.look_at_owned.ensures.run;
  later = c.look_at_owned.ensures.later;
  cell = λ l later. ap (λ (f : OwnerForm). cell_by (owner_lock (Some f)) c.args.object l) c.in-ByThread.is ∙ c.look_at_owned.ensures.cell l later;
}

pub returns-in-ByRecord : goal.returns-in-ByRecord
returns-in-ByRecord c = record {
  run = (formed c.args.call.now c.requires.heap c.requires.due c.in-ByRecord.is).whole _ _ c.look_at_owned-in-ByRecord.ensures.run;
  later = c.look_at_owned-in-ByRecord.ensures.later;
  cell = λ l later.
      ap (λ (f : OwnerForm). cell_by (owner_lock (Some f)) c.args.object l) c.in-ByRecord.is ∙ c.look_at_owned-in-ByRecord.ensures.cell l later;
}
