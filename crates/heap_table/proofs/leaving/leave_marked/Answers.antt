-- The ways go as far as they can, and then the exit ends.
use Rattle.std.proofs.Common.{◌≡◌, ℕ, sym, ap, ◌∙◌, subst}
use Rattle.core_world.specs.Threads.ThreadView.{ThreadView, local_of}
use Rattle.core_world.specs.Trees.Plans.{top_place}
use Rattle.heap_table.specs.Ruled.{only}
use Rattle.heap_table.specs.declared.quick.QuickExit.{QuickExit}
use Rattle.heap_table.specs.declared.quick_exits.ExitPart.{ExitPart}
use Rattle.heap_table.specs.declared.quick_exits.ExitPart.TheVariants as parts
use Rattle.heap_table.specs.inner.Amid.{KeepsExit, LeavesIdle, exit_left}
use Rattle.heap_table.specs.inner.Leaving.{KeepsPart, left_by}
use Rattle.heap_table.proofs.Late.{late_as, start_since}
use Rattle.heap_table.proofs.leaving.leave_marked.Goals as goal

pub end_exit-requires-clause-amid : goal.end_exit-requires-clause-amid
end_exit-requires-clause-amid c =
    let a = c.requires.amid in
    record {
      heap = a.heap;
      begun = a.begun;
      due = a.due;
      local = local_of (only c.args.seat.now.me.0);
      its = a.its;
      late = c.part-how.ensures.leads a.heap a.begun a.due a.its a.late;
    }

pub returns-clause-idle : goal.returns-clause-idle
returns-clause-idle c =
    subst (λ (r : QuickExit). LeavesIdle r c.args.call.now c.end_exit.new.mirror) (sym c.end_exit.ensures.answer) c.end_exit.ensures.idle

-- what was taken at the beginning, by the answer
keeps_so : (r : ExitPart) (o place : ℕ) (i k j : ThreadView) → place ≡ top_place o i.holds → KeepsPart r i k → KeepsPart r k j → KeepsExit o (left_by place r) i j
keeps_so parts.Held o place i k j at since is = tt
keeps_so parts.Logged o place i k j at since is = tt
keeps_so parts.Inflating o place i k j at since is = tt
keeps_so (parts.Raced mark found) o place i k j at since is = tt
keeps_so (parts.Owned m owner) o place i k j at since is = (at, start_since since is)

pub returns-clause-start : goal.returns-clause-start
returns-clause-start c =
    let at = c.requires.may.clears.place ∙ ap (top_place c.args.object) (sym c.requires.amid.late.mirrors.holds) in
    subst (λ (r : QuickExit). KeepsExit c.args.object r (only c.args.seat.now.me.0) (only c.end_exit.new.seat.me.0)) (sym c.end_exit.ensures.answer)
    (keeps_so c.part-how.result c.args.object c.args.place _ _ _ at c.part-how.ensures.start c.end_exit.ensures.start)

pub returns-clause-leads : goal.returns-clause-leads
returns-clause-leads c = λ h p d its late.
    late_as (c.end_exit.ensures.leads h p d (local_of (only c.args.seat.now.me.0)) its (c.part-how.ensures.leads h p d its late))
    (ap (exit_left c.args.call.now (local_of (only c.args.seat.now.me.0)) c.args.object) (sym c.end_exit.ensures.answer))
