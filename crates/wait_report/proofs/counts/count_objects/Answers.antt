use Rattle.std.proofs.Common.{◌≡◌, ◌∙◌, ap, sym, subst, IsSome, List, IfOk}
use Rattle.plain_monitor.specs.Order.{order}
use Rattle.plain_monitor.specs.Objects.{new_objects}
use Rattle.plain_monitor.specs.History.{take_all}
use Rattle.object_program.specs.Program.{shape_of}
use Rattle.plain_machine.specs.Machine.{new_machine}
use Rattle.lock_journal.specs.Merging.{left_of}
use Rattle.wait_report.specs.declared.counts.ObjectCount.{ObjectCount}
use Rattle.wait_report.specs.inner.Tallies.{after_entries, counts_from}
use Rattle.wait_report.proofs.Counting.{entry_on}
use Rattle.wait_report.proofs.Few.{objects_take}
use Rattle.wait_report.proofs.Listed.{all_listed}
use Rattle.wait_report.proofs.counts.count_objects.Goals as goal

pub loop-t-preserved : goal.loop-t-preserved
loop-t-preserved c =
    let left = order (left_of c.args.run.now.logs c.loop-t.merge) in
    let rest = order (left_of c.args.run.now.logs c.next.new.self) in
    let on = entry_on c.loop-t.tallies.items c.count_entry.new.tallies.items c.in-Some.t c.in-Some.logged left rest
    c.in-Some.ensures.first c.in_ok-count_entry.ensures.counted c.loop-t.invariant.small c.loop-t.invariant.room in
    record {
      tallies = on.tallies ∙ c.loop-t.invariant.tallies;
      room = on.room;
      small = on.small;
      few = c.in_ok-count_entry.ensures.few;
    }

pub returns : goal.returns
returns c =
    let p = c.args.run.now.program in
    let xs = order c.args.run.now.logs in
    let taken : IsSome (take_all (new_objects (shape_of p)) xs) = objects_take (new_machine p c.args.run.now.fuel) xs c.requires.legal.taken in
    let after = c.deref.ensures.value ∙ ap (after_entries c.loop-t.tallies.items) (sym c.in_default.ensures.first) ∙ c.loop-t.invariant.tallies in
    let whole = ap (counts_from 0) after ∙ all_listed p xs taken c.entries_are_few.ensures.within in
    subst (λ (counts : List ObjectCount). IfOk c.list_counts.result (λ found. found ≡ counts)) whole c.list_counts.ensures
