-- What the counting program's machine takes, by computing.
use Rattle.std.proofs.Common.{◌≡◌, true, false, is_some, refl, arith}
use Rattle.std.specs.List.{AllByRecursion}
use Rattle.plain_monitor.specs.declared.entry.Entry.{Entry}
use Rattle.plain_monitor.specs.History.{RisesAbove}
use Rattle.plain_monitor.specs.declared.entry.Entry.TheVariants.{Done, Spent}
use Rattle.sync_source.specs.SyncThread.{sync_run}
use Rattle.sync_source.specs.SyncMachine.{sync_machine_after}
use Rattle.sync_tests.specs.Counting.{counting_text, passes}

-- the stamps are 1 to 7
pub rises : (last : Entry) → AllByRecursion (RisesAbove 0) (passes last)
rises last =
    ((omega arith, (omega arith, (omega arith, (omega arith, (omega arith, (omega arith, (omega arith, tt))))))), tt)

pub done : is_some (sync_machine_after counting_text 19 (passes Done)) ≡ true
unfolding sync_run
done = refl

pub spent : is_some (sync_machine_after counting_text 18 (passes Spent)) ≡ true
unfolding sync_run
spent = refl

pub not_done : is_some (sync_machine_after counting_text 18 (passes Done)) ≡ false
unfolding sync_run
not_done = refl

pub not_spent : is_some (sync_machine_after counting_text 19 (passes Spent)) ≡ false
unfolding sync_run
not_spent = refl
