use Rattle.std.proofs.Common.{◌≡◌, [], ◌∷◌, ◌++◌, sym, subst, arith}
use Rattle.std.proofs.lemmas.Grind.{common_steps}
use Rattle.std.specs.List.{AllByRecursion}
use Rattle.plain_monitor.specs.History.{RisesAbove}
use Rattle.lock_journal.specs.Merging.{AreOfSixteen}
use Rattle.journal_tests.proofs.EmptyLogs.{rises_pushed, few_pushed}
use Rattle.journal_tests.proofs.order.twenty_logs.Goals as goal

pub loop-preserved : goal.loop-preserved
loop-preserved c =
    let more : c.push.new.self.items ≡ c.loop.logs.items ++ [] ∷ [] = grind (arith, common_steps) in
    record {
      rising = subst (AllByRecursion (RisesAbove 0)) (sym more) (rises_pushed c.loop.logs.items c.loop.invariant.rising);
      few = subst AreOfSixteen (sym more) (few_pushed c.loop.logs.items c.loop.invariant.few);
    }
