use Rattle.std.proofs.Common.{sym, ◌∙◌}
use Rattle.lock_journal.proofs.PrintsLeft.{prints_left-none}
use Rattle.lock_journal.proofs.prints.next_printed_ahead.Goals as goal

pub loop-t-preserved : goal.loop-t-preserved
loop-t-preserved c =
    record {
      same = sym (prints_left-none c.args.run.now c.loop-t.ahead.places c.next.new.self.places c.in-Some.t c.in-Some.logged c.in-Some.ensures.first
          (sym c.in_default-printed_in.ensures)) ∙ c.loop-t.invariant.same;
      stamps = c.in-Some.ensures.stamps;
    }
