use Rattle.std.proofs.Common.{◌≡◌, ◌-◌, [], length}
use Rattle.machine_words.specs.inner.Reading.{Walks, renew_step, beside}
use Rattle.machine_words.proofs.Holding.{HeldBelow}
use Rattle.machine_words.proofs.renew.renew_all.Given as goal

abbrev pub invariant-loop-number : goal.invariant-loop-number
invariant-loop-number l = record {
  walks : Walks renew_step l.initial.objects [] l.number l.objects [];
  threads : l.threads ≡ beside l.objects 0 l.initial.threads;
  below : HeldBelow l.objects l.initial.objects;
}

abbrev pub decreases-loop-number : goal.decreases-loop-number
decreases-loop-number l = length l.objects - l.number
