use Rattle.std.proofs.Common.{◌≡◌, take, map}
use Rattle.plain_machine.specs.Running.{first_state}
use Rattle.plain_machine.specs.Sound.{AreKept}
use Rattle.plain_machine.proofs.build.new_threads.Given as goal

abbrev pub invariant-loop-definition : goal.invariant-loop-definition
invariant-loop-definition l = record {
  items : l.definition-items ≡ l.program.threads;
  threads : l.threads.items ≡ map (λ t. first_state l.program t l.fuel) (take l.definition-index l.definition-items);
  kept : AreKept l.objects l.threads.items;
}
