use Rattle.machine_words.proofs.ReadParts.{new_more}
use Rattle.machine_words.proofs.renew.renew.Goals as goal

pub loop-preserved : goal.loop-preserved
loop-preserved c = new_more c.loop.counter c.loop.object c.add_slot.new.self c.loop.invariant c.in_ok-add_slot.ensures
