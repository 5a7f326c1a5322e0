use Rattle.lawful_heap.proofs.Opens.{opens}
use Rattle.lawful_heap.proofs.new_heap.Goals as goal

pub new-requires-clause-law : goal.new-requires-clause-law
new-requires-clause-law c = c.every_heap_has_its_law.ensures (record { shape = c.args.shape; start = c.args.start; biasing = c.args.biasing })

pub returns-clause-opening : goal.returns-clause-opening
returns-clause-opening c =
    opens (record { shape = c.args.shape; start = c.args.start; biasing = c.args.biasing }) c.new.result c.new.ensures.heap c.new.ensures.law
