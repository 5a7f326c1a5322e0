use Rattle.lawful_heap.proofs.Opens.{opens}
use Rattle.lawful_heap.proofs.new_heap_without_pages.Goals as goal

pub without_pages-requires : goal.without_pages-requires
without_pages-requires c =
    record { law = c.every_heap_has_its_law.ensures (record { shape = c.args.shape; start = c.args.start; biasing = c.args.biasing }) }

pub returns-clause-opening : goal.returns-clause-opening
returns-clause-opening c =
    opens (record { shape = c.args.shape; start = c.args.start; biasing = c.args.biasing }) c.without_pages.result c.without_pages.ensures.heap c.without_pages.ensures.law
