use Rattle.std.proofs.Common.{leb, rules}
use Rattle.std.proofs.lemmas.List.Sorted.{IsPartitionPoint-from_clause, IsPartitionedBy-leb}
use Rattle.object_program.specs.declared.program.ObjectDef.{ObjectDef}
use Rattle.plain_machine.proofs.Declared.{point_facts}
use Rattle.plain_machine.proofs.code.begun_by.Goals as goal

pub returns-clause-point : goal.returns-clause-point
returns-clause-point c =
    let parted = IsPartitionedBy-leb (λ (d : ObjectDef). d.first) _ c.args.o c.requires in
    point_facts _ _ _ (IsPartitionPoint-from_clause (λ (d : ObjectDef). leb d.first c.args.o)
    _ _ c.partition_point.ensures.partitioned parted (λ a r q k. search rules))
