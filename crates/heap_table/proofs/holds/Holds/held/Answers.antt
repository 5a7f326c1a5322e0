use Rattle.std.proofs.Common.{◌∙◌}
use Rattle.core_world.specs.Words.Forms.{names}
use Rattle.heap_table.proofs.Held.{none_named, number_used}
use Rattle.heap_table.proofs.holds.Holds.held.Goals as goal

pub returns-clause-held : goal.returns-clause-held
returns-clause-held c =
    let holds = c.args.self.now in
    c.held_before.ensures.held ∙ number_used (λ h. names c.args.object h) 0 holds.used holds.words (none_named c.args.object) holds.rest
