use Rattle.std.proofs.Common.{sym, ap, ◌∙◌, Ok}
use Rattle.program_syntax.specs.Canonical.{canonical}
use Rattle.handover_program.proofs.HandoverIs.{handover_written, handover_read}
use Rattle.handover_program.proofs.handover.Goals as goal

pub returns-in-Ok-clause-text : goal.returns-in-Ok-clause-text
returns-in-Ok-clause-text c = ap canonical c.in-Ok.ensures ∙ handover_written c.args.items

pub returns-in-Ok-clause-read : goal.returns-in-Ok-clause-read
returns-in-Ok-clause-read c = handover_read c.args.items c.requires.some c.requires.few ∙ ap Ok (sym c.in-Ok.ensures)
