use Rattle.std.proofs.Common.{◌∙◌, []}
use Rattle.program_syntax.specs.State.{text_of, thread_of}
use Rattle.sync_syntax.proofs.Codes.{at_end, bare_ahead, code_alone}
use Rattle.sync_syntax.proofs.section.code_on.Goals as goal

pub returns : goal.returns
returns c =
    let s = c.args.section.now in
    let ws = c.args.operands.now in
    let k = c.args.keyword in
    c.instruction_on.ensures at_end (bare_ahead s ws k c.requires.kept c.requires.instruction c.requires.bare)
    ∙ code_alone (text_of c.args.declared.now) (thread_of s) at_end [] ws k c.requires.kept
