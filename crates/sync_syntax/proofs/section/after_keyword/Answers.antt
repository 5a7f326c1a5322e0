use Rattle.std.proofs.Common.{◌∙◌, sym}
use Rattle.sync_syntax.proofs.BlockLines.{keyword_has}
use Rattle.sync_syntax.proofs.section.after_keyword.Goals as goal

pub after_code-requires : goal.after_code-requires
after_code-requires c =
    let h = keyword_has c.args.reader c.args.later.now c.args.operands.now c.args.keyword c.requires.plain (sym c.is_outside.ensures ∙ c.if-is_outside.false)
    c.requires.kept c.in_default.not-Local c.in_default.not-End c.requires.room in
    record { section = h.section; kept = c.requires.kept; instruction = h.instruction; operands = h.operands; room = h.room }
