use Rattle.program_syntax.specs.State.{before_of}
use Rattle.std.proofs.Common.{◌∙◌, sym}
use Rattle.sync_syntax.proofs.BlockLines.{has_operands}
use Rattle.sync_syntax.proofs.reader.word_line.Goals as goal

pub statement_cause-requires-clause-operands : goal.statement_cause-requires-clause-operands
statement_cause-requires-clause-operands c =
    has_operands (before_of c.args.reader.plain) c.args.later.now c.args.operands.now c.args.word (sym c.plain_cause.ensures ∙ c.in_default.is)
