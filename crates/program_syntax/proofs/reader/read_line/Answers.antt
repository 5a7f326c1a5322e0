use Rattle.std.proofs.Common.{sym}
use Rattle.program_syntax.proofs.AfterLines.{ahead_of}
use Rattle.program_syntax.proofs.reader.read_line.Goals as goal

pub keyword_line-requires : goal.keyword_line-requires
keyword_line-requires c =
    ahead_of c.args.reader.section c.args.line.now c.args.later.now c.in-Some.word.now _ c.in-Some-keyword_of.keyword
    (rw c.of-words.ensures at c.in-Some.ensures) (sym c.in-Some-keyword_of.ensures) c.requires
