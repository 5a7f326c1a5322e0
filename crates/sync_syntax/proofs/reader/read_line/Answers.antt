use Rattle.std.proofs.Common.{sym}
use Rattle.program_syntax.specs.State.{before_of}
use Rattle.sync_syntax.proofs.BlockLines.{kept_of, outside_of}
use Rattle.sync_syntax.proofs.reader.read_line.Goals as goal

pub word_line-requires-clause-kept : goal.word_line-requires-clause-kept
word_line-requires-clause-kept c = kept_of c.in-Some.first.now c.in-Some-word_of.word (sym c.in-Some-word_of.ensures)

pub word_line-requires-clause-outside : goal.word_line-requires-clause-outside
word_line-requires-clause-outside c =
    outside_of (before_of c.args.reader.plain).section c.args.line.now c.args.later.now c.in-Some.first.now c.next.new.self c.in-Some-word_of.word
    (rw c.of-words.ensures at c.in-Some.ensures) (sym c.in-Some-word_of.ensures) c.requires
