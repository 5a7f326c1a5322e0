use Rattle.std.proofs.Common.{refl, None}
use Rattle.program_syntax.specs.State.{before_of}
use Rattle.program_syntax.proofs.AfterLines.{array_counted}
use Rattle.program_syntax.proofs.reader.after_declaration.Goals as goal

pub with_objects-requires-in-Array-clause-some : goal.with_objects-requires-in-Array-clause-some
with_objects-requires-in-Array-clause-some c =
    (array_counted (before_of (record { declared = c.args.declared; section = None })) c.args.later.now c.args.operands.now
    c.args.keyword c.word.result.now c.count_of.result c.in-Array.is c.requires.clean c.word.ensures c.count_of.ensures.count).some

pub with_objects-requires-in-Array-clause-room : goal.with_objects-requires-in-Array-clause-room
with_objects-requires-in-Array-clause-room c =
    (array_counted (before_of (record { declared = c.args.declared; section = None })) c.args.later.now c.args.operands.now
    c.args.keyword c.word.result.now c.count_of.result c.in-Array.is c.requires.clean c.word.ensures c.count_of.ensures.count).room

pub returns-in_ok-with_objects-in-Array-clause-after : goal.returns-in_ok-with_objects-in-Array-clause-after
returns-in_ok-with_objects-in-Array-clause-after c =
    let counted = array_counted (before_of (record { declared = c.args.declared; section = None })) c.args.later.now c.args.operands.now
    c.args.keyword c.word.result.now c.count_of.result c.in-Array.is c.requires.clean c.word.ensures c.count_of.ensures.count in
    rw (c.in-Array.is, ← counted.same, c.in_ok-with_objects-in-Array.ensures) refl
