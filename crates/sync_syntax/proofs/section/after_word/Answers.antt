use Rattle.std.proofs.Common.{◌≡◌, ◌+◌, ◌≤◌, true, None, Some}
use Rattle.object_program.specs.Limits.{most_code}
use Rattle.program_syntax.specs.Refusal.{keyword_cause}
use Rattle.program_syntax.specs.State.{before_of}
use Rattle.sync_syntax.specs.declared.word.Word.TheVariants as word
use Rattle.sync_syntax.specs.Word.{weight}
use Rattle.sync_syntax.specs.inner.Steps.{is_kept, IsOutside}
use Rattle.sync_syntax.proofs.BlockLines.{block_has, keyword_room, plain_left}
use Rattle.sync_syntax.proofs.section.after_word.Goals as goal

pub after_block-requires : goal.after_block-requires
after_block-requires c =
    let h = block_has c.args.reader c.args.later.now c.args.operands.now c.args.word c.in_default.not-Plain c.requires.plain c.requires.clean in
    record { section = h.section; block = h.block; stray = h.stray; room = h.room }

pub after_keyword-requires : goal.after_keyword-requires
after_keyword-requires c =
    let k = c.in-Plain.keyword in
    let b = before_of c.args.reader.plain in
    let kept : is_kept (word.Plain k) ≡ true = rw c.in-Plain.is at c.requires.kept in
    let outside : IsOutside b.section (word.Plain k) = rw c.in-Plain.is at c.requires.outside in
    let plain : keyword_cause b c.args.later.now c.args.operands.now (Some k) ≡ None = rw c.in-Plain.is at c.requires.plain in
    let room : c.args.reader.used + weight (word.Plain k) ≤ most_code =
    rw c.in-Plain.is at (keyword_room c.args.reader c.args.later.now c.args.operands.now c.args.word c.requires.clean) in
    record { kept = plain_left k kept; outside = outside; plain = plain; room = room }
