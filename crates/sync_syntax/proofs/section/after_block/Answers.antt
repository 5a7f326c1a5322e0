use Rattle.std.proofs.Common.{◌∙◌, ap, sym, ◌+◌}
use Rattle.program_syntax.specs.State.{thread_of}
use Rattle.sync_syntax.specs.Blocks.{code_used}
use Rattle.sync_syntax.specs.inner.Views.{blocks_of}
use Rattle.sync_syntax.proofs.BlockLines.{used-after}
use Rattle.sync_syntax.proofs.section.after_block.Goals as goal

pub invariant_of-result : goal.invariant_of-result
invariant_of-result c = record {
  bare = rw c.in-Some.is at c.args.reader.bare;
  used_is =
      ap (λ n. n + c.weight.result) c.args.reader.used_is ∙ ap (λ n. code_used (blocks_of c.args.reader.blocks) + n) c.weight.ensures
      ∙ sym (used-after (thread_of c.in-Some.section) (blocks_of c.args.reader.blocks) c.args.operands.now c.args.word c.requires.block c.requires.stray)
      ∙ ap code_used (sym c.in_ok-blocks.ensures);
  used_few = rw (sym c.weight.ensures) at c.requires.room;
}
