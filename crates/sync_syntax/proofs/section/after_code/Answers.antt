use Rattle.std.proofs.Common.{◌∙◌, ap, sym, ◌+◌}
use Rattle.sync_syntax.specs.Blocks.{code_used}
use Rattle.sync_syntax.specs.inner.Views.{blocks_of}
use Rattle.sync_syntax.proofs.OpenBlocks.{used-statement}
use Rattle.sync_syntax.proofs.section.after_code.Goals as goal

pub invariant_of-result : goal.invariant_of-result
invariant_of-result c = record {
  bare = rw c.in-Some.is at c.args.reader.bare;
  used_is = ap (λ n. n + 1) c.args.reader.used_is ∙ sym (used-statement (blocks_of c.args.reader.blocks) c.code_on-code.result)
      ∙ ap code_used (sym c.in_ok-with_instruction.ensures);
  used_few = c.requires.room;
}
