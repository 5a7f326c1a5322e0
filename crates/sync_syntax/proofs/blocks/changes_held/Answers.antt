use Rattle.std.proofs.Common.{◌∙◌, ap, sym}
use Rattle.std.specs.List.{list_any}
use Rattle.sync_syntax.specs.declared.block.OpenBlock.{OpenBlock}
use Rattle.sync_syntax.specs.Blocks.{changes_local}
use Rattle.sync_syntax.specs.inner.Views.{opener_of}
use Rattle.sync_syntax.proofs.OpenBlocks.{changes-opened}
use Rattle.sync_syntax.proofs.blocks.changes_held.Goals as goal

pub returns : goal.returns
returns c =
    let code = c.args.code.now in
    c.some_changes.ensures ∙ ap (list_any (λ (b : OpenBlock). changes_local code (opener_of b.opener))) c.as_slice.ensures.value
    ∙ sym (changes-opened code c.args.blocks.now.opened.items)
