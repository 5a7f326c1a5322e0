-- What contracts see of the blocks that are open, and of a section.
use Rattle.std.specs.Prelude.{◌≡◌, List, [], map, reverse, Option, Some, None}
use Rattle.object_program.specs.declared.program.LabelDef.{LabelDef}
use Rattle.object_program.specs.declared.program.Code.{Code}
use Rattle.program_syntax.specs.declared.state.Section.{Section}
use Rattle.sync_source.specs.BlockView.{all_of}
use Rattle.sync_syntax.specs.declared.block.Opener as opener
use Rattle.sync_syntax.specs.declared.block.Opener.TheVariants as opener_is
use Rattle.sync_syntax.specs.declared.block.OpenBlock as block
use Rattle.sync_syntax.specs.declared.block.Blocks as blocks
use Rattle.sync_syntax.specs.Blocks.{Opener, OfSync, OfIf, OfElse, OfWhile, OpenBlock, Blocks}

abbrev pub opener_of : opener.Opener → Opener
opener_of (opener_is.Sync x) = OfSync x
opener_of (opener_is.If t) = OfIf t
opener_of (opener_is.Else t held) = OfElse t (all_of held.items)
opener_of (opener_is.While t) = OfWhile t

abbrev pub block_of : block.OpenBlock → OpenBlock
block_of b = record { opener = opener_of b.opener; earlier = all_of b.earlier.items }

-- the code has the innermost block last
abbrev pub opened_of : List block.OpenBlock → List OpenBlock
opened_of bs = map block_of (reverse bs)

abbrev pub blocks_of : blocks.Blocks → Blocks
blocks_of b = record { opened = opened_of b.opened.items; statements = all_of b.statements.items }

-- the labels and the instructions of a section as the plain language has it
abbrev pub labels_in : Option Section → List LabelDef
labels_in None = []
labels_in (Some s) = s.labels

abbrev pub code_in : Option Section → List Code
code_in None = []
code_in (Some s) = s.code.items

-- it has none
abbrev pub IsBare : Option Section → Type 0
IsBare s = (labels_in s ≡ []) × (code_in s ≡ [])
