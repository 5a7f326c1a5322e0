-- All entries of the page count as handed out.
use Rattle.std.proofs.Common.{ap, arith, vec_len}
use Rattle.heap_table.proofs.mirror.turn_page.Goals as goal

pub returns-clause-given : goal.returns-clause-given
returns-clause-given c =
    let count = c.len.ensures in
    let page = ap vec_len c.replace-page.ensures.value in
    omega (arith, count, page)
