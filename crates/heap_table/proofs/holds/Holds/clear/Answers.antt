-- Without the last of them, the others stand as they were taken.
use Rattle.std.proofs.Common.{rules, ◌≡◌, ◌-◌, length, ◌∙◌, sym, arith, get_or-set_other}
use Rattle.std.specs.Prelude.{slice_set}
use Rattle.plain_monitor.specs.Limits.{most_holds}
use Rattle.heap_table.specs.Held.{IsStacked}
use Rattle.heap_table.proofs.Stacked.{empty_past, none_empty, stacked_before}
use Rattle.heap_table.proofs.holds.Holds.clear.Goals as goal

pub invariant_of-self : goal.invariant_of-self
invariant_of-self c =
    let holds = c.args.self.now in
    let place = c.args.place in
    let n : length holds.words ≡ most_holds = search rules in
    let last = (c.is_last.ensures c.if-is_last.true).1 in
    let room = c.requires.place in
    let stacked = holds.stacks (c.is_last.ensures c.if-is_last.true).0 in
    let before : IsStacked place (slice_set holds.words place 0) =
    stacked_before place place 0 holds.words (λ i l. stacked i (omega (arith, l, last))) (omega arith) in
    let filled = none_empty holds.used holds.words stacked holds.within (omega (arith, n, holds.within)) in
    record {
      within = omega (arith, room);
      rest = empty_past holds.used place holds.words holds.rest last (omega (arith, n, room));
      tight = λ some e. filled (place - 1) (omega (arith, some, last))
          (sym (get_or-set_other holds.words place (place - 1) 0 0 (λ same. omega (arith, some, same))) ∙ e);
      stacks = λ _. before;
    }
