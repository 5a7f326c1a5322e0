-- One hold more stands on the others.
use Rattle.std.proofs.Common.{rules, ◌≡◌, ◌≢◌, ◌-◌, ◌+◌, ◌∙◌, length, sym, ap, arith, get_or, get_or-set_other, get_or-set_same}
use Rattle.plain_monitor.specs.Limits.{most_holds}
use Rattle.std.specs.Prelude.{slice_set}
use Rattle.heap_table.proofs.Stacked.{stacked_more}
use Rattle.heap_table.proofs.holds.Holds.push.Goals as goal

pub invariant_of-self : goal.invariant_of-self
invariant_of-self c =
    let holds = c.args.self.now in
    let word = c.args.word in
    let n : length holds.words ≡ most_holds = search rules in
    let room = c.requires.room in
    let some : word ≢ 0 = λ e. let is = c.requires.word in omega (arith, is, e) in
    let here = get_or-set_same holds.words holds.used word 0 (omega (arith, n, room)) in
    let last : holds.used + 1 - 1 ≡ holds.used = omega arith in
    record {
      within = omega (arith, room);
      rest = λ i l. get_or-set_other holds.words holds.used i word 0 (λ e. omega (arith, l, e)) ∙ holds.rest i (omega (arith, l));
      tight = λ _ e. some (sym (ap (λ i. get_or (slice_set holds.words holds.used word) i 0) last ∙ here) ∙ e);
      stacks = λ e. stacked_more holds.used c.args.object word holds.words (holds.stacks e) holds.rest (omega (arith, n, room)) room
          c.requires.object c.requires.word;
    }
