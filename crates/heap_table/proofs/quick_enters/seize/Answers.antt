-- By the bits of the mark.
use Rattle.std.proofs.Common.{◌≡◌, Bool, sym, ap, ◌∙◌}
use Rattle.core_world.specs.Words.Forms.{is_biased}
use Rattle.heap_table.specs.Quick.{entered}
use Rattle.heap_table.specs.Resting.{start_now}
use Rattle.heap_table.specs.Seen.{HeapSeen, PassSeen}
use Rattle.heap_table.specs.inner.Amid.{mark_left}
use Rattle.heap_table.proofs.Late.{late_as}
use Rattle.heap_table.proofs.quick_enters.seize.Goals as goal
use Rattle.heap_table.proofs.quick_enters.seize.Goals.{Start}

-- what is left by that test
by_test : (c : Start) (b : Bool) → is_biased c.args.mark ≡ b → (h : HeapSeen) (o : PassSeen) → let a = c.args in
    mark_left (is_biased a.mark) a.setting.now.shape a.call.now (start_now h o) (entered a.object a.now) a.mark
    ≡ mark_left b a.setting.now.shape a.call.now (start_now h o) (entered a.object a.now) a.mark
by_test c b is h o = ap (λ x. mark_left x c.args.setting.now.shape c.args.call.now (start_now h o) (entered c.args.object c.args.now) c.args.mark) is

pub seize_biased-requires-clause-amid : goal.seize_biased-requires-clause-amid
seize_biased-requires-clause-amid c =
    let a = c.requires.amid in
    let z = (goal.at.seize_biased-requires-clause-amid c).Start in
    record {
      heap = a.heap;
      begun = a.begun;
      due = a.due;
      its = a.its;
      local = a.local;
      late = late_as a.late (by_test z _ (sym c.has_bias_bits.ensures ∙ c.if-has_bias_bits.true) a.heap a.begun);
    }

pub seize_unbiased-requires-clause-amid : goal.seize_unbiased-requires-clause-amid
seize_unbiased-requires-clause-amid c =
    let a = c.requires.amid in
    let z = (goal.at.seize_unbiased-requires-clause-amid c).Start in
    record {
      heap = a.heap;
      begun = a.begun;
      due = a.due;
      its = a.its;
      local = a.local;
      late = late_as a.late (by_test z _ (sym c.has_bias_bits.ensures ∙ c.if-has_bias_bits.false) a.heap a.begun);
    }

pub returns-then-has_bias_bits-clause-leads : goal.returns-then-has_bias_bits-clause-leads
returns-then-has_bias_bits-clause-leads c = λ h o d its local late.
    let z = (goal.at.returns-then-has_bias_bits-clause-leads c).Start in
    c.seize_biased.ensures.leads h o d its local (late_as late (by_test z _ (sym c.has_bias_bits.ensures ∙ c.if-has_bias_bits.true) h o))

pub returns-else-has_bias_bits-clause-leads : goal.returns-else-has_bias_bits-clause-leads
returns-else-has_bias_bits-clause-leads c = λ h o d its local late.
    let z = (goal.at.returns-else-has_bias_bits-clause-leads c).Start in
    c.seize_unbiased.ensures.leads h o d its local (late_as late (by_test z _ (sym c.has_bias_bits.ensures ∙ c.if-has_bias_bits.false) h o))
