-- By the bits of the mark.
use Rattle.std.proofs.Common.{◌≡◌, Bool, true, false, refl, sym, ap, ◌∙◌}
use Rattle.core_world.specs.Threads.ThreadView.{local_of}
use Rattle.core_world.specs.Words.Forms.{is_biased}
use Rattle.heap_table.specs.Ruled.{only}
use Rattle.heap_table.specs.declared.quick_exits.ExitPart.TheVariants as parts
use Rattle.heap_table.specs.inner.Amid.{Goes, exit_found}
use Rattle.heap_table.proofs.ExitEnds.{held_part}
use Rattle.heap_table.proofs.Late.{amid_by, late_as}
use Rattle.heap_table.proofs.quick_exits.part.Goals as goal
use Rattle.heap_table.proofs.quick_exits.part.Goals.{Start}

by_test : (c : Start) (b : Bool) → is_biased c.args.mark ≡ b → let e = c.args.call.now in let k = only c.args.seat.now.me.0 in
    Goes c.args.setting.now e c.args.mirror.now k (exit_found (is_biased c.args.mark) e (local_of k) c.args.object) k (exit_found b e (local_of k) c.args.object)
by_test c b is = λ h p d its late.
    late_as late (ap (λ (x : Bool). exit_found x c.args.call.now (local_of (only c.args.seat.now.me.0)) c.args.object) is)

pub returns-then-has_bias_bits-clause-leads : goal.returns-then-has_bias_bits-clause-leads
returns-then-has_bias_bits-clause-leads c = λ h p d its late.
    let z = (goal.at.returns-then-has_bias_bits-clause-leads c).Start in
    held_part (local_of (only c.args.seat.now.me.0)) parts.Held late.mirrors.thread late.mirrors.holds (λ j g shows. shows) refl
    (by_test z true (sym c.has_bias_bits.ensures ∙ c.if-has_bias_bits.true) h p d its late)

pub part_unbiased-requires-clause-amid : goal.part_unbiased-requires-clause-amid
part_unbiased-requires-clause-amid c =
    amid_by c.requires.amid (by_test (goal.at.part_unbiased-requires-clause-amid c).Start false (sym c.has_bias_bits.ensures ∙ c.if-has_bias_bits.false))

pub returns-clause-leads : goal.returns-clause-leads
returns-clause-leads c = λ h p d its late.
    let z = (goal.at.returns-clause-leads c).Start in
    c.part_unbiased.ensures.leads h p d its (by_test z false (sym c.has_bias_bits.ensures ∙ c.if-has_bias_bits.false) h p d its late)
