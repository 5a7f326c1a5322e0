use Rattle.std.proofs.Common.{◌≡◌, ◌+◌, ◌||◌, true, false, drop, ap, sym, ◌∙◌, arith}
use Rattle.plain_machine.specs.Machine.{ending_of}
use Rattle.bias_cli.specs.Finish.{is_cut_short}
use Rattle.bias_cli.proofs.CutShort.{any_cut_short, any_next}
use Rattle.bias_cli.proofs.text.some_cut_short.Goals as goal

pub returns-then-is_cut_short : goal.returns-then-is_cut_short
returns-then-is_cut_short c =
    let threads = c.args.machine.now.threads in
    let cut : is_cut_short (ending_of c.args.machine.now c.loop-t.t) ≡ true = sym (c.if-is_cut_short.ensures ∙ ap is_cut_short c.ending.ensures) in
    sym (sym c.loop-t.invariant ∙ any_next threads c.loop-t.t (omega arith) ∙ ap (λ b. b || any_cut_short (drop (c.loop-t.t + 1) threads)) cut)

pub loop-t-preserved : goal.loop-t-preserved
loop-t-preserved c =
    let threads = c.args.machine.now.threads in
    let whole : is_cut_short (ending_of c.args.machine.now c.loop-t.t) ≡ false = sym (c.if-is_cut_short.ensures ∙ ap is_cut_short c.ending.ensures) in
    sym (any_next threads c.loop-t.t (omega arith) ∙ ap (λ b. b || any_cut_short (drop (c.loop-t.t + 1) threads)) whole) ∙ c.loop-t.invariant
