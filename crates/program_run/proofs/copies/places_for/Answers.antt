use Rattle.std.proofs.Common.{◌+◌, None, length, ap, ◌∙◌, arith}
use Rattle.std.proofs.lemmas.List.{length_push}
use Rattle.program_run.proofs.copies.places_for.Goals as goal

pub loop-init : goal.loop-init
loop-init c = ap length c.in_ok-places.ensures.items

pub loop-preserved : goal.loop-preserved
loop-preserved c =
    ap length c.in_ok-push.ensures.items ∙ length_push c.loop.places.items None ∙ ap (λ n. n + 1) c.loop.invariant

pub returns : goal.returns
returns c =
    omega (arith, c.loop.invariant, c.loop-test.false, c.loop.auto.index-end)
