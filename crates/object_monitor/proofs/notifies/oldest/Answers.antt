use Rattle.std.proofs.Common.{rules, ◌≡◌, ℕ, ◌+◌, ◌-◌, length, take, drop, get_or, sym, ap, ◌∙◌, arith}
use Rattle.plain_monitor.specs.Limits.{most_threads}
use Rattle.core_world.specs.Trees.WaitSteps.{waiters, by_age}
use Rattle.object_monitor.specs.inner.NotifyParts.{first_of, oldest_with}
use Rattle.object_monitor.proofs.Ages.{one_down}
use Rattle.object_monitor.proofs.notifies.oldest.Goals as goal

pub loop-left-preserved : goal.loop-left-preserved
loop-left-preserved c =
    let o = c.args.object in
    let n = c.args.count in
    let words = c.args.words.now in
    let inv = c.loop-left.invariant in
    let i = c.loop-left.left - 1 in
    let sixteen : length words ≡ most_threads = search rules in
    let next : c.loop-left.left ≡ i + 1 = omega (arith, c.loop-left-test.true) in
    let before : c.loop-left.oldest ≡ first_of (by_age (waiters o (i + 1) (drop (i + 1) (take n words)))) =
    inv.1 ∙ ap (λ (k : ℕ). first_of (by_age (waiters o k (drop k (take n words))))) next in (
      omega (arith, inv.0),
      c.with_word-oldest.ensures ∙ ap (oldest_with o i (get_or words i 0)) before
          ∙ sym (one_down o n i words (omega (arith, sixteen, c.requires)) (omega (arith, next, inv.0))),
    )
