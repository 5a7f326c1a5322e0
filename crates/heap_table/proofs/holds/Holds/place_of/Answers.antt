use Rattle.std.proofs.Common.{rules, ◌≡◌, ◌==◌, length, sym, ◌∙◌, arith, eq-eqb}
use Rattle.std.proofs.lemmas.List.Sums.{position_or_len_is}
use Rattle.plain_monitor.specs.Limits.{most_holds}
use Rattle.heap_table.proofs.Held.{unused, nowhere}
use Rattle.heap_table.proofs.holds.Holds.place_of.Goals as goal

pub returns-then-self-i-clause-place : goal.returns-then-self-i-clause-place
returns-then-self-i-clause-place c =
    let words = c.args.self.now.words in
    let n : length words ≡ most_holds = search rules in
    sym (position_or_len_is (λ h. h == c.args.word) words c.loop-i.i 0
    (omega (arith, n, c.loop-i-test.true, c.args.self.now.within)) c.loop-i.invariant (λ l. eq-eqb _ _ c.if-self-i.true))

pub returns-then-word-eq0-clause-place : goal.returns-then-word-eq0-clause-place
returns-then-word-eq0-clause-place c =
    let holds = c.args.self.now in
    let n : length holds.words ≡ most_holds = search rules in
    sym (unused c.args.word holds.used holds.words (omega (arith, n, holds.within)) holds.rest
    (λ k l. c.loop-i.invariant k (omega (arith, l, c.loop-i-test.false))) c.if-word-eq0.true)

pub returns-else-word-eq0-clause-place : goal.returns-else-word-eq0-clause-place
returns-else-word-eq0-clause-place c =
    let holds = c.args.self.now in
    let n : length holds.words ≡ most_holds = search rules in
    sym (nowhere c.args.word holds.used holds.words holds.rest (λ k l. c.loop-i.invariant k (omega (arith, l, c.loop-i-test.false))) c.if-word-eq0.false ∙ n)
