use Rattle.std.proofs.Common.{rules, ◌≡◌, ◌==◌, ℕ, length, sym, ap, ◌∙◌, arith, eq-eqb}
use Rattle.std.specs.List.{position_or_len}
use Rattle.std.proofs.lemmas.List.Sums.{position_or_len_is}
use Rattle.plain_monitor.specs.Limits.{most_holds}
use Rattle.safepoint_work.proofs.words.first_place.Goals as goal

pub returns-then-holds-i-clause-place : goal.returns-then-holds-i-clause-place
returns-then-holds-i-clause-place c =
    sym (position_or_len_is (λ h. h == c.encode_hold-word.result) c.args.holds.now c.loop-i.i 0
    (omega arith) c.loop-i.invariant (λ lt. eq-eqb _ _ c.if-holds-i.true))
    ∙ ap (λ (w : ℕ). position_or_len (λ h. h == w) c.args.holds.now) c.encode_hold-word.ensures

pub returns-clause-place : goal.returns-clause-place
returns-clause-place c =
    let n : length c.args.holds.now ≡ most_holds = search rules in
    sym (position_or_len_is (λ h. h == c.encode_hold-word.result) c.args.holds.now most_holds 0 (omega (arith, n))
    (λ k lt. c.loop-i.invariant k (omega (arith, lt, c.loop-i-test.false))) (λ lt. absurd (omega (arith, lt, n))))
    ∙ ap (λ (w : ℕ). position_or_len (λ h. h == w) c.args.holds.now) c.encode_hold-word.ensures
