use Rattle.std.proofs.Common.{◌+◌, ◌<◌, ◌≤◌, List, length, drop, get_or, ℕ, sym, ap, ◌∙◌, arith}
use Rattle.std.proofs.lemmas.List.{at_drop_more, at_drop_all}
use Rattle.mark_word.specs.Hold.{read_hold}
use Rattle.thread_calls.specs.inner.Least.{least_in, lesser, object_in}
use Rattle.thread_calls.proofs.Least.{least_is, lesser_none, lesser_thrice, places}
use Rattle.thread_calls.proofs.waiting_and_unwinding.least_held.Goals as goal

pub loop-word-preserved : goal.loop-word-preserved
loop-word-preserved c =
    let words = c.hold_words-words.result.now in
    let i = c.loop-word.word-index in
    let least = c.loop-word.least in
    let many = ap (λ (x : List ℕ). length x) c.hold_words-words.ensures ∙ places c.args.heap.now c.args.pass.now c.requires in
    let within : i < length words = omega (arith, c.loop-word-test.true, many) in
    let here = object_in (read_hold (get_or words i 0)) in
    let rest = least_in (drop (i + 1) words) in
    ap (λ x. lesser x rest) (c.lesser-least.ensures ∙ ap (lesser least) c.object_in.ensures)
    ∙ sym (lesser_thrice least here rest)
    ∙ ap (lesser least) (sym (at_drop_more least_in words i 0 within))
    ∙ c.loop-word.invariant

pub returns : goal.returns
returns c =
    let words = c.hold_words-words.result.now in
    let i = c.loop-word.word-index in
    let least = c.loop-word.least in
    let many = ap (λ (x : List ℕ). length x) c.hold_words-words.ensures ∙ places c.args.heap.now c.args.pass.now c.requires in
    let past : length words ≤ i = omega (arith, c.loop-word-test.false, many) in
    sym (lesser_none least)
    ∙ ap (lesser least) (sym (at_drop_all least_in words i past))
    ∙ c.loop-word.invariant
    ∙ ap least_in c.hold_words-words.ensures
    ∙ least_is c.args.heap.now c.args.pass.now c.requires
