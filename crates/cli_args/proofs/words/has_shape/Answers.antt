use Rattle.std.proofs.Common.{◌≡◌, ◌∙◌, ◌+◌, map, drop, sym, ap, rules, arith, false, Some, None}
use Rattle.std.specs.Prelude.{string_bytes}
use Rattle.std.specs.Option.{option_map_or}
use Rattle.cli_args.specs.inner.Shape.{Seen, has_shape_from, seen_after}
use Rattle.cli_args.proofs.Texts.{rest_at_item}
use Rattle.cli_args.proofs.words.has_shape.Goals as goal

pub returns-in-None : goal.returns-in-None
returns-in-None c =
    let l = c.loop-word in
    let seen : Seen = record { names = map (λ s. s.now) l.names.items; waits = l.waits } in
    let words = c.args.words.now in
    let next = rest_at_item (has_shape_from seen) (λ w. string_bytes w) words l.word-index c.word-item.result (omega arith) c.word-item.is in
    let refused : seen_after seen (string_bytes c.word-item.result) ≡ None = search rules in
    sym (sym l.invariant ∙ next ∙ ap (λ o. option_map_or (λ s. has_shape_from s (drop (l.word-index + 1) (map (λ w. string_bytes w) words))) o false) refused)

pub loop-word-preserved : goal.loop-word-preserved
loop-word-preserved c =
    let l = c.loop-word in
    let seen : Seen = record { names = map (λ s. s.now) l.names.items; waits = l.waits } in
    let after : Seen = record { names = map (λ s. s.now) c.take_word.new.names.items; waits = c.in-Some.next } in
    let words = c.args.words.now in
    let next = rest_at_item (has_shape_from seen) (λ w. string_bytes w) words l.word-index c.word-item.result (omega arith) c.word-item.is in
    let taken : seen_after seen (string_bytes c.word-item.result) ≡ Some after = search rules in
    sym (next ∙ ap (λ o. option_map_or (λ s. has_shape_from s (drop (l.word-index + 1) (map (λ w. string_bytes w) words))) o false) taken) ∙ l.invariant
