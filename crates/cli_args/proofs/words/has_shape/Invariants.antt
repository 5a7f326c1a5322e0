use Rattle.std.proofs.Common.{◌≡◌, map, drop}
use Rattle.std.specs.Prelude.{string_bytes}
use Rattle.cli_args.specs.inner.Shape.{has_shape, has_shape_from}
use Rattle.cli_args.proofs.words.has_shape.Given as goal

-- The words that are left have a shape after the names so far just where all words have one.
abbrev pub invariant-loop-word : goal.invariant-loop-word
invariant-loop-word l = has_shape_from (record { names = map (λ s. s.now) l.names.items; waits = l.waits })
    (drop l.word-index (map (λ w. string_bytes w) l.words)) ≡ has_shape (map (λ w. string_bytes w) l.words)
