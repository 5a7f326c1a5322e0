use Rattle.std.proofs.Common.{◌≡◌, drop, map}
use Rattle.program_syntax.specs.Line.{spelled_among}
use Rattle.program_syntax.proofs.spelling.spelled_among.Given as goal

-- none of the spellings so far is the word's
abbrev pub invariant-loop-spelling : goal.invariant-loop-spelling
invariant-loop-spelling l =
    spelled_among (map (λ s. (s.0.now, s.1)) l.spellings) l.word
    ≡ spelled_among (map (λ s. (s.0.now, s.1)) (drop l.spelling-index l.spellings)) l.word
