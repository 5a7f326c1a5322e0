use Rattle.std.proofs.Common.{◌≡◌, ℕ, ◌+◌, ◌<◌, ◌∙◌, Bool, false, List, length, map, drop, get_or, refl, sym}
use Rattle.std.specs.Str.{bytes_eq}
use Rattle.std.proofs.lemmas.List.{at_drop_more}
use Rattle.program_syntax.specs.declared.keyword.Keyword.{Keyword}
use Rattle.program_syntax.specs.Line.{spelled_among}
use Rattle.program_syntax.proofs.spelling.spelled_among.Goals as goal

-- a word that isn't spelled as this one is sought among those after it
among_rest : {S : Type 0} (row : S → List ℕ × Keyword) (xs : List S) (i : ℕ) (d : S) (word : List ℕ) (t : Bool) → i < length xs
    → t ≡ bytes_eq (row (get_or xs i d)).0 word → t ≡ false
    → spelled_among (map row (drop i xs)) word ≡ spelled_among (map row (drop (i + 1) xs)) word
among_rest row xs i d word t lt e h =
    let other : bytes_eq (row (get_or xs i d)).0 word ≡ false = sym e ∙ h in
    at_drop_more (λ ys. spelled_among (map row ys) word) xs i d lt ∙ rw other refl

pub loop-spelling-preserved : goal.loop-spelling-preserved
loop-spelling-preserved c =
    c.loop-spelling.invariant
    ∙ among_rest (λ s. (s.0.now, s.1)) c.args.spellings.now c.loop-spelling.spelling-index _ c.args.word.now c.is_word.result
    c.loop-spelling-test.true c.is_word.ensures c.if-is_word.false
