-- What a sink holds after several writes, and what it holds with bytes that are pending.
use Rattle.std.proofs.Common.{◌≡◌, ℕ, ◌+◌, List, ◌++◌, take, drop, Option, Some, sym, ap, ◌∙◌, append_assoc}
use lib.Seq.{take-add}
use Rattle.run_io.specs.Sink.{Appends}

-- some of the piece was written, and then the first n bytes of its rest
pub appends_more : (a b c : Option (List ℕ)) (piece rest : List ℕ) (done n : ℕ) → rest ≡ drop done piece
    → Appends a b piece done → Appends b c rest n → Appends a c piece (done + n)
appends_more a b c piece rest done n is p q = λ bytes h.
    q (bytes ++ take done piece) (p bytes h)
    ∙ ap Some (append_assoc bytes (take done piece) (take n rest)
    ∙ ap (λ l. bytes ++ (take done piece ++ take n l)) is
    ∙ ap (λ l. bytes ++ l) (sym (take-add done n piece)))
