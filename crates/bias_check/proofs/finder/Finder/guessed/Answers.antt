use Rattle.std.proofs.Common.{◌≡◌, ◌∙◌, ap, List, map, slice_index_or, Option, None}
use Rattle.bias_check.specs.declared.finder.Guess.{Guess}
use Rattle.bias_check.specs.inner.Guesses.{place_by}
use Rattle.bias_check.proofs.Guesses.{guessed}
use Rattle.bias_check.proofs.finder.Finder.guessed.Goals as goal

pub returns : goal.returns
returns g c =
    let guess : c.guess_at.result ≡ slice_index_or c.self.inside.guesses.items c.slot_of.result None =
    c.guess_at.ensures ∙ ap (λ (l : List (Option Guess)). slice_index_or l c.slot_of.result None) c.deref.ensures.value in
    let found = c.place_by.ensures ∙ ap (λ (x : Option Guess). place_by x c.args.word.now) guess in
    rw (← c.self.view_is)
    (guessed (map g.T.Named.name_of c.self.inside.directory) c.self.inside.guesses.items c.slot_of.result c.args.word.now c.place_by.result
    c.self.invariant found)
