-- Looking for the marker line by line.
use Rattle.std.proofs.Common.{◌≡◌, ℕ, List, ◌++◌}
use Rattle.bias_check.specs.Parts.{has_journal, program_part, journal_part}

-- the marker of the text is that of what is left after these bytes
pub record IsLeft (text done left : List ℕ) : Type 0 where
  pub split : text ≡ done ++ left
  pub has : has_journal left ≡ has_journal text
  pub program : done ++ program_part left ≡ program_part text
  pub journal : journal_part left ≡ journal_part text
