-- The labels of a line.
use Rattle.std.specs.Prelude.{ℕ, List}
use Rattle.program_syntax.specs.Text.{words_of}
use Rattle.program_syntax.specs.Reading.{first_keyword, labels_on}
use Rattle.object_program.specs.declared.program.LabelDef.{LabelDef}

-- the label of this line, if it declares one, where the next instruction has number n
abbrev pub labels_of_line : ℕ → List ℕ → List LabelDef
labels_of_line n line = labels_on n (words_of line) (first_keyword (words_of line))
