-- The texts of a program's parts.
use Rattle.std.specs.Prelude.{ℕ, List, ◌++◌, map}
use Rattle.std.specs.List.{flat_map}
use Rattle.program_syntax.specs.Canonical.{thread_lines, code_lines, label_words, labels_at}
use Rattle.program_syntax.specs.Written.{lines_text, instruction_text}
use Rattle.object_program.specs.declared.program.ClassDef.{ClassDef}
use Rattle.object_program.specs.declared.program.ObjectDef.{ObjectDef}
use Rattle.object_program.specs.declared.program.LabelDef.{LabelDef}
use Rattle.object_program.specs.declared.program.ThreadDef.{ThreadDef}
use Rattle.object_program.specs.declared.program.Code.{Code}

abbrev pub threads_text : List ClassDef → List ObjectDef → List ThreadDef → List ℕ
threads_text classes objects threads = lines_text (flat_map (thread_lines classes objects) threads)

abbrev pub code_text : List ClassDef → List ObjectDef → ThreadDef → List Code → List ℕ
code_text classes objects thread code = lines_text (code_lines classes objects thread 1 code)

abbrev pub labels_text : ℕ → List LabelDef → List ℕ
labels_text n labels = lines_text (map label_words (labels_at n labels))

-- instruction n after its labels
abbrev pub step_text : List ClassDef → List ObjectDef → ThreadDef → ℕ → Code → List ℕ
step_text classes objects thread n code = labels_text n thread.labels ++ instruction_text classes objects thread code
