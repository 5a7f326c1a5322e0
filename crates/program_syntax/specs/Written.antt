-- What a call that writes leaves, also where memory is wanting.
use Rattle.std.specs.Prelude.{◌≡◌, ℕ, List, ◌++◌, map}
use Rattle.std.specs.List.{flat_map}
use Rattle.program_syntax.specs.Canonical.{line_text, object_words, instruction_words}
use Rattle.object_program.specs.declared.program.ClassDef.{ClassDef}
use Rattle.object_program.specs.declared.program.ObjectDef.{ObjectDef}
use Rattle.object_program.specs.declared.program.ThreadDef.{ThreadDef}
use Rattle.object_program.specs.declared.program.Code.{Code}

-- these bytes are the front of those
pub record BeginsWith (front whole : List ℕ) : Type 0 where
  pub rest : List ℕ
  pub same : whole ≡ front ++ rest

-- the text of lines
abbrev pub lines_text : List (List (List ℕ)) → List ℕ
lines_text lines = flat_map line_text lines

abbrev pub objects_text : List ClassDef → List ObjectDef → List ℕ
objects_text classes objects = lines_text (map (object_words classes) objects)

abbrev pub instruction_text : List ClassDef → List ObjectDef → ThreadDef → Code → List ℕ
instruction_text classes objects thread code = line_text (instruction_words classes objects thread code)
