-- The canonical text of a program with blocks: its lines in their order, as those of the plain language are written.
use Rattle.std.specs.Prelude.{ℕ, if◌then◌else◌, List, [], ◌∷◌, ◌++◌, codes, map}
use Rattle.std.specs.List.{flat_map}
use Rattle.object_program.specs.declared.program.ClassDef.{ClassDef}
use Rattle.object_program.specs.declared.program.ObjectDef.{ObjectDef}
use Rattle.object_program.specs.declared.program.ThreadDef.{ThreadDef}
use Rattle.program_syntax.specs.Canonical.{line_text, local_name, class_words, object_words, opening_words, local_words, instruction_words}
use Rattle.sync_source.specs.declared.source.Test.{Test}
use Rattle.sync_source.specs.Source.{Statements, Nothing, Plain, Sync, If, While, SyncThreadText, SyncText}

-- the thread as the plain language has it before its first statement
abbrev pub heading : SyncThreadText → ThreadDef
heading t = record { name = t.name; locals = t.locals; labels = []; code = [] }

abbrev pub sync_words : ThreadDef → ℕ → List (List ℕ)
sync_words t x = codes "sync" ∷ local_name t.locals x ∷ []

abbrev pub sign_of : Test → List ℕ
sign_of test = if test.equal then codes "=" else codes "<"

-- the line of a test begins with this word
abbrev pub test_words : List ℕ → ThreadDef → Test → List (List ℕ)
test_words word t test = word ∷ local_name t.locals test.x ∷ sign_of test ∷ local_name t.locals test.y ∷ []

abbrev pub done_words : List (List ℕ)
done_words = codes "done" ∷ []

abbrev pub else_words : List (List ℕ)
else_words = codes "else" ∷ []

-- the lines of an `else`, where its block has statements, and none where it hasn't
abbrev pub else_lines : Statements → List (List (List ℕ)) → List (List (List ℕ))
else_lines Nothing lines = []
else_lines s lines = else_words ∷ lines

-- the lines of statements of this thread
abbrev pub statement_lines : List ClassDef → List ObjectDef → ThreadDef → Statements → List (List (List ℕ))
statement_lines classes ds t Nothing = []
statement_lines classes ds t (Plain c rest) = instruction_words classes ds t c ∷ statement_lines classes ds t rest
statement_lines classes ds t (Sync x body rest) =
    sync_words t x ∷ statement_lines classes ds t body ++ done_words ∷ statement_lines classes ds t rest
statement_lines classes ds t (If test body other rest) =
    test_words (codes "if") t test
    ∷ statement_lines classes ds t body
    ++ else_lines other (statement_lines classes ds t other)
    ++ done_words
    ∷ statement_lines classes ds t rest
statement_lines classes ds t (While test body rest) =
    test_words (codes "while") t test ∷ statement_lines classes ds t body ++ done_words ∷ statement_lines classes ds t rest

-- the section of a thread: its name, its locals and its statements
abbrev pub section_lines : List ClassDef → List ObjectDef → SyncThreadText → List (List (List ℕ))
section_lines classes ds t =
    opening_words (heading t) ∷ map local_words t.locals ++ statement_lines classes ds (heading t) t.body

-- the lines of a program, each as its words: its classes, its declarations of objects, and its threads
abbrev pub sync_lines : SyncText → List (List (List ℕ))
sync_lines p =
    map class_words p.classes
    ++ map (object_words p.classes) p.objects
    ++ flat_map (section_lines p.classes p.objects) p.threads

abbrev pub canonical_sync : SyncText → List ℕ
canonical_sync p = flat_map line_text (sync_lines p)
