-- What a line means, where it has no cause of refusal.
use Rattle.std.specs.Prelude.{ℕ, Bool, ◌||◌, if◌then◌else◌, List, [], ◌∷◌, ◌++◌, codes, Option, Some, None}
use Rattle.std.specs.Str.{bytes_eq}
use Rattle.object_program.specs.declared.program.ThreadDef.{ThreadDef}
use Rattle.object_program.specs.declared.program.Code.{Code}
use Rattle.object_program.specs.declared.program.Code.TheVariants as code
use Rattle.program_syntax.specs.Text.{words_of}
use Rattle.program_syntax.specs.Line.{is_outside}
use Rattle.program_syntax.specs.Reading.{Before, nothing, operand, local_at, instruction_on, after_keyword}
use Rattle.program_syntax.specs.declared.keyword.Keyword.{Keyword}
use Rattle.program_syntax.specs.declared.keyword.Keyword.TheVariants.{Local, End}
use Rattle.sync_source.specs.declared.source.Test.{Test}
use Rattle.sync_source.specs.Source.{Nothing, Plain, SyncThreadText, SyncText}
use Rattle.sync_syntax.specs.declared.word.Word.{Word}
use Rattle.sync_syntax.specs.declared.word.Word.TheVariants as word
use Rattle.sync_syntax.specs.Word.{first_word}
use Rattle.sync_syntax.specs.Blocks.{Blocks, no_blocks, OfSync, OfIf, OfWhile, with_statement, with_block, with_else, without_block}

-- what the lines so far have declared
pub record SyncBefore : Type 0 where
  -- names, as the plain language declares them: its threads, and that of the section that is open, have their locals,
  -- but no statements
  pub plain : Before
  -- the threads whose sections are closed
  pub threads : List SyncThreadText
  -- the statements of the section that is open
  pub blocks : Blocks

abbrev pub nothing_read : SyncBefore
nothing_read = record { plain = nothing; threads = []; blocks = no_blocks }

-- a test is of equality or of order
abbrev pub is_equals : List ℕ → Bool
is_equals word = bytes_eq (codes "=") word

abbrev pub is_sign : List ℕ → Bool
is_sign word = is_equals word || bytes_eq (codes "<") word

-- the test of a line with these operands: a local, a sign, and a local
abbrev pub test_on : ThreadDef → List (List ℕ) → Test
test_on t ws = record { equal = is_equals (operand ws 1); x = local_at t ws 0; y = local_at t ws 2 }

-- the instruction of a line with these operands
abbrev pub code_on : SyncBefore → ThreadDef → List (List ℕ) → Keyword → Code
code_on b t ws k = instruction_on b.plain.text t [] ws k

-- the thread of a section after its `end`, at which no block is open
abbrev pub ended : ThreadDef → Blocks → SyncThreadText
ended t blocks =
    record { name = t.name; locals = t.locals; body = (with_statement blocks (Plain code.End Nothing)).statements }

-- a line of the section of this thread that is no block's
abbrev pub after_statement : SyncBefore → ThreadDef → List (List ℕ) → List (List ℕ) → Keyword → SyncBefore
after_statement b t later ws Local = record b { plain = after_keyword b.plain later ws Local }
after_statement b t later ws End =
    record {
      plain = after_keyword b.plain later ws End;
      threads = b.threads ++ ended t b.blocks ∷ [];
      blocks = no_blocks;
    }
after_statement b t later ws k = record b { blocks = with_statement b.blocks (Plain (code_on b t ws k) Nothing) }

-- the blocks after a block's line
abbrev pub blocks_after : ThreadDef → Blocks → List (List ℕ) → Word → Blocks
blocks_after t b ws word.Sync = with_block b (OfSync (local_at t ws 0))
blocks_after t b ws word.If = with_block b (OfIf (test_on t ws))
blocks_after t b ws word.While = with_block b (OfWhile (test_on t ws))
blocks_after t b ws word.Else = with_else b.opened b.statements
blocks_after t b ws word.Done = without_block b.opened b.statements
blocks_after t b ws (word.Plain k) = b

-- a line of an open section
abbrev pub in_section : SyncBefore → Option ThreadDef → List (List ℕ) → List (List ℕ) → Word → SyncBefore
in_section b None later ws k = b
in_section b (Some t) later ws (word.Plain k) = after_statement b t later ws k
in_section b (Some t) later ws k = record b { blocks = blocks_after t b.blocks ws k }

-- what stands after a line with this word and these operands: a declaration, the opening of a section, or a line of
-- one
abbrev pub after_word : SyncBefore → List (List ℕ) → List (List ℕ) → Word → SyncBefore
after_word b later ws (word.Plain k) =
    if is_outside k then record b { plain = after_keyword b.plain later ws k; blocks = no_blocks }
    else in_section b b.plain.section later ws (word.Plain k)
after_word b later ws k = in_section b b.plain.section later ws k

abbrev pub after_words : SyncBefore → List (List ℕ) → List (List ℕ) → Option Word → SyncBefore
after_words b later [] k = b
after_words b later (w ∷ ws) None = b
after_words b later (w ∷ ws) (Some k) = after_word b later ws k

-- what stands after the line; a line without words changes nothing
abbrev pub after_line : SyncBefore → List (List ℕ) → List ℕ → SyncBefore
after_line b later line = after_words b later (words_of line) (first_word (words_of line))

-- the program with blocks that these lines spell
abbrev pub text_read : SyncBefore → SyncText
text_read b = record { classes = b.plain.text.classes; objects = b.plain.text.objects; threads = b.threads }
