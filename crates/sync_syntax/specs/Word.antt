-- The words that lines begin with: those of the plain language but for its labels, jumps, enters and exits, and those
-- of blocks.
use Rattle.std.specs.Prelude.{ℕ, Bool, true, false, if◌then◌else◌, List, [], ◌∷◌, codes, Option, Some, None}
use Rattle.program_syntax.specs.Line.{spelled_among, keyword_of, is_instruction}
use Rattle.program_syntax.specs.Reading.{ends_section}
use Rattle.program_syntax.specs.declared.keyword.Keyword.{Keyword}
use Rattle.program_syntax.specs.declared.keyword.Keyword.TheVariants.{Label, Enter, Exit, Jump, Jlt, Jeq}
use Rattle.sync_syntax.specs.declared.word.Word.{Word}
use Rattle.sync_syntax.specs.declared.word.Word.TheVariants.{Plain, Sync, If, While, Else, Done}

-- the plain language's words that blocks stand in place of
abbrev pub is_left_out : Keyword → Bool
is_left_out Label = true
is_left_out Enter = true
is_left_out Exit = true
is_left_out Jump = true
is_left_out Jlt = true
is_left_out Jeq = true
is_left_out k = false

-- how the words of blocks are spelled
abbrev pub block_spellings : List (List ℕ × Word)
block_spellings =
    (codes "sync", Sync) ∷ (codes "if", If) ∷ (codes "while", While) ∷ (codes "else", Else) ∷ (codes "done", Done) ∷ []

-- a word of the plain language that isn't left out, or another word
abbrev pub plain_or : Option Keyword → Option Word → Option Word
plain_or None other = other
plain_or (Some k) other = if is_left_out k then None else Some (Plain k)

abbrev pub word_of : List ℕ → Option Word
word_of word = plain_or (keyword_of word) (spelled_among block_spellings word)

-- a line is called by its first word, whatever follows that word
abbrev pub first_word : List (List ℕ) → Option Word
first_word [] = None
first_word (w ∷ ws) = word_of w

-- a section ends with its `end`, or before a line that stands outside sections
abbrev pub ends : Option Word → Bool
ends (Some (Plain k)) = ends_section (Some k)
ends k = false

-- a line that opens a block
abbrev pub opens : Word → Bool
opens Sync = true
opens If = true
opens While = true
opens k = false

-- how many instructions a line's code has
abbrev pub weight : Word → ℕ
weight (Plain k) = if is_instruction k then 1 else 0
weight Sync = 2
weight If = 2
weight While = 3
weight Else = 0
weight Done = 0
