-- Which texts have a program with blocks, and which cause the others are refused for: the first line that has one, and
-- its lowest-numbered.
use Rattle.std.specs.Prelude.{ℕ, zero, suc, ◌+◌, ◌-◌, Bool, true, false, not, ◌&&◌, ◌==◌, nat_le, nat_lt, if◌then◌else◌}
use Rattle.std.specs.Prelude.{List, [], ◌∷◌, length, Option, Some, None, is_some, is_none, Result, Ok, Err}
use Rattle.std.specs.List.{list_all, list_any}
use Rattle.plain_monitor.specs.Monitor.{only_if}
use Rattle.object_program.specs.Limits.{most_code}
use Rattle.object_program.specs.declared.program.ThreadDef.{ThreadDef}
use Rattle.program_syntax.specs.Text.{most_bytes, is_text_byte, words_of}
use Rattle.program_syntax.specs.Line.{a_local, is_instruction}
use Rattle.program_syntax.specs.Reading.{Before}
use Rattle.program_syntax.specs.Refusal.{is_bad_name, is_undeclared, keyword_cause, lines_of}
use Rattle.program_syntax.specs.declared.keyword.Keyword.{Keyword}
use Rattle.program_syntax.specs.declared.error.RefusalCause.{RefusalCause}
use Rattle.program_syntax.specs.declared.error.RefusalCause.TheVariants.{NotAscii, UnknownWord, Operands, BadName, Undeclared, Limit, NoThread}
use Rattle.sync_source.specs.Source.{SyncText}
use Rattle.sync_source.specs.Valid.{most_depth}
use Rattle.sync_syntax.specs.declared.error.SyncRefusalCause.{SyncRefusalCause}
use Rattle.sync_syntax.specs.declared.error.SyncRefusalCause.TheVariants.{Plain, Open, Stray, Assigned, Deep}
use Rattle.sync_syntax.specs.declared.error.SyncError.{SyncError}
use Rattle.sync_syntax.specs.declared.word.Word.{Word}
use Rattle.sync_syntax.specs.declared.word.Word.TheVariants as word
use Rattle.sync_syntax.specs.Word.{word_of, first_word, ends, opens, weight}
use Rattle.sync_syntax.specs.Blocks.{Blocks, OpenBlock, takes_else, takes_done, changes_held, code_used}
use Rattle.sync_syntax.specs.Reading.{SyncBefore, nothing_read, is_sign, code_on, after_line, text_read}

-- Causes that the plain language has too

-- why a line is refused that wants so many operands, each a local of the section
abbrev pub locals_cause : Before → ℕ → List (List ℕ) → Option RefusalCause
locals_cause b n ws =
    if not (length ws == n) then Some Operands
    else if list_any (is_bad_name a_local) ws then Some BadName
    else only_if (list_any (is_undeclared b [] a_local) ws) Undeclared

-- the two locals of a test, where a sign stands between them, and else too few
abbrev pub tested : List (List ℕ) → List (List ℕ)
tested (x ∷ sign ∷ y ∷ []) = if is_sign sign then x ∷ y ∷ [] else []
tested ws = []

abbrev pub block_cause : Before → List (List ℕ) → Word → Option RefusalCause
block_cause b ws word.Sync = locals_cause b 1 ws
block_cause b ws word.If = locals_cause b 2 (tested ws)
block_cause b ws word.While = locals_cause b 2 (tested ws)
block_cause b ws k = only_if (not (length ws == 0)) Operands

-- a line that is no block's has the causes of the plain language, but for the limit of code
abbrev pub plain_cause : Before → List (List ℕ) → List (List ℕ) → Word → Option RefusalCause
plain_cause b later ws (word.Plain k) = keyword_cause b later ws (Some k)
plain_cause b later ws k = if is_some b.section then block_cause b ws k else Some UnknownWord

-- Causes by blocks

-- the lines so far and this one need more code than a thread may have
abbrev pub passes_code : Blocks → Word → Bool
passes_code b k = nat_lt most_code (code_used b + weight k)

-- how many blocks are open after a line, of those that were opened after a block's line
abbrev pub inner_after : ℕ → Option Word → ℕ
inner_after n None = n
inner_after n (Some word.Done) = n - 1
inner_after n (Some k) = if opens k then n + 1 else n

abbrev pub is_done : Option Word → Bool
is_done (Some word.Done) = true
is_done k = false

-- these lines close a block in which so many are open, before its section ends
abbrev pub is_closed : ℕ → List (List ℕ) → Bool
is_closed n [] = false
is_closed n (line ∷ later) =
    let k = first_word (words_of line) in
    if ends k then false
    else if (n == 0) && is_done k then true
    else is_closed (inner_after n k) later

abbrev pub is_stray : List OpenBlock → Word → Bool
is_stray bs word.Else = not (takes_else bs)
is_stray bs word.Done = not (takes_done bs)
is_stray bs k = false

abbrev pub assigns_held : SyncBefore → Option ThreadDef → List (List ℕ) → Keyword → Bool
assigns_held b None ws k = false
assigns_held b (Some t) ws k = is_instruction k && changes_held (code_on b t ws k) b.blocks.opened

-- the line gives a value to a local that an open `sync` names
abbrev pub is_assigned : SyncBefore → List (List ℕ) → Word → Bool
is_assigned b ws (word.Plain k) = assigns_held b b.plain.section ws k
is_assigned b ws k = false

-- it would be one block too many
abbrev pub is_deep : List OpenBlock → Word → Bool
is_deep bs k = opens k && nat_le most_depth (length bs)

abbrev pub statement_cause : SyncBefore → List (List ℕ) → List (List ℕ) → Word → Option SyncRefusalCause
statement_cause b later ws k =
    if passes_code b.blocks k then Some (Plain Limit)
    else if opens k && not (is_closed 0 later) then Some Open
    else if is_stray b.blocks.opened k then Some Stray
    else if is_assigned b ws k then Some Assigned
    else only_if (is_deep b.blocks.opened k) Deep

-- Texts

-- a cause, or where there is none another
abbrev pub cause_or : Option RefusalCause → Option SyncRefusalCause → Option SyncRefusalCause
cause_or None other = other
cause_or (Some why) other = Some (Plain why)

-- no line that may pass the code's limit has one of the plain language's causes with a higher number
abbrev pub word_cause : SyncBefore → List (List ℕ) → List (List ℕ) → Option Word → Option SyncRefusalCause
word_cause b later ws None = Some (Plain UnknownWord)
word_cause b later ws (Some k) = cause_or (plain_cause b.plain later ws k) (statement_cause b later ws k)

abbrev pub words_cause : SyncBefore → List (List ℕ) → List (List ℕ) → Option SyncRefusalCause
words_cause b later [] = None
words_cause b later (w ∷ ws) = word_cause b later ws (word_of w)

-- the lowest-numbered cause of a line, between those before it and those after it
abbrev pub line_cause : SyncBefore → List (List ℕ) → List ℕ → Option SyncRefusalCause
line_cause b later line =
    if list_all is_text_byte line then words_cause b later (words_of line) else Some (Plain NotAscii)

-- a cause refuses the line with this number
abbrev pub read_on : Option SyncRefusalCause → ℕ → Result SyncBefore SyncError → Result SyncBefore SyncError
read_on None n rest = rest
read_on (Some why) n rest = Err (record { line = n; why = why })

-- the first refusal of these lines, or what they declare, where the first has this number
abbrev pub read_from : ℕ → SyncBefore → List (List ℕ) → Result SyncBefore SyncError
read_from n b [] = Ok b
read_from n b (line ∷ later) = read_on (line_cause b later line) n (read_from (n + 1) (after_line b later line) later)

-- what the first n of these lines declare, where none of them has a cause
abbrev pub read_first : ℕ → SyncBefore → List (List ℕ) → Option SyncBefore
read_first zero b lines = Some b
read_first (suc n) b [] = None
read_first (suc n) b (line ∷ later) =
    if is_none (line_cause b later line) then read_first n (after_line b later line) later else None

-- a refusal of the text as a whole
abbrev pub of_text : RefusalCause → SyncError
of_text why = record { line = 0; why = Plain why }

abbrev pub with_thread : SyncText → Result SyncText SyncError
with_thread p = if length p.threads == 0 then Err (of_text NoThread) else Ok p

abbrev pub finished : Result SyncBefore SyncError → Result SyncText SyncError
finished (Err e) = Err e
finished (Ok b) = with_thread (text_read b)

-- the program with blocks that a text has, or why and at which line it is refused
abbrev pub sync_program_of : List ℕ → Result SyncText SyncError
sync_program_of bytes =
    if nat_lt most_bytes (length bytes) then Err (of_text Limit)
    else finished (read_from 1 nothing_read (lines_of bytes))
