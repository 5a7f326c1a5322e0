-- What the lines of statements say to the lines before them: that blocks and sections are closed.
use Rattle.std.proofs.Common.{◌≡◌, ℕ, ◌+◌, ◌-◌, ◌<◌, ◌==◌, Bool, true, false, ◌&&◌, if◌then◌else◌, List}
use Rattle.std.proofs.Common.{[], ◌∷◌, ◌++◌, length, map, refl, sym, ap, ◌∙◌, arith, codes, ne_eqb}
use Rattle.object_program.specs.Valid.{IsInstruction}
use Rattle.object_program.specs.declared.program.ClassDef.{ClassDef}
use Rattle.object_program.specs.declared.program.ObjectDef.{ObjectDef}
use Rattle.object_program.specs.declared.program.ThreadDef.{ThreadDef}
use Rattle.object_program.specs.declared.program.Code.{Code}
use Rattle.object_program.specs.declared.program.Code.TheVariants as instr
use Rattle.program_syntax.specs.Reading.{first_keyword}
use Rattle.program_syntax.specs.Refusal as plain
use Rattle.program_syntax.specs.Canonical.{instruction_words}
use Rattle.program_syntax.proofs.CanonicalText.{AreWords, AreLines, line_of, words_of_line}
use Rattle.program_syntax.proofs.CanonicalReading as plain_line
use Rattle.program_syntax.proofs.CanonicalInstructions.{AreNamed, instruction_is_words, local_word}
use Rattle.program_syntax.proofs.CanonicalAhead.{lines-append, closed_inner}
use Rattle.program_syntax.proofs.CanonicalPrograms.{lines_after}
use Rattle.sync_source.specs.declared.source.Test.{Test}
use Rattle.sync_source.specs.Source.{Statements, Nothing, Plain, Sync, If, While, SyncThreadText}
use Rattle.sync_source.specs.Valid.{IsPlain, IsTest, AreStatements, is_end, HasNoEnd}
use Rattle.sync_syntax.specs.Word.{first_word}
use Rattle.sync_syntax.specs.Refusal.{is_closed}
use Rattle.sync_syntax.specs.Canonical.{heading, sync_words, test_words, done_words, else_words, else_lines, statement_lines}
use Rattle.sync_syntax.proofs.Closed.{closed_at, and_false}
use Rattle.sync_syntax.proofs.CanonicalReading.{sign_word}

-- what holds of no lines and of those of an `else` holds of the lines of an `else` that may be left out
pub else_by : (P : List (List (List ℕ)) → Type 0) (s : Statements) (lines : List (List (List ℕ)))
    → P [] → P (else_words ∷ lines) → P (else_lines s lines)
else_by P Nothing lines none some = none
else_by P _ lines none some = some

-- The words of each line
module _ (classes : List ClassDef) (ds : List ObjectDef) (section : SyncThreadText) (named : AreNamed classes ds (heading section)) where
  abbrev t : ThreadDef
  t = heading section

  abbrev AreFine : Statements → Type 0
  AreFine s = AreStatements (length classes) (length t.locals) (length ds) s

  sync_is_words : (x : ℕ) → x < length t.locals → AreWords (sync_words t x)
  sync_is_words x h = (refl, (local_word classes ds t named x h, tt))

  if_is_words : (test : Test) → IsTest (length t.locals) test → AreWords (test_words (codes "if") t test)
  if_is_words test h = (refl, (local_word classes ds t named test.x h.0, (sign_word test.equal, (local_word classes ds t named test.y h.1, tt))))

  while_is_words : (test : Test) → IsTest (length t.locals) test → AreWords (test_words (codes "while") t test)
  while_is_words test h = (refl, (local_word classes ds t named test.x h.0, (sign_word test.equal, (local_word classes ds t named test.y h.1, tt))))

  block_is_lines : (body rest : List (List (List ℕ))) → AreLines body → AreLines rest → AreLines (body ++ done_words ∷ rest)
  block_is_lines body rest h k = lines_after body (done_words ∷ rest) h ((refl, tt), k)

  pub statements_are_lines : (s : Statements) → AreFine s → AreLines (statement_lines classes ds t s)
  statements_are_lines Nothing h = tt
  statements_are_lines (Plain c rest) h = (instruction_is_words classes ds t named c h.1, statements_are_lines rest h.2)
  statements_are_lines (Sync x body rest) h =
      let block = block_is_lines (statement_lines classes ds t body) (statement_lines classes ds t rest)
      (statements_are_lines body h.1) (statements_are_lines rest h.2) in
      (sync_is_words x h.0, block)
  statements_are_lines (If test body other rest) h =
      let middle = else_lines other (statement_lines classes ds t other) in
      let middle_is = else_by AreLines other (statement_lines classes ds t other) tt ((refl, tt), statements_are_lines other h.2) in
      let both = lines_after (statement_lines classes ds t body) middle (statements_are_lines body h.1) middle_is in (
        if_is_words test h.0,
        block_is_lines (statement_lines classes ds t body ++ middle) (statement_lines classes ds t rest) both (statements_are_lines rest h.3),
      )
  statements_are_lines (While test body rest) h =
      let block = block_is_lines (statement_lines classes ds t body) (statement_lines classes ds t rest)
      (statements_are_lines body h.1) (statements_are_lines rest h.2) in
      (while_is_words test h.0, block)

  -- lines by their words
  pub closed-line : (n : ℕ) (ws later : List (List ℕ)) → AreWords ws → is_closed n (line_of ws ∷ later) ≡ closed_at n (first_word ws) later
  closed-line n ws later h = ap (λ words. closed_at n (first_word words) later) (words_of_line ws h)

  -- a line that opens no block and closes none
  stays : (n : ℕ) (rest : Bool) → (if (n == 0) && false then true else rest) ≡ rest
  stays n rest = ap (λ (b : Bool). if b then true else rest) (and_false (n == 0))

  -- a line that closes one
  goes_down : (n : ℕ) (later : List (List ℕ)) → is_closed (n + 1) (line_of done_words ∷ later) ≡ is_closed n later
  goes_down n later =
      let positive : (n + 1 == 0) ≡ false = ne_eqb (n + 1) 0 (λ e. omega arith) in
      let less : n + 1 - 1 ≡ n = omega arith in
      closed-line (n + 1) done_words later (refl, tt)
      ∙ ap (λ (b : Bool). if b && true then true else is_closed (n + 1 - 1) later) positive
      ∙ ap (λ m. is_closed m later) less

  pub done_closes : (later : List (List ℕ)) → is_closed 0 (line_of done_words ∷ later) ≡ true
  done_closes later = closed-line 0 done_words later (refl, tt)

  pub else_stays : (n : ℕ) (later : List (List ℕ)) → is_closed n (line_of else_words ∷ later) ≡ is_closed n later
  else_stays n later = closed-line n else_words later (refl, tt) ∙ stays n (is_closed n later)

  code_stays : (n : ℕ) (c : Code) (later : List (List ℕ)) → IsPlain c → IsInstruction (length classes) (length t.locals) (length ds) [] c → is_end c ≡ false
      → closed_at n (first_word (instruction_words classes ds t c)) later ≡ is_closed n later
  code_stays n (instr.Enter x) later h k e = absurd h
  code_stays n (instr.Exit x) later h k e = absurd h
  code_stays n (instr.Jump l) later h k e = absurd h
  code_stays n (instr.Jlt x y l) later h k e = absurd h
  code_stays n (instr.Jeq x y l) later h k e = absurd h
  code_stays n instr.End later h k e = absurd (cc e)
  code_stays n c later h k e = stays n (is_closed n later)

  -- the lines of statements close no block but their own
  pub statements_stay : (s : Statements) (n : ℕ) (later : List (List ℕ)) → AreFine s → HasNoEnd s
      → is_closed n (map line_of (statement_lines classes ds t s) ++ later) ≡ is_closed n later
  statements_stay Nothing n later h e = refl
  statements_stay (Plain c rest) n later h e =
      let after = map line_of (statement_lines classes ds t rest) ++ later in
      closed-line n (instruction_words classes ds t c) after (instruction_is_words classes ds t named c h.1)
      ∙ code_stays n c after h.0 h.1 e.0 ∙ statements_stay rest n later h.2 e.1
  statements_stay (Sync x body rest) n later h e =
      let after = map line_of (statement_lines classes ds t rest) ++ later in
      let all = map line_of (statement_lines classes ds t body ++ done_words ∷ statement_lines classes ds t rest) ++ later in
      closed-line n (sync_words t x) all (sync_is_words x h.0) ∙ stays n (is_closed (n + 1) all)
      ∙ ap (is_closed (n + 1)) (lines-append (statement_lines classes ds t body) (done_words ∷ statement_lines classes ds t rest) later)
      ∙ statements_stay body (n + 1) (line_of done_words ∷ after) h.1 e.0 ∙ goes_down n after ∙ statements_stay rest n later h.2 e.1
  statements_stay (If test body other rest) n later h e =
      let after = map line_of (statement_lines classes ds t rest) ++ later in
      let last = done_words ∷ statement_lines classes ds t rest in
      let closing = line_of done_words ∷ after in
      let others = map line_of (statement_lines classes ds t other) ++ closing in
      let middle = else_lines other (statement_lines classes ds t other) in
      let all = map line_of (statement_lines classes ds t body ++ middle ++ last) ++ later in
      closed-line n (test_words (codes "if") t test) all (if_is_words test h.0) ∙ stays n (is_closed (n + 1) all)
      ∙ ap (is_closed (n + 1)) (lines-append (statement_lines classes ds t body ++ middle) last later
      ∙ lines-append (statement_lines classes ds t body) middle closing)
      ∙ statements_stay body (n + 1) (map line_of middle ++ closing) h.1 e.0
      ∙ else_by (λ ls. is_closed (n + 1) (map line_of ls ++ closing) ≡ is_closed (n + 1) closing) other (statement_lines classes ds t other) refl
      (else_stays (n + 1) others ∙ statements_stay other (n + 1) closing h.2 e.1)
      ∙ goes_down n after ∙ statements_stay rest n later h.3 e.2
  statements_stay (While test body rest) n later h e =
      let after = map line_of (statement_lines classes ds t rest) ++ later in
      let all = map line_of (statement_lines classes ds t body ++ done_words ∷ statement_lines classes ds t rest) ++ later in
      closed-line n (test_words (codes "while") t test) all (while_is_words test h.0) ∙ stays n (is_closed (n + 1) all)
      ∙ ap (is_closed (n + 1)) (lines-append (statement_lines classes ds t body) (done_words ∷ statement_lines classes ds t rest) later)
      ∙ statements_stay body (n + 1) (line_of done_words ∷ after) h.1 e.0 ∙ goes_down n after ∙ statements_stay rest n later h.2 e.1

  -- and no section
  block_passes : (ws later : List (List ℕ)) → AreWords ws → plain_line.closed_by (first_keyword ws) later ≡ plain.is_closed later
      → plain.is_closed (line_of ws ∷ later) ≡ plain.is_closed later
  block_passes ws later h e = plain_line.is_closed-line ws later h ∙ e

  goes_on : (c : Code) → is_end c ≡ false → c ≡ instr.End → ⊥
  goes_on c e end = let ends : true ≡ false = sym (ap is_end end) ∙ e in absurd (cc ends)

  pub statements_pass : (s : Statements) (later : List (List ℕ)) → AreFine s → HasNoEnd s
      → plain.is_closed (map line_of (statement_lines classes ds t s) ++ later) ≡ plain.is_closed later
  statements_pass Nothing later h e = refl
  statements_pass (Plain c rest) later h e =
      let after = map line_of (statement_lines classes ds t rest) ++ later in
      block_passes (instruction_words classes ds t c) after (instruction_is_words classes ds t named c h.1) (closed_inner classes ds t c after (goes_on c e.0))
      ∙ statements_pass rest later h.2 e.1
  statements_pass (Sync x body rest) later h e =
      let after = map line_of (statement_lines classes ds t rest) ++ later in
      block_passes (sync_words t x)
      (map line_of (statement_lines classes ds t body ++ done_words ∷ statement_lines classes ds t rest) ++ later) (sync_is_words x h.0) refl
      ∙ ap plain.is_closed (lines-append (statement_lines classes ds t body) (done_words ∷ statement_lines classes ds t rest) later)
      ∙ statements_pass body (line_of done_words ∷ after) h.1 e.0 ∙ block_passes done_words after (refl, tt) refl ∙ statements_pass rest later h.2 e.1
  statements_pass (If test body other rest) later h e =
      let after = map line_of (statement_lines classes ds t rest) ++ later in
      let last = done_words ∷ statement_lines classes ds t rest in
      let closing = line_of done_words ∷ after in
      let others = map line_of (statement_lines classes ds t other) ++ closing in
      let middle = else_lines other (statement_lines classes ds t other) in
      block_passes (test_words (codes "if") t test) (map line_of (statement_lines classes ds t body ++ middle ++ last) ++ later) (if_is_words test h.0) refl
      ∙ ap plain.is_closed (lines-append (statement_lines classes ds t body ++ middle) last later
      ∙ lines-append (statement_lines classes ds t body) middle closing)
      ∙ statements_pass body (map line_of middle ++ closing) h.1 e.0
      ∙ else_by (λ ls. plain.is_closed (map line_of ls ++ closing) ≡ plain.is_closed closing) other (statement_lines classes ds t other) refl
      (block_passes else_words others (refl, tt) refl ∙ statements_pass other closing h.2 e.1)
      ∙ block_passes done_words after (refl, tt) refl ∙ statements_pass rest later h.3 e.2
  statements_pass (While test body rest) later h e =
      let after = map line_of (statement_lines classes ds t rest) ++ later in
      let all = map line_of (statement_lines classes ds t body ++ done_words ∷ statement_lines classes ds t rest) ++ later in
      block_passes (test_words (codes "while") t test) all (while_is_words test h.0) refl
      ∙ ap plain.is_closed (lines-append (statement_lines classes ds t body) (done_words ∷ statement_lines classes ds t rest) later)
      ∙ statements_pass body (line_of done_words ∷ after) h.1 e.0 ∙ block_passes done_words after (refl, tt) refl ∙ statements_pass rest later h.2 e.1

  pub end_closes : (later : List (List ℕ)) → plain.is_closed (line_of (codes "end" ∷ []) ∷ later) ≡ true
  end_closes later = plain_line.is_closed-line (codes "end" ∷ []) later (refl, tt)
