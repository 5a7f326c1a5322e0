-- Statements are read as they are.
use Rattle.std.proofs.Common.{◌≡◌, ℕ, ◌+◌, ◌≤◌, true, List, ◌∷◌, ◌++◌, length, map, refl, sym, ap, ◌∙◌, subst, arith, codes}
use Rattle.object_program.specs.Limits.{most_code}
use Rattle.object_program.specs.Program.{ProgramText}
use Rattle.program_syntax.specs.Canonical.{instruction_words}
use Rattle.program_syntax.proofs.CanonicalText.{line_of}
use Rattle.program_syntax.proofs.CanonicalInstructions.{AreNamed}
use Rattle.program_syntax.proofs.CanonicalAhead.{lines-append}
use Rattle.sync_source.specs.declared.source.Test.{Test}
use Rattle.sync_source.specs.Source.{Statements, Nothing, Plain, Sync, If, While, SyncThreadText}
use Rattle.sync_source.specs.Valid.{AreStatements, HasNoEnd}
use Rattle.sync_source.specs.Compiled.{size}
use Rattle.sync_syntax.specs.Blocks.{Blocks, Opener, OfSync, OfIf, OfElse, OfWhile, joined, closed, with_statement, with_block, code_used}
use Rattle.sync_syntax.specs.Reading.{SyncBefore}
use Rattle.sync_syntax.specs.Refusal.{is_closed}
use Rattle.sync_syntax.specs.Canonical.{heading, sync_words, test_words, done_words, else_words, else_lines, statement_lines}
use Rattle.sync_syntax.proofs.OpenBlocks.{size-joined}
use Rattle.sync_syntax.proofs.Good.{IsGood, open_syncs}
use Rattle.sync_syntax.proofs.CanonicalReading.{ReadsAs, line_read, within, not_held, code_line, sync_line, if_line, while_line, else_line, done_line}
use Rattle.sync_syntax.proofs.CanonicalAhead.{statements_stay, done_closes, else_stays, else_by}

pub joined-nothing : (s : Statements) → joined s Nothing ≡ s
joined-nothing Nothing = refl
joined-nothing (Plain c rest) = ap (Plain c) (joined-nothing rest)
joined-nothing (Sync x body rest) = ap (Sync x body) (joined-nothing rest)
joined-nothing (If t body other rest) = ap (If t body other) (joined-nothing rest)
joined-nothing (While t body rest) = ap (While t body) (joined-nothing rest)

pub joined-joined : (a b c : Statements) → joined (joined a b) c ≡ joined a (joined b c)
joined-joined Nothing b c = refl
joined-joined (Plain i rest) b c = ap (Plain i) (joined-joined rest b c)
joined-joined (Sync x body rest) b c = ap (Sync x body) (joined-joined rest b c)
joined-joined (If t body other rest) b c = ap (If t body other) (joined-joined rest b c)
joined-joined (While t body rest) b c = ap (While t body) (joined-joined rest b c)

-- the code so far, with more statements
used-with : (bl : Blocks) (s : Statements) → code_used (with_statement bl s) ≡ code_used bl + size s
used-with bl s = omega (arith, size-joined bl.statements s)

module _ (final : SyncBefore) (p : ProgramText) (t : SyncThreadText) (ts : List SyncThreadText) (named : AreNamed p.classes p.objects (heading t)) where
  abbrev Reads : Blocks → List (List ℕ) → Type 0
  Reads bl lines = ReadsAs final (within p t ts named bl) lines

  abbrev words : Statements → List (List (List ℕ))
  words s = statement_lines p.classes p.objects (heading t) s

  abbrev lines : Statements → List (List ℕ)
  lines s = map line_of (words s)

  -- a `done`, and what stands after it
  abbrev closing : List (List ℕ) → List (List ℕ)
  closing later = line_of done_words ∷ later

  -- statements that may stand in the innermost of these blocks, and have room for their code
  pub record MayStand (bl : Blocks) (s : Statements) : Type 0 where
    pub good : IsGood (length p.classes) (length t.locals) (length p.objects) (open_syncs bl.opened) (length bl.opened) s
    pub room : code_used bl + size s ≤ most_code

  -- what is left of statements after the first
  after_first : (bl : Blocks) (first rest : Statements) (later : List (List ℕ)) → Reads (with_statement bl (joined first rest)) later
      → Reads (with_statement (with_statement bl first) rest) later
  after_first bl first rest later h =
      subst (λ s. Reads (record { opened = bl.opened; statements = s }) later) (sym (joined-joined bl.statements first rest)) h

  rest_stands : (bl : Blocks) (first rest : Statements)
      → IsGood (length p.classes) (length t.locals) (length p.objects) (open_syncs bl.opened) (length bl.opened) rest
      → code_used bl + (size first + size rest) ≤ most_code → MayStand (with_statement bl first) rest
  rest_stands bl first rest good room = record { good = good; room = omega (arith, used-with bl first) }

  -- the statements of a block, and its `done`
  block_read : (k : Opener) (bl : Blocks) (body : Statements) (later : List (List ℕ))
      → (Reads (with_statement (with_block bl k) body) (closing later) → Reads (with_block bl k) (lines body ++ closing later))
      → code_used (with_statement (with_block bl k) body) ≤ most_code → Reads (with_statement bl (closed k body)) later
      → Reads (with_block bl k) (lines body ++ closing later)
  block_read k bl body later inner room h =
      inner (line_read final _ _ later done_words (done_line p t ts named k bl.statements body bl.opened later room) h)

  -- the lines ahead of a block's first line close it
  abbrev AreFine : Statements → Type 0
  AreFine s = AreStatements (length p.classes) (length t.locals) (length p.objects) s

  closes : (body : Statements) (later : List (List ℕ)) → AreFine body → HasNoEnd body → is_closed 0 (lines body ++ closing later) ≡ true
  closes body later h e = statements_stay p.classes p.objects t named body 0 (closing later) h e ∙ done_closes p.classes p.objects t named later

  else_closes : (body other : Statements) (later : List (List ℕ)) → AreFine body → HasNoEnd body → AreFine other → HasNoEnd other
      → is_closed 0 (lines body ++ (map line_of (else_lines other (words other)) ++ closing later)) ≡ true
  else_closes body other later h e g f =
      let last = closing later in
      let others = words other in
      statements_stay p.classes p.objects t named body 0 (map line_of (else_lines other others) ++ last) h e
      ∙ else_by (λ ls. is_closed 0 (map line_of ls ++ last) ≡ is_closed 0 last) other others refl
      (else_stays p.classes p.objects t named 0 (map line_of others ++ last) ∙ statements_stay p.classes p.objects t named other 0 last g f)
      ∙ done_closes p.classes p.objects t named later

  -- after the block of an `if`: its `else`, if it has one, and its `done`
  abbrev held : Blocks → Test → Statements → Blocks
  held bl test body = record { opened = record { opener = OfIf test; earlier = bl.statements } ∷ bl.opened; statements = body }

  some_read : (bl : Blocks) (test : Test) (body other : Statements) (later : List (List ℕ))
      → (Reads (with_statement (with_block bl (OfElse test body)) other) (closing later)
      → Reads (with_block bl (OfElse test body)) (lines other ++ closing later))
      → code_used bl + (2 + size other + size body) ≤ most_code → Reads (with_statement bl (If test body other Nothing)) later
      → Reads (held bl test body) (line_of else_words ∷ (lines other ++ closing later))
  some_read bl test body other later inner room h =
      line_read final _ _ (lines other ++ closing later) else_words
      (else_line p t ts named test bl.statements body bl.opened _ (omega (arith, room)))
      (block_read (OfElse test body) bl other later inner (omega (arith, room)) h)

  else_read : (bl : Blocks) (test : Test) (body other : Statements) (later : List (List ℕ))
      → (Reads (with_statement (with_block bl (OfElse test body)) other) (closing later)
      → Reads (with_block bl (OfElse test body)) (lines other ++ closing later))
      → code_used bl + (2 + size other + size body) ≤ most_code → Reads (with_statement bl (If test body other Nothing)) later
      → Reads (held bl test body) (map line_of (else_lines other (words other)) ++ closing later)
  else_read bl test body Nothing later inner room h =
      line_read final _ _ later done_words (done_line p t ts named (OfIf test) bl.statements body bl.opened later (omega (arith, room))) h
  else_read bl test body (Plain c rest) later inner room h = some_read bl test body (Plain c rest) later inner room h
  else_read bl test body (Sync x first rest) later inner room h = some_read bl test body (Sync x first rest) later inner room h
  else_read bl test body (If u first second rest) later inner room h = some_read bl test body (If u first second rest) later inner room h
  else_read bl test body (While u first rest) later inner room h = some_read bl test body (While u first rest) later inner room h

  pub statements_read : (s : Statements) (bl : Blocks) (later : List (List ℕ)) → MayStand bl s → Reads (with_statement bl s) later
      → Reads bl (lines s ++ later)
  statements_read Nothing bl later m h =
      subst (λ s. Reads (record { opened = bl.opened; statements = s }) later) (joined-nothing bl.statements) h
  statements_read (Plain c rest) bl later m h =
      let g = m.good in
      let nested = g.nested in
      let room = m.room in
      let after = lines rest ++ later in
      line_read final _ _ after (instruction_words p.classes p.objects (heading t) c)
      (code_line p t ts named bl after c g.fine.0 g.fine.1 g.goes_on.0 (omega (arith, room)) (not_held c bl.opened g.keeps.0))
      (statements_read rest (with_statement bl (Plain c Nothing)) later
      (rest_stands bl (Plain c Nothing) rest (record { fine = g.fine.2; goes_on = g.goes_on.1; keeps = g.keeps.1; nested = omega arith }) (omega (arith, room)))
      (after_first bl (Plain c Nothing) rest later h))
  statements_read (Sync x body rest) bl later m h =
      let g = m.good in
      let nested = g.nested in
      let room = m.room in
      let after = lines rest ++ later in
      let inner : MayStand (with_block bl (OfSync x)) body = record {
        good = record { fine = g.fine.1; goes_on = g.goes_on.0; keeps = g.keeps.0; nested = omega arith };
        room = omega (arith, room);
      } in
      let rest_read = statements_read rest (with_statement bl (Sync x body Nothing)) later
      (rest_stands bl (Sync x body Nothing) rest (record { fine = g.fine.2; goes_on = g.goes_on.1; keeps = g.keeps.1; nested = omega arith })
      (omega (arith, room)))
      (after_first bl (Sync x body Nothing) rest later h) in
      subst (λ ls. Reads bl (line_of (sync_words (heading t) x) ∷ ls)) (sym (lines-append (words body) (done_words ∷ words rest) later))
      (line_read final _ _ (lines body ++ closing after) (sync_words (heading t) x)
      (sync_line p t ts named bl _ x g.fine.0 (omega (arith, room)) (omega arith) (closes body after g.fine.1 g.goes_on.0))
      (block_read (OfSync x) bl body after (statements_read body (with_block bl (OfSync x)) (closing after) inner) (omega (arith, room))
      rest_read))
  statements_read (If test body other rest) bl later m h =
      let g = m.good in
      let nested = g.nested in
      let room = m.room in
      let after = lines rest ++ later in
      let bodies = words body in
      let middle = else_lines other (words other) in
      let inner : MayStand (with_block bl (OfIf test)) body = record {
        good = record { fine = g.fine.1; goes_on = g.goes_on.0; keeps = g.keeps.0; nested = omega arith };
        room = omega (arith, room);
      } in
      let else_inner : MayStand (with_block bl (OfElse test body)) other = record {
        good = record { fine = g.fine.2; goes_on = g.goes_on.1; keeps = g.keeps.1; nested = omega arith };
        room = omega (arith, room);
      } in
      let rest_read = statements_read rest (with_statement bl (If test body other Nothing)) later
      (rest_stands bl (If test body other Nothing) rest (record { fine = g.fine.3; goes_on = g.goes_on.2; keeps = g.keeps.2; nested = omega arith })
      (omega (arith, room)))
      (after_first bl (If test body other Nothing) rest later h) in
      let others_read = statements_read other (with_block bl (OfElse test body)) (closing after) else_inner in
      let else_part = else_read bl test body other after others_read (omega (arith, room)) rest_read in
      let joins = lines-append (bodies ++ middle) (done_words ∷ words rest) later ∙ lines-append bodies middle (closing after) in
      subst (λ ls. Reads bl (line_of (test_words (codes "if") (heading t) test) ∷ ls)) (sym joins)
      (line_read final _ _ (lines body ++ (map line_of middle ++ closing after)) (test_words (codes "if") (heading t) test)
      (if_line p t ts named bl _ test g.fine.0 (omega (arith, room)) (omega arith) (else_closes body other after g.fine.1 g.goes_on.0 g.fine.2 g.goes_on.1))
      (statements_read body (with_block bl (OfIf test)) (map line_of middle ++ closing after) inner else_part))
  statements_read (While test body rest) bl later m h =
      let g = m.good in
      let nested = g.nested in
      let room = m.room in
      let after = lines rest ++ later in
      let inner : MayStand (with_block bl (OfWhile test)) body = record {
        good = record { fine = g.fine.1; goes_on = g.goes_on.0; keeps = g.keeps.0; nested = omega arith };
        room = omega (arith, room);
      } in
      let rest_read = statements_read rest (with_statement bl (While test body Nothing)) later
      (rest_stands bl (While test body Nothing) rest (record { fine = g.fine.2; goes_on = g.goes_on.1; keeps = g.keeps.1; nested = omega arith })
      (omega (arith, room)))
      (after_first bl (While test body Nothing) rest later h) in
      subst (λ ls. Reads bl (line_of (test_words (codes "while") (heading t) test) ∷ ls))
      (sym (lines-append (words body) (done_words ∷ words rest) later))
      (line_read final _ _ (lines body ++ closing after) (test_words (codes "while") (heading t) test)
      (while_line p t ts named bl _ test g.fine.0 (omega (arith, room)) (omega arith) (closes body after g.fine.1 g.goes_on.0))
      (block_read (OfWhile test) bl body after (statements_read body (with_block bl (OfWhile test)) (closing after) inner) (omega (arith, room))
      rest_read))
