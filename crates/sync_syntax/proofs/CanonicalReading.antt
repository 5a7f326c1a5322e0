-- A line of a canonical text is read as what it was written for.
use Rattle.std.proofs.Common.{◌≡◌, ℕ, ◌+◌, ◌≤◌, ◌<◌, Bool, true, false, not, ◌&&◌, ◌||◌, if◌then◌else◌, List, []}
use Rattle.std.proofs.Common.{◌∷◌, ◌++◌, length, refl, sym, subst, ap, ◌∙◌, arith, Some, None, Ok, codes, le-ltb}
use Rattle.std.specs.Prelude.{decimal, nat_lt}
use Rattle.std.specs.List.{AllByRecursion, list_all}
use Rattle.std.proofs.lemmas.Bool.{lt-leb, or_from}
use Rattle.object_program.specs.Limits.{most_code}
use Rattle.object_program.specs.Name.{is_name}
use Rattle.object_program.specs.Program.{ProgramText}
use Rattle.object_program.specs.Valid.{is_among, IsInstruction}
use Rattle.object_program.specs.declared.program.ClassDef.{ClassDef}
use Rattle.object_program.specs.declared.program.ObjectDef.{ObjectDef}
use Rattle.object_program.specs.declared.program.ThreadDef.{ThreadDef}
use Rattle.object_program.specs.declared.program.Code.{Code}
use Rattle.object_program.specs.declared.program.Code.TheVariants as instr
use Rattle.program_syntax.specs.Text.{is_text_byte, words_of}
use Rattle.program_syntax.specs.Line.{is_instruction}
use Rattle.program_syntax.specs.Reading as plain_reading
use Rattle.program_syntax.specs.Reading.{number_among, new_thread, instruction_on}
use Rattle.program_syntax.specs.Refusal.{keyword_cause}
use Rattle.program_syntax.specs.Canonical.{local_name, class_words, object_words, class_name, local_words, opening_words, instruction_words}
use Rattle.program_syntax.proofs.CanonicalText.{is_word, AreWords, line_of, words_of_line, line_bytes_allowed}
use Rattle.program_syntax.proofs.CanonicalNames.{nth_is_among, number_among-nth}
use Rattle.program_syntax.proofs.CanonicalReading as plain
use Rattle.program_syntax.proofs.CanonicalRuns.{outside, opened}
use Rattle.program_syntax.proofs.CanonicalInstructions.{operand_words, AreNamed, local_is_name, local_word}
use Rattle.program_syntax.proofs.CanonicalInstructions.{instruction_is_words, instruction_allowed, instruction_meant}
use Rattle.program_syntax.proofs.Rows.{keyword_for}
use Rattle.sync_source.specs.declared.source.Test.{Test}
use Rattle.sync_source.specs.Source.{Statements, Nothing, Plain, SyncThreadText}
use Rattle.sync_source.specs.Valid.{most_depth, IsPlain, IsTest, is_end, assigns}
use Rattle.sync_syntax.specs.declared.word.Word.{Word}
use Rattle.sync_syntax.specs.declared.word.Word.TheVariants as word
use Rattle.sync_syntax.specs.Word.{first_word, weight}
use Rattle.sync_syntax.specs.Blocks.{Blocks, OpenBlock, Opener, OfSync, OfIf, OfElse, OfWhile, no_blocks, with_statement}
use Rattle.sync_syntax.specs.Blocks.{with_block, joined, closed, changes_local, changes_held, code_used}
use Rattle.sync_syntax.specs.Reading.{SyncBefore, is_equals, is_sign, test_on, after_words}
use Rattle.sync_syntax.specs.Refusal.{locals_cause, tested, is_closed, statement_cause, cause_or, word_cause, words_cause, read_from}
use Rattle.sync_syntax.specs.Canonical.{heading, sync_words, sign_of, test_words, done_words, else_words}
use Rattle.sync_syntax.proofs.BlockLines.{HasNoBlockCause}
use Rattle.sync_syntax.proofs.Good.{with_sync, open_syncs}

-- what these lines declare after a state
pub record ReadsAs (final b : SyncBefore) (lines : List (List ℕ)) : Type 0 where
  pub at : (n : ℕ) → read_from n b lines ≡ Ok final

-- a line of these words leads from one state to another
pub record IsRead (b next : SyncBefore) (later ws : List (List ℕ)) : Type 0 where
  pub words : AreWords ws
  pub cause : words_cause b later ws ≡ None
  pub after : after_words b later ws (first_word ws) ≡ next

read_line_at : (final b next : SyncBefore) (later : List (List ℕ)) (line : List ℕ) (ws : List (List ℕ)) (n : ℕ)
    → list_all is_text_byte line ≡ true → words_of line ≡ ws
    → words_cause b later ws ≡ None → after_words b later ws (first_word ws) ≡ next → read_from (n + 1) next later ≡ Ok final
    → read_from n b (line ∷ later) ≡ Ok final
read_line_at final b next later line ws n bytes words cause after h = rw (bytes, words, cause, after) h

pub line_read : (final b next : SyncBefore) (later ws : List (List ℕ)) → IsRead b next later ws → ReadsAs final next later
    → ReadsAs final b (line_of ws ∷ later)
line_read final b next later ws is h = record {
  at = λ n. read_line_at final b next later (line_of ws) ws n (line_bytes_allowed ws is.words) (words_of_line ws is.words) is.cause is.after (h.at (n + 1));
}

-- no section is open, and these threads are closed
abbrev pub between : ProgramText → List SyncThreadText → SyncBefore
between p ts = record { plain = outside p; threads = ts; blocks = no_blocks }

-- the section of this thread is open, with these blocks
abbrev pub inside : ProgramText → ThreadDef → List SyncThreadText → Blocks → SyncBefore
inside p t ts bl = record { plain = opened p t; threads = ts; blocks = bl }

-- Lines of the plain language that are no statements
pub class_line : (p q : ProgramText) (ts : List SyncThreadText) (c : ClassDef) (later : List (List ℕ))
    → plain.IsRead (outside p) (outside q) later (class_words c) → IsRead (between p ts) (between q ts) later (class_words c)
class_line p q ts c later is = record {
  words = is.words;
  cause = ap (λ o. cause_or o None) is.cause;
  after = ap (λ b. record { plain = b; threads = ts; blocks = no_blocks }) is.after;
}

pub object_line : (p q : ProgramText) (ts : List SyncThreadText) (classes : List ClassDef) (d : ObjectDef) (later : List (List ℕ))
    → plain.IsRead (outside p) (outside q) later (object_words classes d) → IsRead (between p ts) (between q ts) later (object_words classes d)
object_line p q ts classes d later is = by_array d.array refl where
  by_words : (ws : List (List ℕ)) → object_words classes d ≡ ws
      → (plain.IsRead (outside p) (outside q) later ws → IsRead (between p ts) (between q ts) later ws)
      → IsRead (between p ts) (between q ts) later (object_words classes d)
  by_words ws e f = subst (IsRead (between p ts) (between q ts) later) (sym e) (f (subst (plain.IsRead (outside p) (outside q) later) e is))

  by_array : (b : Bool) → d.array ≡ b → IsRead (between p ts) (between q ts) later (object_words classes d)
  by_array true e = by_words (codes "array" ∷ d.name ∷ class_name classes d.class ∷ decimal d.size ∷ []) (rw e refl) (λ h. record {
    words = h.words;
    cause = ap (λ o. cause_or o None) h.cause;
    after = ap (λ b. record { plain = b; threads = ts; blocks = no_blocks }) h.after;
  })
  by_array false e = by_words (codes "object" ∷ d.name ∷ class_name classes d.class ∷ []) (rw e refl) (λ h. record {
    words = h.words;
    cause = ap (λ o. cause_or o None) h.cause;
    after = ap (λ b. record { plain = b; threads = ts; blocks = no_blocks }) h.after;
  })

pub opening_line : (p : ProgramText) (t : ThreadDef) (ts : List SyncThreadText) (later : List (List ℕ))
    → plain.IsRead (outside p) (opened p (new_thread t.name)) later (opening_words t)
    → IsRead (between p ts) (inside p (new_thread t.name) ts no_blocks) later (opening_words t)
opening_line p t ts later is = record {
  words = is.words;
  cause = ap (λ o. cause_or o None) is.cause;
  after = ap (λ b. record { plain = b; threads = ts; blocks = no_blocks }) is.after;
}

pub local_line : (p : ProgramText) (t u : ThreadDef) (ts : List SyncThreadText) (name : List ℕ) (later : List (List ℕ))
    → plain.IsRead (opened p t) (opened p u) later (local_words name) → IsRead (inside p t ts no_blocks) (inside p u ts no_blocks) later (local_words name)
local_line p t u ts name later is = record {
  words = is.words;
  cause = ap (λ o. cause_or o None) is.cause;
  after = ap (λ b. record { plain = b; threads = ts; blocks = no_blocks }) is.after;
}

-- a line without a cause by blocks
clean_of : (b : SyncBefore) (later ws : List (List ℕ)) (k : Word) → HasNoBlockCause b later ws k → statement_cause b later ws k ≡ None
clean_of b later ws k h = rw (h.code, h.closed, h.stray, h.assigned, h.deep) refl

-- an instruction that no open `sync` is changed by
pub not_held : (c : Code) (bs : List OpenBlock) → AllByRecursion (λ x. assigns x c ≡ false) (open_syncs bs) → changes_held c bs ≡ false
not_held c [] h = refl
not_held c (b ∷ bs) h = by_opener b.opener h (not_held c bs) where
  by_opener : (o : Opener) → AllByRecursion (λ x. assigns x c ≡ false) (with_sync o (open_syncs bs))
      → (AllByRecursion (λ x. assigns x c ≡ false) (open_syncs bs) → changes_held c bs ≡ false) → (changes_local c o || changes_held c bs) ≡ false
  by_opener (OfSync x) h others = or_from (assigns x c) (changes_held c bs) h.0 (others h.1)
  by_opener (OfIf t) h others = others h
  by_opener (OfElse t held) h others = others h
  by_opener (OfWhile t) h others = others h

-- an instruction that names no label doesn't depend on the lines after it
cause_alone : (b : plain_reading.Before) (later : List (List ℕ)) (classes : List ClassDef) (ds : List ObjectDef) (t : ThreadDef) (c : Code) → IsPlain c
    → keyword_cause b later (operand_words classes ds t c) (Some (keyword_for c)) ≡ keyword_cause b [] (operand_words classes ds t c) (Some (keyword_for c))
cause_alone b later classes ds t (instr.Jump l) h = absurd h
cause_alone b later classes ds t (instr.Jlt x y l) h = absurd h
cause_alone b later classes ds t (instr.Jeq x y l) h = absurd h
cause_alone b later classes ds t c h = refl

words_cause-plain : (b : SyncBefore) (later : List (List ℕ)) (classes : List ClassDef) (ds : List ObjectDef) (t : ThreadDef) (c : Code) → IsPlain c
    → words_cause b later (instruction_words classes ds t c) ≡ word_cause b later (operand_words classes ds t c) (Some (word.Plain (keyword_for c)))
words_cause-plain b later classes ds t (instr.Enter x) h = absurd h
words_cause-plain b later classes ds t (instr.Exit x) h = absurd h
words_cause-plain b later classes ds t (instr.Jump x) h = absurd h
words_cause-plain b later classes ds t (instr.Jlt x y z) h = absurd h
words_cause-plain b later classes ds t (instr.Jeq x y z) h = absurd h
words_cause-plain b later classes ds t c h = refl

after_words-plain : (p : ProgramText) (t : ThreadDef) (ts : List SyncThreadText) (bl : Blocks) (later : List (List ℕ))
    (classes : List ClassDef) (ds : List ObjectDef) (u : ThreadDef) (c : Code) → IsPlain c → is_end c ≡ false
    → after_words (inside p t ts bl) later (instruction_words classes ds u c) (first_word (instruction_words classes ds u c))
    ≡ inside p t ts (with_statement bl (Plain (instruction_on p t [] (operand_words classes ds u c) (keyword_for c)) Nothing))
after_words-plain p t ts bl later classes ds u (instr.Enter x) h e = absurd h
after_words-plain p t ts bl later classes ds u (instr.Exit x) h e = absurd h
after_words-plain p t ts bl later classes ds u (instr.Jump x) h e = absurd h
after_words-plain p t ts bl later classes ds u (instr.Jlt x y z) h e = absurd h
after_words-plain p t ts bl later classes ds u (instr.Jeq x y z) h e = absurd h
after_words-plain p t ts bl later classes ds u instr.End h e = absurd (cc e)
after_words-plain p t ts bl later classes ds u c h e = refl

is_code : (c : Code) → is_instruction (keyword_for c) ≡ true
is_code instr.End = refl
is_code c = refl

one_more : (c : Code) → weight (word.Plain (keyword_for c)) ≡ 1
one_more instr.End = refl
one_more c = refl

sign_by : (b : Bool) → is_sign (if b then codes "=" else codes "<") ≡ true
sign_by true = refl
sign_by false = refl

equals_by : (b : Bool) → is_equals (if b then codes "=" else codes "<") ≡ b
equals_by true = refl
equals_by false = refl

pub sign_word : (b : Bool) → is_word (if b then codes "=" else codes "<") ≡ true
sign_word true = refl
sign_word false = refl

same_test : (t : Test) (equal : Bool) (x y : ℕ) → equal ≡ t.equal → x ≡ t.x → y ≡ t.y → record { equal = equal; x = x; y = y } ≡ t
same_test t equal x y e f g = rw (e, f, g) refl

one_local : (p : ProgramText) (t : ThreadDef) (x : List ℕ) → is_name x ≡ true → is_among t.locals x ≡ true
    → locals_cause (opened p t) 1 (x ∷ []) ≡ None
one_local p t x name known = rw (name, known) refl

two_locals : (p : ProgramText) (t : ThreadDef) (x y : List ℕ) → is_name x ≡ true → is_among t.locals x ≡ true
    → is_name y ≡ true → is_among t.locals y ≡ true → locals_cause (opened p t) 2 (x ∷ y ∷ []) ≡ None
two_locals p t x y name known also too = rw (name, known, also, too) refl

-- the thread whose section is closed, as the plain language has it
abbrev pub closed_heading : SyncThreadText → ThreadDef
closed_heading t = record (heading t) { code = instr.End ∷ [] }

abbrev pub with_closed : ProgramText → SyncThreadText → ProgramText
with_closed p t = record p { threads = p.threads ++ closed_heading t ∷ [] }

-- The lines of statements, in the section of this thread
module _ (p : ProgramText) (t : SyncThreadText) (ts : List SyncThreadText) (named : AreNamed p.classes p.objects (heading t)) where
  abbrev pub within : Blocks → SyncBefore
  within bl = inside p (heading t) ts bl

  name_is : (x : ℕ) → x < length t.locals → is_name (local_name t.locals x) ≡ true
  name_is x h = local_is_name p.classes p.objects (heading t) named x h

  name_word : (x : ℕ) → x < length t.locals → is_word (local_name t.locals x) ≡ true
  name_word x h = local_word p.classes p.objects (heading t) named x h

  known : (x : ℕ) → x < length t.locals → is_among t.locals (local_name t.locals x) ≡ true
  known x h = nth_is_among t.locals x h

  found : (x : ℕ) → x < length t.locals → number_among t.locals (local_name t.locals x) ≡ x
  found x h = number_among-nth t.locals x named.local_names h

  -- an instruction, or an `end`
  pub plain_cause_none : (later : List (List ℕ)) (c : Code) → IsPlain c → IsInstruction (length p.classes) (length t.locals) (length p.objects) [] c
      → keyword_cause (opened p (heading t)) later (operand_words p.classes p.objects (heading t) c) (Some (keyword_for c)) ≡ None
  plain_cause_none later c h k =
      cause_alone (opened p (heading t)) later p.classes p.objects (heading t) c h
      ∙ plain.no_cause (opened p (heading t)) [] (operand_words p.classes p.objects (heading t) c) (keyword_for c)
      (instruction_allowed p (heading t) named [] [] [] refl (omega arith) c k)

  meant : (c : Code) → IsInstruction (length p.classes) (length t.locals) (length p.objects) [] c
      → instruction_on p (heading t) [] (operand_words p.classes p.objects (heading t) c) (keyword_for c) ≡ c
  meant c k = instruction_meant p (heading t) named [] [] [] refl (omega arith) c k

  not_assigned : (bl : Blocks) (c : Code) → IsInstruction (length p.classes) (length t.locals) (length p.objects) [] c → changes_held c bl.opened ≡ false
      → (is_instruction (keyword_for c)
      && changes_held (instruction_on p (heading t) [] (operand_words p.classes p.objects (heading t) c) (keyword_for c)) bl.opened) ≡ false
  not_assigned bl c k held = rw (is_code c, meant c k) held

  pub code_cause_none : (bl : Blocks) (later : List (List ℕ)) (c : Code) → IsPlain c
      → IsInstruction (length p.classes) (length t.locals) (length p.objects) [] c
      → code_used bl + 1 ≤ most_code → changes_held c bl.opened ≡ false
      → words_cause (within bl) later (instruction_words p.classes p.objects (heading t) c) ≡ None
  code_cause_none bl later c h k room held =
      let ws = operand_words p.classes p.objects (heading t) c in
      let l = word.Plain (keyword_for c) in
      let fits : code_used bl + weight l ≤ most_code = omega (arith, one_more c) in
      let clean = clean_of (within bl) later ws l (record {
        code = le-ltb most_code (code_used bl + weight l) fits;
        closed = refl;
        stray = refl;
        assigned = not_assigned bl c k held;
        deep = refl;
      }) in
      words_cause-plain (within bl) later p.classes p.objects (heading t) c h
      ∙ ap (λ o. cause_or o (statement_cause (within bl) later ws l)) (plain_cause_none later c h k) ∙ clean

  pub code_line : (bl : Blocks) (later : List (List ℕ)) (c : Code) → IsPlain c → IsInstruction (length p.classes) (length t.locals) (length p.objects) [] c
      → is_end c ≡ false → code_used bl + 1 ≤ most_code → changes_held c bl.opened ≡ false
      → IsRead (within bl) (within (with_statement bl (Plain c Nothing))) later (instruction_words p.classes p.objects (heading t) c)
  code_line bl later c h k goes_on room held = record {
    words = instruction_is_words p.classes p.objects (heading t) named c k;
    cause = code_cause_none bl later c h k room held;
    after =
        after_words-plain p (heading t) ts bl later p.classes p.objects (heading t) c h goes_on
        ∙ ap (λ x. within (with_statement bl (Plain x Nothing))) (meant c k);
  }

  -- the end of the section, at which no block is open
  pub end_line : (s : Statements) (later : List (List ℕ)) → code_used (record { opened = []; statements = s }) + 1 ≤ most_code
      → IsRead (within (record { opened = []; statements = s }))
      (between (with_closed p t) (ts ++ record { name = t.name; locals = t.locals; body = joined s (Plain instr.End Nothing) } ∷ []))
      later (codes "end" ∷ [])
  end_line s later room = record {
    words = (refl, tt);
    cause = code_cause_none (record { opened = []; statements = s }) later instr.End tt tt room refl;
    after = refl;
  }

  -- a block's first line
  opened_fits : (bl : Blocks) (n : ℕ) → code_used bl + n ≤ most_code → (nat_lt most_code (code_used bl + n)) ≡ false
  opened_fits bl n room = le-ltb most_code (code_used bl + n) room

  pub sync_line : (bl : Blocks) (later : List (List ℕ)) (x : ℕ) → x < length t.locals → code_used bl + 2 ≤ most_code → length bl.opened < most_depth
      → is_closed 0 later ≡ true → IsRead (within bl) (within (with_block bl (OfSync x))) later (sync_words (heading t) x)
  sync_line bl later x lt room deep closes = record {
    words = (refl, (name_word x lt, tt));
    cause =
        ap (λ o. cause_or o (statement_cause (within bl) later (local_name t.locals x ∷ []) word.Sync))
        (one_local p (heading t) (local_name t.locals x) (name_is x lt) (known x lt))
        ∙ clean_of (within bl) later (local_name t.locals x ∷ []) word.Sync (record {
          code = opened_fits bl 2 room;
          closed = ap not closes;
          stray = refl;
          assigned = refl;
          deep = lt-leb most_depth (length bl.opened) deep;
        });
    after = ap (λ n. within (with_block bl (OfSync n))) (found x lt);
  }

  test_cause : (test : Test) → IsTest (length t.locals) test
      → locals_cause (opened p (heading t)) 2 (tested (local_name t.locals test.x ∷ sign_of test ∷ local_name t.locals test.y ∷ [])) ≡ None
  test_cause test is =
      let x = local_name t.locals test.x in
      let y = local_name t.locals test.y in
      ap (λ (b : Bool). locals_cause (opened p (heading t)) 2 (if b then x ∷ y ∷ [] else [])) (sign_by test.equal)
      ∙ two_locals p (heading t) x y (name_is test.x is.0) (known test.x is.0) (name_is test.y is.1) (known test.y is.1)

  test_meant : (test : Test) → IsTest (length t.locals) test
      → test_on (heading t) (local_name t.locals test.x ∷ sign_of test ∷ local_name t.locals test.y ∷ []) ≡ test
  test_meant test is = same_test test _ _ _ (equals_by test.equal) (found test.x is.0) (found test.y is.1)

  test_operands : Test → List (List ℕ)
  test_operands test = local_name t.locals test.x ∷ sign_of test ∷ local_name t.locals test.y ∷ []

  pub if_line : (bl : Blocks) (later : List (List ℕ)) (test : Test) → IsTest (length t.locals) test
      → code_used bl + 2 ≤ most_code → length bl.opened < most_depth → is_closed 0 later ≡ true
      → IsRead (within bl) (within (with_block bl (OfIf test))) later (test_words (codes "if") (heading t) test)
  if_line bl later test is room deep closes = record {
    words = (refl, (name_word test.x is.0, (sign_word test.equal, (name_word test.y is.1, tt))));
    cause =
        ap (λ o. cause_or o (statement_cause (within bl) later (test_operands test) word.If)) (test_cause test is)
        ∙ clean_of (within bl) later (test_operands test) word.If (record {
          code = opened_fits bl 2 room;
          closed = ap not closes;
          stray = refl;
          assigned = refl;
          deep = lt-leb most_depth (length bl.opened) deep;
        });
    after = ap (λ x. within (with_block bl (OfIf x))) (test_meant test is);
  }

  pub while_line : (bl : Blocks) (later : List (List ℕ)) (test : Test) → IsTest (length t.locals) test
      → code_used bl + 3 ≤ most_code → length bl.opened < most_depth → is_closed 0 later ≡ true
      → IsRead (within bl) (within (with_block bl (OfWhile test))) later (test_words (codes "while") (heading t) test)
  while_line bl later test is room deep closes = record {
    words = (refl, (name_word test.x is.0, (sign_word test.equal, (name_word test.y is.1, tt))));
    cause =
        ap (λ o. cause_or o (statement_cause (within bl) later (test_operands test) word.While)) (test_cause test is)
        ∙ clean_of (within bl) later (test_operands test) word.While (record {
          code = opened_fits bl 3 room;
          closed = ap not closes;
          stray = refl;
          assigned = refl;
          deep = lt-leb most_depth (length bl.opened) deep;
        });
    after = ap (λ x. within (with_block bl (OfWhile x))) (test_meant test is);
  }

  -- an `else`, and a `done`
  pub else_line : (test : Test) (earlier s : Statements) (bs : List OpenBlock) (later : List (List ℕ))
      → code_used (record { opened = record { opener = OfIf test; earlier = earlier } ∷ bs; statements = s }) ≤ most_code
      → IsRead (within (record { opened = record { opener = OfIf test; earlier = earlier } ∷ bs; statements = s }))
      (within (record { opened = record { opener = OfElse test s; earlier = earlier } ∷ bs; statements = Nothing })) later else_words
  else_line test earlier s bs later room =
      let bl : Blocks = record { opened = record { opener = OfIf test; earlier = earlier } ∷ bs; statements = s } in
      record {
        words = (refl, tt);
        cause = clean_of (within bl) later [] word.Else
            (record { code = opened_fits bl 0 (omega arith); closed = refl; stray = refl; assigned = refl; deep = refl });
        after = refl;
      }

  pub done_line : (o : Opener) (earlier s : Statements) (bs : List OpenBlock) (later : List (List ℕ))
      → code_used (record { opened = record { opener = o; earlier = earlier } ∷ bs; statements = s }) ≤ most_code
      → IsRead (within (record { opened = record { opener = o; earlier = earlier } ∷ bs; statements = s }))
      (within (record { opened = bs; statements = joined earlier (closed o s) })) later done_words
  done_line o earlier s bs later room =
      let bl : Blocks = record { opened = record { opener = o; earlier = earlier } ∷ bs; statements = s } in
      record {
        words = (refl, tt);
        cause = clean_of (within bl) later [] word.Done
            (record { code = opened_fits bl 0 (omega arith); closed = refl; stray = refl; assigned = refl; deep = refl });
        after = refl;
      }
