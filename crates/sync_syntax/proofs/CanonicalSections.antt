-- The section of a thread is read as the thread.
use Rattle.std.proofs.Common.{◌≡◌, ◌⊎◌, inl, inr, ℕ, ◌+◌, ◌<◌, ◌≤◌, true, false, List, [], ◌∷◌, ◌++◌}
use Rattle.std.proofs.Common.{length, map, refl, sym, ap, ap₂, ◌∙◌, subst, arith, append_assoc, codes}
use Rattle.object_program.specs.Limits.{most_code, most_threads}
use Rattle.object_program.specs.Program.{ProgramText}
use Rattle.object_program.specs.declared.program.ClassDef.{ClassDef}
use Rattle.object_program.specs.declared.program.ObjectDef.{ObjectDef}
use Rattle.object_program.specs.declared.program.ThreadDef.{ThreadDef}
use Rattle.object_program.specs.declared.program.Code.{Code}
use Rattle.object_program.specs.declared.program.Code.TheVariants as instr
use Rattle.program_syntax.specs.Reading.{new_thread}
use Rattle.program_syntax.specs.Refusal as plain
use Rattle.program_syntax.specs.Canonical.{local_words, opening_words, instruction_words}
use Rattle.program_syntax.proofs.CanonicalText.{line_of}
use Rattle.program_syntax.proofs.CanonicalRuns as plain_line
use Rattle.program_syntax.proofs.CanonicalRuns.{each_adds, each_unit, IsNew, new_among, length_front}
use Rattle.program_syntax.proofs.CanonicalInstructions.{AreNamed}
use Rattle.program_syntax.proofs.CanonicalAhead.{lines-append, closed_locals}
use Rattle.program_syntax.proofs.CanonicalSections as plain_section
use Rattle.sync_source.specs.Source.{Statements, Nothing, Plain, Sync, If, While, SyncThreadText}
use Rattle.sync_source.specs.Valid.{AreStatements, is_end, EndsWell, KeepsLocals, depth, most_depth, IsSyncThread}
use Rattle.sync_source.specs.Compiled.{size}
use Rattle.sync_syntax.specs.Blocks.{no_blocks, joined}
use Rattle.sync_syntax.specs.Reading.{SyncBefore}
use Rattle.sync_syntax.specs.Canonical.{heading, sync_words, test_words, done_words, else_lines, statement_lines, section_lines}
use Rattle.sync_syntax.proofs.OpenBlocks.{size-joined}
use Rattle.sync_syntax.proofs.Good.{IsGood, nothing_good}
use Rattle.sync_syntax.proofs.CanonicalReading.{ReadsAs, line_read, between, inside, with_closed, opening_line, local_line, end_line}
use Rattle.sync_syntax.proofs.CanonicalAhead.{statements_pass, end_closes}
use Rattle.sync_syntax.proofs.CanonicalBlocks.{statements_read}

-- the statements of a thread before its `end`
record IsEnded (classes locals objects : ℕ) (syncs : List ℕ) (n : ℕ) (s : Statements) : Type 0 where
  front : Statements
  whole : s ≡ joined front (Plain instr.End Nothing)
  good : IsGood classes locals objects syncs n front

ends_split : (c : Code) (rest : Statements) → EndsWell (Plain c rest)
    → ((rest ≡ Nothing) × (c ≡ instr.End)) ⊎ ((is_end c ≡ false) × EndsWell rest)
ends_split c Nothing h = inl (refl, h)
ends_split c _ h = inr h

ended : (classes l o : ℕ) (xs : List ℕ) (n : ℕ) (s : Statements) → AreStatements classes l o s → EndsWell s → KeepsLocals xs s → depth s + n ≤ most_depth
    → IsEnded classes l o xs n s
ended classes l o xs n Nothing h e k d = absurd e
ended classes l o xs n (Plain c rest) h e k d = by_case (ends_split c rest e) (λ ends. ended classes l o xs n rest h.2 ends k.1 d) where
  by_rest : is_end c ≡ false → IsEnded classes l o xs n rest → IsEnded classes l o xs n (Plain c rest)
  by_rest goes r =
      let g = r.good in
      record {
        front = Plain c r.front;
        whole = ap (Plain c) r.whole;
        good = record { fine = (h.0, h.1, g.fine); goes_on = (goes, g.goes_on); keeps = (k.0, g.keeps); nested = g.nested };
      }

  by_case : ((rest ≡ Nothing) × (c ≡ instr.End)) ⊎ ((is_end c ≡ false) × EndsWell rest) → (EndsWell rest → IsEnded classes l o xs n rest)
      → IsEnded classes l o xs n (Plain c rest)
  by_case (inl f) go_on =
      record { front = Nothing; whole = ap₂ Plain f.1 f.0; good = nothing_good classes l o xs n (omega arith) }
  by_case (inr f) go_on = by_rest f.0 (go_on f.1)
ended classes l o xs n (Sync x body rest) h e k d = by_rest (ended classes l o xs n rest h.2 e.1 k.1 (omega arith)) where
  by_rest : IsEnded classes l o xs n rest → IsEnded classes l o xs n (Sync x body rest)
  by_rest r =
      let g = r.good in
      let nested = g.nested in
      record {
        front = Sync x body r.front;
        whole = ap (Sync x body) r.whole;
        good = record { fine = (h.0, h.1, g.fine); goes_on = (e.0, g.goes_on); keeps = (k.0, g.keeps); nested = omega arith };
      }
ended classes l o xs n (If t body other rest) h e k d = by_rest (ended classes l o xs n rest h.3 e.2 k.2 (omega arith)) where
  by_rest : IsEnded classes l o xs n rest → IsEnded classes l o xs n (If t body other rest)
  by_rest r =
      let g = r.good in
      let nested = g.nested in
      record {
        front = If t body other r.front;
        whole = ap (If t body other) r.whole;
        good = record { fine = (h.0, h.1, h.2, g.fine); goes_on = (e.0, e.1, g.goes_on); keeps = (k.0, k.1, g.keeps); nested = omega arith };
      }
ended classes l o xs n (While t body rest) h e k d = by_rest (ended classes l o xs n rest h.2 e.1 k.1 (omega arith)) where
  by_rest : IsEnded classes l o xs n rest → IsEnded classes l o xs n (While t body rest)
  by_rest r =
      let g = r.good in
      let nested = g.nested in
      record {
        front = While t body r.front;
        whole = ap (While t body) r.whole;
        good = record { fine = (h.0, h.1, g.fine); goes_on = (e.0, g.goes_on); keeps = (k.0, g.keeps); nested = omega arith };
      }

-- the lines of statements, and then others
pub lines_joined : (classes : List ClassDef) (ds : List ObjectDef) (t : ThreadDef) (a b : Statements)
    → statement_lines classes ds t (joined a b) ≡ statement_lines classes ds t a ++ statement_lines classes ds t b
lines_joined classes ds t Nothing b = refl
lines_joined classes ds t (Plain c rest) b = ap (λ ls. instruction_words classes ds t c ∷ ls) (lines_joined classes ds t rest b)
lines_joined classes ds t (Sync x body rest) b =
    ap (λ ls. sync_words t x ∷ statement_lines classes ds t body ++ done_words ∷ ls) (lines_joined classes ds t rest b)
    ∙ ap (λ ls. sync_words t x ∷ ls)
    (sym (append_assoc (statement_lines classes ds t body) (done_words ∷ statement_lines classes ds t rest) (statement_lines classes ds t b)))
lines_joined classes ds t (If test body other rest) b =
    let front = statement_lines classes ds t body ++ else_lines other (statement_lines classes ds t other) in
    ap (λ ls. test_words (codes "if") t test ∷ front ++ done_words ∷ ls) (lines_joined classes ds t rest b)
    ∙ ap (λ ls. test_words (codes "if") t test ∷ ls)
    (sym (append_assoc front (done_words ∷ statement_lines classes ds t rest) (statement_lines classes ds t b)))
lines_joined classes ds t (While test body rest) b =
    ap (λ ls. test_words (codes "while") t test ∷ statement_lines classes ds t body ++ done_words ∷ ls) (lines_joined classes ds t rest b)
    ∙ ap (λ ls. test_words (codes "while") t test ∷ ls)
    (sym (append_assoc (statement_lines classes ds t body) (done_words ∷ statement_lines classes ds t rest) (statement_lines classes ds t b)))

module _ (final : SyncBefore) (p : ProgramText) (t : SyncThreadText) (ts : List SyncThreadText)
    (named : AreNamed p.classes p.objects (heading t)) (is : IsSyncThread (length p.classes) (length p.objects) t) where
  body_ended : IsEnded (length p.classes) (length t.locals) (length p.objects) [] 0 t.body
  body_ended =
      let nested = is.nested in ended (length p.classes) (length t.locals) (length p.objects) [] 0 t.body is.body is.ends is.keeps (omega arith)

  abbrev front : Statements
  front = body_ended.front

  abbrev front_lines : List (List (List ℕ))
  front_lines = statement_lines p.classes p.objects (heading t) front

  abbrev end_text : List ℕ
  end_text = line_of (codes "end" ∷ [])

  -- the lines of the body, the last of which is its `end`
  body_lines : (later : List (List ℕ))
      → map line_of (statement_lines p.classes p.objects (heading t) t.body) ++ later ≡ map line_of front_lines ++ (end_text ∷ later)
  body_lines later =
      ap (λ s. map line_of (statement_lines p.classes p.objects (heading t) s) ++ later) body_ended.whole
      ∙ ap (λ ls. map line_of ls ++ later) (lines_joined p.classes p.objects (heading t) front (Plain instr.End Nothing))
      ∙ lines-append front_lines ((codes "end" ∷ []) ∷ []) later

  body_read : (later : List (List ℕ)) → ReadsAs final (between (with_closed p t) (ts ++ t ∷ [])) later
      → ReadsAs final (inside p (heading t) ts no_blocks) (map line_of (statement_lines p.classes p.objects (heading t) t.body) ++ later)
  body_read later h =
      let all : size t.body ≡ size (joined front (Plain instr.End Nothing)) = ap size body_ended.whole in
      let room : size front + 1 ≤ most_code = omega (arith, is.code_few, all, size-joined front (Plain instr.End Nothing)) in
      let thread : Statements → SyncThreadText = λ s. record { name = t.name; locals = t.locals; body = s } in
      let whole = subst (λ s. ReadsAs final (between (with_closed p t) (ts ++ thread s ∷ [])) later) body_ended.whole h in
      subst (λ ls. ReadsAs final (inside p (heading t) ts no_blocks) ls) (sym (body_lines later))
      (statements_read final p t ts named front no_blocks (end_text ∷ later) (record { good = body_ended.good; room = omega (arith, room) })
      (line_read final _ _ later (codes "end" ∷ []) (end_line p t ts named front later (omega (arith, room))) whole))

  locals_read : (later : List (List ℕ)) → ReadsAs final (inside p (heading t) ts no_blocks) later
      → ReadsAs final (inside p (new_thread t.name) ts no_blocks) (map line_of (map local_words t.locals) ++ later)
  locals_read later h =
      let few = is.locals_few in
      let so_far : List (List ℕ) → ThreadDef = λ done. record { name = t.name; locals = done; labels = []; code = [] } in
      each_adds (ReadsAs final) (λ done. inside p (so_far done) ts no_blocks) local_words (λ x. Unit {0}) t.locals
      (λ done x todo rest e q k. line_read final _ _ rest (local_words x) (local_line p _ _ ts x rest
      (plain_line.local_line p (so_far done) x rest (new_among done x todo t.locals e is.locals) (omega (arith, length_front done x todo t.locals e)))) k)
      [] t.locals later refl (each_unit t.locals) h

  pub section_read : (later : List (List ℕ)) → IsNew (map (λ t. t.name) p.threads) t.name → length p.threads < most_threads
      → ReadsAs final (between (with_closed p t) (ts ++ t ∷ [])) later
      → ReadsAs final (between p ts) (map line_of (section_lines p.classes p.objects t) ++ later)
  section_read later new few h =
      let body = statement_lines p.classes p.objects (heading t) t.body in
      let after = map line_of body ++ later in
      let joins = lines-append (map local_words t.locals) body later in
      let rest = map line_of (map local_words t.locals ++ body) ++ later in
      let closes : plain.is_closed rest ≡ true =
      ap plain.is_closed joins ∙ closed_locals t.locals after is.locals ∙ ap plain.is_closed (body_lines later)
      ∙ statements_pass p.classes p.objects t named front (end_text ∷ later) body_ended.good.fine body_ended.good.goes_on
      ∙ end_closes p.classes p.objects t named later in
      line_read final _ _ rest (opening_words (heading t)) (opening_line p (heading t) ts rest (plain_section.opening_line p (heading t) rest new few closes))
      (subst (λ ls. ReadsAs final (inside p (new_thread t.name) ts no_blocks) ls) (sym joins) (locals_read after (body_read later h)))
