-- The section of a thread is read as the thread.
use Rattle.std.proofs.Common.{◌≡◌, ℕ, ◌+◌, ◌<◌, true, not, List, [], ◌∷◌, ◌++◌, length, map, refl, ap}
use Rattle.std.proofs.Common.{ap₂, sym, subst, ◌∙◌, arith, append_assoc, length-append, codes}
use Rattle.std.specs.List.{AllByRecursion}
use Rattle.std.proofs.lemmas.Bool.{lt-leb}
use Rattle.std.proofs.lemmas.List.{map-append}
use Rattle.plain_monitor.specs.Limits.{most_threads}
use Rattle.object_program.specs.Limits.{most_code}
use Rattle.object_program.specs.Program.{ProgramText}
use Rattle.object_program.specs.Valid.{AreNames, EndsOnce, IsInstruction, IsThread}
use Rattle.program_syntax.specs.Reading.{Before, new_thread, labels_ahead, section_labels, section_after}
use Rattle.program_syntax.specs.Refusal.{is_closed}
use Rattle.program_syntax.specs.Canonical.{local_words, label_words, opening_words, instruction_words, labels_at, code_lines, thread_lines}
use Rattle.object_program.specs.declared.program.LabelDef.{LabelDef}
use Rattle.object_program.specs.declared.program.ThreadDef.{ThreadDef}
use Rattle.object_program.specs.declared.program.Code.{Code}
use Rattle.object_program.specs.declared.program.Code.TheVariants as code
use Rattle.program_syntax.specs.declared.operand.Space.TheVariants.{Threads}
use Rattle.program_syntax.specs.declared.keyword.Keyword.TheVariants.{Thread, End}
use Rattle.program_syntax.proofs.CanonicalText.{line_of}
use Rattle.program_syntax.proofs.CanonicalLabels.{labels_below, labels_from, none_below, all_below, below_next, below_from}
use Rattle.program_syntax.proofs.CanonicalNames.{AreNames-front}
use Rattle.program_syntax.proofs.CanonicalWords.{opening_is_words}
use Rattle.program_syntax.proofs.CanonicalReading.{good_new, no_cause, ReadsAs, read_line, IsRead, line_read}
use Rattle.program_syntax.proofs.CanonicalRuns.{each_adds, each_unit, IsNew, new_among, new_in_middle, length_front, outside, opened, local_line, label_read}
use Rattle.program_syntax.proofs.CanonicalInstructions.{AreNamed, so_far, instruction_read}
use Rattle.program_syntax.proofs.Rows.{keyword_for}
use Rattle.program_syntax.proofs.CanonicalAhead.{IsLabelOf, labels_at_are, lines-append, code_after, code_lines-cons, ahead_code, closed_locals, closed_code}

-- an instruction that is no `end` leaves the section open
stays_open : (p : ProgramText) (s : ThreadDef) (c : Code) → (c ≡ code.End → ⊥) → section_after p s (keyword_for c) ≡ opened p s
stays_open p s code.End h = absurd (h refl)
stays_open p s c h = refl

-- an `end` closes it
end_read : (final : Before) (p : ProgramText) (s : ThreadDef) (later : List (List ℕ)) → length s.code < most_code
    → ReadsAs final (outside (record p { threads = p.threads ++ record s { code = s.code ++ code.End ∷ [] } ∷ [] })) later
    → ReadsAs final (opened p s) (line_of (codes "end" ∷ []) ∷ later)
end_read final p s later room h =
    read_line final (opened p s) (outside (record p { threads = p.threads ++ record s { code = s.code ++ code.End ∷ [] } ∷ [] })) later (codes "end" ∷ [])
    (refl, tt)
    (no_cause (opened p s) later [] End (record { place = refl; number = refl; operands = tt; limit = lt-leb most_code (length s.code) room; closed = refl }))
    refl
    h

-- the line that opens a section, where the lines after it close it
pub opening_line : (p : ProgramText) (t : ThreadDef) (later : List (List ℕ)) → IsNew (map (λ t. t.name) p.threads) t.name → length p.threads < most_threads
    → is_closed later ≡ true → IsRead (outside p) (opened p (new_thread t.name)) later (opening_words t)
opening_line p t later new few closed_after = record {
  words = opening_is_words t new.name_is;
  cause = no_cause (outside p) later (t.name ∷ []) Thread (record {
    place = refl;
    number = refl;
    operands = (good_new (outside p) later Threads t.name new.name_is new.new, tt);
    limit = lt-leb most_threads (length p.threads) few;
    closed = ap not closed_after;
  });
  after = refl;
}

module _ (final : Before) (p : ProgramText) (t : ThreadDef) (named : AreNamed p.classes p.objects t)
    (is : IsThread (length p.classes) (length p.objects) t) where
  -- the thread of the section before instruction n, with the labels and the code before it
  abbrev at_code : ℕ → List Code → Before
  at_code n done = opened p (so_far t (labels_below n t.labels) done)

  abbrev closed : Before
  closed = outside (record p { threads = p.threads ++ t ∷ [] })

  label_names_below : (n : ℕ) (cs : List Code) → n + length cs ≡ length t.code + 1 → AreNames (map (λ l. l.name) (labels_below n t.labels))
  label_names_below n cs e =
      let all = below_from (length t.code) 1 n t.labels cs is.targets e in
      AreNames-front (map (λ (l : LabelDef). l.name) (labels_below n t.labels)) (map (λ (l : LabelDef). l.name) (labels_from t.labels n cs))
      (subst AreNames (sym (ap (map (λ (l : LabelDef). l.name)) all)
      ∙ map-append (λ (l : LabelDef). l.name) (labels_below n t.labels) (labels_from t.labels n cs)) is.labels)

  labels_read : (n : ℕ) (done cs : List Code) (later : List (List ℕ)) → n ≡ length done + 1 → n + 1 + length cs ≡ length t.code + 1
      → ReadsAs final (at_code (n + 1) done) later → ReadsAs final (at_code n done) (map line_of (map label_words (labels_at n t.labels)) ++ later)
  labels_read n done cs later e room h =
      each_adds (ReadsAs final) (λ ls. opened p (so_far t ls done)) label_words (IsLabelOf n) (labels_below (n + 1) t.labels)
      (λ before l after rest whole q k. label_read final p (so_far t before done) l rest
      (new_in_middle (λ (l : LabelDef). l.name) before l after (labels_below (n + 1) t.labels) whole (label_names_below (n + 1) cs room)) (q.index_is ∙ e) k)
      (labels_below n t.labels) (labels_at n t.labels) later (below_next (length t.code) 1 n t.labels is.targets) (labels_at_are n t.labels is.labels) h

  -- the labels before an instruction and on the lines after it are all labels
  all_labels : (n : ℕ) (done cs : List Code) (later : List (List ℕ)) → n ≡ length done + 1 → n + 1 + length cs ≡ length t.code + 1
      → AllByRecursion (IsInstruction (length p.classes) (length t.locals) (length p.objects) t.labels) cs → EndsOnce cs
      → section_labels (so_far t (labels_below (n + 1) t.labels) done) (map line_of (code_lines p.classes p.objects t (n + 1) cs) ++ later) ≡ t.labels
  all_labels n done cs later e room allowed ends =
      let next : length done + 2 ≡ n + 1 = omega arith in
      ap (λ (m : ℕ). labels_below (n + 1) t.labels ++ labels_ahead m (map line_of (code_lines p.classes p.objects t (n + 1) cs) ++ later)) next
      ∙ ap (λ ls. labels_below (n + 1) t.labels ++ ls) (ahead_code p.classes p.objects t named later (n + 1) cs allowed ends)
      ∙ below_from (length t.code) 1 (n + 1) t.labels cs is.targets room

  -- the code from instruction n on, read after the code before it
  code_read : (n : ℕ) (done cs : List Code) (later : List (List ℕ)) → n ≡ length done + 1 → done ++ cs ≡ t.code
      → AllByRecursion (IsInstruction (length p.classes) (length t.locals) (length p.objects) t.labels) cs → EndsOnce cs
      → ReadsAs final closed later → ReadsAs final (at_code n done) (map line_of (code_lines p.classes p.objects t n cs) ++ later)
  code_read n done [] later e whole allowed ends h = absurd ends
  code_read n done (c ∷ []) later e whole allowed ends h =
      let few = is.code_few in
      let length_is : length done + 1 ≡ length t.code = omega (arith, length-append done (c ∷ []), ap length whole) in
      let last : n + 1 ≡ length t.code + 1 = omega arith in
      let labels : labels_below (n + 1) t.labels ≡ t.labels = ap (λ (m : ℕ). labels_below m t.labels) last ∙ all_below (length t.code) 1 t.labels is.targets in
      let code_is : done ++ code.End ∷ [] ≡ t.code = ap (λ (x : Code). done ++ x ∷ []) (sym ends) ∙ whole in
      let thread : so_far t (labels_below (n + 1) t.labels) (done ++ code.End ∷ []) ≡ t = ap₂ (so_far t) labels code_is in
      let closing = end_read final p (so_far t (labels_below (n + 1) t.labels) done) later (omega arith)
      (subst (λ (x : ThreadDef). ReadsAs final (outside (record p { threads = p.threads ++ x ∷ [] })) later) (sym thread) h) in
      let line = subst (λ (x : Code). ReadsAs final (at_code (n + 1) done) (line_of (instruction_words p.classes p.objects t x) ∷ later)) (sym ends) closing in
      subst (λ lines. ReadsAs final (at_code n done) lines) (sym (code_lines-cons p.classes p.objects t named later n c []))
      (labels_read n done [] (code_after p.classes p.objects t named later n c []) e (omega arith) line)
  code_read n done (c ∷ d ∷ cs) later e whole allowed ends h =
      let few = is.code_few in
      let length_is : length done + 2 + length cs ≡ length t.code = omega (arith, length-append done (c ∷ d ∷ cs), ap length whole) in
      let rest = code_read (n + 1) (done ++ c ∷ []) (d ∷ cs) later (omega (arith, length-append done (c ∷ [])))
      (append_assoc done (c ∷ []) (d ∷ cs) ∙ whole) allowed.1 ends.1 h in
      let after = map line_of (code_lines p.classes p.objects t (n + 1) (d ∷ cs)) ++ later in
      let before = labels_below (n + 1) t.labels in
      let line = instruction_read p t named before done after
      (all_labels n done (d ∷ cs) later e (omega arith) allowed.1 ends.1) (omega arith) final c allowed.0
      (subst (λ (b : Before). ReadsAs final b after) (sym (stays_open p (so_far t before (done ++ c ∷ [])) c ends.0)) rest) in
      subst (λ lines. ReadsAs final (at_code n done) lines) (sym (code_lines-cons p.classes p.objects t named later n c (d ∷ cs)))
      (labels_read n done (d ∷ cs) (code_after p.classes p.objects t named later n c (d ∷ cs)) e (omega arith) line)

  locals_read : (later : List (List ℕ)) → ReadsAs final (opened p (so_far t [] [])) later
      → ReadsAs final (opened p (new_thread t.name)) (map line_of (map local_words t.locals) ++ later)
  locals_read later h =
      let few = is.locals_few in
      each_adds (ReadsAs final) (λ done. opened p (record { name = t.name; locals = done; labels = []; code = [] })) local_words (λ x. Unit {0}) t.locals
      (λ done x todo rest e q k. line_read final _ _ rest (local_words x) (local_line p (record { name = t.name; locals = done; labels = []; code = [] }) x rest
      (new_among done x todo t.locals e is.locals) (omega (arith, length_front done x todo t.locals e))) k)
      [] t.locals later refl (each_unit t.locals) h

  pub section_read : (later : List (List ℕ)) → IsNew (map (λ t. t.name) p.threads) t.name → length p.threads < most_threads
      → ReadsAs final closed later → ReadsAs final (outside p) (map line_of (thread_lines p.classes p.objects t) ++ later)
  section_read later new few h =
      let code_after_locals = map line_of (code_lines p.classes p.objects t 1 t.code) ++ later in
      let none : labels_below 1 t.labels ≡ [] = none_below (length t.code) 1 1 t.labels is.targets (omega arith) in
      let in_code = subst (λ ls. ReadsAs final (opened p (so_far t ls [])) code_after_locals) none (code_read 1 [] t.code later refl refl is.code is.ends h) in
      let lines = sym (lines-append (map local_words t.locals) (code_lines p.classes p.objects t 1 t.code) later) in
      let after = subst (λ ls. ReadsAs final (opened p (new_thread t.name)) ls) lines (locals_read code_after_locals in_code) in
      let rest = map line_of (map local_words t.locals ++ code_lines p.classes p.objects t 1 t.code) ++ later in
      let is_closed_after : is_closed rest ≡ true =
      ap is_closed (sym lines) ∙ closed_locals t.locals code_after_locals is.locals ∙ closed_code p.classes p.objects t named later 1 t.code is.code is.ends in
      line_read final (outside p) (opened p (new_thread t.name)) rest (opening_words t) (opening_line p t rest new few is_closed_after) after
