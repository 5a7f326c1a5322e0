-- The canonical text of a program with blocks is read as the program.
use Rattle.std.proofs.Common.{◌≡◌, ℕ, ◌≤◌, List, [], ◌∷◌, ◌++◌, length, map, refl, sym, ap, ◌∙◌, subst, arith, append_assoc, append-nil, Ok, le-ltb, ne_eqb}
use Rattle.std.specs.List.{AllByRecursion, flat_map}
use Rattle.std.proofs.lemmas.List.{map-append, length-map}
use Rattle.object_program.specs.Program.{ProgramText}
use Rattle.object_program.specs.Valid.{AreNames}
use Rattle.object_program.specs.declared.program.ClassDef.{ClassDef}
use Rattle.object_program.specs.declared.program.ObjectDef.{ObjectDef}
use Rattle.object_program.specs.declared.program.ThreadDef.{ThreadDef}
use Rattle.program_syntax.specs.Refusal.{lines_of}
use Rattle.program_syntax.specs.Canonical.{class_words, object_words, local_words}
use Rattle.program_syntax.proofs.CanonicalText.{line_of, AreLines, lines_of_text}
use Rattle.program_syntax.proofs.CanonicalWords.{opening_is_words}
use Rattle.program_syntax.proofs.CanonicalRuns as plain_line
use Rattle.program_syntax.proofs.CanonicalRuns.{each_adds, each_unit, IsNew, new_in_middle, length_front, object_line_among}
use Rattle.program_syntax.proofs.CanonicalInstructions.{AreNamed}
use Rattle.program_syntax.proofs.CanonicalAhead.{lines-append}
use Rattle.program_syntax.proofs.CanonicalPrograms.{lines_after, class_lines, object_lines, local_lines}
use Rattle.plain_monitor.specs.Limits.{most_slots}
use Rattle.sync_source.specs.Source.{SyncThreadText, SyncText}
use Rattle.sync_source.specs.Valid.{IsSyncThread, IsSyncText}
use Rattle.sync_syntax.specs.Reading.{SyncBefore, nothing_read}
use Rattle.sync_syntax.specs.Refusal.{read_from, sync_program_of}
use Rattle.sync_syntax.specs.Canonical.{heading, statement_lines, section_lines, sync_lines, canonical_sync}
use Rattle.sync_syntax.proofs.CanonicalReading.{ReadsAs, line_read, between, closed_heading, class_line, object_line}
use Rattle.sync_syntax.proofs.CanonicalAhead.{statements_are_lines}
use Rattle.sync_syntax.proofs.CanonicalSections.{section_read}

named_by : (classes : List ClassDef) (ds : List ObjectDef) (t : SyncThreadText) → AreNames (map (λ c. c.name) classes) → AreNames (map (λ d. d.name) ds)
    → IsSyncThread (length classes) (length ds) t → AreNamed classes ds (heading t)
named_by classes ds t class_names names is =
    record { local_names = is.locals; label_names = tt; object_names = names; class_names = class_names }

-- the names of a program whose sections are closed up to these threads, as the plain language has them
abbrev with_threads : SyncText → List SyncThreadText → ProgramText
with_threads p done = record { classes = p.classes; objects = p.objects; threads = map closed_heading done }

same_names : (ts : List SyncThreadText) → map (λ t. t.name) ts ≡ map (λ t. t.name) (map closed_heading ts)
same_names [] = refl
same_names (t ∷ ts) = ap (λ ns. t.name ∷ ns) (same_names ts)

threads_read : (final : SyncBefore) (p : SyncText) (done todo : List SyncThreadText) (later : List (List ℕ)) → IsSyncText p → done ++ todo ≡ p.threads
    → AllByRecursion (IsSyncThread (length p.classes) (length p.objects)) todo → ReadsAs final (between (with_threads p p.threads) p.threads) later
    → ReadsAs final (between (with_threads p done) done) (map line_of (flat_map (section_lines p.classes p.objects) todo) ++ later)
threads_read final p done [] later is whole all h =
    subst (λ ts. ReadsAs final (between (with_threads p ts) ts) later) (sym whole ∙ append-nil done) h
threads_read final p done (t ∷ ts) later is whole all h =
    let few = is.threads_few in
    let rest = threads_read final p (done ++ t ∷ []) ts later is (append_assoc done (t ∷ []) ts ∙ whole) all.1 h in
    let after = map line_of (flat_map (section_lines p.classes p.objects) ts) ++ later in
    let declared : List ThreadDef → ProgramText = λ us. record { classes = p.classes; objects = p.objects; threads = us } in
    let closed = subst (λ us. ReadsAs final (between (declared us) (done ++ t ∷ [])) after) (map-append closed_heading done (t ∷ [])) rest in
    let new = subst (λ ns. IsNew ns t.name) (same_names done) (new_in_middle (λ (u : SyncThreadText). u.name) done t ts p.threads whole is.thread_names) in
    subst (λ lines. ReadsAs final (between (with_threads p done) done) lines)
    (sym (lines-append (section_lines p.classes p.objects t) (flat_map (section_lines p.classes p.objects) ts) later))
    (section_read final (with_threads p done) t done (named_by p.classes p.objects t is.class_names is.object_names all.0) all.0 after new
    (omega (arith, length_front done t ts p.threads whole, length-map done closed_heading)) closed)

-- the empty line after the last line feed
last_line_read : (b : SyncBefore) → ReadsAs b b ([] ∷ [])
last_line_read b = record { at = λ n. refl }

abbrev declared : List ClassDef → List ObjectDef → SyncBefore
declared classes objects = between (record { classes = classes; objects = objects; threads = [] }) []

objects_read : (final : SyncBefore) (p : SyncText) (later : List (List ℕ)) → IsSyncText p → ReadsAs final (declared p.classes p.objects) later
    → ReadsAs final (declared p.classes []) (map line_of (map (object_words p.classes) p.objects) ++ later)
objects_read final p later is h =
    each_adds (ReadsAs final) (declared p.classes) (object_words p.classes) (λ d. Unit {0}) p.objects
    (λ done d todo rest e q k. line_read final _ _ rest (object_words p.classes d)
    (object_line _ _ [] p.classes d rest (object_line_among p.classes p.objects done d todo rest e is.class_names is.object_names is.objects is.objects_few)) k)
    [] p.objects later refl (each_unit p.objects) h

classes_read : (final : SyncBefore) (p : SyncText) (later : List (List ℕ)) → IsSyncText p → ReadsAs final (declared p.classes []) later
    → ReadsAs final (declared [] []) (map line_of (map class_words p.classes) ++ later)
classes_read final p later is h =
    let few = is.classes_few in
    each_adds (ReadsAs final) (λ done. declared done []) class_words (λ c. c.slots ≤ most_slots) p.classes
    (λ done c todo rest e q k. line_read final _ _ rest (class_words c)
    (class_line _ _ [] c rest (plain_line.class_line (record { classes = done; objects = []; threads = [] }) c rest
    (new_in_middle (λ (c : ClassDef). c.name) done c todo p.classes e is.class_names) q (omega (arith, length_front done c todo p.classes e)))) k)
    [] p.classes later refl is.class_slots h

-- what all lines declare
abbrev all_read : SyncText → SyncBefore
all_read p = between (with_threads p p.threads) p.threads

lines_read : (p : SyncText) → IsSyncText p → ReadsAs (all_read p) nothing_read (map line_of (sync_lines p) ++ [] ∷ [])
lines_read p is =
    let end = [] ∷ [] in
    let classes = map class_words p.classes in
    let objects = map (object_words p.classes) p.objects in
    let threads = flat_map (section_lines p.classes p.objects) p.threads in
    let in_threads = threads_read (all_read p) p [] p.threads end is refl is.threads (last_line_read (all_read p)) in
    let in_objects = objects_read (all_read p) p (map line_of threads ++ end) is in_threads in
    let in_classes = classes_read (all_read p) p (map line_of objects ++ (map line_of threads ++ end)) is in_objects in
    let joins = lines-append (classes ++ objects) threads end ∙ lines-append classes objects (map line_of threads ++ end) in
    subst (λ lines. ReadsAs (all_read p) nothing_read lines) (sym joins) in_classes

-- all lines are lines of words
sections_are_lines : (classes : List ClassDef) (ds : List ObjectDef) (ts : List SyncThreadText) → AreNames (map (λ c. c.name) classes)
    → AreNames (map (λ d. d.name) ds) → AreNames (map (λ t. t.name) ts)
    → AllByRecursion (IsSyncThread (length classes) (length ds)) ts → AreLines (flat_map (section_lines classes ds) ts)
sections_are_lines classes ds [] class_names names thread_names h = tt
sections_are_lines classes ds (t ∷ ts) class_names names thread_names h =
    let is = h.0 in
    let body = statement_lines classes ds (heading t) t.body in
    lines_after (section_lines classes ds t) (flat_map (section_lines classes ds) ts) (
      opening_is_words (heading t) thread_names.0,
      lines_after (map local_words t.locals) body (local_lines t.locals is.locals)
          (statements_are_lines classes ds t (named_by classes ds t class_names names is) t.body is.body),
    )
    (sections_are_lines classes ds ts class_names names thread_names.2 h.1)

all_lines : (p : SyncText) → IsSyncText p → AreLines (sync_lines p)
all_lines p is =
    lines_after (map class_words p.classes ++ map (object_words p.classes) p.objects) (flat_map (section_lines p.classes p.objects) p.threads)
    (lines_after (map class_words p.classes) (map (object_words p.classes) p.objects) (class_lines p.classes is.class_names is.class_slots)
    (object_lines p.classes 0 p.objects is.class_names is.object_names is.objects is.objects_few))
    (sections_are_lines p.classes p.objects p.threads is.class_names is.object_names is.thread_names is.threads)

sync_program_of_at : (p : SyncText) (text : List ℕ) → IsSyncText p → length text ≤ 1048576 → lines_of text ≡ map line_of (sync_lines p) ++ [] ∷ []
    → sync_program_of text ≡ Ok p
sync_program_of_at p text is short lines =
    let some = is.threads_some in
    let read : read_from 1 nothing_read (lines_of text) ≡ Ok (all_read p) = ap (read_from 1 nothing_read) lines ∙ (lines_read p is).at 1 in
    rw (le-ltb 1048576 (length text) short, read, ne_eqb (length p.threads) 0 (λ e. omega arith)) refl

pub sync_program_of-canonical : (p : SyncText) → IsSyncText p → length (canonical_sync p) ≤ 1048576 → sync_program_of (canonical_sync p) ≡ Ok p
sync_program_of-canonical p is short = sync_program_of_at p (canonical_sync p) is short (lines_of_text (sync_lines p) (all_lines p is))
