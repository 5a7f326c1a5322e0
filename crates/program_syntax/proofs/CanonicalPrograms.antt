-- The canonical text of a program is read as the program.
use Rattle.std.proofs.Common.{◌≡◌, ℕ, ◌+◌, ◌≤◌, true, List, [], ◌∷◌, ◌++◌, length, map, refl, ap, sym}
use Rattle.std.proofs.Common.{subst, ◌∙◌, arith, append_assoc, append-nil, Ok, le-ltb, ne_eqb}
use Rattle.std.specs.List.{AllByRecursion, flat_map}
use Rattle.plain_monitor.specs.Limits.{most_slots, most_objects}
use Rattle.object_program.specs.Name.{is_name}
use Rattle.object_program.specs.Program.{ProgramText, total_of}
use Rattle.object_program.specs.Valid.{AreNames, AreObjects, IsInstruction, IsThread, IsProgram}
use Rattle.program_syntax.specs.Reading.{Before, nothing}
use Rattle.program_syntax.specs.Refusal.{program_of, read_from, lines_of}
use Rattle.program_syntax.specs.Canonical.{canonical, program_lines, class_words, object_words, local_words}
use Rattle.program_syntax.specs.Canonical.{label_words, instruction_words, labels_at, code_lines, thread_lines}
use Rattle.object_program.specs.declared.program.ClassDef.{ClassDef}
use Rattle.object_program.specs.declared.program.ObjectDef.{ObjectDef}
use Rattle.object_program.specs.declared.program.LabelDef.{LabelDef}
use Rattle.object_program.specs.declared.program.Code.{Code}
use Rattle.object_program.specs.declared.program.ThreadDef.{ThreadDef}
use Rattle.program_syntax.proofs.CanonicalText.{line_of, AreLines, lines_of_text}
use Rattle.program_syntax.proofs.CanonicalReading.{ReadsAs}
use Rattle.program_syntax.proofs.CanonicalRuns.{new_in_middle, length_front, outside, class_is, classes_read, objects_read}
use Rattle.program_syntax.proofs.CanonicalWords.{class_is_words, object_is_words, opening_is_words, local_is_words, label_is_words}
use Rattle.program_syntax.proofs.CanonicalInstructions.{AreNamed, instruction_is_words}
use Rattle.program_syntax.proofs.CanonicalAhead.{IsLabelOf, labels_at_are, lines-append}
use Rattle.program_syntax.proofs.CanonicalSections.{section_read}

-- a program with these threads so far
abbrev with_threads : ProgramText → List ThreadDef → ProgramText
with_threads p done = record { classes = p.classes; objects = p.objects; threads = done }

named_by : (classes : List ClassDef) (ds : List ObjectDef) (t : ThreadDef) → AreNames (map (λ c. c.name) classes) → AreNames (map (λ d. d.name) ds)
    → IsThread (length classes) (length ds) t → AreNamed classes ds t
named_by classes ds t class_names names is =
    record { local_names = is.locals; label_names = is.labels; class_names = class_names; object_names = names }

threads_read : (final : Before) (p : ProgramText) (done todo : List ThreadDef) (later : List (List ℕ)) → IsProgram p → done ++ todo ≡ p.threads
    → AllByRecursion (IsThread (length p.classes) (length p.objects)) todo → ReadsAs final (outside p) later
    → ReadsAs final (outside (with_threads p done)) (map line_of (flat_map (thread_lines p.classes p.objects) todo) ++ later)
threads_read final p done [] later is whole all h =
    subst (λ (ts : List ThreadDef). ReadsAs final (outside (with_threads p ts)) later) (sym whole ∙ append-nil done) h
threads_read final p done (t ∷ ts) later is whole all h =
    let few = is.threads_few in
    let rest = threads_read final p (done ++ t ∷ []) ts later is (append_assoc done (t ∷ []) ts ∙ whole) all.1 h in
    let named = named_by p.classes p.objects t is.class_names is.object_names all.0 in
    subst (λ lines. ReadsAs final (outside (with_threads p done)) lines)
    (sym (lines-append (thread_lines p.classes p.objects t) (flat_map (thread_lines p.classes p.objects) ts) later))
    (section_read final (with_threads p done) t named all.0 (map line_of (flat_map (thread_lines p.classes p.objects) ts) ++ later)
    (new_in_middle (λ (t : ThreadDef). t.name) done t ts p.threads whole is.thread_names) (omega (arith, length_front done t ts p.threads whole)) rest)

-- the empty line after the last line feed
last_line_read : (p : ProgramText) → ReadsAs (outside p) (outside p) ([] ∷ [])
last_line_read p = record { at = λ n. refl }

lines_read : (p : ProgramText) → IsProgram p → ReadsAs (outside p) nothing (map line_of (program_lines p) ++ [] ∷ [])
lines_read p is =
    let end = [] ∷ [] in
    let classes = map class_words p.classes in
    let objects = map (object_words p.classes) p.objects in
    let threads = flat_map (thread_lines p.classes p.objects) p.threads in
    let in_threads = threads_read (outside p) p [] p.threads end is refl is.threads (last_line_read p) in
    let in_objects = objects_read (outside p) p.classes p.objects
    (map line_of threads ++ end) is.class_names is.object_names is.objects is.objects_few in_threads in
    let in_classes = classes_read (outside p) p.classes
    (map line_of objects ++ (map line_of threads ++ end)) is.class_names is.class_slots is.classes_few in_objects in
    let joined = lines-append (classes ++ objects) threads end ∙ lines-append classes objects (map line_of threads ++ end) in
    subst (λ lines. ReadsAs (outside p) nothing lines) (sym joined) in_classes

-- all lines are lines of words
pub lines_after : (xs ys : List (List (List ℕ))) → AreLines xs → AreLines ys → AreLines (xs ++ ys)
lines_after [] ys h k = k
lines_after (x ∷ xs) ys h k = (h.0, lines_after xs ys h.1 k)

pub class_lines : (classes : List ClassDef) → AreNames (map (λ c. c.name) classes)
    → AllByRecursion (λ c. c.slots ≤ most_slots) classes → AreLines (map class_words classes)
class_lines [] names slots = tt
class_lines (c ∷ cs) names slots = (class_is_words c names.0 slots.0, class_lines cs names.2 slots.1)

pub object_lines : (classes : List ClassDef) (n : ℕ) (objects : List ObjectDef) → AreNames (map (λ c. c.name) classes) → AreNames (map (λ d. d.name) objects)
    → AreObjects (length classes) n objects → total_of objects ≤ most_objects → AreLines (map (object_words classes) objects)
object_lines classes n [] class_names names are few = tt
object_lines classes n (d ∷ ds) class_names names are few =
    let class = class_is classes d class_names are.0.0 in
    (object_is_words classes d names.0 class.class_name_is (omega arith), object_lines classes (n + d.size) ds class_names names.2 are.1 (omega arith))

pub local_lines : (locals : List (List ℕ)) → AreNames locals → AreLines (map local_words locals)
local_lines [] names = tt
local_lines (x ∷ xs) names = (local_is_words x names.0, local_lines xs names.2)

label_lines : (n : ℕ) (labels : List LabelDef) → AllByRecursion (IsLabelOf n) labels → AreLines (map label_words labels)
label_lines n [] h = tt
label_lines n (l ∷ ls) h = (label_is_words l h.0.name_is, label_lines n ls h.1)

instruction_lines : (classes : List ClassDef) (ds : List ObjectDef) (t : ThreadDef) (named : AreNamed classes ds t) (n : ℕ) (cs : List Code)
    → AllByRecursion (IsInstruction (length classes) (length t.locals) (length ds) t.labels) cs → AreLines (code_lines classes ds t n cs)
instruction_lines classes ds t named n [] h = tt
instruction_lines classes ds t named n (c ∷ cs) h =
    lines_after (map label_words (labels_at n t.labels)) (instruction_words classes ds t c ∷ code_lines classes ds t (n + 1) cs)
    (label_lines n (labels_at n t.labels) (labels_at_are n t.labels named.label_names))
    (instruction_is_words classes ds t named c h.0, instruction_lines classes ds t named (n + 1) cs h.1)

section_lines : (classes : List ClassDef) (ds : List ObjectDef) (t : ThreadDef) → AreNames (map (λ c. c.name) classes) → AreNames (map (λ d. d.name) ds)
    → is_name t.name ≡ true → IsThread (length classes) (length ds) t → AreLines (thread_lines classes ds t)
section_lines classes ds t class_names names name is = (
  opening_is_words t name,
  lines_after (map local_words t.locals) (code_lines classes ds t 1 t.code) (local_lines t.locals is.locals)
      (instruction_lines classes ds t (named_by classes ds t class_names names is) 1 t.code is.code),
)

all_section_lines : (classes : List ClassDef) (ds : List ObjectDef) (ts : List ThreadDef) → AreNames (map (λ c. c.name) classes)
    → AreNames (map (λ d. d.name) ds) → AreNames (map (λ t. t.name) ts)
    → AllByRecursion (IsThread (length classes) (length ds)) ts → AreLines (flat_map (thread_lines classes ds) ts)
all_section_lines classes ds [] class_names names thread_names h = tt
all_section_lines classes ds (t ∷ ts) class_names names thread_names h =
    lines_after (thread_lines classes ds t) (flat_map (thread_lines classes ds) ts) (section_lines classes ds t class_names names thread_names.0 h.0)
    (all_section_lines classes ds ts class_names names thread_names.2 h.1)

all_lines : (p : ProgramText) → IsProgram p → AreLines (program_lines p)
all_lines p is =
    lines_after (map class_words p.classes ++ map (object_words p.classes) p.objects) (flat_map (thread_lines p.classes p.objects) p.threads)
    (lines_after (map class_words p.classes) (map (object_words p.classes) p.objects) (class_lines p.classes is.class_names is.class_slots)
    (object_lines p.classes 0 p.objects is.class_names is.object_names is.objects is.objects_few))
    (all_section_lines p.classes p.objects p.threads is.class_names is.object_names is.thread_names is.threads)

program_of_at : (p : ProgramText) (text : List ℕ) → IsProgram p → length text ≤ 1048576 → lines_of text ≡ map line_of (program_lines p) ++ [] ∷ []
    → program_of text ≡ Ok p
program_of_at p text is short lines =
    let some = is.threads_some in
    let read : read_from 1 nothing (lines_of text) ≡ Ok (outside p) = ap (read_from 1 nothing) lines ∙ (lines_read p is).at 1 in
    rw (le-ltb 1048576 (length text) short, read, ne_eqb (length p.threads) 0 (λ e. omega arith)) refl

pub program_of-canonical : (p : ProgramText) → IsProgram p → length (canonical p) ≤ 1048576 → program_of (canonical p) ≡ Ok p
program_of-canonical p is short = program_of_at p (canonical p) is short (lines_of_text (program_lines p) (all_lines p is))
