-- Each instruction of a canonical text is read as that instruction.
use Rattle.std.proofs.Common.{◌≡◌, ℕ, ◌-◌, ◌<◌, ◌==◌, true, false, List, [], ◌∷◌, ◌++◌, length, map, refl, ap, ap₂, sym, subst, ◌∙◌, arith, drop, Some, ℤ, pos}
use Rattle.std.specs.Prelude.{decimal, unwrap_or}
use Rattle.std.specs.Fmt.{signed_decimal}
use Rattle.std.specs.List.{AllByRecursion}
use Rattle.std.proofs.lemmas.Bool.{lt-leb}
use Rattle.std.proofs.lemmas.List.{length-map}
use Rattle.plain_monitor.specs.Limits.{most_slots}
use Rattle.plain_monitor.specs.Numbers.{least_number, greatest_number}
use Rattle.object_program.specs.Limits.{most_code}
use Rattle.object_program.specs.Name.{is_name}
use Rattle.program_syntax.specs.Number.{number_of}
use Rattle.object_program.specs.Program.{ProgramText}
use Rattle.object_program.specs.Valid.{is_among, AreNames, is_target, IsInstruction}
use Rattle.program_syntax.specs.Line.{a_local, a_slot, operands_of}
use Rattle.program_syntax.specs.Reading.{Before, first_keyword, number_among, target_among, section_labels, instruction_on, section_after, after_words}
use Rattle.program_syntax.specs.Refusal.{passes_limit, code_full, opens_unclosed, is_in_place, keyword_cause, words_cause}
use Rattle.program_syntax.specs.Canonical.{class_name, object_name, local_name, label_name, instruction_words}
use Rattle.object_program.specs.declared.program.ClassDef.{ClassDef}
use Rattle.object_program.specs.declared.program.ObjectDef.{ObjectDef}
use Rattle.object_program.specs.declared.program.LabelDef.{LabelDef}
use Rattle.object_program.specs.declared.program.ThreadDef.{ThreadDef}
use Rattle.object_program.specs.declared.program.Code.{Code}
use Rattle.object_program.specs.declared.program.Code.TheVariants as code
use Rattle.program_syntax.specs.declared.operand.Space.TheVariants.{Classes, Objects, Locals, Labels}
use Rattle.program_syntax.specs.declared.operand.Operand.{Operand}
use Rattle.program_syntax.specs.declared.operand.Operand.TheVariants.{Known, Number}
use Rattle.program_syntax.proofs.CanonicalText.{is_word, AreWords, line_of}
use Rattle.program_syntax.proofs.CanonicalNames.{name_word, nth_is_name, nth_is_among, number_among-nth, label_is_among, label_is_name, target_among-label}
use Rattle.program_syntax.proofs.CanonicalNumbers.{decimal_word, signed_word, value_of_decimal, value_of_signed}
use Rattle.program_syntax.proofs.CanonicalReading.{IsGood, AreGood, good_known, good_decimal, good_signed, IsAllowedLine, no_cause, ReadsAs, read_line}
use Rattle.program_syntax.proofs.CanonicalRuns.{opened}
use Rattle.program_syntax.proofs.Rows.{Part, OfLocal, OfObject, OfClass, OfLabel, OfSlot, OfValue, keyword_for, parts_of, made_of, IsIn, operands_in}

-- what a line of a canonical text has after its keyword
abbrev pub operand_words : List ClassDef → List ObjectDef → ThreadDef → Code → List (List ℕ)
operand_words classes ds t c = drop 1 (instruction_words classes ds t c)

words_cause-instruction : (b : Before) (later : List (List ℕ)) (classes : List ClassDef) (ds : List ObjectDef) (t : ThreadDef) (c : Code)
    → words_cause b later (instruction_words classes ds t c) ≡ keyword_cause b later (operand_words classes ds t c) (Some (keyword_for c))
words_cause-instruction b later classes ds t code.End = refl
words_cause-instruction b later classes ds t c = refl

after_words-instruction : (p : ProgramText) (s : ThreadDef) (later : List (List ℕ)) (classes : List ClassDef) (ds : List ObjectDef) (t : ThreadDef) (c : Code)
    → after_words (opened p s) later (instruction_words classes ds t c) (first_keyword (instruction_words classes ds t c))
    ≡ section_after p (record s { code = s.code ++ instruction_on p s later (operand_words classes ds t c) (keyword_for c) ∷ [] }) (keyword_for c)
after_words-instruction p s later classes ds t code.End = refl
after_words-instruction p s later classes ds t c = refl

operands_number : (classes : List ClassDef) (ds : List ObjectDef) (t : ThreadDef) (c : Code)
    → (length (operand_words classes ds t c) == length (operands_of (keyword_for c))) ≡ true
operands_number classes ds t code.End = refl
operands_number classes ds t c = refl

in_place : (p : ProgramText) (s : ThreadDef) (c : Code) → is_in_place (opened p s) (keyword_for c) ≡ true
in_place p s code.End = refl
in_place p s c = refl

limit_of_code : (b : Before) (ws : List (List ℕ)) (c : Code) → passes_limit b ws (keyword_for c) ≡ code_full b.section
limit_of_code b ws code.End = refl
limit_of_code b ws c = refl

opens_nothing : (later : List (List ℕ)) (c : Code) → opens_unclosed later (keyword_for c) ≡ false
opens_nothing later code.End = refl
opens_nothing later c = refl

-- the names of a thread, and of the classes and objects that it uses
pub record AreNamed (classes : List ClassDef) (objects : List ObjectDef) (t : ThreadDef) : Type 0 where
  pub local_names : AreNames t.locals
  pub label_names : AreNames (map (λ l. l.name) t.labels)
  pub class_names : AreNames (map (λ c. c.name) classes)
  pub object_names : AreNames (map (λ d. d.name) objects)

abbrev IsAllowed : List ClassDef → List ObjectDef → ThreadDef → Code → Type 0
IsAllowed classes ds t c = IsInstruction (length classes) (length t.locals) (length ds) t.labels c

-- how an operand is written, what a line wants in its place, and its number
abbrev written : List ClassDef → List ObjectDef → ThreadDef → Part → List ℕ
written classes ds t (OfLocal x) = local_name t.locals x
written classes ds t (OfObject n) = object_name ds n
written classes ds t (OfClass c) = class_name classes c
written classes ds t (OfLabel l) = label_name t.labels l
written classes ds t (OfSlot k) = decimal k
written classes ds t (OfValue v) = signed_decimal v

abbrev wanted : Part → Operand
wanted (OfLocal x) = a_local
wanted (OfObject n) = Known Objects
wanted (OfClass c) = Known Classes
wanted (OfLabel l) = Known Labels
wanted (OfSlot k) = a_slot
wanted (OfValue v) = Number least_number greatest_number

abbrev number_of_part : Part → ℤ
number_of_part (OfLocal x) = pos x
number_of_part (OfObject n) = pos n
number_of_part (OfClass c) = pos c
number_of_part (OfLabel l) = pos l
number_of_part (OfSlot k) = pos k
number_of_part (OfValue v) = v

abbrev IsOperand : List ClassDef → List ObjectDef → ThreadDef → Part → Type 0
IsOperand classes ds t q = IsIn (length classes) (length t.locals) (length ds) t.labels q

module _ (classes : List ClassDef) (ds : List ObjectDef) (t : ThreadDef) (named : AreNamed classes ds t) where
  pub local_is_name : (x : ℕ) → x < length t.locals → is_name (local_name t.locals x) ≡ true
  local_is_name x h = nth_is_name t.locals x named.local_names h

  object_in : (n : ℕ) → n < length ds → n < length (map (λ (d : ObjectDef). d.name) ds)
  object_in n h = omega (arith, length-map ds (λ (d : ObjectDef). d.name))

  object_is_name : (n : ℕ) → n < length ds → is_name (object_name ds n) ≡ true
  object_is_name n h = nth_is_name (map (λ (d : ObjectDef). d.name) ds) n named.object_names (object_in n h)

  class_in : (c : ℕ) → c < length classes → c < length (map (λ (d : ClassDef). d.name) classes)
  class_in c h = omega (arith, length-map classes (λ (d : ClassDef). d.name))

  class_is_name : (c : ℕ) → c < length classes → is_name (class_name classes c) ≡ true
  class_is_name c h = nth_is_name (map (λ (d : ClassDef). d.name) classes) c named.class_names (class_in c h)

  target_is_name : (l : ℕ) → is_target t.labels l ≡ true → is_name (label_name t.labels l) ≡ true
  target_is_name l h = label_is_name t.labels l named.label_names h

  pub local_word : (x : ℕ) → x < length t.locals → is_word (local_name t.locals x) ≡ true
  local_word x h = name_word (local_name t.locals x) (local_is_name x h)

  operand_word : (q : Part) → IsOperand classes ds t q → is_word (written classes ds t q) ≡ true
  operand_word (OfLocal x) h = local_word x h
  operand_word (OfObject n) h = name_word (object_name ds n) (object_is_name n h)
  operand_word (OfClass c) h = name_word (class_name classes c) (class_is_name c h)
  operand_word (OfLabel l) h = name_word (label_name t.labels l) (target_is_name l h)
  operand_word (OfSlot k) h = decimal_word k (omega arith)
  operand_word (OfValue v) h = signed_word v h

  operands_are_words : (qs : List Part) → AllByRecursion (IsOperand classes ds t) qs → AreWords (map (written classes ds t) qs)
  operands_are_words [] h = tt
  operands_are_words (q ∷ qs) h = (operand_word q h.0, operands_are_words qs h.1)

  -- the operands of an instruction are those that its row has
  operands_of_row : (c : Code) → IsAllowed classes ds t c → AllByRecursion (IsOperand classes ds t) (parts_of c)
  operands_of_row c h = operands_in (length classes) (length t.locals) (length ds) t.labels c h

  pub instruction_is_words : (c : Code) → IsAllowed classes ds t c → AreWords (instruction_words classes ds t c)
  instruction_is_words code.End h = (refl, tt)
  instruction_is_words c h = (refl, operands_are_words (parts_of c) (operands_of_row c h))

-- a thread with these labels and this code so far
abbrev pub so_far : ThreadDef → List LabelDef → List Code → ThreadDef
so_far t labels done = record { name = t.name; locals = t.locals; labels = labels; code = done }

-- an instruction's line, where the labels before it and after it are all labels of its thread
module _ (p : ProgramText) (t : ThreadDef) (named : AreNamed p.classes p.objects t) (before : List LabelDef) (done : List Code) (later : List (List ℕ))
    (all_labels : section_labels (so_far t before done) later ≡ t.labels) (room : length done < most_code) where
  abbrev here : Before
  here = opened p (so_far t before done)

  label_among : (l : ℕ) → is_target t.labels l ≡ true
      → is_among (map (λ (d : LabelDef). d.name) (section_labels (so_far t before done) later)) (label_name t.labels l) ≡ true
  label_among l h =
      subst (λ (ls : List LabelDef). is_among (map (λ (d : LabelDef). d.name) ls) (label_name t.labels l) ≡ true) (sym all_labels) (label_is_among t.labels l h)

  operand_good : (q : Part) → IsOperand p.classes p.objects t q → IsGood here later (wanted q) (written p.classes p.objects t q)
  operand_good (OfLocal x) h = good_known here later Locals (local_name t.locals x) (local_is_name p.classes p.objects t named x h) (nth_is_among t.locals x h)
  operand_good (OfObject n) h =
      good_known here later Objects (object_name p.objects n) (object_is_name p.classes p.objects t named n h)
      (nth_is_among (map (λ (d : ObjectDef). d.name) p.objects) n (object_in p.classes p.objects t named n h))
  operand_good (OfClass c) h =
      good_known here later Classes (class_name p.classes c) (class_is_name p.classes p.objects t named c h)
      (nth_is_among (map (λ (d : ClassDef). d.name) p.classes) c (class_in p.classes p.objects t named c h))
  operand_good (OfLabel l) h = good_known here later Labels (label_name t.labels l) (target_is_name p.classes p.objects t named l h) (label_among l h)
  operand_good (OfSlot k) h = good_decimal here later 0 (most_slots - 1) k (omega arith) (omega arith) (omega arith)
  operand_good (OfValue v) h = good_signed here later v h

  all_good : (qs : List Part) → AllByRecursion (IsOperand p.classes p.objects t) qs
      → AreGood here later (map wanted qs) (map (written p.classes p.objects t) qs)
  all_good [] h = tt
  all_good (q ∷ qs) h = (operand_good q h.0, all_good qs h.1)

  operands_good : (c : Code) → IsAllowed p.classes p.objects t c → AreGood here later (operands_of (keyword_for c)) (operand_words p.classes p.objects t c)
  operands_good code.End h = tt
  operands_good c h = all_good (parts_of c) (operands_of_row p.classes p.objects t named c h)

  -- the number that a line has in an operand's place
  abbrev read : Operand → List ℕ → ℤ
  read (Known Locals) w = pos (number_among t.locals w)
  read (Known Objects) w = pos (number_among (map (λ (d : ObjectDef). d.name) p.objects) w)
  read (Known Classes) w = pos (number_among (map (λ (d : ClassDef). d.name) p.classes) w)
  read (Known Labels) w = pos (target_among (section_labels (so_far t before done) later) w)
  read o w = unwrap_or (number_of w) (pos 0)

  operand_read : (q : Part) → IsOperand p.classes p.objects t q → read (wanted q) (written p.classes p.objects t q) ≡ number_of_part q
  operand_read (OfLocal x) h = ap pos (number_among-nth t.locals x named.local_names h)
  operand_read (OfObject n) h =
      ap pos (number_among-nth (map (λ (d : ObjectDef). d.name) p.objects) n named.object_names (object_in p.classes p.objects t named n h))
  operand_read (OfClass c) h =
      ap pos (number_among-nth (map (λ (d : ClassDef). d.name) p.classes) c named.class_names (class_in p.classes p.objects t named c h))
  operand_read (OfLabel l) h = ap pos (subst (λ (ls : List LabelDef). target_among ls (label_name t.labels l) ≡ l) (sym all_labels)
      (target_among-label t.labels l named.label_names h))
  operand_read (OfSlot k) h = value_of_decimal k (omega arith)
  operand_read (OfValue v) h = value_of_signed v h

  all_read : (qs : List Part) → AllByRecursion (IsOperand p.classes p.objects t) qs
      → map (λ q. read (wanted q) (written p.classes p.objects t q)) qs ≡ map number_of_part qs
  all_read [] h = refl
  all_read (q ∷ qs) h = ap₂ ◌∷◌ (operand_read q h.0) (all_read qs h.1)

  pub instruction_meant : (c : Code) → IsAllowed p.classes p.objects t c
      → instruction_on p (so_far t before done) later (operand_words p.classes p.objects t c) (keyword_for c) ≡ c
  instruction_meant code.End h = refl
  instruction_meant c h = ap (made_of (keyword_for c)) (all_read (parts_of c) (operands_of_row p.classes p.objects t named c h))

  pub instruction_allowed : (c : Code) → IsAllowed p.classes p.objects t c → IsAllowedLine here later (operand_words p.classes p.objects t c) (keyword_for c)
  instruction_allowed c h = record {
    place = in_place p (so_far t before done) c;
    number = operands_number p.classes p.objects t c;
    operands = operands_good c h;
    limit = limit_of_code here (operand_words p.classes p.objects t c) c ∙ lt-leb most_code (length done) room;
    closed = opens_nothing later c;
  }

  pub instruction_read : (final : Before) (c : Code) → IsAllowed p.classes p.objects t c
      → ReadsAs final (section_after p (so_far t before (done ++ c ∷ [])) (keyword_for c)) later
      → ReadsAs final here (line_of (instruction_words p.classes p.objects t c) ∷ later)
  instruction_read final c h k =
      read_line final here (section_after p (so_far t before (done ++ c ∷ [])) (keyword_for c)) later (instruction_words p.classes p.objects t c)
      (instruction_is_words p.classes p.objects t named c h)
      (words_cause-instruction here later p.classes p.objects t c
      ∙ no_cause here later (operand_words p.classes p.objects t c) (keyword_for c) (instruction_allowed c h))
      (after_words-instruction p (so_far t before done) later p.classes p.objects t c
      ∙ ap (λ (x : Code). section_after p (so_far t before (done ++ x ∷ [])) (keyword_for c)) (instruction_meant c h))
      k
