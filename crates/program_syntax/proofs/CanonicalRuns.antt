-- Lines of one kind in a row, each of which declares one thing more.
use Rattle.std.proofs.Common.{◌≡◌, ℕ, ◌+◌, ◌<◌, ◌≤◌, Bool, true, false, List, [], ◌∷◌, ◌++◌, length, map, refl, ap, sym}
use Rattle.std.proofs.Common.{subst, ◌∙◌, arith, append_assoc, append-nil, length-append, Some, None, pos, codes, le-ltb}
use Rattle.std.specs.Prelude.{decimal, nat_abs, unwrap_or}
use Rattle.std.specs.List.{AllByRecursion}
use Rattle.std.proofs.lemmas.Bool.{lt-leb}
use Rattle.std.proofs.lemmas.List.{map-append, length-map}
use Rattle.plain_monitor.specs.Limits.{most_slots, most_objects, most_classes}
use Rattle.object_program.specs.Limits.{most_locals}
use Rattle.object_program.specs.Name.{is_name}
use Rattle.program_syntax.specs.Number.{number_of}
use Rattle.object_program.specs.Program.{ProgramText, total_of}
use Rattle.object_program.specs.Valid.{is_among, AreNames, AreObjects}
use Rattle.program_syntax.specs.Reading.{Before, number_among}
use Rattle.program_syntax.specs.Canonical.{class_name, class_words, object_words, local_words, label_words}
use Rattle.object_program.specs.declared.program.ClassDef.{ClassDef}
use Rattle.object_program.specs.declared.program.ObjectDef.{ObjectDef}
use Rattle.object_program.specs.declared.program.LabelDef.{LabelDef}
use Rattle.object_program.specs.declared.program.ThreadDef.{ThreadDef}
use Rattle.program_syntax.specs.declared.operand.Space.TheVariants.{Classes, Objects, Locals, Labels}
use Rattle.program_syntax.specs.declared.keyword.Keyword.TheVariants.{Class, Object, Array, Local, Label}
use Rattle.program_syntax.proofs.CanonicalText.{line_of}
use Rattle.program_syntax.proofs.CanonicalNames.{name_after, new_after, nth_is_name, nth_is_among, number_among-nth}
use Rattle.program_syntax.proofs.CanonicalNumbers.{count_of_decimal}
use Rattle.program_syntax.proofs.CanonicalWords.{class_is_words, array_is_words, single_is_words, local_is_words, label_is_words}
use Rattle.program_syntax.proofs.CanonicalReading.{good_new, good_known, good_decimal, no_cause, ReadsAs, read_line, IsRead, line_read}

-- where each line adds what it was written for, all lines add all that they were written for
pub each_adds : {X S : Type 0} (Reads : S → List (List ℕ) → Type 0) (state : List X → S) (words : X → List (List ℕ)) (Q : X → Type 0) (whole : List X)
    → ((done : List X) (x : X) (todo : List X) (later : List (List ℕ)) → done ++ x ∷ todo ≡ whole → Q x
    → Reads (state (done ++ x ∷ [])) later → Reads (state done) (line_of (words x) ∷ later))
    → (done todo : List X) (later : List (List ℕ)) → done ++ todo ≡ whole → AllByRecursion Q todo
    → Reads (state whole) later → Reads (state done) (map line_of (map words todo) ++ later)
each_adds Reads state words Q whole step done [] later e q h =
    subst (λ xs. Reads (state xs) later) (sym e ∙ append-nil done) h
each_adds Reads state words Q whole step done (x ∷ xs) later e q h =
    step done x xs (map line_of (map words xs) ++ later) e q.0
    (each_adds Reads state words Q whole step (done ++ x ∷ []) xs later (append_assoc done (x ∷ []) xs ∙ e) q.1 h)

-- a name in the middle of names
pub record IsNew (names : List (List ℕ)) (name : List ℕ) : Type 0 where
  pub name_is : is_name name ≡ true
  pub new : is_among names name ≡ false

pub new_among : (done : List (List ℕ)) (name : List ℕ) (todo whole : List (List ℕ)) → done ++ name ∷ todo ≡ whole → AreNames whole → IsNew done name
new_among done name todo whole e h =
    let k = subst AreNames (sym e) h in
    record { name_is = name_after done name todo k; new = new_after done name todo k }

pub new_in_middle : {X : Type 0} (name_of : X → List ℕ) (done : List X) (x : X) (todo whole : List X) → done ++ x ∷ todo ≡ whole → AreNames (map name_of whole)
    → IsNew (map name_of done) (name_of x)
new_in_middle name_of done x todo whole e h =
    new_among (map name_of done) (name_of x) (map name_of todo) (map name_of whole) (sym (map-append name_of done (x ∷ todo)) ∙ ap (map name_of) e) h

pub length_front : {X : Type 0} (done : List X) (x : X) (todo whole : List X) → done ++ x ∷ todo ≡ whole → length done < length whole
length_front done x todo whole e = omega (arith, length-append done (x ∷ todo), ap length e)

-- no section is open
abbrev pub outside : ProgramText → Before
outside p = record { text = p; section = None }

abbrev pub opened : ProgramText → ThreadDef → Before
opened p t = record { text = p; section = Some t }

pub class_line : (p : ProgramText) (c : ClassDef) (later : List (List ℕ))
    → IsNew (map (λ c. c.name) p.classes) c.name → c.slots ≤ most_slots → length p.classes < most_classes
    → IsRead (outside p) (outside (record p { classes = p.classes ++ c ∷ [] })) later (class_words c)
class_line p c later new slots few =
    let count = count_of_decimal c.slots (omega arith) in
    record {
      words = class_is_words c new.name_is slots;
      cause = no_cause (outside p) later (c.name ∷ decimal c.slots ∷ []) Class (record {
        place = refl;
        number = refl;
        operands = (
          good_new (outside p) later Classes c.name new.name_is new.new,
          (good_decimal (outside p) later 0 most_slots c.slots (omega arith) slots (omega arith), tt),
        );
        limit = lt-leb most_classes (length p.classes) few;
        closed = refl;
      });
      after = ap (λ (n : ℕ). outside (record p { classes = p.classes ++ record { name = c.name; slots = n } ∷ [] })) count;
    }

pub classes_read : (final : Before) (classes : List ClassDef) (later : List (List ℕ))
    → AreNames (map (λ c. c.name) classes) → AllByRecursion (λ c. c.slots ≤ most_slots) classes → length classes ≤ most_classes
    → ReadsAs final (outside (record { classes = classes; objects = []; threads = [] })) later
    → ReadsAs final (outside (record { classes = []; objects = []; threads = [] })) (map line_of (map class_words classes) ++ later)
classes_read final classes later names slots few h =
    each_adds (ReadsAs final) (λ done. outside (record { classes = done; objects = []; threads = [] })) class_words (λ c. c.slots ≤ most_slots) classes
    (λ done c todo rest e q k. line_read final _ _ rest (class_words c) (class_line (record { classes = done; objects = []; threads = [] }) c rest
    (new_in_middle (λ (c : ClassDef). c.name) done c todo classes e names) q (omega (arith, length_front done c todo classes e))) k)
    [] classes later refl slots h

-- what a declaration of objects is, in the middle of declarations
pub record IsDeclared (classes first : ℕ) (d : ObjectDef) : Type 0 where
  pub known : d.class < classes
  pub numbered : d.first ≡ first
  pub some : 1 ≤ d.size
  pub one : d.array ≡ false → d.size ≡ 1

pub object_in_middle : (classes n : ℕ) (done : List ObjectDef) (d : ObjectDef) (todo : List ObjectDef) → AreObjects classes n (done ++ d ∷ todo)
    → IsDeclared classes (n + total_of done) d
object_in_middle classes n [] d todo h =
    record { known = h.0.0; numbered = omega (arith, h.0.1); some = h.0.2; one = h.0.3 }
object_in_middle classes n (x ∷ done) d todo h =
    let k = object_in_middle classes (n + x.size) done d todo h.1 in
    record { known = k.known; numbered = omega (arith, k.numbered); some = k.some; one = k.one }

pub total_of-middle : (done : List ObjectDef) (d : ObjectDef) (todo : List ObjectDef) → total_of done + d.size ≤ total_of (done ++ d ∷ todo)
total_of-middle [] d todo = omega arith
total_of-middle (x ∷ done) d todo = omega (arith, total_of-middle done d todo)

rebuilt : (d : ObjectDef) (class first size : ℕ) (array : Bool) → class ≡ d.class → first ≡ d.first → size ≡ d.size → array ≡ d.array
    → record { name = d.name; class = class; first = first; size = size; array = array } ≡ d
rebuilt d class first size array e f g h = rw (e, f, g, h) refl

-- the state with these declarations of objects
abbrev declared : List ClassDef → List ObjectDef → Before
declared classes objects = outside (record { classes = classes; objects = objects; threads = [] })

-- the class of a declaration is found by its name
pub record IsOfClass (classes : List ClassDef) (d : ObjectDef) : Type 0 where
  pub class_name_is : is_name (class_name classes d.class) ≡ true
  class_known : is_among (map (λ c. c.name) classes) (class_name classes d.class) ≡ true
  class_found : number_among (map (λ c. c.name) classes) (class_name classes d.class) ≡ d.class

pub class_is : (classes : List ClassDef) (d : ObjectDef) → AreNames (map (λ c. c.name) classes) → d.class < length classes → IsOfClass classes d
class_is classes d names lt =
    let k : d.class < length (map (λ (c : ClassDef). c.name) classes) = omega (arith, length-map classes (λ (c : ClassDef). c.name)) in
    record {
      class_name_is = nth_is_name (map (λ (c : ClassDef). c.name) classes) d.class names k;
      class_known = nth_is_among (map (λ (c : ClassDef). c.name) classes) d.class k;
      class_found = number_among-nth (map (λ (c : ClassDef). c.name) classes) d.class names k;
    }

-- the number of a line's digits
abbrev count_of : ℕ → ℕ
count_of n = nat_abs (unwrap_or (number_of (decimal n)) (pos 0))

array_line : (classes : List ClassDef) (done : List ObjectDef) (d : ObjectDef) (later : List (List ℕ)) → d.array ≡ true
    → IsNew (map (λ d. d.name) done) d.name → IsOfClass classes d → IsDeclared (length classes) (total_of done) d → total_of done + d.size ≤ most_objects
    → IsRead (declared classes done) (declared classes (done ++ d ∷ [])) later (codes "array" ∷ d.name ∷ class_name classes d.class ∷ decimal d.size ∷ [])
array_line classes done d later e new class is few =
    let b = declared classes done in
    let size = count_of_decimal d.size (omega arith) in
    let same = rebuilt d (number_among (map (λ (c : ClassDef). c.name) classes) (class_name classes d.class))
    (total_of done) (count_of d.size) true class.class_found (sym is.numbered) size (sym e) in
    record {
      words = array_is_words classes d new.name_is class.class_name_is (omega arith);
      cause = no_cause b later (d.name ∷ class_name classes d.class ∷ decimal d.size ∷ []) Array (record {
        place = refl;
        number = refl;
        operands = (
          good_new b later Objects d.name new.name_is new.new,
          (
            good_known b later Classes (class_name classes d.class) class.class_name_is class.class_known,
            (good_decimal b later 1 most_objects d.size is.some (omega arith) (omega arith), tt),
          ),
        );
        limit = let m : total_of done + count_of d.size ≤ most_objects = omega (arith, size) in le-ltb most_objects (total_of done + count_of d.size) m;
        closed = refl;
      });
      after = ap (λ x. declared classes (done ++ x ∷ [])) same;
    }

object_line : (classes : List ClassDef) (done : List ObjectDef) (d : ObjectDef) (later : List (List ℕ)) → d.array ≡ false
    → IsNew (map (λ d. d.name) done) d.name → IsOfClass classes d → IsDeclared (length classes) (total_of done) d → total_of done + d.size ≤ most_objects
    → IsRead (declared classes done) (declared classes (done ++ d ∷ [])) later (codes "object" ∷ d.name ∷ class_name classes d.class ∷ [])
object_line classes done d later e new class is few =
    let b = declared classes done in
    let size = is.one e in
    let same = rebuilt d (number_among (map (λ (c : ClassDef). c.name) classes) (class_name classes d.class))
    (total_of done) 1 false class.class_found (sym is.numbered) (sym size) (sym e) in
    record {
      words = single_is_words classes d new.name_is class.class_name_is;
      cause = no_cause b later (d.name ∷ class_name classes d.class ∷ []) Object (record {
        place = refl;
        number = refl;
        operands = (
          good_new b later Objects d.name new.name_is new.new,
          (good_known b later Classes (class_name classes d.class) class.class_name_is class.class_known, tt),
        );
        limit = le-ltb most_objects (total_of done + 1) (omega arith);
        closed = refl;
      });
      after = ap (λ x. declared classes (done ++ x ∷ [])) same;
    }

declaration_line : (classes : List ClassDef) (done : List ObjectDef) (d : ObjectDef) (later : List (List ℕ)) (b : Bool) → d.array ≡ b
    → IsNew (map (λ d. d.name) done) d.name → IsOfClass classes d → IsDeclared (length classes) (total_of done) d → total_of done + d.size ≤ most_objects
    → IsRead (declared classes done) (declared classes (done ++ d ∷ [])) later (object_words classes d)
declaration_line classes done d later true e new class is few =
    let words : object_words classes d ≡ codes "array" ∷ d.name ∷ class_name classes d.class ∷ decimal d.size ∷ [] = rw e refl in
    subst (IsRead (declared classes done) (declared classes (done ++ d ∷ [])) later) (sym words) (array_line classes done d later e new class is few)
declaration_line classes done d later false e new class is few =
    let words : object_words classes d ≡ codes "object" ∷ d.name ∷ class_name classes d.class ∷ [] = rw e refl in
    subst (IsRead (declared classes done) (declared classes (done ++ d ∷ [])) later) (sym words) (object_line classes done d later e new class is few)

at_zero : (classes n : ℕ) (d : ObjectDef) → IsDeclared classes (0 + n) d → IsDeclared classes n d
at_zero classes n d h =
    record { known = h.known; numbered = omega (arith, h.numbered); some = h.some; one = h.one }

pub each_unit : {X : Type 0} (xs : List X) → AllByRecursion (λ x. Unit {0}) xs
each_unit [] = tt
each_unit (x ∷ xs) = (tt, each_unit xs)

-- a declaration of objects in the middle of these declarations
pub object_line_among : (classes : List ClassDef) (objects done : List ObjectDef)
    (d : ObjectDef) (todo : List ObjectDef) (later : List (List ℕ)) → done ++ d ∷ todo ≡ objects
    → AreNames (map (λ c. c.name) classes) → AreNames (map (λ d. d.name) objects) → AreObjects (length classes) 0 objects → total_of objects ≤ most_objects
    → IsRead (declared classes done) (declared classes (done ++ d ∷ [])) later (object_words classes d)
object_line_among classes objects done d todo later e class_names names are few =
    let is = object_in_middle (length classes) 0 done d todo (subst (AreObjects (length classes) 0) (sym e) are) in
    let total : total_of (done ++ d ∷ todo) ≤ most_objects = rw e few in
    declaration_line classes done d later d.array refl
    (new_in_middle (λ (d : ObjectDef). d.name) done d todo objects e names) (class_is classes d class_names is.known)
    (at_zero (length classes) (total_of done) d is)
    (omega (arith, total_of-middle done d todo))

pub objects_read : (final : Before) (classes : List ClassDef) (objects : List ObjectDef) (later : List (List ℕ))
    → AreNames (map (λ c. c.name) classes) → AreNames (map (λ d. d.name) objects)
    → AreObjects (length classes) 0 objects → total_of objects ≤ most_objects → ReadsAs final (declared classes objects) later
    → ReadsAs final (declared classes []) (map line_of (map (object_words classes) objects) ++ later)
objects_read final classes objects later class_names names are few h =
    each_adds (ReadsAs final) (λ done. declared classes done) (object_words classes) (λ d. Unit {0}) objects
    (λ done d todo rest e q k. line_read final _ _ rest (object_words classes d)
    (object_line_among classes objects done d todo rest e class_names names are few) k)
    [] objects later refl (each_unit objects) h

-- a local, and a label of the next instruction
pub local_line : (p : ProgramText) (t : ThreadDef) (name : List ℕ) (later : List (List ℕ)) → IsNew t.locals name → length t.locals < most_locals
    → IsRead (opened p t) (opened p (record t { locals = t.locals ++ name ∷ [] })) later (local_words name)
local_line p t name later new few = record {
  words = local_is_words name new.name_is;
  cause = no_cause (opened p t) later (name ∷ []) Local (record {
    place = refl;
    number = refl;
    operands = (good_new (opened p t) later Locals name new.name_is new.new, tt);
    limit = lt-leb most_locals (length t.locals) few;
    closed = refl;
  });
  after = refl;
}

pub label_read : (final : Before) (p : ProgramText) (t : ThreadDef) (l : LabelDef) (later : List (List ℕ))
    → IsNew (map (λ l. l.name) t.labels) l.name → l.index ≡ length t.code + 1
    → ReadsAs final (opened p (record t { labels = t.labels ++ l ∷ [] })) later → ReadsAs final (opened p t) (line_of (label_words l) ∷ later)
label_read final p t l later new index h =
    read_line final (opened p t) (opened p (record t { labels = t.labels ++ l ∷ [] })) later (label_words l)
    (label_is_words l new.name_is)
    (no_cause (opened p t) later (l.name ∷ []) Label (record {
      place = refl;
      number = refl;
      operands = (good_new (opened p t) later Labels l.name new.name_is new.new, tt);
      limit = refl;
      closed = refl;
    }))
    (ap (λ (n : ℕ). opened p (record t { labels = t.labels ++ record { name = l.name; index = n } ∷ [] })) (sym index))
    h
