-- The words of the lines that are no instructions are words.
use Rattle.std.proofs.Common.{◌≡◌, ℕ, ◌≤◌, Bool, true, false, List, [], ◌∷◌, refl, arith, codes}
use Rattle.std.specs.Prelude.{decimal}
use Rattle.plain_monitor.specs.Limits.{most_slots, most_objects}
use Rattle.object_program.specs.Name.{is_name}
use Rattle.program_syntax.specs.Canonical.{class_name, class_words, object_words, local_words, label_words, opening_words}
use Rattle.object_program.specs.declared.program.ClassDef.{ClassDef}
use Rattle.object_program.specs.declared.program.ObjectDef.{ObjectDef}
use Rattle.object_program.specs.declared.program.LabelDef.{LabelDef}
use Rattle.object_program.specs.declared.program.ThreadDef.{ThreadDef}
use Rattle.program_syntax.proofs.CanonicalText.{AreWords}
use Rattle.program_syntax.proofs.CanonicalNames.{name_word}
use Rattle.program_syntax.proofs.CanonicalNumbers.{decimal_word}

pub class_is_words : (c : ClassDef) → is_name c.name ≡ true → c.slots ≤ most_slots → AreWords (class_words c)
class_is_words c name slots = (refl, (name_word c.name name, (decimal_word c.slots (omega arith), tt)))

pub array_is_words : (classes : List ClassDef) (d : ObjectDef) → is_name d.name ≡ true → is_name (class_name classes d.class) ≡ true → d.size ≤ most_objects
    → AreWords (codes "array" ∷ d.name ∷ class_name classes d.class ∷ decimal d.size ∷ [])
array_is_words classes d name class size =
    (refl, (name_word d.name name, (name_word (class_name classes d.class) class, (decimal_word d.size (omega arith), tt))))

pub single_is_words : (classes : List ClassDef) (d : ObjectDef) → is_name d.name ≡ true → is_name (class_name classes d.class) ≡ true
    → AreWords (codes "object" ∷ d.name ∷ class_name classes d.class ∷ [])
single_is_words classes d name class =
    (refl, (name_word d.name name, (name_word (class_name classes d.class) class, tt)))

object_is_words_by : (classes : List ClassDef) (d : ObjectDef) (b : Bool) → d.array ≡ b
    → is_name d.name ≡ true → is_name (class_name classes d.class) ≡ true → d.size ≤ most_objects
    → AreWords (object_words classes d)
object_is_words_by classes d true e name class size = rw e (array_is_words classes d name class size)
object_is_words_by classes d false e name class size = rw e (single_is_words classes d name class)

pub object_is_words : (classes : List ClassDef) (d : ObjectDef) → is_name d.name ≡ true → is_name (class_name classes d.class) ≡ true → d.size ≤ most_objects
    → AreWords (object_words classes d)
object_is_words classes d name class size = object_is_words_by classes d d.array refl name class size

pub opening_is_words : (t : ThreadDef) → is_name t.name ≡ true → AreWords (opening_words t)
opening_is_words t name = (refl, (name_word t.name name, tt))

pub local_is_words : (name : List ℕ) → is_name name ≡ true → AreWords (local_words name)
local_is_words name h = (refl, (name_word name h, tt))

pub label_is_words : (l : LabelDef) → is_name l.name ≡ true → AreWords (label_words l)
label_is_words l h = (refl, (name_word l.name h, tt))
