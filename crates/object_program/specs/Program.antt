-- A program as contracts see it, and what its numbers stand for.
use Rattle.std.specs.Prelude.{ℕ, ◌+◌, ◌-◌, ◌*◌, max, Bool, true, false, ◌&&◌, nat_le, nat_lt, if◌then◌else◌}
use Rattle.std.specs.Prelude.{List, [], ◌∷◌, ◌++◌, length, replicate, slice_get, Option, Some, None}
use Rattle.std.specs.List.{flat_map, list_any}
use Rattle.plain_monitor.specs.Limits.{most_made}
use Rattle.plain_monitor.specs.Made.{Numbering}
use Rattle.object_program.specs.declared.program.ClassDef.{ClassDef}
use Rattle.object_program.specs.declared.program.ObjectDef.{ObjectDef}
use Rattle.object_program.specs.declared.program.ThreadDef.{ThreadDef}
use Rattle.object_program.specs.declared.program.Code.{Code}
use Rattle.object_program.specs.declared.program.Code.TheVariants.{New}

-- the classes, the declarations of objects and the threads, each in the order of their lines
pub record ProgramText : Type 0 where
  pub classes : List ClassDef
  pub objects : List ObjectDef
  pub threads : List ThreadDef

-- how many objects these declarations stand for
abbrev pub total_of : List ObjectDef → ℕ
total_of [] = 0
total_of (d ∷ ds) = d.size + total_of ds

abbrev pub declared_total : ProgramText → ℕ
declared_total p = total_of p.objects

-- OBJECTS THAT THREADS MAKE
abbrev pub is_new : Code → Bool
is_new (New x c) = true
is_new c = false

-- some thread has a `new`
abbrev pub has_new : List ThreadDef → Bool
has_new ts = list_any (λ t. list_any is_new t.code) ts

-- how many numbers there are for objects that threads make
abbrev pub made_total : ProgramText → ℕ
made_total p = if has_new p.threads then most_made * length p.threads else 0

-- the declared objects have the first numbers
abbrev pub objects_total : ProgramText → ℕ
objects_total p = declared_total p + made_total p

-- the slots of class c
abbrev pub slots_in : Option ClassDef → ℕ
slots_in None = 0
slots_in (Some c) = c.slots

abbrev pub slots_of_class : List ClassDef → ℕ → ℕ
slots_of_class classes c = slots_in (slice_get classes c)

-- the slots of the class that a `new` names
abbrev pub slots_made : List ClassDef → Code → ℕ
slots_made classes (New x c) = slots_of_class classes c
slots_made classes c = 0

abbrev pub most_in_code : List ClassDef → List Code → ℕ
most_in_code classes [] = 0
most_in_code classes (c ∷ cs) = max (slots_made classes c) (most_in_code classes cs)

abbrev pub most_in : List ClassDef → List ThreadDef → ℕ
most_in classes [] = 0
most_in classes (t ∷ ts) = max (most_in_code classes t.code) (most_in classes ts)

-- how many slots an object has that a thread makes, whatever its class: as many as the largest class that a `new` names
abbrev pub made_slots : ProgramText → ℕ
made_slots p = most_in p.classes p.threads

-- the class and the number of slots of each declared object, by its number
abbrev pub shape_from : List ClassDef → List ObjectDef → List (ℕ × ℕ)
shape_from classes ds = flat_map (λ d. replicate d.size (d.class, slots_of_class classes d.class)) ds

-- and of each other number, where the class is told by the entry that makes the object
abbrev pub shape_of : ProgramText → List (ℕ × ℕ)
shape_of p = shape_from p.classes p.objects ++ replicate (made_total p) (0, made_slots p)

-- the declaration stands for object o
abbrev pub has_object : ObjectDef → ℕ → Bool
has_object d o = nat_le d.first o && nat_lt o (d.first + d.size)

-- the number of the declaration that stands for object o, where the first of these has number n, and the element that o is of it
abbrev pub place_from : ℕ → List ObjectDef → ℕ → ℕ × ℕ
place_from n [] o = (n, 0)
place_from n (d ∷ ds) o = if has_object d o then (n, o - d.first) else place_from (n + 1) ds o

abbrev pub place_of : ProgramText → ℕ → ℕ × ℕ
place_of p o = place_from 0 p.objects o

-- the class of the first of these declarations that stands for object o
abbrev pub class_from : List ObjectDef → ℕ → ℕ
class_from [] o = 0
class_from (d ∷ ds) o = if has_object d o then d.class else class_from ds o

abbrev pub class_in_program : ProgramText → ℕ → ℕ
class_in_program p o = class_from p.objects o

-- the slots of a declared object, and of each other one
abbrev pub slots_of : ProgramText → ℕ → ℕ
slots_of p o = if nat_lt o (declared_total p) then slots_of_class p.classes (class_in_program p o) else made_slots p

-- the class of each declared object, by its number
abbrev pub classes_from : List ObjectDef → List ℕ
classes_from ds = flat_map (λ d. replicate d.size d.class) ds

-- which numbers objects have, and which classes there are
abbrev pub numbering_of : ProgramText → Numbering
numbering_of p = record {
  declared = classes_from p.objects;
  threads = length p.threads;
  classes = length p.classes;
}
