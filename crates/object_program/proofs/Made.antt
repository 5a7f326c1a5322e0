-- What the instructions of threads make, one after another.
use Rattle.std.proofs.Common.{◌≡◌, ℕ, zero, suc, ◌+◌, ◌*◌, ◌<◌, ◌≤◌, ◌||◌, nat_lt, max, Bool, true, false, if◌then◌else◌, List, []}
use Rattle.std.proofs.Common.{◌∷◌, ◌++◌, length, replicate, get_or, slice_get, drop, Some, length-append, refl, ◌∙◌, arith}
use Rattle.std.proofs.lemmas.List.{length-replicate}
use Rattle.std.proofs.Math.Numerals.{add-one}
use Rattle.std.proofs.Math.Seq.{drop-cons}
use Rattle.std.specs.List.{list_any, AllByRecursion}
use Rattle.plain_monitor.specs.Limits.{most_made}
use Rattle.object_program.specs.Limits.{most_slots, most_objects, most_threads}
use Rattle.object_program.specs.Program.{ProgramText, total_of, declared_total, made_total, made_slots, objects_total, shape_from, shape_of}
use Rattle.object_program.specs.Program.{slots_of_class, class_in_program, slots_of, is_new, has_new, slots_made, most_in_code, most_in}
use Rattle.object_program.specs.Valid.{IsProgram}
use Rattle.object_program.specs.declared.program.ClassDef.{ClassDef}
use Rattle.object_program.specs.declared.program.Code.{Code}
use Rattle.object_program.specs.declared.program.Code.TheVariants.{New}
use Rattle.object_program.specs.declared.program.ObjectDef.{ObjectDef}
use Rattle.object_program.specs.declared.program.ThreadDef.{ThreadDef}

dropped : {A : Type 0} (xs : List A) (i : ℕ) (d : A) → i < length xs → drop i xs ≡ get_or xs i d ∷ drop (i + 1) xs
dropped xs i d h = rw add-one (drop-cons xs i d h)

pub any_new_step : (cs : List Code) (i : ℕ) (d : Code) → i < length cs
    → list_any is_new (drop i cs) ≡ (is_new (get_or cs i d) || list_any is_new (drop (i + 1) cs))
any_new_step cs i d h = rw (dropped cs i d h) refl

pub has_new_step : (ts : List ThreadDef) (i : ℕ) (d : ThreadDef) → i < length ts
    → has_new (drop i ts) ≡ (list_any is_new (get_or ts i d).code || has_new (drop (i + 1) ts))
has_new_step ts i d h = rw (dropped ts i d h) refl

pub most_in_code_step : (classes : List ClassDef) (cs : List Code) (i : ℕ) (d : Code) → i < length cs
    → most_in_code classes (drop i cs) ≡ max (slots_made classes (get_or cs i d)) (most_in_code classes (drop (i + 1) cs))
most_in_code_step classes cs i d h = rw (dropped cs i d h) refl

pub most_in_step : (classes : List ClassDef) (ts : List ThreadDef) (i : ℕ) (d : ThreadDef) → i < length ts
    → most_in classes (drop i ts) ≡ max (most_in_code classes (get_or ts i d).code) (most_in classes (drop (i + 1) ts))
most_in_step classes ts i d h = rw (dropped ts i d h) refl

-- WHICH NUMBERS OBJECTS HAVE: each thread may make so many, where one has a `new`
pub made_few : (p : ProgramText) → made_total p ≤ most_made * length p.threads
made_few p = by_test (has_new p.threads)
  where
    by_test : (b : Bool) → (if b then most_made * length p.threads else 0) ≤ most_made * length p.threads
    by_test true = omega arith
    by_test false = omega arith

pub total_few : (p : ProgramText) → IsProgram p → objects_total p ≤ most_objects + most_made * most_threads
total_few p h = omega (arith, made_few p, h.objects_few, h.threads_few)

-- the declared objects come first, and have their class and slots
pub shape_length : (classes : List ClassDef) (ds : List ObjectDef) → length (shape_from classes ds) ≡ total_of ds
shape_length classes [] = refl
shape_length classes (d ∷ ds) =
    let here : List (ℕ × ℕ) = replicate d.size (d.class, slots_of_class classes d.class) in
    length-append here (shape_from classes ds)
    ∙ omega (arith, length-replicate {A = ℕ × ℕ} d.size (d.class, slots_of_class classes d.class), shape_length classes ds)

pub shape_total : (p : ProgramText) → length (shape_of p) ≡ objects_total p
shape_total p =
    length-append (shape_from p.classes p.objects) (replicate (made_total p) (0, made_slots p))
    ∙ omega (arith, shape_length p.classes p.objects, length-replicate {A = ℕ × ℕ} (made_total p) (0, made_slots p))

before_others : {X : Type 0} (xs ys : List X) (k : ℕ) → k < length xs → slice_get (xs ++ ys) k ≡ slice_get xs k
before_others [] ys k l = absurd (omega arith)
before_others (x ∷ xs) ys zero l = refl
before_others (x ∷ xs) ys (suc k) l = before_others xs ys k (omega arith)

after_others : {X : Type 0} (xs : List X) (n : ℕ) (y : X) (k : ℕ) → length xs ≤ k → k < length xs + n → slice_get (xs ++ replicate n y) k ≡ Some y
after_others [] zero y k l m = absurd (omega arith)
after_others [] (suc n) y zero l m = refl
after_others [] (suc n) y (suc k) l m = after_others [] n y k (omega arith) (omega arith)
after_others (x ∷ xs) n y zero l m = absurd (omega arith)
after_others (x ∷ xs) n y (suc k) l m = after_others xs n y k (omega arith) (omega arith)

pub declared_shape : (p : ProgramText) (o : ℕ) → o < declared_total p → slice_get (shape_of p) o ≡ slice_get (shape_from p.classes p.objects) o
declared_shape p o l =
    before_others (shape_from p.classes p.objects) (replicate (made_total p) (0, made_slots p)) o (omega (arith, l, shape_length p.classes p.objects))

-- and each other one has as many slots as any that a thread makes
pub made_shape : (p : ProgramText) (o : ℕ) → declared_total p ≤ o → o < objects_total p → slice_get (shape_of p) o ≡ Some (0, made_slots p)
made_shape p o l m =
    let total = shape_length p.classes p.objects in
    after_others (shape_from p.classes p.objects) (made_total p) (0, made_slots p) o (omega (arith, l, total)) (omega (arith, m, total))

-- NO OBJECT HAS MANY SLOTS
in_class : (classes : List ClassDef) (c : ℕ) → AllByRecursion (λ c. c.slots ≤ most_slots) classes → slots_of_class classes c ≤ most_slots
in_class [] c few = omega arith
in_class (d ∷ ds) zero few = few.0
in_class (d ∷ ds) (suc c) few = in_class ds c few.1

at_most : (a b n : ℕ) → a ≤ n → b ≤ n → max a b ≤ n
at_most a b n h k = omega (arith, h, k)

new_few : (classes : List ClassDef) (c : Code) → AllByRecursion (λ c. c.slots ≤ most_slots) classes → slots_made classes c ≤ most_slots
new_few classes (New x c) few = in_class classes c few
new_few classes c few = omega arith

code_few : (classes : List ClassDef) (cs : List Code) → AllByRecursion (λ c. c.slots ≤ most_slots) classes → most_in_code classes cs ≤ most_slots
code_few classes [] few = omega arith
code_few classes (c ∷ cs) few = at_most _ _ _ (new_few classes c few) (code_few classes cs few)

threads_few : (classes : List ClassDef) (ts : List ThreadDef) → AllByRecursion (λ c. c.slots ≤ most_slots) classes → most_in classes ts ≤ most_slots
threads_few classes [] few = omega arith
threads_few classes (t ∷ ts) few = at_most _ _ _ (code_few classes t.code few) (threads_few classes ts few)

pub made_slots_few : (p : ProgramText) → IsProgram p → made_slots p ≤ most_slots
made_slots_few p h = threads_few p.classes p.threads h.class_slots

pub slots_few : (p : ProgramText) (o : ℕ) → IsProgram p → slots_of p o ≤ most_slots
slots_few p o h = by_test (nat_lt o (declared_total p))
  where
    by_test : (b : Bool) → (if b then slots_of_class p.classes (class_in_program p o) else made_slots p) ≤ most_slots
    by_test true = in_class p.classes (class_in_program p o) h.class_slots
    by_test false = made_slots_few p h
