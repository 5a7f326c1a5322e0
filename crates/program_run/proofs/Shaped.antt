-- The shape of a program's heap, by the slots of its classes and the classes of its objects.
use Rattle.std.proofs.Common.{◌≡◌, ℕ, zero, suc, ◌+◌, ◌*◌, ◌<◌, ◌≤◌, ◌||◌, Bool, true, false, if◌then◌else◌, List}
use Rattle.std.proofs.Common.{[], ◌∷◌, ◌++◌, length, map, replicate, refl, sym, ap, ◌∙◌, subst, arith, All}
use Rattle.std.specs.List.{AllByRecursion, list_any}
use Rattle.std.specs.Prelude.{slice_index}
use Rattle.std.proofs.lemmas.List.{length-append, length-map, length-replicate, map-append}
use Rattle.std.proofs.lemmas.List.Elements.{All-append, All-from_recursion, All-nil, All-replicate}
use Rattle.heap_table.specs.Layout as layout
use Rattle.object_program.specs.declared.program.ClassDef.{ClassDef}
use Rattle.object_program.specs.declared.program.ObjectDef.{ObjectDef}
use Rattle.object_program.specs.declared.program.ThreadDef.{ThreadDef}
use Rattle.object_program.specs.declared.program.Code.{Code}
use Rattle.object_program.specs.declared.program.Code.TheVariants.{New}
use Rattle.object_program.specs.declared.program.LabelDef.{LabelDef}
use Rattle.object_program.specs.Program.{ProgramText, classes_from, declared_total, has_new, is_new}
use Rattle.object_program.specs.Program.{made_total, objects_total, shape_from, slots_of_class, total_of}
use Rattle.object_program.proofs.Made.{shape_length}
use Rattle.object_program.specs.Valid.{AreObjects, IsInstruction, IsProgram, IsThread}
use Rattle.plain_monitor.specs.Limits.{most_threads, most_classes, most_slots, most_objects, most_made, most_in_all}
use Rattle.plain_monitor.proofs.Lists.{all_map}
use Rattle.program_run.specs.inner.HeapFor.{declared_for}

abbrev slots_by : List ClassDef → List ℕ
slots_by classes = map (λ (c : ClassDef). c.slots) classes

many_classes : (ds : List ObjectDef) → length (classes_from ds) ≡ total_of ds
many_classes [] = refl
many_classes (d ∷ ds) =
    length-append (replicate d.size d.class) (classes_from ds)
    ∙ ap (λ n. n + length (classes_from ds)) (length-replicate d.size d.class)
    ∙ ap (λ n. d.size + n) (many_classes ds)

all_declared : (many n : ℕ) (ds : List ObjectDef) → AreObjects many n ds → All (λ c. c < many) (classes_from ds)
all_declared many n [] h = All-nil (λ c. c < many)
all_declared many n (d ∷ ds) h =
    All-append (λ c. c < many) (replicate d.size d.class) (classes_from ds)
    (All-replicate (λ c. c < many) d.size d.class h.0.0)
    (all_declared many (n + d.size) ds h.1)

slots_at : (classes : List ClassDef) (c : ℕ) → slice_index (slots_by classes) c ≡ slots_of_class classes c
slots_at [] c = refl
slots_at (d ∷ classes) zero = refl
slots_at (d ∷ classes) (suc c) = slots_at classes c

map-replicate : {A B : Type 0} (f : A → B) (n : ℕ) (x : A) → map f (replicate n x) ≡ replicate n (f x)
map-replicate f zero x = refl
map-replicate f (suc n) x = ap (λ xs. f x ∷ xs) (map-replicate f n x)

objects_are : (classes : List ClassDef) (ds : List ObjectDef)
    → map (λ c. (c, slice_index (slots_by classes) c)) (classes_from ds) ≡ shape_from classes ds
objects_are classes [] = refl
objects_are classes (d ∷ ds) =
    let f : ℕ → ℕ × ℕ = λ c. (c, slice_index (slots_by classes) c) in
    let of_one : map f (replicate d.size d.class) ≡ replicate d.size (d.class, slots_of_class classes d.class) =
    map-replicate f d.size d.class ∙ ap (λ n. replicate d.size (d.class, n)) (slots_at classes d.class) in
    map-append f (replicate d.size d.class) (classes_from ds)
    ∙ ap (λ (x : List (ℕ × ℕ)). x ++ map f (classes_from ds)) of_one
    ∙ ap (λ (x : List (ℕ × ℕ)). replicate d.size (d.class, slots_of_class classes d.class) ++ x) (objects_are classes ds)

module _ (p : ProgramText) (is : IsProgram p) (threads : List ThreadDef) (slots classes : List ℕ)
    (t : threads ≡ p.threads) (s : slots ≡ slots_by p.classes) (c : classes ≡ classes_from p.objects) where
  pub in_limits : (length threads ≤ most_threads) × (length slots ≤ most_classes) × (length classes ≤ most_in_all)
  in_limits =
      let one = ap length t in
      let two : length slots ≡ length p.classes = ap length s ∙ length-map p.classes (λ (d : ClassDef). d.slots) in
      let three : length classes ≡ total_of p.objects = ap length c ∙ many_classes p.objects in
      (omega (arith, one, is.threads_few), omega (arith, two, is.classes_few), omega (arith, three, is.objects_few))

  pub slots_few : All (λ n. n ≤ most_slots) slots
  slots_few =
      subst (All (λ n. n ≤ most_slots)) (sym s)
      (All-from_recursion (λ n. n ≤ most_slots) (slots_by p.classes) (all_map (λ n. n ≤ most_slots) (λ (d : ClassDef). d.slots) p.classes is.class_slots))

  pub classes_there : All (λ d. d < length slots) classes
  classes_there =
      let many : length slots ≡ length p.classes = ap length s ∙ length-map p.classes (λ (d : ClassDef). d.slots) in
      subst (λ (x : ℕ × List ℕ). All (λ d. d < x.0) x.1) (λ i. (sym many i, sym c i)) (all_declared (length p.classes) 0 p.objects is.objects)

  pub all_there : declared_total p ≤ length classes
  all_there = let three : length classes ≡ total_of p.objects = ap length c ∙ many_classes p.objects in omega (arith, three)

  pub shape_is : (declared : ℕ) → declared ≡ declared_total p → layout.shape_of (length threads) slots classes declared ≡ declared_for p
  shape_is declared d =
      let many : length slots ≡ length p.classes = ap length s ∙ length-map p.classes (λ (d : ClassDef). d.slots) in
      let objects : map (λ d. (d, slice_index slots d)) classes ≡ shape_from p.classes p.objects =
      (λ i. map (λ d. (d, slice_index (s i) d)) (c i)) ∙ objects_are p.classes p.objects in
      λ i. record { threads = length (t i); classes = many i; declared = d i; objects = objects i }

-- OBJECTS THAT THREADS MAKE. A program with a `new` has a class,
code_has_class : (classes locals objects : ℕ) (labels : List LabelDef) (cs : List Code)
    → AllByRecursion (IsInstruction classes locals objects labels) cs → list_any is_new cs ≡ true → 1 ≤ classes
code_has_class classes locals objects labels [] all some = absurd (cc some)
code_has_class classes locals objects labels (New x c ∷ cs) all some = let within = all.0.1 in omega (arith, within)
code_has_class classes locals objects labels (c ∷ cs) all some = code_has_class classes locals objects labels cs all.1 some

threads_have_class : (classes objects : ℕ) (ts : List ThreadDef) → AllByRecursion (IsThread classes objects) ts → has_new ts ≡ true → 1 ≤ classes
threads_have_class classes objects [] all some = absurd (cc some)
threads_have_class classes objects (t ∷ ts) all some =
    by_test (list_any is_new t.code) refl some (λ e. threads_have_class classes objects ts all.1 e)
  where
    by_test : (b : Bool) → list_any is_new t.code ≡ b → (b || has_new ts) ≡ true → (has_new ts ≡ true → 1 ≤ classes) → 1 ≤ classes
    by_test true here e rest = code_has_class classes (length t.locals) objects t.labels t.code all.0.code here
    by_test false here e rest = rest e

-- where its objects are more than the declared ones; and there is room for the others
module _ (p : ProgramText) (is : IsProgram p) where
  has_some : (objects_total p ≡ declared_total p → ⊥) → has_new p.threads ≡ true
  has_some other = by_test (has_new p.threads) refl
    where
      by_test : (b : Bool) → has_new p.threads ≡ b → b ≡ true
      by_test true e = refl
      by_test false e =
          let none : made_total p ≡ 0 = ap (λ b. if b then most_made * length p.threads else 0) e in
          absurd (other (omega (arith, none)))

  pub has_class : (objects_total p ≡ declared_total p → ⊥) → 1 ≤ length p.classes
  has_class other = threads_have_class (length p.classes) (length p.objects) p.threads is.threads (has_some other)

  pub has_room : length (shape_from p.classes p.objects) ≤ most_objects
  has_room = let long = shape_length p.classes p.objects in let few = is.objects_few in omega (arith, long, few)
