-- The objects and the threads of a new machine.
use Rattle.std.proofs.Common.{◌≡◌, ℕ, zero, suc, ◌+◌, ◌<◌, ◌≤◌, List, [], ◌∷◌, ◌++◌, length, get_or, take, map, replicate, refl, sym, ap, arith, ◌∙◌}
use Rattle.std.proofs.lemmas.List.{length-replicate, length-append, length-map, map-append, append-nil, take_more, take_all}
use Rattle.std.proofs.lemmas.List.Concat.{flat_map-append}
use Rattle.std.proofs.lemmas.List.Folds.{sum_by-replicate}
use Rattle.plain_monitor.specs.Monitor.{free_monitor}
use Rattle.plain_monitor.specs.Objects.{PlainObject, new_object, new_objects}
use Rattle.object_program.specs.declared.program.ObjectDef.{ObjectDef}
use Rattle.object_program.specs.declared.program.ClassDef.{ClassDef}
use Rattle.object_program.specs.Program.{shape_from, total_of, slots_of_class}
use Rattle.plain_machine.specs.Thread.{ThreadState}
use Rattle.plain_machine.specs.Sound.{IsBeside, IsKept, ThreadIsReady, monitor_in}

-- a thread that ran from its start holds nothing
pub kept_start : (n : ℕ) (s : ThreadState) → s.holds ≡ replicate n 0 → ThreadIsReady s → IsKept n s
kept_start n s e r = record {
  objects = ap length e ∙ length-replicate n 0;
  few = rw e (omega (arith, sum_by-replicate (λ (x : ℕ). x) n 0));
  ready = r;
}

map-replicate : {A B : Type 0} (f : A → B) (n : ℕ) (x : A) → map f (replicate n x) ≡ replicate n (f x)
map-replicate f zero x = refl
map-replicate f (suc n) x = ap (λ xs. f x ∷ xs) (map-replicate f n x)

-- the objects of one declaration
new_objects_one : (classes : List ClassDef) (d : ObjectDef)
    → new_objects (shape_from classes (d ∷ [])) ≡ replicate d.size (new_object (slots_of_class classes d.class))
new_objects_one classes d =
    ap (λ s. map (λ (x : ℕ × ℕ). new_object x.1) s) (append-nil (replicate d.size (d.class, slots_of_class classes d.class)))
    ∙ map-replicate (λ (x : ℕ × ℕ). new_object x.1) d.size (d.class, slots_of_class classes d.class)

-- the objects of more declarations
new_objects-append : (classes : List ClassDef) (ds es : List ObjectDef)
    → new_objects (shape_from classes (ds ++ es)) ≡ new_objects (shape_from classes ds) ++ new_objects (shape_from classes es)
new_objects-append classes ds es =
    ap (λ s. map (λ (x : ℕ × ℕ). new_object x.1) s) (flat_map-append (λ (d : ObjectDef). replicate d.size (d.class, slots_of_class classes d.class)) ds es)
    ∙ map-append (λ (x : ℕ × ℕ). new_object x.1) (shape_from classes ds) (shape_from classes es)

-- the objects so far, and those of one declaration more
pub new_objects_step : (classes : List ClassDef) (ds : List ObjectDef) (i : ℕ) (d : ObjectDef) (before after : List PlainObject)
    → i < length ds → d ≡ get_or ds i d → before ≡ new_objects (shape_from classes (take i ds))
    → after ≡ before ++ replicate d.size (new_object (slots_of_class classes d.class))
    → after ≡ new_objects (shape_from classes (take (i + 1) ds))
new_objects_step classes ds i d before after lt at b a =
    let more : take (i + 1) ds ≡ take i ds ++ d ∷ [] = take_more ds i d lt ∙ ap (λ x. take i ds ++ x ∷ []) (sym at) in
    a ∙ ap (λ xs. xs ++ replicate d.size (new_object (slots_of_class classes d.class))) b
    ∙ ap (λ xs. new_objects (shape_from classes (take i ds)) ++ xs) (sym (new_objects_one classes d))
    ∙ sym (new_objects-append classes (take i ds) (d ∷ []))
    ∙ ap (λ xs. new_objects (shape_from classes xs)) (sym more)

-- after the declared objects stand those that threads may make
pub new_objects_made : (shape : List (ℕ × ℕ)) (n c slots : ℕ)
    → new_objects (shape ++ replicate n (c, slots)) ≡ new_objects shape ++ replicate n (new_object slots)
new_objects_made shape n c slots =
    map-append (λ (x : ℕ × ℕ). new_object x.1) shape (replicate n (c, slots))
    ∙ ap (λ xs. new_objects shape ++ xs) (map-replicate (λ (x : ℕ × ℕ). new_object x.1) n (c, slots))

length-shape : (classes : List ClassDef) (ds : List ObjectDef) → length (shape_from classes ds) ≡ total_of ds
length-shape classes [] = refl
length-shape classes (d ∷ ds) =
    length-append (replicate d.size (d.class, slots_of_class classes d.class)) (shape_from classes ds)
    ∙ ap (λ n. n + length (shape_from classes ds)) (length-replicate d.size (d.class, slots_of_class classes d.class))
    ∙ ap (λ n. d.size + n) (length-shape classes ds)

-- as many as the declarations stand for
length-new_objects : (classes : List ClassDef) (ds : List ObjectDef) → length (new_objects (shape_from classes ds)) ≡ total_of ds
length-new_objects classes ds =
    length-map (shape_from classes ds) (λ (x : ℕ × ℕ). new_object x.1) ∙ length-shape classes ds

-- after the last declaration
pub total_at_end : (classes : List ClassDef) (ds es : List ObjectDef) (i : ℕ) (objects : List PlainObject)
    → objects ≡ new_objects (shape_from classes (take i es)) → es ≡ ds → length es ≤ i → length objects ≡ total_of ds
total_at_end classes ds es i objects e same le =
    ap length e ∙ length-new_objects classes (take i es) ∙ ap total_of (take_all i es le ∙ same)

free_at : (shape : List (ℕ × ℕ)) (o : ℕ) → monitor_in (new_objects shape) o ≡ free_monitor
free_at [] o = refl
free_at (x ∷ shape) zero = refl
free_at (x ∷ shape) (suc o) = free_at shape o

free_beside : (threads : List ThreadState) (o : ℕ) → IsBeside threads o free_monitor
free_beside threads o =
    record { counted = omega arith; listed = λ t. record { once = omega arith; due = omega arith }; waiting = omega arith }

-- the monitors of new objects
pub beside_start : (shape : List (ℕ × ℕ)) (threads : List ThreadState) (o : ℕ) → IsBeside threads o (monitor_in (new_objects shape) o)
beside_start shape threads o = rw (free_at shape o) (free_beside threads o)
