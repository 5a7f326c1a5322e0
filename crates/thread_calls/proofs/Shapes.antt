-- The objects of a heap are those of its program.
use Rattle.std.proofs.Common.{◌≡◌, ℕ, zero, suc, ◌+◌, ◌-◌, ◌*◌, ◌<◌, ◌≤◌, ◌++◌, ◌∷◌, [], Bool, true, false, nat_le, nat_lt, lt-ltb, le-leb, ltb-true}
use Rattle.std.proofs.Common.{ltb-false, if◌then◌else◌, List, length, map, take, replicate, slice_index_or, refl, sym, ap, ◌∙◌, subst, arith}
use Rattle.std.proofs.lemmas.Bool.{and_from}
use Rattle.std.proofs.lemmas.Bool.Decides.{nat_tests}
use Rattle.std.proofs.lemmas.List.{length-replicate, map-append, get_or-replicate, get_or_append_left, get_or-append_right}
use Rattle.std.proofs.Math.Seq.{take-append_seam}
use Rattle.plain_monitor.specs.Limits.{most_made}
use Rattle.plain_monitor.specs.Made.{Numbering}
use Rattle.heap_table.specs.Seen.{HeapSeen}
use Rattle.core_world.specs.Threads.ThreadView.{ThreadView}
use Rattle.core_world.specs.Threads.References.{is_object, numbering, knows_by_log, has_reference}
use Rattle.core_world.specs.Trees.Calls.{has_made_numbers}
use Rattle.core_world.specs.Words.Shape.{slots_of as slots_in_heap}
use Rattle.object_program.specs.declared.program.ClassDef.{ClassDef}
use Rattle.object_program.specs.declared.program.ObjectDef.{ObjectDef}
use Rattle.object_program.specs.Program.{ProgramText, total_of, declared_total, made_total, made_slots, objects_total, shape_from, shape_of}
use Rattle.object_program.specs.Program.{slots_of_class, class_in_program, slots_of, has_object, has_new, class_from, classes_from, numbering_of}
use Rattle.object_program.proofs.Made.{shape_length, shape_total}
use Rattle.object_program.specs.Valid.{AreObjects}
use Rattle.plain_machine.proofs.NeededObjects.{first_is_total}
use Rattle.thread_calls.specs.Between.{IsHeapOf}

-- as many objects as the declarations stand for, and as threads may make
pub as_many : (h : HeapSeen) (p : ProgramText) → IsHeapOf h p → length h.heap.shape.objects ≡ objects_total p
as_many h p of = ap (λ (x : List (ℕ × ℕ)). length x) of.objects ∙ shape_total p

-- where some thread has a `new`, the heap has the numbers of all objects that threads may make
made_all : (p : ProgramText) → has_new p.threads ≡ true → made_total p ≡ most_made * length p.threads
made_all p some = ap (λ b. if b then most_made * length p.threads else 0) some

pub has_numbers : (h : HeapSeen) (p : ProgramText) → IsHeapOf h p → has_new p.threads ≡ true → has_made_numbers h.heap.shape ≡ true
has_numbers h p of some =
    let threads : most_made * h.heap.shape.threads ≡ most_made * length p.threads = ap (λ n. most_made * n) of.threads in
    le-leb (h.heap.shape.declared + most_made * h.heap.shape.threads) (length h.heap.shape.objects)
    (omega (arith, threads, of.declared, as_many h p of, made_all p some))

-- WHICH NUMBERS THEY HAVE: those that the program's have
abbrev class_in : ℕ × ℕ → ℕ
class_in x = x.0

same_classes : (n : ℕ) (x : ℕ × ℕ) → map class_in (replicate n x) ≡ replicate n x.0
same_classes zero x = refl
same_classes (suc n) x = ap (λ (xs : List ℕ). x.0 ∷ xs) (same_classes n x)

declared_classes : (classes : List ClassDef) (ds : List ObjectDef) → map class_in (shape_from classes ds) ≡ classes_from ds
declared_classes classes [] = refl
declared_classes classes (d ∷ ds) =
    let here : List (ℕ × ℕ) = replicate d.size (d.class, slots_of_class classes d.class) in
    map-append class_in here (shape_from classes ds)
    ∙ (λ i. same_classes d.size (d.class, slots_of_class classes d.class) i ++ declared_classes classes ds i)

declared_first : (p : ProgramText) → take (declared_total p) (map class_in (shape_of p)) ≡ classes_from p.objects
declared_first p =
    let others : List (ℕ × ℕ) = replicate (made_total p) (0, made_slots p) in
    ap (take (declared_total p)) (map-append class_in (shape_from p.classes p.objects) others)
    ∙ ap (λ (xs : List ℕ). take (declared_total p) (xs ++ map class_in others)) (declared_classes p.classes p.objects)
    ∙ ap (λ n. take n (classes_from p.objects ++ map class_in others)) (sym (first_is_total p.objects))
    ∙ take-append_seam (classes_from p.objects) (map class_in others)

pub same_numbering : (h : HeapSeen) (p : ProgramText) → IsHeapOf h p → numbering h.heap.shape ≡ numbering_of p
same_numbering h p of =
    let declared : take h.heap.shape.declared (map class_in h.heap.shape.objects) ≡ classes_from p.objects =
    (λ i. take (of.declared i) (map class_in (of.objects i))) ∙ declared_first p in
    λ i. record { declared = declared i; threads = of.threads i; classes = of.classes i }

-- a thread of the program has a reference to each of them that it knows by its log
pub known_there : (h : HeapSeen) (p : ProgramText) (k : ThreadView) (o : ℕ) → IsHeapOf h p → o < objects_total p
    → knows_by_log (numbering_of p) k.log o ≡ true → has_reference h.heap.shape k o ≡ true
known_there h p k o of l knows =
    and_from (is_object h.heap.shape o) (knows_by_log (numbering h.heap.shape) k.log o)
    (lt-ltb o (length h.heap.shape.objects) (omega (arith, l, as_many h p of)))
    (subst (λ (n : Numbering). knows_by_log n k.log o ≡ true) (sym (same_numbering h p of)) knows)

-- whether the first declaration, whose objects start at k, has object k + o
has_first : (d : ObjectDef) (k o : ℕ) → d.first ≡ k → o < d.size → has_object d (k + o) ≡ true
has_first d k o first l = and_from (nat_le d.first (k + o)) (nat_lt (k + o) (d.first + d.size)) (grind (arith, nat_tests)) (grind (arith, nat_tests))

not_first : (d : ObjectDef) (k o : ℕ) → d.first ≡ k → d.size ≤ o → has_object d (k + o) ≡ false
not_first d k o first l = grind (arith, nat_tests)

-- an element of a list that begins with n that are the same
first_same : (n o : ℕ) (form : ℕ × ℕ) (rest : List (ℕ × ℕ)) → o < n → slice_index_or (replicate n form ++ rest) o (0, 0) ≡ form
first_same n o form rest l =
    let many = length-replicate {A = ℕ × ℕ} n form in
    get_or_append_left (replicate n form) rest (0, 0) o (omega (arith, l, many)) ∙ get_or-replicate n o form (0, 0) l

later_same : (n o : ℕ) (form : ℕ × ℕ) (rest : List (ℕ × ℕ)) → n ≤ o
    → slice_index_or (replicate n form ++ rest) o (0, 0) ≡ slice_index_or rest (o - n) (0, 0)
later_same n o form rest l = get_or-append_right (replicate n form) rest n o (0, 0) (length-replicate {A = ℕ × ℕ} n form) l

-- the slots of object k + o, by the shape of those from k on
shape_slots : (classes : List ClassDef) (n k : ℕ) (ds : List ObjectDef) (o : ℕ) → AreObjects n k ds → o < total_of ds
    → (slice_index_or (shape_from classes ds) o (0, 0)).1 ≡ slots_of_class classes (class_from ds (k + o))
shape_slots classes n k [] o h l = absurd (omega (arith, l))
shape_slots classes n k (d ∷ ds) o h l =
    cases (nat_lt o d.size) refl (λ w. shape_slots classes n (k + d.size) ds (o - d.size) h.1 (omega (arith, l, w)))
  where
    cases : (b : Bool) → nat_lt o d.size ≡ b
        → (d.size ≤ o → (slice_index_or (shape_from classes ds) (o - d.size) (0, 0)).1
        ≡ slots_of_class classes (class_from ds (k + d.size + (o - d.size))))
        → (slice_index_or (shape_from classes (d ∷ ds)) o (0, 0)).1 ≡ slots_of_class classes (class_from (d ∷ ds) (k + o))
    cases true b ih =
        let w : o < d.size = ltb-true o d.size b in
        let here = first_same d.size o (d.class, slots_of_class classes d.class) (shape_from classes ds) w in
        rw (has_first d k o h.0.1 w) (ap (λ (x : ℕ × ℕ). x.1) here)
    cases false b ih =
        let w : d.size ≤ o = ltb-false o d.size b in
        let here = later_same d.size o (d.class, slots_of_class classes d.class) (shape_from classes ds) w in
        let later = ih w in
        let same : k + d.size + (o - d.size) ≡ k + o = omega (arith, w) in
        rw (not_first d k o h.0.1 w) (ap (λ (x : ℕ × ℕ). x.1) here ∙ later ∙ ap (λ (i : ℕ). slots_of_class classes (class_from ds i)) same)

-- SLOTS: those of its class of a declared object, and of each other as many as of any that a thread makes
declared_slots : (p : ProgramText) (o : ℕ) → AreObjects (length p.classes) 0 p.objects → o < declared_total p
    → (slice_index_or (shape_of p) o (0, 0)).1 ≡ slots_of_class p.classes (class_in_program p o)
declared_slots p o are l =
    let zero : 0 + o ≡ o = omega arith in
    let total = shape_length p.classes p.objects in
    ap (λ (x : ℕ × ℕ). x.1) (get_or_append_left (shape_from p.classes p.objects)
    (replicate (made_total p) (0, made_slots p)) (0, 0) o (omega (arith, l, total)))
    ∙ shape_slots p.classes (length p.classes) 0 p.objects o are l
    ∙ ap (λ (i : ℕ). slots_of_class p.classes (class_in_program p i)) zero

other_slots : (p : ProgramText) (o : ℕ) → declared_total p ≤ o → o < objects_total p → (slice_index_or (shape_of p) o (0, 0)).1 ≡ made_slots p
other_slots p o l m =
    let form : ℕ × ℕ = (0, made_slots p) in
    let total = shape_length p.classes p.objects in
    ap (λ (x : ℕ × ℕ). x.1)
    (get_or-append_right (shape_from p.classes p.objects) (replicate (made_total p) form) (declared_total p) o (0, 0) total l
    ∙ get_or-replicate (made_total p) (o - declared_total p) form (0, 0) (omega (arith, l, m)))

slots_at : (p : ProgramText) (o : ℕ) → AreObjects (length p.classes) 0 p.objects → o < objects_total p
    → (slice_index_or (shape_of p) o (0, 0)).1 ≡ slots_of p o
slots_at p o are l = by_test (nat_lt o (declared_total p)) refl
  where
    by_test : (b : Bool) → nat_lt o (declared_total p) ≡ b
        → (slice_index_or (shape_of p) o (0, 0)).1 ≡ (if b then slots_of_class p.classes (class_in_program p o) else made_slots p)
    by_test true w = declared_slots p o are (ltb-true o (declared_total p) w)
    by_test false w = other_slots p o (ltb-false o (declared_total p) w) l

pub same_slots : (h : HeapSeen) (p : ProgramText) (o : ℕ) → IsHeapOf h p → o < objects_total p → slots_in_heap h.heap.shape o ≡ slots_of p o
same_slots h p o of l = ap (λ (x : List (ℕ × ℕ)). (slice_index_or x o (0, 0)).1) of.objects ∙ slots_at p o of.program.objects l
