-- Declarations of objects, which stand by rising numbers of their objects.
use Rattle.std.proofs.Common.{◌≡◌, ℕ, zero, suc, ◌+◌, ◌-◌, ◌<◌, ◌≤◌, if◌then◌else◌, leb, leb-true, List, [], ◌∷◌, length}
use Rattle.std.proofs.Common.{get_or, slice_get, true, false, ℤ, nat_abs, Option, Some, refl, ap, sym, ◌∙◌, subst, arith}
use Rattle.std.proofs.lemmas.Bool.Decides.{nat_tests}
use Rattle.std.proofs.lemmas.List.Sorted.{IsNonDecreasingBy-from_default}
use Rattle.std.specs.List.Sorted.{IsNonDecreasingBy, IsPartitionPoint}
use Rattle.std.proofs.lemmas.Option.{none-some, slice_get-get_or}
use Rattle.object_program.specs.declared.program.ObjectDef.{ObjectDef}
use Rattle.object_program.specs.Program.{ProgramText, total_of, has_object, class_from}
use Rattle.object_program.specs.Valid.{IsProgram, AreObjects}
use Rattle.plain_monitor.specs.Limits.{most_objects}
use Rattle.plain_monitor.specs.declared.entry.Value.{Value}
use Rattle.plain_monitor.specs.declared.entry.Value.TheVariants.{Int, Ref}
use Rattle.plain_monitor.specs.declared.entry.Fault.TheVariants.{Range}
use Rattle.plain_machine.specs.Thread.{ThreadState, sets, faults, element, is_element}

declared_within : (classes n : ℕ) (ds : List ObjectDef) (k : ℕ) (d : ObjectDef)
    → AreObjects classes n ds → slice_get ds k ≡ Some d → d.first + d.size ≤ n + total_of ds
declared_within classes n [] k d h e = absurd (none-some d e)
declared_within classes n (x ∷ ds) zero d h e = let same : x ≡ d = cc in
    let P : ObjectDef → Type 0 = λ y. y.first + y.size ≤ n + total_of (x ∷ ds) in subst P same (omega (arith, h.0.1))
declared_within classes n (x ∷ ds) (suc k) d h e = omega (arith, declared_within classes (n + x.size) ds k d h.1 e)

-- no declaration stands for an object past the limit
pub declared_below : (p : ProgramText) (k : ℕ) (d : ObjectDef) → IsProgram p → slice_get p.objects k ≡ Some d → d.first + d.size ≤ most_objects
declared_below p k d v e = omega (arith, v.objects_few, declared_within (length p.classes) 0 p.objects k d v.objects e)

-- a declaration that was read
pub declared_at : (inside p : ProgramText) (items : List ObjectDef) (k : ℕ) (d : ObjectDef) → items ≡ inside.objects → inside ≡ p → k < length items
    → d ≡ get_or items k d → slice_get p.objects k ≡ Some d
declared_at inside p items k d e v lt at =
    let same : items ≡ p.objects = e ∙ ap (λ (q : ProgramText). q.objects) v in
    rw (← same) (slice_get-get_or items k d lt ∙ ap Some (sym at))

-- an element of a declaration, and a number that is none
pub element_some : (s : ThreadState) (x : ℕ) (r : Option ObjectDef) (d : ObjectDef) (v : Value) (i : ℤ) (k : ℕ) → v ≡ Int i → r ≡ Some d
    → true ≡ is_element i d.size → k ≡ nat_abs i → element s x r v ≡ sets s x (Ref (d.first + k))
element_some s x r d v i k e q t h = rw (e, q, ← t, h) refl

pub element_none : (s : ThreadState) (x : ℕ) (r : Option ObjectDef) (d : ObjectDef) (v : Value) (i : ℤ) → v ≡ Int i → r ≡ Some d
    → false ≡ is_element i d.size → element s x r v ≡ faults s Range
element_none s x r d v i e q t = rw (e, q, ← t) refl

-- a declaration stands after the objects of those before it
begins_after : (classes n : ℕ) (ds : List ObjectDef) (k : ℕ) (d : ObjectDef) → AreObjects classes n ds → k < length ds → n ≤ (get_or ds k d).first
begins_after classes n [] k d h lt = absurd (omega arith)
begins_after classes n (x ∷ ds) zero d h lt = omega (arith, h.0.1)
begins_after classes n (x ∷ ds) (suc k) d h lt = omega (arith, begins_after classes (n + x.size) ds k d h.1 (omega arith))

rises : (classes n : ℕ) (ds : List ObjectDef) (j k : ℕ) (d : ObjectDef) → AreObjects classes n ds → j ≤ k → k < length ds
    → (get_or ds j d).first ≤ (get_or ds k d).first
rises classes n [] j k d h le lt = absurd (omega arith)
rises classes n (x ∷ ds) zero zero d h le lt = omega arith
rises classes n (x ∷ ds) zero (suc k) d h le lt = omega (arith, h.0.1, begins_after classes (n + x.size) ds k d h.1 (omega arith))
rises classes n (x ∷ ds) (suc j) zero d h le lt = absurd (omega arith)
rises classes n (x ∷ ds) (suc j) (suc k) d h le lt = rises classes (n + x.size) ds j k d h.1 (omega arith) (omega arith)

nothing : ObjectDef
nothing = record { name = []; class = 0; first = 0; size = 0; array = false }

pub declarations_rise : (p : ProgramText) (ds : List ObjectDef) → IsProgram p → ds ≡ p.objects → IsNonDecreasingBy (λ x. x.first) ds
declarations_rise p ds v e =
    rw e (IsNonDecreasingBy-from_default (λ x. x.first) p.objects nothing (λ j k le lt. rises (length p.classes) 0 p.objects j k nothing v.objects le lt))

stands_later : (d : ObjectDef) (o : ℕ) → o < d.first → has_object d o ≡ false
stands_later d o h = grind (arith, nat_tests)

stands_before : (d : ObjectDef) (o : ℕ) → d.first + d.size ≤ o → has_object d o ≡ false
stands_before d o h = grind (arith, nat_tests)

begins_by : (d : ObjectDef) (o : ℕ) → has_object d o ≡ true → d.first ≤ o
begins_by d o h = grind (arith, nat_tests)

-- an object before all declarations has no class of them
pub class_none : (ds : List ObjectDef) (o : ℕ) (d : ObjectDef) → ((k : ℕ) → k < length ds → o < (get_or ds k d).first) → class_from ds o ≡ 0
class_none [] o d h = refl
class_none (x ∷ ds) o d h =
    rw (stands_later x o (h 0 (omega arith))) (class_none ds o d (λ k lt. h (suc k) (omega arith)))

-- the class of an object by the last declaration that doesn't stand after it
class_last : (classes n : ℕ) (ds : List ObjectDef) (o k : ℕ) (d : ObjectDef) → AreObjects classes n ds → k < length ds → (get_or ds k d).first ≤ o
    → ((j : ℕ) → k < j → j < length ds → o < (get_or ds j d).first)
    → class_from ds o ≡ (if has_object (get_or ds k d) o then (get_or ds k d).class else 0)
class_last classes n [] o k d h lt le more = absurd (omega arith)
class_last classes n (x ∷ ds) o zero d h lt le more = rw (class_none ds o d (λ j l. more (suc j) (omega arith) (omega arith))) refl
class_last classes n (x ∷ ds) o (suc k) d h lt le more =
    let after = begins_after classes (n + x.size) ds k d h.1 (omega arith) in
    rw (stands_before x o (omega (arith, h.0.1, after)))
    (class_last classes (n + x.size) ds o k d h.1 (omega arith) le (λ j a b. more (suc j) (omega arith) (omega arith)))

-- the class of an object by a declaration that stands for it
class_here : (classes n : ℕ) (ds : List ObjectDef) (o k : ℕ) (d : ObjectDef) → AreObjects classes n ds → k < length ds → has_object (get_or ds k d) o ≡ true
    → class_from ds o ≡ (get_or ds k d).class
class_here classes n [] o k d h lt has = absurd (omega arith)
class_here classes n (x ∷ ds) o zero d h lt has = rw has refl
class_here classes n (x ∷ ds) o (suc k) d h lt has =
    let after = begins_after classes (n + x.size) ds k d h.1 (omega arith) in
    rw (stands_before x o (omega (arith, h.0.1, after, begins_by (get_or ds k d) o has)))
    (class_here classes (n + x.size) ds o k d h.1 (omega arith) has)

-- the same of a declaration of a program that was read
pub class_own : (inside p : ProgramText) (items : List ObjectDef) (o k : ℕ) (d : ObjectDef)
    → IsProgram p → items ≡ inside.objects → inside ≡ p → k < length items
    → d ≡ get_or items k d → true ≡ has_object d o → d.class ≡ class_from p.objects o
class_own inside p items o k d v e is lt at has =
    let same : items ≡ p.objects = e ∙ ap (λ (q : ProgramText). q.objects) is in
    let here : has_object (get_or items k d) o ≡ true = ap (λ (x : ObjectDef). has_object x o) (sym at) ∙ sym has in
    let found : class_from items o ≡ (get_or items k d).class = class_here (length p.classes) 0 items o k d (rw same v.objects) lt here in
    ap (λ (x : ObjectDef). x.class) at ∙ sym found ∙ ap (λ ds. class_from ds o) same

-- the class of an object of a program, where the first k of its declarations don't stand after it, and the others do
pub class_nowhere : (p : ProgramText) (ds : List ObjectDef) (o k : ℕ) → ds ≡ p.objects → k ≡ 0
    → IsPartitionPoint (λ d. d.first ≤ o) (λ d. o < d.first) ds k → 0 ≡ class_from p.objects o
class_nowhere p ds o k e z h = rw (← e) (sym (class_none ds o nothing (λ j lt. h.1 j nothing (omega arith) lt)))

pub class_at : (p : ProgramText) (ds : List ObjectDef) (o k : ℕ) (d : ObjectDef) → IsProgram p → ds ≡ p.objects → 0 < k → k ≤ length ds
    → IsPartitionPoint (λ x. x.first ≤ o) (λ x. o < x.first) ds k → d ≡ get_or ds (k - 1) d
    → (if has_object d o then d.class else 0) ≡ class_from p.objects o
class_at p ds o k d v e z le h at =
    let last : (get_or ds (k - 1) d).first ≤ o = h.0 (k - 1) d (omega arith) (omega arith) in
    let more : (j : ℕ) → k - 1 < j → j < length ds → o < (get_or ds j d).first = λ j a b. h.1 j d (omega arith) b in
    let found : class_from ds o ≡ (if has_object d o then d.class else 0) =
    class_last (length p.classes) 0 ds o (k - 1) d (rw e v.objects) (omega arith) last more
    ∙ ap (λ (x : ObjectDef). if has_object x o then x.class else 0) (sym at) in
    rw (← e) (sym found)

above : (m o : ℕ) → leb m o ≡ false → o < m
above m o h = grind (arith, nat_tests)

-- the tests of a search among them as facts
pub point_facts : (ds : List ObjectDef) (o k : ℕ) → IsPartitionPoint (λ d. leb d.first o ≡ true) (λ d. leb d.first o ≡ false) ds k
    → IsPartitionPoint (λ d. d.first ≤ o) (λ d. o < d.first) ds k
point_facts ds o k h = (λ j d a b. leb-true _ _ (h.0 j d a b), λ j d a b. above (get_or ds j d).first o (h.1 j d a b))
