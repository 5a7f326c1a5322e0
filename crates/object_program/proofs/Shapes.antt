-- Declarations of objects, one after another.
use Rattle.std.proofs.Common.{◌≡◌, ℕ, suc, ◌+◌, ◌-◌, ◌<◌, ◌≤◌, if◌then◌else◌, List, [], ◌∷◌, length}
use Rattle.std.proofs.Common.{get_or, slice_get, drop, refl, sym, ap, ◌∙◌, Some, None, arith}
use Rattle.std.proofs.lemmas.Option.{none-some, same_Some}
use Rattle.std.proofs.Math.Numerals.{add-one}
use Rattle.std.proofs.Math.Seq.{drop-cons}
use Rattle.object_program.specs.Program.{total_of, has_object, class_from, place_from}
use Rattle.object_program.specs.Valid.{AreObjects}
use Rattle.object_program.specs.declared.program.ObjectDef.{ObjectDef}

dropped : (ds : List ObjectDef) (i : ℕ) (d : ObjectDef) → i < length ds → drop i ds ≡ get_or ds i d ∷ drop (i + 1) ds
dropped ds i d h = rw add-one (drop-cons ds i d h)

pub class_step : (ds : List ObjectDef) (i : ℕ) (d : ObjectDef) (o : ℕ) → i < length ds
    → class_from (drop i ds) o ≡ (if has_object (get_or ds i d) o then (get_or ds i d).class else class_from (drop (i + 1) ds) o)
class_step ds i d o h = rw (dropped ds i d h) refl

pub place_step : (n : ℕ) (ds : List ObjectDef) (i : ℕ) (d : ObjectDef) (o : ℕ) → i < length ds
    → place_from n (drop i ds) o ≡ (if has_object (get_or ds i d) o then (n, o - (get_or ds i d).first) else place_from (n + 1) (drop (i + 1) ds) o)
place_step n ds i d o h = rw (dropped ds i d h) refl

-- each declaration stands for an object
pub objects_few : (classes n : ℕ) (ds : List ObjectDef) → AreObjects classes n ds → length ds ≤ total_of ds
objects_few classes n [] h = omega arith
objects_few classes n (d ∷ ds) h = omega (arith, h.0.2, objects_few classes (n + d.size) ds h.1)

last_step : (e f : ObjectDef) (ds : List ObjectDef) → slice_get (e ∷ f ∷ ds) (length (e ∷ f ∷ ds) - 1) ≡ slice_get (f ∷ ds) (length (f ∷ ds) - 1)
last_step e f ds =
    let place : length (e ∷ f ∷ ds) - 1 ≡ suc (length (f ∷ ds) - 1) = omega arith in
    ap (slice_get (e ∷ f ∷ ds)) place

-- declarations stand for neighbouring numbers, so that the last one tells how many objects there are
pub last_total : (classes n : ℕ) (ds : List ObjectDef) (d : ObjectDef) → AreObjects classes n ds
    → Some d ≡ slice_get ds (length ds - 1) → d.first + d.size ≡ n + total_of ds
last_total classes n [] d h is = absurd (none-some d (sym is))
last_total classes n (e ∷ []) d h is = let same : d ≡ e = same_Some d e is in rw same (omega (arith, h.0.1))
last_total classes n (e ∷ f ∷ ds) d h is = omega (arith, last_total classes (n + e.size) (f ∷ ds) d h.1 (is ∙ last_step e f ds))

pub none_total : (ds : List ObjectDef) → None ≡ slice_get ds (length ds - 1) → total_of ds ≡ 0
none_total [] is = refl
none_total (e ∷ ds) is = absurd (nothing_last e ds is)
  where
    nothing_last : (e : ObjectDef) (ds : List ObjectDef) → None ≡ slice_get (e ∷ ds) (length (e ∷ ds) - 1) → ⊥
    nothing_last e [] is = none-some e is
    nothing_last e (f ∷ ds) is = nothing_last f ds (is ∙ last_step e f ds)
