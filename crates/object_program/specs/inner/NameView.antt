-- The array that a name is kept in, made from its bytes.
use Rattle.std.specs.Prelude.{◌≡◌, ℕ, ◌-◌, List, ◌++◌, length, take, replicate, refl}
use Rattle.std.proofs.lemmas.List.{take-append-drop, length-take-le}
use Rattle.object_program.specs.declared.name.Name.TheInside.{Inside}
use Rattle.object_program.specs.NameView.{name_bytes, IsKept}

-- the array that has these bytes in front
abbrev pub name_inside : List ℕ → Inside
name_inside bs = record { bytes = bs ++ replicate (32 - length bs) 0; length = length bs }

-- the bytes give the array back
pub name_again : (a : Inside) → IsKept a → name_inside (name_bytes a) ≡ a
name_again a h =
    let n : length (take a.length a.bytes) ≡ a.length = length-take-le a.length a.bytes h.within in
    rw (n, ← h.rest, take-append-drop a.length a.bytes) refl
