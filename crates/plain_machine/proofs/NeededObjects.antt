-- The classes of the declared objects.
use Rattle.std.proofs.Common.{◌≡◌, ℕ, ◌+◌, ◌<◌, List, [], ◌∷◌}
use Rattle.std.proofs.Common.{◌++◌, length, replicate, get_or, take, refl, ap, sym, ◌∙◌, length-append}
use Rattle.std.specs.List.{flat_map}
use Rattle.std.proofs.lemmas.List.{length-replicate, append-nil, take_more}
use Rattle.std.proofs.lemmas.List.Concat.{flat_map-append}
use Rattle.object_program.specs.declared.program.ObjectDef.{ObjectDef}
use Rattle.object_program.specs.Program.{classes_from, total_of}

-- the declared objects come first
pub first_is_total : (ds : List ObjectDef) → length (classes_from ds) ≡ total_of ds
first_is_total [] = refl
first_is_total (d ∷ ds) =
    length-append (replicate d.size d.class) (flat_map (λ d. replicate d.size d.class) ds)
    ∙ ap (λ n. n + length (flat_map (λ d. replicate d.size d.class) ds)) (length-replicate d.size d.class) ∙ ap (λ n. d.size + n) (first_is_total ds)

-- the classes of the declarations so far, and those of one declaration more
pub classes_step : (ds : List ObjectDef) (i : ℕ) (d : ObjectDef) (before after : List ℕ) → i < length ds → d ≡ get_or ds i d
    → before ≡ classes_from (take i ds) → after ≡ before ++ replicate d.size d.class → after ≡ classes_from (take (i + 1) ds)
classes_step ds i d before after lt at b a =
    let more : take (i + 1) ds ≡ take i ds ++ d ∷ [] = take_more ds i d lt ∙ ap (λ x. take i ds ++ x ∷ []) (sym at) in
    a ∙ ap (λ xs. xs ++ replicate d.size d.class) b ∙ ap (λ xs. classes_from (take i ds) ++ xs) (sym (append-nil (replicate d.size d.class)))
    ∙ sym (flat_map-append (λ (x : ObjectDef). replicate x.size x.class) (take i ds) (d ∷ [])) ∙ ap classes_from (sym more)
