-- Whether the threads of a program have a `hash` instruction.
use Rattle.std.proofs.Common.{◌≡◌, ℕ, ◌+◌, ◌<◌, ◌||◌, false, List, [], ◌∷◌, length, get_or, drop, refl}
use Rattle.std.proofs.Math.Numerals.{add-one}
use Rattle.std.proofs.Math.Seq.{drop-cons}
use Rattle.std.proofs.lemmas.Bool.{or_parts}
use Rattle.std.specs.List.{list_any, AllByRecursion}
use Rattle.object_program.specs.declared.program.Code.{Code}
use Rattle.object_program.specs.declared.program.ThreadDef.{ThreadDef}
use Rattle.object_program.specs.Program.{ProgramText}
use Rattle.every_outcome.specs.NoHash.{is_hash_code, HasNoHash}
use Rattle.outcome_search.specs.Outcomes.{has_hash}

dropped : {A : Type 0} (xs : List A) (i : ℕ) (d : A) → i < length xs → drop i xs ≡ get_or xs i d ∷ drop (i + 1) xs
dropped xs i d h = rw add-one (drop-cons xs i d h)

pub any_hash_step : (cs : List Code) (i : ℕ) (d : Code) → i < length cs
    → list_any is_hash_code (drop i cs) ≡ (is_hash_code (get_or cs i d) || list_any is_hash_code (drop (i + 1) cs))
any_hash_step cs i d h = rw (dropped cs i d h) refl

pub any_thread_step : (ts : List ThreadDef) (i : ℕ) (d : ThreadDef) → i < length ts
    → list_any (λ (t : ThreadDef). list_any is_hash_code t.code) (drop i ts)
    ≡ (list_any is_hash_code (get_or ts i d).code || list_any (λ (t : ThreadDef). list_any is_hash_code t.code) (drop (i + 1) ts))
any_thread_step ts i d h = rw (dropped ts i d h) refl

none_among : (ts : List ThreadDef) → list_any (λ (t : ThreadDef). list_any is_hash_code t.code) ts ≡ false
    → AllByRecursion (λ (t : ThreadDef). list_any is_hash_code t.code ≡ false) ts
none_among [] h = tt
none_among (t ∷ ts) h =
    let both = or_parts (list_any is_hash_code t.code) (list_any (λ (t : ThreadDef). list_any is_hash_code t.code) ts) h in
    (both.0, none_among ts both.1)

pub none_has : (p : ProgramText) → has_hash p ≡ false → HasNoHash p
none_has p h = none_among p.threads h
