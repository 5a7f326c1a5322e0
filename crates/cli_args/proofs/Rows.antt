-- The rows of a parse, and the options that were given.
use Rattle.std.proofs.Common.{◌≡◌, ◌∙◌, Bool, true, false, cond, List, [], ◌∷◌, ◌++◌, map, refl, sym, ap, codes, Option, Some, None, option_map}
use Rattle.std.specs.Prelude.{◌||◌, ◌&&◌, not, find, option_and_then, slice_get}
use Rattle.std.specs.Str.{bytes_eq}
use Rattle.std.proofs.lemmas.List.{map-append}
use Rattle.std.proofs.Common.{append-nil}
use Rattle.clap.specs.Walk.{Row, Rule, at_row, without, with_values, more_values, has_row, used, with_default, first_of}
use Rattle.clap.specs.Simple.{filled}
use Rattle.clap.specs.Takes.{use_passes}
use Rattle.clap.specs.declared.builder.value_parser.Reading.TheVariants.{AsWritten}
use Rattle.clap.specs.declared.parser.matches.ValueSource.{ValueSource}
use Rattle.clap.specs.declared.parser.matches.ValueSource.TheVariants.{DefaultValue, CommandLine}
use Rattle.clap.specs.declared.builder.action.ArgAction.TheVariants.{Set, SetTrue}
use Rattle.clap.proofs.WalkLemmas.{find-map, list_any-map}
use Rattle.cli_args.specs.Command.{Text, Given, is_given, is_true, value_of}
use Rattle.cli_args.specs.inner.Clap.{rule_named}

-- the rules of an option with a value and of a flag, as the command has them when it is built
abbrev pub valued : Text → Rule
valued name = filled (rule_named Set name)

abbrev pub flag : Text → Rule
flag name = filled (rule_named SetTrue name)

abbrev pub row_by : ValueSource → Text → Text → Row
row_by source name value = record { id = name; values = value ∷ []; count = None; source = Some source; reading = AsWritten }

abbrev pub row_given : Text × Text → Row
row_given p = row_by CommandLine p.0 p.1

abbrev pub rows_given : Given → List Row
rows_given = map row_given

-- ---- a use of an option

at_next_row : (id : Text) (change : Row → List Row) (missing : List Row) (r : Row) (rs : List Row) (b : Bool) → bytes_eq r.id id ≡ b
    → (has_row id rs ≡ false → at_row id change missing rs ≡ rs ++ missing) → has_row id (r ∷ rs) ≡ false
    → at_row id change missing (r ∷ rs) ≡ (r ∷ rs) ++ missing
at_next_row id change missing r rs true q again e = let bad : true ≡ false = sym (ap (λ t. t || has_row id rs) q) ∙ e in cc
at_next_row id change missing r rs false q again e =
    ap (λ t. cond t (change r ++ rs) (r ∷ at_row id change missing rs)) q
    ∙ ap (λ xs. r ∷ xs) (again (sym (ap (λ t. t || has_row id rs) q) ∙ e))

at_new_row : (id : Text) (change : Row → List Row) (missing rows : List Row) → has_row id rows ≡ false → at_row id change missing rows ≡ rows ++ missing
at_new_row id change missing [] e = refl
at_new_row id change missing (r ∷ rs) e = at_next_row id change missing r rs (bytes_eq r.id id) refl (at_new_row id change missing rs) e

with_new_values : (id : Text) (source : ValueSource) (value : Text) (rows : List Row) → has_row id rows ≡ false
    → with_values id AsWritten source (value ∷ []) rows ≡ rows ++ row_by source id value ∷ []
with_new_values id source value rows e = at_new_row id (more_values source (value ∷ [])) (row_by source id value ∷ []) rows e

used_new : (id value : Text) (rows : List Row) → has_row id rows ≡ false
    → with_values id AsWritten CommandLine (value ∷ []) (without id rows) ≡ rows ++ row_by CommandLine id value ∷ []
used_new id value rows e =
    ap (with_values id AsWritten CommandLine (value ∷ [])) (at_new_row id (λ _. []) [] rows e ∙ append-nil rows)
    ∙ with_new_values id CommandLine value rows e

pub has_row_given : (id : Text) (given : Given) → has_row id (rows_given given) ≡ is_given id given
has_row_given id given = sym (list_any-map (λ r. bytes_eq r.id id) row_given given)

more_given : (given : Given) (name value : Text) → rows_given given ++ row_by CommandLine name value ∷ [] ≡ rows_given (given ++ (name, value) ∷ [])
more_given given name value = sym (map-append row_given given ((name, value) ∷ []))

pub used_valued : (given : Given) (name value : Text) → is_given name given ≡ false
    → used (valued name) (value ∷ []) (rows_given given) ≡ rows_given (given ++ (name, value) ∷ [])
used_valued given name value e = used_new name value (rows_given given) (has_row_given name given ∙ e) ∙ more_given given name value

pub used_flag : (given : Given) (name : Text) → is_given name given ≡ false
    → used (flag name) [] (rows_given given) ≡ rows_given (given ++ (name, codes "true") ∷ [])
used_flag given name e = used_new name (codes "true") (rows_given given) (has_row_given name given ∙ e) ∙ more_given given name (codes "true")

-- a use passes where the name has no row yet
pub use_valued : (name value : Text) (rows : List Row) → has_row name rows ≡ false → use_passes false (valued name) (value ∷ []) rows ≡ true
use_valued name value rows e = ap (λ b. (not b || false) && true) e

pub use_flag : (name : Text) (rows : List Row) → has_row name rows ≡ false → use_passes false (flag name) [] rows ≡ true
use_flag name rows e = ap (λ b. (not b || false) && true) e

-- ---- what a parse finds

value_in_row : (o : Option (Text × Text)) → option_and_then (λ r. slice_get r.values 0) (option_map row_given o) ≡ option_map (λ p. p.1) o
value_in_row None = refl
value_in_row (Some p) = refl

pub first_of_given : (id : Text) (given : Given) → first_of id (rows_given given) ≡ value_of id given
first_of_given id given =
    ap (option_and_then (λ r. slice_get r.values 0)) (sym (find-map (λ r. bytes_eq r.id id) row_given given))
    ∙ value_in_row (find (λ p. bytes_eq p.0 id) given)

-- ---- the defaults: none of an option with a value, `false` of a flag

same_by_both : (b : Bool) (rows : List Row) → cond b rows rows ≡ rows
same_by_both true rows = refl
same_by_both false rows = refl

pub no_default : (name : Text) (rows : List Row) → with_default rows (valued name) ≡ rows
no_default name rows = same_by_both (has_row name rows) rows

find_before_next : (id : Text) (x : Row) (rows : List Row) (r : Row) (b : Bool) → bytes_eq x.id id ≡ b
    → first_of id (rows ++ r ∷ []) ≡ first_of id rows → first_of id ((x ∷ rows) ++ r ∷ []) ≡ first_of id (x ∷ rows)
find_before_next id x rows r true q again = rw q refl
find_before_next id x rows r false q again = rw q again

find_before : (id : Text) (rows : List Row) (r : Row) → bytes_eq r.id id ≡ false → first_of id (rows ++ r ∷ []) ≡ first_of id rows
find_before id [] r e = ap (λ t. option_and_then (λ x. slice_get x.values 0) (cond t (Some r) None)) e
find_before id (x ∷ rows) r e = find_before_next id x rows r (bytes_eq x.id id) refl (find_before id rows r e)

-- what is found after a row of another name
found_after : (id : Text) (x : Row) (rows : List Row) (b : Bool) → bytes_eq x.id id ≡ b → has_row id (x ∷ rows) ≡ false
    → (has_row id rows ≡ false) × (bytes_eq x.id id ≡ false)
found_after id x rows true q e = let bad : true ≡ false = sym (ap (λ t. t || has_row id rows) q) ∙ e in cc
found_after id x rows false q e = (sym (ap (λ t. t || has_row id rows) q) ∙ e, q)

find_last : (id : Text) (rows : List Row) (r : Row) → has_row id rows ≡ false → bytes_eq r.id id ≡ true → first_of id (rows ++ r ∷ []) ≡ slice_get r.values 0
find_last id [] r e h = ap (λ t. option_and_then (λ x. slice_get x.values 0) (cond t (Some r) None)) h
find_last id (x ∷ rows) r e h =
    let after = found_after id x rows (bytes_eq x.id id) refl e in
    rw after.1 (find_last id rows r after.0 h)

none_found : (id : Text) (rows : List Row) → has_row id rows ≡ false → first_of id rows ≡ None
none_found id [] e = refl
none_found id (x ∷ rows) e =
    let after = found_after id x rows (bytes_eq x.id id) refl e in
    rw after.1 (none_found id rows after.0)

pub other_than_default : (id name : Text) (rows : List Row) → bytes_eq name id ≡ false → first_of id (with_default rows (flag name)) ≡ first_of id rows
other_than_default id name rows e = by (has_row name rows) refl
  where
    by : (b : Bool) → has_row name rows ≡ b → first_of id (with_default rows (flag name)) ≡ first_of id rows
    by true q = rw q refl
    by false q = rw (q, with_new_values name DefaultValue (codes "false") rows q) (find_before id rows _ e)

pub default_is_not_true : (name : Text) (rows : List Row) → bytes_eq name name ≡ true
    → is_true (first_of name (with_default rows (flag name))) ≡ is_true (first_of name rows)
default_is_not_true name rows e = by (has_row name rows) refl
  where
    by : (b : Bool) → has_row name rows ≡ b → is_true (first_of name (with_default rows (flag name))) ≡ is_true (first_of name rows)
    by true q = rw q refl
    by false q = rw (q, with_new_values name DefaultValue (codes "false") rows q, none_found name rows q) (ap is_true (find_last name rows _ q e))
