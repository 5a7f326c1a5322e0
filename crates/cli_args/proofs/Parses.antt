-- What a parse of the words finds, where options are gathered from them.
use Rattle.std.proofs.Common.{◌≡◌, ◌∙◌, Bool, true, false, List, [], ◌∷◌, ◌++◌, map, refl, sym, ap, codes, Option, Some}
use Rattle.std.specs.Prelude.{◌||◌, fold}
use Rattle.std.specs.Str.{bytes_eq}
use Rattle.std.proofs.lemmas.Slice.Eq.{bytes_eq-Decides}
use Rattle.clap.specs.Walk.{Row, Rule, first_of, finished, settled, walk, walk_from, nothing_held, with_default}
use Rattle.clap.specs.Simple.{matches_of}
use Rattle.cli_args.specs.Command.{Text, Given, Values, flag_names, gathered, is_one_of, is_true, nothing_read, value_of, values_of, valued_names}
use Rattle.cli_args.specs.inner.Clap.{run_app, values_found}
use Rattle.cli_args.proofs.Rows.{valued, flag, rows_given, first_of_given, no_default, other_than_default, default_is_not_true}
use Rattle.cli_args.proofs.Rules.{run_rules}
use Rattle.cli_args.proofs.Walks.{Stands, walk_gathers, stands_at_first}

abbrev values_by : Option Text → Option Text → Option Text → Option Text → Option Text → Option Text → Option Text → Bool → Bool → Bool → Bool → Values
values_by workers fuel quantum bias start tick states stats journal report witness = record {
  workers = workers;
  fuel = fuel;
  quantum = quantum;
  bias = bias;
  start = start;
  tick = tick;
  states = states;
  stats = stats;
  journal = journal;
  report = report;
  witness = witness;
}

values_same : {a b c d e f g k l m n o p q : Option Text} {r s t u v w x y : Bool}
    → a ≡ k → b ≡ l → c ≡ m → d ≡ n → e ≡ o → f ≡ p → g ≡ q → r ≡ v → s ≡ w → t ≡ x → u ≡ y
    → values_by a b c d e f g r s t u ≡ values_by k l m n o p q v w x y
values_same a b c d e f g r s t u = cc

pub values_found_alike : (f g : Text → Option Text) → ((id : Text) → f id ≡ g id) → values_found f ≡ values_found g
values_found_alike f g h = values_same (h (codes "workers")) (h (codes "fuel")) (h (codes "quantum")) (h (codes "bias"))
    (h (codes "hash-start")) (h (codes "tick")) (h (codes "states")) (ap is_true (h (codes "stats"))) (ap is_true (h (codes "journal")))
    (ap is_true (h (codes "report"))) (ap is_true (h (codes "witness")))

-- the rows with what is found of the flags that were not given
abbrev with_flags : List Text → List Row → List Row
with_flags names rows = fold with_default rows (map flag names)

past_valued : (names : List Text) (rows : List Row) (rest : List Rule) → fold with_default rows (map valued names ++ rest) ≡ fold with_default rows rest
past_valued [] rows rest = refl
past_valued (name ∷ names) rows rest =
    ap (λ rs. fold with_default rs (map valued names ++ rest)) (no_default name rows) ∙ past_valued names rows rest

-- an option that is no flag has no default, and the default of a flag is not `true`
one_past : (id name : Text) (names : List Text) (b : Bool) → bytes_eq name id ≡ b → is_one_of (name ∷ names) id ≡ false
    → (bytes_eq name id ≡ false) × (is_one_of names id ≡ false)
one_past id name names true q e = let bad : true ≡ false = sym (ap (λ t. t || is_one_of names id) q) ∙ e in cc
one_past id name names false q e = (q, sym (ap (λ t. t || is_one_of names id) q) ∙ e)

past_flags : (id : Text) (names : List Text) (rows : List Row) → is_one_of names id ≡ false → first_of id (with_flags names rows) ≡ first_of id rows
past_flags id [] rows e = refl
past_flags id (name ∷ names) rows e =
    let past = one_past id name names (bytes_eq name id) refl e in
    past_flags id names (with_default rows (flag name)) past.1 ∙ other_than_default id name rows past.0

one_flag : (id name : Text) (rows : List Row) (b : Bool) → bytes_eq name id ≡ b
    → is_true (first_of id (with_default rows (flag name))) ≡ is_true (first_of id rows)
one_flag id name rows false q = ap is_true (other_than_default id name rows q)
one_flag id name rows true q =
    ap (λ n. is_true (first_of id (with_default rows (flag n)))) ((bytes_eq-Decides name id).0 q)
    ∙ default_is_not_true id rows ((bytes_eq-Decides id id).1 refl)

flags_not_true : (id : Text) (names : List Text) (rows : List Row) → is_true (first_of id (with_flags names rows)) ≡ is_true (first_of id rows)
flags_not_true id [] rows = refl
flags_not_true id (name ∷ names) rows =
    flags_not_true id names (with_default rows (flag name)) ∙ one_flag id name rows (bytes_eq name id) refl

-- what is found is what was given, in spite of the defaults
option_found : (id : Text) (given : Given) → is_one_of flag_names id ≡ false → first_of id (with_flags flag_names (rows_given given)) ≡ value_of id given
option_found id given e = past_flags id flag_names (rows_given given) e ∙ first_of_given id given

flag_found : (id : Text) (given : Given) → is_true (first_of id (with_flags flag_names (rows_given given))) ≡ is_true (value_of id given)
flag_found id given = flags_not_true id flag_names (rows_given given) ∙ ap is_true (first_of_given id given)

values_found_given : (given : Given) → values_found (λ id. first_of id (with_flags flag_names (rows_given given))) ≡ values_of given
values_found_given given = values_same
    (option_found (codes "workers") given refl) (option_found (codes "fuel") given refl) (option_found (codes "quantum") given refl)
    (option_found (codes "bias") given refl) (option_found (codes "hash-start") given refl) (option_found (codes "tick") given refl)
    (option_found (codes "states") given refl) (flag_found (codes "stats") given) (flag_found (codes "journal") given)
    (flag_found (codes "report") given) (flag_found (codes "witness") given)

finished_rows : (words : List Text) (given : Given) → Stands given (walk run_rules [] nothing_held words)
    → finished run_rules (walk run_rules [] nothing_held words).held ≡ with_flags flag_names (rows_given given)
finished_rows words given stands =
    ap (λ w. finished run_rules w.held) stands.at
    ∙ past_valued valued_names (settled run_rules stands.held).rows (map flag flag_names)
    ∙ ap (with_flags flag_names) stands.rows

-- a parse finds the values of the options that are gathered
pub values_of_parse : (words : List Text) (given : Given) → gathered nothing_read words ≡ Some given
    → values_found (λ id. first_of id (matches_of run_app words)) ≡ values_of given
values_of_parse words given e =
    ap (λ rows. values_found (λ id. first_of id rows))
    (finished_rows words given (walk_gathers words nothing_read (walk_from nothing_held) given stands_at_first e))
    ∙ values_found_given given
