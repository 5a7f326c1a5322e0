-- The check of the shape passes just the words from which options are gathered.
use Rattle.std.proofs.Common.{◌≡◌, ◌∙◌, Bool, true, false, List, [], ◌∷◌, ◌++◌, map, refl, ap, Option, Some, None, option_map}
use Rattle.std.specs.Prelude.{is_some, option_and_then, if◌then◌else◌}
use Rattle.std.specs.List.{list_any}
use Rattle.std.specs.Option.{option_map_or}
use Rattle.std.specs.Str.{bytes_eq}
use Rattle.std.proofs.lemmas.List.{map-append}
use Rattle.clap.proofs.WalkLemmas.{list_any-map}
use Rattle.cli_args.specs.declared.words.Kind.{Kind}
use Rattle.cli_args.specs.declared.words.Kind.TheVariants.{Valued, Flag}
use Rattle.cli_args.specs.Command.{Text, Given, Reading, giving, gathered, after_word, after_word_in, after_met, met_parts}
use Rattle.cli_args.specs.Command.{met_as, at_equals, after_hyphen, is_given, is_one_of, nothing_read, kind_of, is_equals}
use Rattle.cli_args.specs.inner.Shape.{Seen, seen_after, after_form, form_after, waits_as, has_shape_from, has_shape}

abbrev names_in : Given → List Text
names_in = map (λ p. p.0)

abbrev names_of : Given → Option Text → List Text
names_of given None = names_in given
names_of given (Some name) = names_in given ++ name ∷ []

abbrev seen_in : Reading → Seen
seen_in r = record { names = names_of r.given r.waiting; waits = is_some r.waiting }

names_after : (given : Given) (name value : Text) → names_in (given ++ (name, value) ∷ []) ≡ names_in given ++ name ∷ []
names_after given name value = map-append (λ p. p.0) given ((name, value) ∷ [])

given_by_name : (name : Text) (given : Given) → is_given name given ≡ is_one_of (names_in given) name
given_by_name name given = list_any-map (λ x. bytes_eq x name) (λ p. p.0) given

giving_seen : (given : Given) (name value : Text) → seen_in (giving given name value) ≡ record { names = names_in given ++ name ∷ []; waits = false }
giving_seen given name value = ap (λ ns. let s : Seen = record { names = ns; waits = false } in s) (names_after given name value)

-- an option is taken where its name is new, in both
taken_alike : (given : Given) (name : Text) (r : Reading) (waits : Bool) → seen_in r ≡ record { names = names_in given ++ name ∷ []; waits = waits }
    → option_map seen_in (if is_given name given then None else Some r) ≡ after_form (names_in given) (Some (name, waits))
taken_alike given name r waits e = by (is_given name given) (is_one_of (names_in given) name) (given_by_name name given)
  where
    by : (a b : Bool) → a ≡ b → option_map seen_in (if a then None else Some r)
        ≡ (if b then None else Some (record { names = names_in given ++ name ∷ []; waits = waits }))
    by true true h = refl
    by false false h = ap Some e
    by true false h = cc
    by false true h = cc

met_alike : (given : Given) (name value : Text) (kind : Option Kind) (attached : Bool)
    → option_map seen_in (after_met given (met_as kind name (if attached then Some value else None)))
    ≡ after_form (names_in given) (option_and_then (λ k. option_map (λ w. (name, w)) (waits_as k attached)) kind)
met_alike given name value None true = refl
met_alike given name value None false = refl
met_alike given name value (Some Valued) true = taken_alike given name (giving given name value) false (giving_seen given name value)
met_alike given name value (Some Valued) false = taken_alike given name (record { given = given; waiting = Some name }) true refl
met_alike given name value (Some Flag) true = refl
met_alike given name value (Some Flag) false = taken_alike given name (giving given name _) false (giving_seen given name _)

option_alike : (given : Given) (text : Option Text) → option_map seen_in (after_met given (met_parts (option_map at_equals text)))
    ≡ after_form (names_in given) (option_and_then form_after text)
option_alike given None = refl
option_alike given (Some text) = met_alike given (at_equals text).0 _ (kind_of (at_equals text).0) (list_any is_equals text)

value_alike : (given : Given) (name word : Text) (hyphen : Bool) → option_map seen_in (if hyphen then None else Some (giving given name word))
    ≡ (if hyphen then None else Some (record { names = names_in given ++ name ∷ []; waits = false }))
value_alike given name word true = refl
value_alike given name word false = ap Some (giving_seen given name word)

-- after one word the check has seen what the reading has
word_alike : (given : Given) (waiting : Option Text) (word : Text) → option_map seen_in (after_word_in given waiting word)
    ≡ seen_after (seen_in (record { given = given; waiting = waiting })) word
word_alike given None word = option_alike given (option_and_then after_hyphen (after_hyphen word))
word_alike given (Some name) word = value_alike given name word (is_some (after_hyphen word))

ends_alike : (given : Given) (waiting : Option Text) → is_some (gathered (record { given = given; waiting = waiting }) [])
    ≡ has_shape_from (seen_in (record { given = given; waiting = waiting })) []
ends_alike given None = refl
ends_alike given (Some name) = refl

rest_alike : (words : List Text) (o : Option Reading) → ((r : Reading) → is_some (gathered r words) ≡ has_shape_from (seen_in r) words)
    → is_some (option_and_then (λ next. gathered next words) o) ≡ option_map_or (λ s. has_shape_from s words) (option_map seen_in o) false
rest_alike words None h = refl
rest_alike words (Some r) h = h r

is_some-gathered_from : (words : List Text) (r : Reading) → is_some (gathered r words) ≡ has_shape_from (seen_in r) words
is_some-gathered_from [] r = ends_alike r.given r.waiting
is_some-gathered_from (word ∷ words) r = rest_alike words (after_word r word) (is_some-gathered_from words)
    ∙ ap (λ o. option_map_or (λ s. has_shape_from s words) o false) (word_alike r.given r.waiting word)

pub is_some-gathered : (words : List Text) → is_some (gathered nothing_read words) ≡ has_shape words
is_some-gathered words = is_some-gathered_from words nothing_read
