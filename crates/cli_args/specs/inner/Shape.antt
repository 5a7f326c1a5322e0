-- Which words give options at all, whatever their values: what is checked before the words are parsed.
use Rattle.std.specs.Prelude.{Bool, true, false, not, List, [], ◌∷◌, ◌++◌, if◌then◌else◌}
use Rattle.std.specs.Prelude.{Option, Some, None, is_some, option_map, option_and_then}
use Rattle.std.specs.List.{list_any, before_first}
use Rattle.std.specs.Option.{option_map_or}
use Rattle.cli_args.specs.declared.words.Kind.{Kind}
use Rattle.cli_args.specs.declared.words.Kind.TheVariants.{Valued, Flag}
use Rattle.cli_args.specs.Command.{Text, is_one_of, after_hyphen, is_equals, kind_of}

-- whether the value of an option is the next word; `attached` says that the word has a `=`
abbrev pub waits_as : Kind → Bool → Option Bool
waits_as Valued attached = Some (not attached)
waits_as Flag true = None
waits_as Flag false = Some false

abbrev pub form_in : Text → Bool → Option (Text × Bool)
form_in name attached = option_and_then (λ kind. option_map (λ waits. (name, waits)) (waits_as kind attached))
    (kind_of name)

abbrev pub form_after : Text → Option (Text × Bool)
form_after text = form_in (before_first is_equals text) (list_any is_equals text)

-- the name of the option that the word is, and whether its value is the next word
abbrev pub form_of : Text → Option (Text × Bool)
form_of word = option_and_then form_after (option_and_then after_hyphen (after_hyphen word))

-- between two words: the names so far, and whether the next word is a value
pub record Seen : Type 0 where
  pub names : List Text
  pub waits : Bool

abbrev pub after_form : List Text → Option (Text × Bool) → Option Seen
after_form names None = None
after_form names (Some p) = if is_one_of names p.0 then None
    else Some (record { names = names ++ p.0 ∷ []; waits = p.1 })

abbrev pub seen_after : Seen → Text → Option Seen
seen_after s word = if s.waits
    then (if is_some (after_hyphen word) then None else Some (record { names = s.names; waits = false }))
    else after_form s.names (form_of word)

abbrev pub has_shape_from : Seen → List Text → Bool
has_shape_from s [] = not s.waits
has_shape_from s (word ∷ words) = option_map_or (λ next. has_shape_from next words) (seen_after s word) false

abbrev pub has_shape : List Text → Bool
has_shape = has_shape_from (record { names = []; waits = false })
