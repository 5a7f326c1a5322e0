-- The values that words give, by their shape and what was parsed; and that fewer than two words are no command.
use Rattle.std.proofs.Common.{◌≡◌, ◌∙◌, ◌<◌, true, false, List, [], ◌∷◌, length, map, refl, sym, ap, arith, Option, Some, None, option_map}
use Rattle.std.specs.Prelude.{is_some}
use Rattle.cli_args.specs.Command.{Text, Given, Values, accepted, gathered, nothing_read, values_in, values_of}
use Rattle.cli_args.specs.inner.Shape.{has_shape}
use Rattle.cli_args.proofs.Shapes.{is_some-gathered}

none_given : (o : Option Given) → is_some o ≡ false → option_map values_of o ≡ None
none_given None e = refl
none_given (Some given) e = cc

some_given : (o : Option Given) (v : Values) → is_some o ≡ true → ((given : Given) → o ≡ Some given → v ≡ values_of given)
    → option_map values_of o ≡ Some v
some_given None v e h = cc
some_given (Some given) v e h = ap Some (sym (h given refl))

pub values_of_no_shape : (words : List Text) → has_shape words ≡ false → values_in words ≡ None
values_of_no_shape words e = none_given (gathered nothing_read words) (is_some-gathered words ∙ e)

pub values_of_words : (words : List Text) (v : Values) → has_shape words ≡ true
    → ((given : Given) → gathered nothing_read words ≡ Some given → v ≡ values_of given) → values_in words ≡ Some v
values_of_words words v e h = some_given (gathered nothing_read words) v (is_some-gathered words ∙ e) h

pub accepted_short : {X : Type 0} (f : X → Text) (ws : List X) → length ws < 2 → accepted (map f ws) ≡ None
accepted_short f [] h = refl
accepted_short f (a ∷ []) h = refl
accepted_short f (a ∷ b ∷ ws) h = absurd (omega (arith, h))
