-- Words that ask for a program to be made say from 1 to 1,500 items, and those that ask for a search keep one state at least.
use Rattle.std.proofs.Common.{◌≡◌, ℕ, ◌≤◌, ◌&&◌, ◌||◌, Bool, true, false, nat_le, if◌then◌else◌, List, [], ◌∷◌}
use Rattle.std.proofs.Common.{Option, Some, None, is_some, option_map, option_and_then, refl, subst, arith}
use Rattle.std.specs.Prelude.{codes}
use Rattle.std.specs.Bool.{⊤}
use Rattle.std.specs.Str.{bytes_eq}
use Rattle.std.specs.Str.Parse.{digits_value}
use Rattle.std.proofs.lemmas.Bool.{leb-true}
use Rattle.cli_args.specs.declared.options.Options.{Options}
use Rattle.cli_args.specs.declared.options.Command.{Command}
use Rattle.cli_args.specs.declared.options.Command.TheVariants.{Run, Sync, Compile, Check, Make, Outcomes}
use Rattle.cli_args.specs.Number.{is_number, number, within}
use Rattle.cli_args.specs.Command.{Text, Values, accepted, compile_of, make_of, check_by, check_values, fuel_of, start_of}
use Rattle.cli_args.specs.Command.{has_run_options, has_outcome_options, options_in, outcomes_by, read_or, values_in}

-- where a command makes a program or a search, its number is in that range
abbrev IsFew : Option Command → Type 0
IsFew None = ⊤
IsFew (Some (Run o)) = ⊤
IsFew (Some (Sync o)) = ⊤
IsFew (Some Compile) = ⊤
IsFew (Some (Check fuel start)) = ⊤
IsFew (Some (Make items)) = (1 ≤ items) × (items ≤ 1500)
IsFew (Some (Outcomes states witness)) = 1 ≤ states

by_test : (b : Bool) (c d : Option Command) → IsFew c → IsFew d → IsFew (if b then c else d)
by_test true c d few_c few_d = few_c
by_test false c d few_c few_d = few_d

of_run : (o : Option Options) → IsFew (option_map Run o)
of_run None = tt
of_run (Some o) = tt

of_sync : (o : Option Options) → IsFew (option_map Sync o)
of_sync None = tt
of_sync (Some o) = tt

of_compile : (words : List Text) → IsFew (compile_of words)
of_compile [] = tt
of_compile (a ∷ words) = tt

of_check : (fuel start : Option ℕ) → IsFew (option_and_then (λ f. option_and_then (λ s. Some (Check f s)) start) fuel)
of_check None start = tt
of_check (Some f) None = tt
of_check (Some f) (Some s) = tt

of_values : (v : Option Values) → IsFew (option_and_then check_by v)
of_values None = tt
of_values (Some v) = by_test (has_run_options v || has_outcome_options v) None (check_values v) tt (of_check (fuel_of v) (start_of v))

of_within : (n : ℕ) (least most : Bool) → nat_le 1 n ≡ least → nat_le n 1500 ≡ most → IsFew (option_map Make (if least && most then Some n else None))
of_within n true true e f = (leb-true 1 n e, leb-true n 1500 f)
of_within n true false e f = tt
of_within n false most e f = tt

of_number : (b : Bool) (n : ℕ) → IsFew (option_map Make (if b then within 1 1500 n else None))
of_number true n = of_within n (nat_le 1 n) (nat_le n 1500) refl refl
of_number false n = tt

of_make : (words : List Text) → IsFew (make_of words)
of_make [] = tt
of_make (items ∷ []) = of_number (is_number items) (digits_value 10 items)
of_make (a ∷ b ∷ words) = tt

some_within : (witness : Bool) (n : ℕ) (least most : Bool) → nat_le 1 n ≡ least
    → IsFew (option_map (λ n. Outcomes n witness) (if least && most then Some n else None))
some_within witness n true true e = leb-true 1 n e
some_within witness n true false e = tt
some_within witness n false most e = tt

some_number : (witness : Bool) (b : Bool) (n : ℕ) → IsFew (option_map (λ n. Outcomes n witness) (if b then within 1 10000000 n else None))
some_number witness true n = some_within witness n (nat_le 1 n) (nat_le n 10000000) refl
some_number witness false n = tt

some_states : (witness : Bool) (text : Option Text) → IsFew (option_map (λ n. Outcomes n witness) (read_or 1000000 (number 1 10000000) text))
some_states witness None = omega arith
some_states witness (Some text) = some_number witness (is_number text) (digits_value 10 text)

of_searched : (v : Option Values) → IsFew (option_and_then outcomes_by v)
of_searched None = tt
of_searched (Some v) = by_test (has_run_options v || is_some v.fuel || is_some v.start) None _ tt (some_states v.witness v.states)

of_words : (words : List Text) → IsFew (accepted words)
of_words [] = tt
of_words (program ∷ []) = tt
of_words (program ∷ command ∷ words) =
    by_test (bytes_eq command (codes "run")) _ _ (of_run (options_in words))
    (by_test (bytes_eq command (codes "sync")) _ _ (of_sync (options_in words))
    (by_test (bytes_eq command (codes "compile")) _ _ (of_compile words)
    (by_test (bytes_eq command (codes "check")) _ _ (of_values (values_in words))
    (by_test (bytes_eq command (codes "make")) _ _ (of_make words)
    (by_test (bytes_eq command (codes "outcomes")) _ _ (of_searched (values_in words)) tt)))))

pub few_items : (words : List Text) (items : ℕ) → accepted words ≡ Some (Make items) → (1 ≤ items) × (items ≤ 1500)
few_items words items e = subst IsFew e (of_words words)

pub few_states : (words : List Text) (states : ℕ) (witness : Bool) → accepted words ≡ Some (Outcomes states witness) → 1 ≤ states
few_states words states witness e = subst IsFew e (of_words words)
