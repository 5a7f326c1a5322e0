-- The options of words that are accepted are such that a run can have them.
use Rattle.std.proofs.Common.{◌≡◌, ℕ, ◌≤◌, ◌&&◌, ◌||◌, Bool, true, false, nat_le, if◌then◌else◌, List, [], ◌∷◌}
use Rattle.std.proofs.Common.{Option, Some, None, is_some, option_map, option_and_then, refl, subst, arith}
use Rattle.std.specs.Prelude.{codes}
use Rattle.std.specs.Bool.{⊤}
use Rattle.std.specs.Str.{bytes_eq}
use Rattle.std.specs.Str.Parse.{digits_value}
use Rattle.std.proofs.lemmas.Bool.{leb-true}
use Rattle.plain_monitor.specs.Limits.{most_threads, most_fuel}
use Rattle.cli_args.specs.declared.options.Options.{Options}
use Rattle.cli_args.specs.declared.options.Command.{Command}
use Rattle.cli_args.specs.declared.options.Command.TheVariants.{Run, Sync, Compile, Check, Make, Outcomes}
use Rattle.cli_args.specs.Number.{is_number, number, within}
use Rattle.cli_args.specs.Command.{Text, Values, accepted, check_by, check_values, compile_of, fuel_of, has_outcome_options, has_run_options}
use Rattle.cli_args.specs.Command.{make_of, options_in, options_of, outcomes_by, read_or, run_values, start_of, switch, values_in}
use Rattle.bias_cli.specs.inner.Asked.{IsRunnable}

-- where there is a number, it lies between these
abbrev IsBetween : ℕ → ℕ → Option ℕ → Type 0
IsBetween least most None = ⊤
IsBetween least most (Some n) = (least ≤ n) × (n ≤ most)

of_within : (least most n : ℕ) (a b : Bool) → nat_le least n ≡ a → nat_le n most ≡ b → IsBetween least most (if a && b then Some n else None)
of_within least most n true true e f = (leb-true least n e, leb-true n most f)
of_within least most n true false e f = tt
of_within least most n false b e f = tt

of_number : (least most : ℕ) (text : Text) (b : Bool) → IsBetween least most (if b then within least most (digits_value 10 text) else None)
of_number least most text true =
    of_within least most (digits_value 10 text) (nat_le least (digits_value 10 text)) (nat_le (digits_value 10 text) most) refl refl
of_number least most text false = tt

of_text : (default least most : ℕ) → least ≤ default → default ≤ most → (text : Option Text) → IsBetween least most (read_or default (number least most) text)
of_text default least most low high None = (low, high)
of_text default least most low high (Some text) = of_number least most text (is_number text)

-- where there are options, a run can have them
abbrev AreRunnable : Option Options → Type 0
AreRunnable None = ⊤
AreRunnable (Some o) = IsRunnable o

-- the options of these parts, where all are there
abbrev joined : Values → Option ℕ → Option ℕ → Option ℕ → Option Bool → Option ℕ → Option ℕ → Option Options
joined v workers fuel quantum bias start tick =
    option_and_then (λ w. option_and_then (λ f. option_and_then (λ q. option_and_then (λ b. option_and_then (λ s. option_and_then (λ t.
    Some (record {
      workers = w;
      fuel = f;
      quantum = q;
      bias = b;
      start = s;
      tick = t;
      stats = v.stats;
      journal = v.journal;
      report = v.report;
    })) tick) start) bias) quantum) fuel) workers

of_parts : (v : Values) (workers fuel quantum : Option ℕ) (bias : Option Bool) (start tick : Option ℕ)
    → IsBetween 1 most_threads workers → IsBetween 1 most_fuel fuel → IsBetween 1 100000 quantum
    → AreRunnable (joined v workers fuel quantum bias start tick)
of_parts v None fuel quantum bias start tick w f q = tt
of_parts v (Some a) None quantum bias start tick w f q = tt
of_parts v (Some a) (Some b) None bias start tick w f q = tt
of_parts v (Some a) (Some b) (Some c) None start tick w f q = tt
of_parts v (Some a) (Some b) (Some c) (Some d) None tick w f q = tt
of_parts v (Some a) (Some b) (Some c) (Some d) (Some e) None w f q = tt
of_parts v (Some a) (Some b) (Some c) (Some d) (Some e) (Some g) w f q = record { fuel = f.1; workers = w.0; quantum = q.0 }

of_run_values : (v : Values) → AreRunnable (run_values v)
of_run_values v =
    of_parts v (read_or 4 (number 1 most_threads) v.workers) (fuel_of v) (read_or 1000 (number 1 100000) v.quantum) (read_or true switch v.bias) (start_of v)
    (read_or 0 (number 0 4294967295) v.tick)
    (of_text 4 1 most_threads (omega arith) (omega arith) v.workers)
    (of_text 20000 1 most_fuel (omega arith) (omega arith) v.fuel)
    (of_text 1000 1 100000 (omega arith) (omega arith) v.quantum)

only_without : (b : Bool) (o : Option Options) → AreRunnable o → AreRunnable (if b then None else o)
only_without true o can = tt
only_without false o can = can

of_options : (v : Values) → AreRunnable (options_of v)
of_options v = only_without (has_outcome_options v) (run_values v) (of_run_values v)

of_values : (v : Option Values) → AreRunnable (option_and_then options_of v)
of_values None = tt
of_values (Some v) = of_options v

-- where a command runs a program, a run can have its options
abbrev CanRun : Option Command → Type 0
CanRun None = ⊤
CanRun (Some (Run o)) = IsRunnable o
CanRun (Some (Sync o)) = IsRunnable o
CanRun (Some Compile) = ⊤
CanRun (Some (Check fuel start)) = ⊤
CanRun (Some (Make items)) = ⊤
CanRun (Some (Outcomes states witness)) = ⊤

by_test : (b : Bool) (c d : Option Command) → CanRun c → CanRun d → CanRun (if b then c else d)
by_test true c d first second = first
by_test false c d first second = second

of_run : (o : Option Options) → AreRunnable o → CanRun (option_map Run o)
of_run None can = tt
of_run (Some o) can = can

of_sync : (o : Option Options) → AreRunnable o → CanRun (option_map Sync o)
of_sync None can = tt
of_sync (Some o) can = can

of_compile : (words : List Text) → CanRun (compile_of words)
of_compile [] = tt
of_compile (a ∷ words) = tt

of_check : (fuel start : Option ℕ) → CanRun (option_and_then (λ f. option_and_then (λ s. Some (Check f s)) start) fuel)
of_check None start = tt
of_check (Some f) None = tt
of_check (Some f) (Some s) = tt

of_checked : (v : Option Values) → CanRun (option_and_then check_by v)
of_checked None = tt
of_checked (Some v) = by_test (has_run_options v || has_outcome_options v) None (check_values v) tt (of_check (fuel_of v) (start_of v))

of_states : (witness : Bool) (n : Option ℕ) → CanRun (option_map (λ n. Outcomes n witness) n)
of_states witness None = tt
of_states witness (Some n) = tt

of_searched : (v : Option Values) → CanRun (option_and_then outcomes_by v)
of_searched None = tt
of_searched (Some v) =
    by_test (has_run_options v || is_some v.fuel || is_some v.start) None _ tt (of_states v.witness (read_or 1000000 (number 1 10000000) v.states))

of_made : (n : Option ℕ) → CanRun (option_map Make n)
of_made None = tt
of_made (Some n) = tt

of_make : (words : List Text) → CanRun (make_of words)
of_make [] = tt
of_make (items ∷ []) = of_made (number 1 1500 items)
of_make (a ∷ b ∷ words) = tt

of_words : (words : List Text) → CanRun (accepted words)
of_words [] = tt
of_words (program ∷ []) = tt
of_words (program ∷ command ∷ words) =
    by_test (bytes_eq command (codes "run")) _ _ (of_run (options_in words) (of_values (values_in words)))
    (by_test (bytes_eq command (codes "sync")) _ _ (of_sync (options_in words) (of_values (values_in words)))
    (by_test (bytes_eq command (codes "compile")) _ _ (of_compile words)
    (by_test (bytes_eq command (codes "check")) _ _ (of_checked (values_in words))
    (by_test (bytes_eq command (codes "make")) _ _ (of_make words)
    (by_test (bytes_eq command (codes "outcomes")) _ _ (of_searched (values_in words)) tt)))))

pub runnable : (words : List Text) (o : Options) → accepted words ≡ Some (Run o) → IsRunnable o
runnable words o e = subst CanRun e (of_words words)

pub sync_runnable : (words : List Text) (o : Options) → accepted words ≡ Some (Sync o) → IsRunnable o
sync_runnable words o e = subst CanRun e (of_words words)
