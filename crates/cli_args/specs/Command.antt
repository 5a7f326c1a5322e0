-- The words of the command line.
use Rattle.std.specs.Prelude.{ℕ, Bool, true, false, ◌==◌, ◌||◌, List, [], ◌∷◌, ◌++◌, codes, if◌then◌else◌}
use Rattle.std.specs.Prelude.{Option, Some, None, is_some, option_map, option_and_then, find}
use Rattle.std.specs.List.{list_any, before_first, after_first}
use Rattle.std.specs.Str.{bytes_eq}
use Rattle.plain_monitor.specs.Limits.{most_threads, most_fuel}
use Rattle.cli_args.specs.Number.{number}
use Rattle.cli_args.specs.declared.words.Kind.{Kind}
use Rattle.cli_args.specs.declared.words.Kind.TheVariants.{Valued, Flag}
use Rattle.cli_args.specs.declared.options.Options.{Options}
use Rattle.cli_args.specs.declared.options.Command.{Command}
use Rattle.cli_args.specs.declared.options.Command.TheVariants.{Run, Sync, Compile, Check, Make, Outcomes}

abbrev pub Text : Type 0
Text = List ℕ

-- ---- one word in the place of an option

abbrev pub valued_names : List Text
valued_names = codes "workers" ∷ codes "fuel" ∷ codes "quantum" ∷ codes "bias" ∷ codes "hash-start" ∷ codes "tick"
    ∷ codes "states" ∷ []

abbrev pub flag_names : List Text
flag_names = codes "stats" ∷ codes "journal" ∷ codes "report" ∷ codes "witness" ∷ []

abbrev pub is_one_of : List Text → Text → Bool
is_one_of names name = list_any (λ x. bytes_eq x name) names

-- whether the option with this name has a value or is a flag, where there is such an option
abbrev pub kind_of : Text → Option Kind
kind_of name = if is_one_of valued_names name then Some Valued
    else if is_one_of flag_names name then Some Flag
    else None

-- what follows a first hyphen
abbrev pub after_hyphen : Text → Option Text
after_hyphen [] = None
after_hyphen (b ∷ rest) = if b == 45 then Some rest else None

abbrev pub is_equals : ℕ → Bool
is_equals b = b == 61

-- what stands before the first `=`, and what stands after it where there is one
abbrev pub at_equals : Text → Text × Option Text
at_equals text = (
  before_first is_equals text,
  if list_any is_equals text then Some (after_first is_equals text) else None,
)

-- the name and the value of `--name` or `--name=value`
abbrev pub parts_of : Text → Option (Text × Option Text)
parts_of word = option_map at_equals (option_and_then after_hyphen (after_hyphen word))

-- an option with its value, which is `true` for a flag; an option whose value is the next word; no option
pub data Met : Type 0 where
  whole : Text → Text → Met
  waits : Text → Met
  refused : Met

abbrev pub met_as : Option Kind → Text → Option Text → Met
met_as (Some Valued) name (Some value) = whole name value
met_as (Some Valued) name None = waits name
met_as (Some Flag) name (Some value) = refused
met_as (Some Flag) name None = whole name (codes "true")
met_as None name value = refused

abbrev pub met_parts : Option (Text × Option Text) → Met
met_parts None = refused
met_parts (Some p) = met_as (kind_of p.0) p.0 p.1

abbrev pub met : Text → Met
met word = met_parts (parts_of word)

-- ---- all words

-- the options given so far, each with its value
abbrev pub Given : Type 0
Given = List (Text × Text)

abbrev pub is_given : Text → Given → Bool
is_given name given = list_any (λ p. bytes_eq p.0 name) given

-- between two words: what was given, and the option whose value is the next word
pub record Reading : Type 0 where
  pub given : Given
  pub waiting : Option Text

abbrev pub giving : Given → Text → Text → Reading
giving given name value = record { given = given ++ (name, value) ∷ []; waiting = None }

-- each option at most once
abbrev pub after_met : Given → Met → Option Reading
after_met given (whole name value) =
    if is_given name given then None else Some (giving given name value)
after_met given (waits name) =
    if is_given name given then None else Some (record { given = given; waiting = Some name })
after_met given refused = None

-- a value that is the next word begins with no hyphen
abbrev pub after_value : Given → Text → Text → Option Reading
after_value given name word =
    if is_some (after_hyphen word) then None else Some (giving given name word)

abbrev pub after_word_in : Given → Option Text → Text → Option Reading
after_word_in given None word = after_met given (met word)
after_word_in given (Some name) word = after_value given name word

abbrev pub after_word : Reading → Text → Option Reading
after_word r word = after_word_in r.given r.waiting word

abbrev pub gathered : Reading → List Text → Option Given
gathered r [] = if is_some r.waiting then None else Some r.given
gathered r (word ∷ words) = option_and_then (λ next. gathered next words) (after_word r word)

abbrev pub nothing_read : Reading
nothing_read = record { given = []; waiting = None }

-- ---- what was given, as options

abbrev pub value_of : Text → Given → Option Text
value_of name given = option_map (λ p. p.1) (find (λ p. bytes_eq p.0 name) given)

abbrev pub is_true : Option Text → Bool
is_true None = false
is_true (Some text) = bytes_eq text (codes "true")

pub record Values : Type 0 where
  pub workers : Option Text
  pub fuel : Option Text
  pub quantum : Option Text
  pub bias : Option Text
  pub start : Option Text
  pub tick : Option Text
  pub states : Option Text
  pub stats : Bool
  pub journal : Bool
  pub report : Bool
  pub witness : Bool

abbrev pub values_of : Given → Values
values_of given = record {
  workers = value_of (codes "workers") given;
  fuel = value_of (codes "fuel") given;
  quantum = value_of (codes "quantum") given;
  bias = value_of (codes "bias") given;
  start = value_of (codes "hash-start") given;
  tick = value_of (codes "tick") given;
  states = value_of (codes "states") given;
  stats = is_true (value_of (codes "stats") given);
  journal = is_true (value_of (codes "journal") given);
  report = is_true (value_of (codes "report") given);
  witness = is_true (value_of (codes "witness") given);
}

-- what the text says, or the default where there is none
abbrev pub read_or : {X : Type 0} → X → (Text → Option X) → Option Text → Option X
read_or default read None = Some default
read_or default read (Some text) = read text

abbrev pub switch : Text → Option Bool
switch text = if bytes_eq text (codes "on") then Some true
    else if bytes_eq text (codes "off") then Some false
    else None

infixl 10 ◌>>=◌
abbrev pub ◌>>=◌ : {A B : Type 0} → Option A → (A → Option B) → Option B
o >>= f = option_and_then f o

abbrev pub fuel_of : Values → Option ℕ
fuel_of v = read_or 20000 (number 1 most_fuel) v.fuel

abbrev pub start_of : Values → Option ℕ
start_of v = read_or 1 (number 0 4294967295) v.start

-- how a program is run by these values
abbrev pub run_values : Values → Option Options
run_values v = do
  workers ← read_or 4 (number 1 most_threads) v.workers
  fuel ← fuel_of v
  quantum ← read_or 1000 (number 1 100000) v.quantum
  bias ← read_or true switch v.bias
  start ← start_of v
  tick ← read_or 0 (number 0 4294967295) v.tick
  Some (record {
    workers = workers;
    fuel = fuel;
    quantum = quantum;
    bias = bias;
    start = start;
    tick = tick;
    stats = v.stats;
    journal = v.journal;
    report = v.report;
  })

-- an option is given that only a run has
abbrev pub has_run_options : Values → Bool
has_run_options v =
    is_some v.workers || is_some v.quantum || is_some v.bias || is_some v.tick || v.stats || v.journal || v.report

-- an option is given that only a search for all ends has
abbrev pub has_outcome_options : Values → Bool
has_outcome_options v = is_some v.states || v.witness

-- a run has all options but those of a search
abbrev pub options_of : Values → Option Options
options_of v = if has_outcome_options v then None else run_values v

-- what a check goes by
abbrev pub check_values : Values → Option Command
check_values v = do
  fuel ← fuel_of v
  start ← start_of v
  Some (Check fuel start)

-- ---- the command

-- the values of the options, where the words are options, each at most once, and each with a value where it has one
abbrev pub values_in : List Text → Option Values
values_in words = option_map values_of (gathered nothing_read words)

-- the options of a run, where the words give such
abbrev pub options_in : List Text → Option Options
options_in words = option_and_then options_of (values_in words)

abbrev pub run_of : List Text → Option Command
run_of words = option_map Run (options_in words)

-- a program with blocks is run with the same options
abbrev pub sync_of : List Text → Option Command
sync_of words = option_map Sync (options_in words)

-- what is compiled takes no words
abbrev pub compile_of : List Text → Option Command
compile_of [] = Some Compile
compile_of words = None

-- a check takes its words as a run does, but has no more options than these two
abbrev pub check_by : Values → Option Command
check_by v = if has_run_options v || has_outcome_options v then None else check_values v

abbrev pub check_of : List Text → Option Command
check_of words = option_and_then check_by (values_in words)

-- a search for all ends takes its words as a run does, but has none of its options; it keeps at most so many states
abbrev pub outcomes_by : Values → Option Command
outcomes_by v = if has_run_options v || is_some v.fuel || is_some v.start then None
    else option_map (λ n. Outcomes n v.witness) (read_or 1000000 (number 1 10000000) v.states)

abbrev pub outcomes_of : List Text → Option Command
outcomes_of words = option_and_then outcomes_by (values_in words)

-- what is made takes one word, the number of its items
abbrev pub make_of : List Text → Option Command
make_of (items ∷ []) = option_map Make (number 1 1500 items)
make_of words = None

abbrev pub command_in : Text → List Text → Option Command
command_in command words =
    if bytes_eq command (codes "run") then run_of words
    else if bytes_eq command (codes "sync") then sync_of words
    else if bytes_eq command (codes "compile") then compile_of words
    else if bytes_eq command (codes "check") then check_of words
    else if bytes_eq command (codes "make") then make_of words
    else if bytes_eq command (codes "outcomes") then outcomes_of words
    else None

abbrev pub command_of : List Text → Option Command
command_of [] = None
command_of (command ∷ words) = command_in command words

-- what the words ask for, where they are accepted; the first is the program's name and is not looked at
abbrev pub accepted : List Text → Option Command
accepted [] = None
accepted (program ∷ words) = command_of words
