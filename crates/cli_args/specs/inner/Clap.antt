-- The command as `clap` is told it, and what is read of its parse.
use Rattle.std.specs.Prelude.{true, List, [], ◌∷◌, codes, Option, Some, option_map}
use Rattle.clap.specs.Walk.{Text, Rule}
use Rattle.clap.specs.Simple.{App, new_app, new_rule, with_rule, on_top}
use Rattle.clap.specs.declared.builder.action.ArgAction.{ArgAction}
use Rattle.clap.specs.declared.builder.action.ArgAction.TheVariants.{Set, SetTrue}
use Rattle.cli_args.specs.declared.options.Values as lent
use Rattle.cli_args.specs.Command.{Values, valued_names, flag_names, is_true}

-- the option `--name`
abbrev pub rule_named : ArgAction → Text → Rule
rule_named action name = record (new_rule name) { long = Some name; action = Some action }

-- a command without options, whose first word is no program's name, and which has no `--help`
abbrev pub bare_app : App
bare_app = on_top (λ s. record s { no_binary_name = true; disable_help_flag = true }) (new_app (codes "run"))

abbrev pub with_options : ArgAction → List Text → App → App
with_options action [] app = app
with_options action (name ∷ names) app = with_options action names (with_rule app (rule_named action name))

abbrev pub run_app : App
run_app = with_options SetTrue flag_names (with_options Set valued_names bare_app)

-- the values of the options, by what a parse found for each name
abbrev pub values_found : (Text → Option Text) → Values
values_found found = record {
  workers = found (codes "workers");
  fuel = found (codes "fuel");
  quantum = found (codes "quantum");
  bias = found (codes "bias");
  start = found (codes "hash-start");
  tick = found (codes "tick");
  states = found (codes "states");
  stats = is_true (found (codes "stats"));
  journal = is_true (found (codes "journal"));
  report = is_true (found (codes "report"));
  witness = is_true (found (codes "witness"));
}

-- the values that the code holds, with the texts behind its references
abbrev pub values_held : lent.Values → Values
values_held v = record {
  workers = option_map (λ s. s.now) v.workers;
  fuel = option_map (λ s. s.now) v.fuel;
  quantum = option_map (λ s. s.now) v.quantum;
  bias = option_map (λ s. s.now) v.bias;
  start = option_map (λ s. s.now) v.start;
  tick = option_map (λ s. s.now) v.tick;
  states = option_map (λ s. s.now) v.states;
  stats = v.stats;
  journal = v.journal;
  report = v.report;
  witness = v.witness;
}
