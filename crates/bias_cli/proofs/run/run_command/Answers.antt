use Rattle.std.proofs.Common.{◌∙◌, ap, map, Some}
use Rattle.std.specs.Prelude.{string_bytes}
use Rattle.bias_cli.proofs.MadeItems.{few_items, few_states}
use Rattle.bias_cli.proofs.RunOptions.{runnable, sync_runnable}
use Rattle.bias_cli.proofs.run.run_command.Goals as goal

pub run_source-requires-after_bounds : goal.run_source-requires-after_bounds
run_source-requires-after_bounds g c κs within =
    let asked = c.in-Ok-Run in
    runnable (map (λ w. string_bytes w) c.args.words.now) asked.options (asked.ensures.ok ∙ ap Some asked.field-0-is)

pub run_blocks_of-requires-after_bounds : goal.run_blocks_of-requires-after_bounds
run_blocks_of-requires-after_bounds g c κs within =
    let asked = c.in-Ok-Sync in
    sync_runnable (map (λ w. string_bytes w) c.args.words.now) asked.options (asked.ensures.ok ∙ ap Some asked.field-0-is)

pub make_program-requires-clause-some : goal.make_program-requires-clause-some
make_program-requires-clause-some g c =
    let made = c.in-Ok-Make in
    (few_items (map (λ w. string_bytes w) c.args.words.now) made.items (made.ensures.ok ∙ ap Some made.field-0-is)).0

pub make_program-requires-clause-few : goal.make_program-requires-clause-few
make_program-requires-clause-few g c =
    let made = c.in-Ok-Make in
    (few_items (map (λ w. string_bytes w) c.args.words.now) made.items (made.ensures.ok ∙ ap Some made.field-0-is)).1

pub find_source-requires : goal.find_source-requires
find_source-requires g c =
    let asked = c.in-Ok-Outcomes in
    few_states (map (λ w. string_bytes w) c.args.words.now) asked.states asked.witness (asked.ensures.ok ∙ ap Some asked.field-0-is)
