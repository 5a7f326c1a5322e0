use Rattle.bias_cli.proofs.SearchExample.{found_and_run}
use Rattle.std.proofs.Common.{refl}
use Rattle.bias_cli.specs.Example.{with_lone_fuel}
use Rattle.bias_cli.proofs.witnesses.all_ends_of_a_small_program_can_be_found.Goals as goal

pub returns : goal.returns
returns c o = found_and_run (with_lone_fuel o) refl
