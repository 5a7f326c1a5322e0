use Rattle.std.proofs.Common.{refl}
use Rattle.bias_cli.proofs.Exemplified.{allowed_text, checked_run, few_units, is_program, plain_written, terminated, text_has}
use Rattle.bias_cli.specs.Example.{with_lone_fuel}
use Rattle.bias_cli.proofs.witnesses.a_small_program_can_be_run.Goals as goal

pub returns-clause-program : goal.returns-clause-program
returns-clause-program c = is_program

pub returns-clause-alone : goal.returns-clause-alone
returns-clause-alone c = refl

pub returns-clause-text : goal.returns-clause-text
returns-clause-text c = text_has

pub returns-clause-terminated : goal.returns-clause-terminated
returns-clause-terminated c = terminated

pub returns-clause-fuel : goal.returns-clause-fuel
returns-clause-fuel c = few_units

pub returns-clause-run : goal.returns-clause-run
returns-clause-run c o = checked_run (with_lone_fuel o) refl

pub returns-clause-plain : goal.returns-clause-plain
returns-clause-plain c = plain_written

pub returns-clause-allowed : goal.returns-clause-allowed
returns-clause-allowed c o = allowed_text (with_lone_fuel o) refl
