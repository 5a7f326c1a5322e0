-- What contracts see of a `Machine`.
use Rattle.std.specs.Prelude.{◌≡◌}
use Rattle.object_program.specs.Program.{numbering_of}
use Rattle.plain_machine.specs.declared.machine.Machine.TheInside.{Inside}
use Rattle.plain_machine.specs.Machine.{PlainMachine}
use Rattle.plain_machine.specs.Sound.{IsSound}

abbrev pub plain_machine : Inside → PlainMachine
plain_machine a = record {
  program = a.program;
  objects = a.objects.items;
  made = a.register.made;
  threads = a.threads.items;
}

pub record IsAllowed (a : Inside) : Type 0 where
  pub sound : IsSound (plain_machine a)
  pub numbering : a.register.numbering ≡ numbering_of a.program
