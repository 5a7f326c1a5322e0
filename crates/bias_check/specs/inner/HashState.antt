-- What the hash entries of a journal are so far.
use Rattle.std.specs.Prelude.{List}
use Rattle.bias_check.specs.declared.hashes.Mark.{Mark}
use Rattle.bias_check.specs.declared.hashes.Drawer.{Drawer}

-- a mark for each object, and a generator for each thread
pub record HashState : Type 0 where
  pub marks : List Mark
  pub drawers : List Drawer
