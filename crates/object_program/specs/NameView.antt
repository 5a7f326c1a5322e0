-- What contracts see of a `Name`: its bytes.
use Rattle.std.specs.Prelude.{◌≡◌, ℕ, ◌-◌, ◌≤◌, List, length, take, drop, replicate, IsTrue}
use Rattle.object_program.specs.declared.name.Name.TheInside.{Inside}
use Rattle.object_program.specs.Name.{is_name}

abbrev pub name_bytes : Inside → List ℕ
name_bytes a = take a.length a.bytes

-- the bytes are a name, and zeros stand after them
pub record IsKept (a : Inside) : Type 0 where
  pub within : a.length ≤ length a.bytes
  pub name : IsTrue (is_name (name_bytes a))
  pub rest : drop a.length a.bytes ≡ replicate (32 - a.length) 0
