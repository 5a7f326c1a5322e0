-- What contracts see of a `Thread`.
use Rattle.std.specs.Prelude.{◌≡◌, ◌<◌, ◌^◌, sum, length}
use Rattle.plain_machine.specs.declared.thread.Thread.TheInside.{Inside}
use Rattle.plain_machine.specs.Thread.{ThreadState}

abbrev pub state : Inside → ThreadState
state a =
    record {
      place = a.place;
      locals = a.locals.items;
      fuel = a.fuel;
      holds = a.holds.items;
      dumps = a.dumps;
      made = a.made;
      mode = a.mode;
    }

-- the depth is the sum of the holds, and objects have numbers of 32 bits
pub record IsCounted (a : Inside) : Type 0 where
  pub depth : sum a.holds.items ≡ a.depth
  pub few : length a.holds.items < 2 ^ 32
