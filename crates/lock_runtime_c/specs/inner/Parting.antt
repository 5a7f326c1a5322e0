-- When a pass may go home.
use Rattle.lock_runtime_c.specs.declared.inner.Inner.{Inner}
use Rattle.lock_runtime_c.specs.declared.inner.Inner.TheVariants as inner
use Rattle.lock_runtime_c.specs.Rest.{IsHome}

-- the handle's pass may go home
abbrev pub MayLeave : Inner → Type 0
MayLeave (inner.Seat s) = IsHome s.room.value.heap s.lent.place s.lent.thing
MayLeave _ = ⊥
