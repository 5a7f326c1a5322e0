-- A thread that unwinds is ready, whatever it holds, and waits on no object.
use Rattle.std.proofs.Common.{◌≡◌, ℕ, false, refl}
use Rattle.plain_machine.specs.declared.monitor_call.Mode.{Mode}
use Rattle.plain_machine.specs.declared.monitor_call.Mode.TheVariants.{Unwinding}
use Rattle.plain_machine.specs.Thread.{ThreadState}
use Rattle.plain_machine.specs.Ready.{IsUnwinding, waits_on}
use Rattle.plain_machine.specs.Sound.{IsReadyIn}

pub ready_unwinding : (s : ThreadState) (m : Mode) → IsUnwinding m → IsReadyIn s m
ready_unwinding s (Unwinding e) h = tt
ready_unwinding s _ h = absurd h

pub unwinding_waits : (m : Mode) (o : ℕ) → IsUnwinding m → waits_on m o ≡ false
unwinding_waits (Unwinding e) o h = refl
unwinding_waits _ o h = absurd h

pub ruleset unwinding = (ready_unwinding, unwinding_waits)
