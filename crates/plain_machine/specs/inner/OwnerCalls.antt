-- The calls on an object that only its owner may make.
use Rattle.std.specs.Prelude.{ℕ}
use Rattle.plain_machine.specs.declared.monitor_call.MonitorCall.{MonitorCall}
use Rattle.plain_machine.specs.declared.monitor_call.MonitorCall.TheVariants as call
use Rattle.plain_machine.specs.declared.perform.OwnerCall.{OwnerCall}
use Rattle.plain_machine.specs.declared.perform.OwnerCall.TheVariants.{Exit, Wait, Notify, NotifyAll}

-- the call on object o
abbrev pub owner_call : OwnerCall → ℕ → MonitorCall
owner_call Exit o = call.Exit o
owner_call Wait o = call.Wait o
owner_call Notify o = call.Notify o
owner_call NotifyAll o = call.NotifyAll o
