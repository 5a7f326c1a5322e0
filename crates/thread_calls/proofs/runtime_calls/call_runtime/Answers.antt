use Rattle.std.proofs.Common.{refl, sym, subst}
use Rattle.core_world.specs.declared.heap_call.HeapCall.TheVariants as task
use Rattle.plain_machine.specs.declared.monitor_call.MonitorCall.{MonitorCall}
use Rattle.thread_calls.specs.inner.Made.{HasMade, IsRare, MayMake}
use Rattle.thread_calls.proofs.OnTime.{timed_at, timed_still}
use Rattle.thread_calls.proofs.runtime_calls.call_runtime.Goals as goal

pub unreachable-requires : goal.unreachable-requires
unreachable-requires g c = subst IsRare c.in-Enter.is c.requires.rare

pub unreachable-requires-in-Exit : goal.unreachable-requires-in-Exit
unreachable-requires-in-Exit g c = subst IsRare c.in-Exit.is c.requires.rare

pub unreachable-requires-in-Wait : goal.unreachable-requires-in-Wait
unreachable-requires-in-Wait g c = subst IsRare c.in-Wait.is c.requires.rare

pub unreachable-requires-in-Get : goal.unreachable-requires-in-Get
unreachable-requires-in-Get g c = subst IsRare c.in-Get.is c.requires.rare

pub unreachable-requires-in-Put : goal.unreachable-requires-in-Put
unreachable-requires-in-Put g c = subst IsRare c.in-Put.is c.requires.rare

pub notify-requires-clause-may : goal.notify-requires-clause-may
notify-requires-clause-may g c = (subst (MayMake c.args.run.now.heap.now c.args.pass.now) c.in-Notify.is c.requires.may).0 c.time_now.result

pub notify-requires-clause-holds : goal.notify-requires-clause-holds
notify-requires-clause-holds g c = (subst (MayMake c.args.run.now.heap.now c.args.pass.now) c.in-Notify.is c.requires.may).1

pub notify_all-requires-clause-may : goal.notify_all-requires-clause-may
notify_all-requires-clause-may g c = (subst (MayMake c.args.run.now.heap.now c.args.pass.now) c.in-NotifyAll.is c.requires.may).0 c.time_now-in-NotifyAll.result

pub notify_all-requires-clause-holds : goal.notify_all-requires-clause-holds
notify_all-requires-clause-holds g c = (subst (MayMake c.args.run.now.heap.now c.args.pass.now) c.in-NotifyAll.is c.requires.may).1

pub hash-requires : goal.hash-requires
hash-requires g c = record { may = subst (MayMake c.args.run.now.heap.now c.args.pass.now) c.in-Hash.is c.requires.may c.time_now-in-Hash.result }

pub create-requires-clause-may : goal.create-requires-clause-may
create-requires-clause-may g c = (subst (MayMake c.args.run.now.heap.now c.args.pass.now) c.in-New.is c.requires.may).0

pub create-requires-clause-room : goal.create-requires-clause-room
create-requires-clause-room g c = (subst (MayMake c.args.run.now.heap.now c.args.pass.now) c.in-New.is c.requires.may).1

pub print-requires : goal.print-requires
print-requires g c = record { may = subst (MayMake c.args.run.now.heap.now c.args.pass.now) c.in-Print.is c.requires.may }

pub dump-requires-clause-may : goal.dump-requires-clause-may
dump-requires-clause-may g c = (subst (MayMake c.args.run.now.heap.now c.args.pass.now) c.in-Dump.is c.requires.may).0

pub dump-requires-clause-number : goal.dump-requires-clause-number
dump-requires-clause-number g c = (subst (MayMake c.args.run.now.heap.now c.args.pass.now) c.in-Dump.is c.requires.may).1

pub dump-requires-clause-room : goal.dump-requires-clause-room
dump-requires-clause-room g c = (subst (MayMake c.args.run.now.heap.now c.args.pass.now) c.in-Dump.is c.requires.may).2

pub returns-in-Notify-clause-made : goal.returns-in-Notify-clause-made
returns-in-Notify-clause-made g c =
    let a = c.args in
    subst (λ (x : MonitorCall). HasMade a.run.now.heap.now a.pass.now c.notify.new.pass x c.notify.result) (sym c.in-Notify.is) c.notify.ensures.made

pub returns-in-Notify-clause-timed : goal.returns-in-Notify-clause-timed
returns-in-Notify-clause-timed g c =
    let now = c.time_now.result in
    timed_at c.args.run.now.tick (task.Notify c.in-Notify.object now) c.args.pass.now.known c.notify.new.pass.known now refl c.time_now.ensures
    c.notify.ensures.called

pub returns-in-NotifyAll-clause-made : goal.returns-in-NotifyAll-clause-made
returns-in-NotifyAll-clause-made g c =
    let a = c.args in
    subst (λ (x : MonitorCall). HasMade a.run.now.heap.now a.pass.now c.notify_all.new.pass x c.notify_all.result)
    (sym c.in-NotifyAll.is) c.notify_all.ensures.made

pub returns-in-NotifyAll-clause-timed : goal.returns-in-NotifyAll-clause-timed
returns-in-NotifyAll-clause-timed g c =
    let now = c.time_now-in-NotifyAll.result in
    timed_at c.args.run.now.tick (task.NotifyAll c.in-NotifyAll.object now)
    c.args.pass.now.known c.notify_all.new.pass.known now refl c.time_now-in-NotifyAll.ensures
    c.notify_all.ensures.called

pub returns-in-Hash-clause-made : goal.returns-in-Hash-clause-made
returns-in-Hash-clause-made g c =
    let a = c.args in
    subst (λ (x : MonitorCall). HasMade a.run.now.heap.now a.pass.now c.hash.new.pass x c.hash.result) (sym c.in-Hash.is) c.hash.ensures.made

pub returns-in-Hash-clause-timed : goal.returns-in-Hash-clause-timed
returns-in-Hash-clause-timed g c =
    let now = c.time_now-in-Hash.result in
    timed_at c.args.run.now.tick (task.Hash c.in-Hash.object now) c.args.pass.now.known c.hash.new.pass.known now refl c.time_now-in-Hash.ensures
    c.hash.ensures.called

pub returns-in-New-clause-made : goal.returns-in-New-clause-made
returns-in-New-clause-made g c =
    let a = c.args in
    subst (λ (x : MonitorCall). HasMade a.run.now.heap.now a.pass.now c.create.new.pass x c.create.result) (sym c.in-New.is) c.create.ensures.made

pub returns-in-New-clause-timed : goal.returns-in-New-clause-timed
returns-in-New-clause-timed g c =
    timed_still c.args.run.now.tick (task.Create c.in-New.class) c.args.pass.now.known c.create.new.pass.known refl c.create.ensures.called

pub returns-in-Print-clause-made : goal.returns-in-Print-clause-made
returns-in-Print-clause-made g c =
    let a = c.args in
    subst (λ (x : MonitorCall). HasMade a.run.now.heap.now a.pass.now c.print.new.pass x c.print.result) (sym c.in-Print.is) c.print.ensures.made

pub returns-in-Print-clause-timed : goal.returns-in-Print-clause-timed
returns-in-Print-clause-timed g c =
    timed_still c.args.run.now.tick (task.Print c.in-Print.value) c.args.pass.now.known c.print.new.pass.known refl c.print.ensures.called

pub returns-in-Dump-clause-made : goal.returns-in-Dump-clause-made
returns-in-Dump-clause-made g c =
    let a = c.args in
    subst (λ (x : MonitorCall). HasMade a.run.now.heap.now a.pass.now c.dump.new.pass x c.dump.result) (sym c.in-Dump.is) c.dump.ensures.made

pub returns-in-Dump-clause-timed : goal.returns-in-Dump-clause-timed
returns-in-Dump-clause-timed g c =
    timed_still c.args.run.now.tick task.Dump c.args.pass.now.known c.dump.new.pass.known refl c.dump.ensures.called
