use Rattle.std.proofs.Common.{refl}
use Rattle.core_world.specs.declared.heap_call.HeapCall.TheVariants as task
use Rattle.plain_machine.specs.declared.monitor_call.MonitorCall.TheVariants as call
use Rattle.thread_calls.specs.Advances.{progress_of}
use Rattle.thread_calls.proofs.AfterCall.{came_after, may_make_at, no_wait, rare_other}
use Rattle.thread_calls.proofs.OnTime.{timed_at, timed_still}
use Rattle.thread_calls.proofs.calls.call.Goals as goal

pub enter-progress-requires-clause-may : goal.enter-progress-requires-clause-may
enter-progress-requires-clause-may g c =
    let a = c.args in
    let run = a.run.now in
    let i = c.in-Enter in
    (may_make_at run.heap.now run.program.now run.fuel a.pass.now a.frame.now a.call
    (call.Enter i.object) i.is c.requires.heap c.requires.may tt).0 c.time_now.result

pub enter-progress-requires-clause-room : goal.enter-progress-requires-clause-room
enter-progress-requires-clause-room g c =
    let a = c.args in
    let run = a.run.now in
    let i = c.in-Enter in
    (may_make_at run.heap.now run.program.now run.fuel a.pass.now a.frame.now a.call (call.Enter i.object) i.is c.requires.heap c.requires.may tt).1

pub returns-in-Enter-clause-advanced : goal.returns-in-Enter-clause-advanced
returns-in-Enter-clause-advanced g c =
    let a = c.args in
    let run = a.run.now in
    let i = c.in-Enter in
    let b = c.go_past in
    came_after run.heap.now run.program.now run.fuel a.pass.now a.frame.now a.call (call.Enter i.object) i.is c.requires.heap c.requires.may tt
    c.enter-progress.new.pass b.new.frame c.enter-progress.result (progress_of b.result b.new.cause) c.enter-progress.ensures.made b.ensures

pub returns-in-Enter-clause-timed : goal.returns-in-Enter-clause-timed
returns-in-Enter-clause-timed g c =
    let now = c.time_now.result in
    timed_at c.args.run.now.tick (task.Enter c.in-Enter.object now) c.args.pass.now.known c.enter-progress.new.pass.known now refl c.time_now.ensures
    c.enter-progress.ensures.called

pub exit-progress-requires-clause-may : goal.exit-progress-requires-clause-may
exit-progress-requires-clause-may g c =
    let a = c.args in
    let run = a.run.now in
    let i = c.in-Exit in
    (may_make_at run.heap.now run.program.now run.fuel a.pass.now a.frame.now a.call (call.Exit i.object) i.is c.requires.heap c.requires.may tt).0

pub exit-progress-requires-clause-holds : goal.exit-progress-requires-clause-holds
exit-progress-requires-clause-holds g c =
    let a = c.args in
    let run = a.run.now in
    let i = c.in-Exit in
    (may_make_at run.heap.now run.program.now run.fuel a.pass.now a.frame.now a.call (call.Exit i.object) i.is c.requires.heap c.requires.may tt).1

pub returns-in-Exit-clause-advanced : goal.returns-in-Exit-clause-advanced
returns-in-Exit-clause-advanced g c =
    let a = c.args in
    let run = a.run.now in
    let i = c.in-Exit in
    let b = c.go_past-in-Exit in
    came_after run.heap.now run.program.now run.fuel a.pass.now a.frame.now a.call (call.Exit i.object) i.is c.requires.heap c.requires.may tt
    c.exit-progress.new.pass b.new.frame c.exit-progress.result (progress_of b.result b.new.cause) c.exit-progress.ensures.made b.ensures

pub returns-in-Exit-clause-timed : goal.returns-in-Exit-clause-timed
returns-in-Exit-clause-timed g c =
    let i = c.in-Exit in
    timed_still c.args.run.now.tick (task.Exit i.object) c.args.pass.now.known c.exit-progress.new.pass.known refl c.exit-progress.ensures.called

pub get-progress-requires-clause-may : goal.get-progress-requires-clause-may
get-progress-requires-clause-may g c =
    let a = c.args in
    let run = a.run.now in
    let i = c.in-Get in
    (may_make_at run.heap.now run.program.now run.fuel a.pass.now a.frame.now a.call
    (call.Get i.local i.object i.slot) i.is c.requires.heap c.requires.may tt).0

pub get-progress-requires-clause-holds : goal.get-progress-requires-clause-holds
get-progress-requires-clause-holds g c =
    let a = c.args in
    let run = a.run.now in
    let i = c.in-Get in
    (may_make_at run.heap.now run.program.now run.fuel a.pass.now a.frame.now a.call
    (call.Get i.local i.object i.slot) i.is c.requires.heap c.requires.may tt).1

pub returns-in-Get-clause-advanced : goal.returns-in-Get-clause-advanced
returns-in-Get-clause-advanced g c =
    let a = c.args in
    let run = a.run.now in
    let i = c.in-Get in
    let b = c.go_past-in-Get in
    came_after run.heap.now run.program.now run.fuel a.pass.now a.frame.now a.call (call.Get i.local i.object i.slot) i.is c.requires.heap c.requires.may tt
    c.get-progress.new.pass b.new.frame c.get-progress.result (progress_of b.result b.new.cause) c.get-progress.ensures.made b.ensures

pub returns-in-Get-clause-timed : goal.returns-in-Get-clause-timed
returns-in-Get-clause-timed g c =
    let i = c.in-Get in
    timed_still c.args.run.now.tick (task.Get i.object i.slot) c.args.pass.now.known c.get-progress.new.pass.known refl c.get-progress.ensures.called

pub put-progress-requires-clause-may : goal.put-progress-requires-clause-may
put-progress-requires-clause-may g c =
    let a = c.args in
    let run = a.run.now in
    let i = c.in-Put in
    (may_make_at run.heap.now run.program.now run.fuel a.pass.now a.frame.now a.call
    (call.Put i.object i.slot i.value) i.is c.requires.heap c.requires.may tt).0

pub put-progress-requires-clause-holds : goal.put-progress-requires-clause-holds
put-progress-requires-clause-holds g c =
    let a = c.args in
    let run = a.run.now in
    let i = c.in-Put in
    (may_make_at run.heap.now run.program.now run.fuel a.pass.now a.frame.now a.call
    (call.Put i.object i.slot i.value) i.is c.requires.heap c.requires.may tt).1

pub returns-in-Put-clause-advanced : goal.returns-in-Put-clause-advanced
returns-in-Put-clause-advanced g c =
    let a = c.args in
    let run = a.run.now in
    let i = c.in-Put in
    let b = c.go_past-in-Put in
    came_after run.heap.now run.program.now run.fuel a.pass.now a.frame.now a.call (call.Put i.object i.slot i.value) i.is c.requires.heap c.requires.may tt
    c.put-progress.new.pass b.new.frame c.put-progress.result (progress_of b.result b.new.cause) c.put-progress.ensures.made b.ensures

pub returns-in-Put-clause-timed : goal.returns-in-Put-clause-timed
returns-in-Put-clause-timed g c =
    let i = c.in-Put in
    timed_still c.args.run.now.tick (task.Put i.object i.slot i.value) c.args.pass.now.known c.put-progress.new.pass.known refl c.put-progress.ensures.called

pub call_runtime-progress-requires : goal.call_runtime-progress-requires
call_runtime-progress-requires g c =
    let a = c.args in
    let run = a.run.now in
    let d = c.in_default in
    record {
      may = may_make_at run.heap.now run.program.now run.fuel a.pass.now a.frame.now a.call a.call refl c.requires.heap c.requires.may
          (no_wait a.call (λ o e. d.not-Wait o e));
      rare = rare_other a.call (λ o e. d.not-Enter o e) (λ o e. d.not-Exit o e) (λ o e. d.not-Wait o e) (λ x o k e. d.not-Get x o k e)
          (λ o k v e. d.not-Put o k v e);
    }

pub returns-in_default : goal.returns-in_default
returns-in_default g c =
    let a = c.args in
    let run = a.run.now in
    let b = c.go_past-in_default in
    record {
      advanced = came_after run.heap.now run.program.now run.fuel a.pass.now a.frame.now a.call a.call refl c.requires.heap c.requires.may
          (no_wait a.call (λ o e. c.in_default.not-Wait o e)) c.call_runtime-progress.new.pass b.new.frame c.call_runtime-progress.result
          (progress_of b.result b.new.cause)
          c.call_runtime-progress.ensures.made b.ensures;
      timed = c.call_runtime-progress.ensures.timed;
    }
