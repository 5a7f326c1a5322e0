use Rattle.std.proofs.Common.{eq-eqb, not, lt-ltb, length, refl, ap}
use Rattle.core_world.specs.declared.heap_call.HeapCall.TheVariants as task
use Rattle.plain_monitor.specs.Limits.{most_made}
use Rattle.plain_monitor.specs.declared.entry.Entry.TheVariants as entry
use Rattle.plain_history.specs.Known.{news}
use Rattle.heap_table.specs.Resting.{start_now}
use Rattle.thread_calls.proofs.After.{came, logged, tells_so}
use Rattle.thread_calls.proofs.Values.{within}
use Rattle.core_calls.proofs.Called.{called}
use Rattle.core_calls.proofs.NamedCalls.{create_named}
use Rattle.thread_calls.proofs.runtime_calls.create.Goals as goal

-- the thread has made fewer than it may
pub unreachable-requires : goal.unreachable-requires
unreachable-requires c =
    let fewer = ap not (lt-ltb (length (news c.args.pass.now.known.log)) most_made c.requires.room) in
    absurd (cc (c.in-Err.ensures.says.says.0, fewer))

pub returns-clause-made : goal.returns-clause-made
returns-clause-made c =
    let a = c.args in
    let h = a.heap.now in
    let q = c.create.new.pass in
    let e = c.in-Ok.ensures in
    let entry = entry.New c.in-Ok.object a.class in
    record {
      logged = entry;
      is = logged h a.pass.now q (came e.rests e.run) entry (tells_so e.says (λ ms z. z.1.1)) e.stands
          (task.Create a.class) (c.in-Ok.object, e.run.ran);
      of = record { is = eq-eqb a.class a.class refl; value = within h q.known c.in-Ok.object (e.made c.in-Ok.object refl) };
      same = λ f. refl;
    }

pub returns-clause-called : goal.returns-clause-called
returns-clause-called c =
    called (create_named (start_now c.args.heap.now c.args.pass.now) c.args.heap.now.heap.shape c.args.class) c.in-Ok.ensures.run.ran
