use Rattle.std.proofs.Common.{◌+◌, ◌≤◌, arith}
use Rattle.heap_table.specs.Kept.{all_holds}
use Rattle.lock_runtime_c.proofs.QuickCalls.{enters_quickly, few_holds, may_enter}
use Rattle.lock_runtime_c.proofs.enters.enter_quickly.Goals as goal
use Rattle.lock_runtime_c.proofs.enters.enter_quickly.Goals.{Start}

room : (c : Start) → all_holds c.args.pass.now.known.holds + 3 ≤ 67
room c = let few = few_holds c.args.heap.now c.args.pass.now c.requires.rests in omega (arith, few)

pub enter_at_once-requires : goal.enter_at_once-requires
enter_at_once-requires c =
    let a = c.args in
    let opens = c.is_open.ensures c.if-not-is_open.false in
    record {
      may = may_enter a.heap.now a.pass.now a.object 67 opens c.requires.rests a.now (room (goal.at.enter_at_once-requires c).Start);
      free = opens.free;
    }

pub returns : goal.returns
returns c =
    let a = c.args in
    let came = c.enter_at_once.ensures in
    enters_quickly a.heap.now a.pass.now a.object 67 (c.is_open.ensures c.if-not-is_open.false) c.requires.rests a.now
    c.enter_at_once.new.pass c.enter_at_once.result (room (goal.at.returns c).Start) came.entered came.free
