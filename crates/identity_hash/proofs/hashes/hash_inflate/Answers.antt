use Rattle.std.proofs.Common.{◌≡◌, length, refl, ap, subst, arith}
use Rattle.core_world.specs.Threads.ThreadView.{Local}
use Rattle.core_world.specs.Trees.HashSteps.{hash_inflate_steps, hash_inflated, hash_monitor_steps}
use Rattle.core_world.specs.Trees.MonitorSteps.{inflate_steps}
use Rattle.heap_table.specs.Parts.{HasMadeSteps}
use Rattle.heap_table.proofs.StepsLeft.{AreLeft, all_left, part_of, after_part, last_made}
use Rattle.identity_hash.proofs.hashes.hash_inflate.Goals as goal
use Rattle.identity_hash.proofs.hashes.hash_inflate.Goals.{In-Done}

pub inflate-requires-clause-due : goal.inflate-requires-clause-due
inflate-requires-clause-due c = part_of (hash_inflated c.args.call.now (record { number = c.args.number; value = c.args.value }) c.args.object)
    (all_left c.requires.heap c.requires.due)

inflated : (c : In-Done) → AreLeft c.args.heap.now c.args.call.now.task c.args.pass.now
    (hash_inflate_steps c.args.heap.now.heap.shape c.args.call.now c.args.pass.now.known.kept (record { number = c.args.number; value = c.args.value })
    c.args.object) c.inflate.new.pass
    (hash_monitor_steps c.args.call.now (record { number = c.args.number; value = c.args.value }) c.args.object c.in-Done.monitor)
inflated c =
    let run = subst (HasMadeSteps c.args.heap.now (inflate_steps c.args.heap.now.heap.shape c.args.call.now c.args.pass.now.known.kept c.args.object)
    c.args.pass.now c.inflate.new.pass) c.in-Done.is c.inflate.ensures.run in
    after_part (hash_inflated c.args.call.now (record { number = c.args.number; value = c.args.value }) c.args.object) run refl
    (all_left c.requires.heap c.requires.due)

pub hash_monitor-requires-clause-due : goal.hash_monitor-requires-clause-due
hash_monitor-requires-clause-due c = (inflated (goal.at.hash_monitor-requires-clause-due c).In-Done).due

pub hash_monitor-requires-clause-room : goal.hash_monitor-requires-clause-room
hash_monitor-requires-clause-room c =
    let logs : length c.inflate.new.pass.known.log ≡ length c.args.pass.now.known.log = ap (λ (l : Local). length l.log) c.inflate.ensures.local in
    omega (arith, logs, c.inflate.ensures.run.limit, c.requires.room)

pub returns-in-Done : goal.returns-in-Done
returns-in-Done c = (inflated (goal.at.returns-in-Done c).In-Done).whole _ _ c.hash_monitor.ensures

pub returns-in-Pending : goal.returns-in-Pending
returns-in-Pending c =
    let run = subst (HasMadeSteps c.args.heap.now (inflate_steps c.args.heap.now.heap.shape c.args.call.now c.args.pass.now.known.kept c.args.object)
    c.args.pass.now c.inflate.new.pass) c.in-Pending.is c.inflate.ensures.run in
    last_made (hash_inflated c.args.call.now (record { number = c.args.number; value = c.args.value }) c.args.object) run refl
    (all_left c.requires.heap c.requires.due)
