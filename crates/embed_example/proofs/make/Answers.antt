use Rattle.std.proofs.Common.{rules}
use Rattle.std.specs.List.{AllByRecursion}
use Rattle.embed_example.specs.Acts.{op_of, IsGivenUp, IsLeft}
use Rattle.embed_example.proofs.After.{added_beside, added_left, added_none, given_up, given_up_halted, made, tried_done, tried_left}
use Rattle.lock_runtime.proofs.Declared.{declared_known}
use Rattle.embed_example.proofs.make.Goals as goal

pub loop-init : goal.loop-init
loop-init g c = record { may = c.requires.may; added = added_none c.args.act c.args.object c.args.pass.now }

pub try_once-requires-clause-object : goal.try_once-requires-clause-object
try_once-requires-clause-object g c = declared_known c.args.heap.now _ c.args.object c.loop.invariant.may.live.rests c.requires.object

pub try_once-requires-clause-may : goal.try_once-requires-clause-may
try_once-requires-clause-may g c = c.loop.invariant.may

pub returns-in-Done-clause-made : goal.returns-in-Done-clause-made
returns-in-Done-clause-made g c =
    let a = c.args.act in
    let o = c.args.object in
    let h = c.args.heap.now in
    let p = c.loop.pass in
    let q = c.try_once.new.pass in
    let t = tried_done a o h p q c.in_ok-try_once.field-0 c.in-Done.field-0 c.in_ok-try_once.ensures c.in-Done.is in
    made a o h c.args.pass.now p q c.loop.invariant.added t.1 t.0

pub returns-in_err-try_once-clause-refused : goal.returns-in_err-try_once-clause-refused
returns-in_err-try_once-clause-refused g c =
    let a = c.args.act in
    let o = c.args.object in
    let h = c.args.heap.now in
    let q = c.try_once.new.pass in
    let e = c.in_err-try_once.field-0.0 in
    let given : IsGivenUp a o h c.args.pass.now q e =
    given_up a o h c.args.pass.now c.loop.pass q e c.loop.invariant.added c.in_err-try_once.ensures in
    search rules

pub returns-in_err-give_way-in-Pending-clause-refused : goal.returns-in_err-give_way-in-Pending-clause-refused
returns-in_err-give_way-in-Pending-clause-refused g c =
    let a = c.args.act in
    let o = c.args.object in
    let h = c.args.heap.now in
    let first = c.args.pass.now in
    let p = c.loop.pass in
    let q = c.try_once.new.pass in
    let r = c.give_way.new.pass in
    let e = c.in_err-give_way-in-Pending.field-0.0 in
    let t = tried_left a o h p q c.in_ok-try_once.field-0 c.in-Pending.field-0 c.in_ok-try_once.ensures c.in-Pending.is in
    let given : IsGivenUp a o h first r e =
    given_up_halted a o h first p q r e c.loop.invariant.added t.1 c.give_way.ensures.beside c.in_err-give_way-in-Pending.ensures.halted in
    search rules

pub give_way-requires : goal.give_way-requires
give_way-requires g c =
    let t = tried_left c.args.act c.args.object c.args.heap.now c.loop.pass c.try_once.new.pass c.in_ok-try_once.field-0 c.in-Pending.field-0
    c.in_ok-try_once.ensures c.in-Pending.is in
    t.0.live.rests

pub loop-preserved : goal.loop-preserved
loop-preserved g c =
    let a = c.args.act in
    let o = c.args.object in
    let h = c.args.heap.now in
    let p = c.loop.pass in
    let q = c.try_once.new.pass in
    let r = c.give_way.new.pass in
    let first = c.args.pass.now in
    let t = tried_left a o h p q c.in_ok-try_once.field-0 c.in-Pending.field-0 c.in_ok-try_once.ensures c.in-Pending.is in
    record {
      may = c.in_ok-give_way-in-Pending.ensures.may (op_of a) o t.0;
      added = added_beside h (AllByRecursion (IsLeft a o)) first q r (added_left a o first p q c.loop.invariant.added t.1) c.give_way.ensures.beside;
    }
