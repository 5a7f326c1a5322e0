use Rattle.embed_example.proofs.After.{added, added_beside, beside_stop, did_by, may_finish}
use Rattle.plain_monitor.specs.declared.entry.Entry.TheVariants as entry
use Rattle.std.proofs.Common.{◌≡◌, [], ◌∷◌, None, false, refl, arith}
use Rattle.embed_example.proofs.end.Goals as goal

pub finish-requires : goal.finish-requires
finish-requires c =
    let none = c.if-holds-ne0.false in
    let room = c.room.ensures.room in
    let some = c.if-room-lt1.false in
    may_finish c.args.heap.now c.args.pass.now _ c.holds.result c.requires c.holds.ensures.holds (grind (arith, none)) (grind (arith, room, some))

pub returns-clause-logged : goal.returns-clause-logged
returns-clause-logged c =
    let h = c.args.heap.now in
    let p = c.args.pass.now in
    let q = c.finish.new.pass in
    let e = c.finish.ensures in
    let d = did_by (entry.Done ∷ []) None false p.known q.known e.says e.says.says in
    added_beside h (λ es. es ≡ entry.Done ∷ []) p q c.stop.new.pass
    (added h p q c.requires.live e.rests e.run.limit (λ es. es ≡ entry.Done ∷ []) (entry.Done ∷ []) None d refl)
    (beside_stop h q c.stop.new.pass c.stop.result c.stop.ensures.rests c.stop.ensures.run.limit c.stop.ensures.says)
