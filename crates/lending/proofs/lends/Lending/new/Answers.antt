use Rattle.std.proofs.Common.{Some, length, sym, ap, ◌∙◌, arith}
use Rattle.std.proofs.lemmas.List.{length-map}
use Rattle.lending.proofs.Laws.{opens}
use Rattle.lending.proofs.lends.Lending.new.Goals as goal

pub into_slots-requires-clause-room : goal.into_slots-requires-clause-room
into_slots-requires-clause-room g c =
    omega (arith, c.len-count.ensures, c.in-Ok.ensures.capacity)

pub new-requires : goal.new-requires
new-requires g c =
    opens (g.P.LendRule.may_lie c.args.key.now) c.args.things.items c.into_slots.result.items c.args.key.now c.into_slots.ensures c.requires.lie

pub invariant_of-result : goal.invariant_of-result
invariant_of-result g c =
    let e = c.in-Ok-new.ensures.ok in
    let slots = e.1 ∙ ap length c.into_slots.ensures ∙ length-map c.args.things.items Some ∙ sym c.args.things.ok.0 in
    record { sized = (e.0, omega (arith, slots, c.requires.few)) }

pub returns-in-Ok-new-clause-ok : goal.returns-in-Ok-new-clause-ok
returns-in-Ok-new-clause-ok g c =
    let e = c.in-Ok-new.ensures.ok in
    (e.1 ∙ ap length c.into_slots.ensures ∙ length-map c.args.things.items Some ∙ sym c.args.things.ok.0, e.5)

pub out_of_slots-requires-clause-room : goal.out_of_slots-requires-clause-room
out_of_slots-requires-clause-room g c =
    let same = ap length (c.in-Err.ensures.err ∙ c.into_slots.ensures) in
    let mapped = length-map c.args.things.items Some in
    omega (arith, c.in-Err.field-0.slots.ok.0, same, mapped, c.args.things.ok.0, c.len-count.ensures, c.in-Ok-with_capacity.ensures.capacity)

pub returns-in-Err-clause-err : goal.returns-in-Err-clause-err
returns-in-Err-clause-err g c = c.out_of_slots.ensures c.args.things.items (c.in-Err.ensures.err ∙ c.into_slots.ensures)
