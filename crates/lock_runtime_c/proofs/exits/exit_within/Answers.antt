use Rattle.std.proofs.Common.{ap, refl, subst, inl, inr}
use Rattle.heap_table.specs.Seen.{HeapSeen}
use Rattle.lock_runtime_c.specs.Rest.{RestsWithin}
use Rattle.lock_runtime_c.specs.declared.inner.Room.{Room}
use Rattle.lock_runtime_c.specs.inner.QuickCalls.{ExitsQuickly}
use Rattle.lock_runtime_c.proofs.exits.exit_within.Goals as goal

pub returns-in-Seat : goal.returns-in-Seat
returns-in-Seat c =
    let s = c.in-Seat.seat in
    let came = c.exit_quickly.ensures in
    inl (
      s,
      _,
      c.in-Seat.is,
      refl,
      record {
        rested = subst RestsWithin c.in-Seat.is c.requires;
        room = refl;
        place = refl;
        page = refl;
        flag = refl;
        came = subst (λ (h : HeapSeen). ExitsQuickly h s.lent.thing c.exit_quickly.new.pass c.args.object c.exit_quickly.result)
            (ap (λ (r : Room). r.heap) c.deref.ensures) came;
      },
    )

pub returns-in_default : goal.returns-in_default
returns-in_default c = inr (refl, refl, c.requires, c.in_default.not-Seat)
