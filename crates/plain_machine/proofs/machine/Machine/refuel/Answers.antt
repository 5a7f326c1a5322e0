use Rattle.std.proofs.Common.{◌≡◌, List, length, map, sym, ap, ◌∙◌, subst}
use Rattle.std.specs.Vec.{with_items}
use Rattle.std.proofs.lemmas.List.{with_items_is, length-map}
use Rattle.plain_machine.specs.Thread.{ThreadState}
use Rattle.plain_machine.specs.MachineView.{plain_machine}
use Rattle.plain_machine.specs.Sound.{IsSound}
use Rattle.plain_machine.proofs.Refuelled.{sound_full}
use Rattle.plain_machine.proofs.machine.Machine.refuel.Goals as goal

pub invariant_of-self : goal.invariant_of-self
invariant_of-self c =
    let f : ThreadState → ThreadState = λ s. record s { fuel = c.args.fuel } in
    let threads = c.self.inside.threads in
    let new = c.refuel_all.new.threads in
    let count : length new ≡ threads.len = ap length c.refuel_all.ensures ∙ length-map c.deref_mut.result.now f ∙ c.deref_mut.ensures.len in
    let items : (with_items threads new).items ≡ map f threads.items =
    with_items_is threads new count ∙ c.refuel_all.ensures ∙ ap (map f) c.deref_mut.ensures.value in
    let m = plain_machine c.self.inside in
    record {
      sound = subst (λ (ts : List ThreadState). IsSound (record m { threads = ts })) (sym items) (sound_full c.args.fuel m c.self.invariant.sound);
      numbering = c.self.invariant.numbering;
    }
