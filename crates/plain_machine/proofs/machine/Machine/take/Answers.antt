use Rattle.std.proofs.Common.{◌≡◌, ◌<◌, false, length, sym, ◌∙◌, Some, vec_len, subst, is_some}
use Rattle.std.proofs.lemmas.List.{with_items_is}
use Rattle.plain_monitor.specs.Made.{Numbering, take_made}
use Rattle.plain_monitor.specs.Objects.{take_entry}
use Rattle.plain_machine.specs.Thread.{ThreadState}
use Rattle.plain_machine.specs.Asking.{after_entry}
use Rattle.plain_machine.specs.Machine.{code_of, made_after_entry}
use Rattle.plain_machine.specs.MachineView.{plain_machine}
use Rattle.plain_machine.specs.inner.Kept.{holds_after}
use Rattle.plain_machine.proofs.After.{IsAnswered, sound_after, length_after, same_read, takable}
use Rattle.plain_machine.proofs.Taking.{taken, nothing_taken, none_where}
use Rattle.plain_machine.proofs.machine.Machine.take.Goals as goal

pub take-requires : goal.take-requires
take-requires c =
    let within : c.args.t < length c.self.inside.threads.items = rw (← c.self.view_is) at c.requires in
    rw c.deref_mut.ensures.value
    (takable (plain_machine c.self.inside) _ _ _ _ within c.index.ensures c.in-Some.ensures.asked c.in-Some.ensures.fits c.self.invariant.sound)

pub note-requires : goal.note-requires
note-requires c = sym c.may_take.ensures ∙ c.if-not-may_take.false

within : (c : goal.After-self-2-1) → c.args.t < length c.self.inside.threads.items
within c = rw (← c.self.view_is) at c.requires

objects : (c : goal.After-self-2-1) → take_entry c.self.inside.objects.items c.args.t c.args.entry.now ≡ Some c.take.new.objects
objects c = rw c.deref_mut.ensures.value at c.in_ok-take.ensures.ok

as_many : (c : goal.After-self-2-1) → length c.take.new.objects ≡ vec_len c.self.inside.objects
as_many c = length_after _ _ _ _ (objects c) ∙ (rw c.deref_mut.ensures.value at c.deref_mut.ensures.len)

after : (c : goal.After-self-2-1)
    → c.advance.new.thread ≡ after_entry c.self.inside.program (code_of c.self.inside.program c.args.t) c.index_mut.result.now c.in-Some.asked c.args.entry.now
after c = rw c.code_of-code.ensures.code at c.advance.ensures.after

answered : (c : goal.After-self-2-1) → IsAnswered c.index.result.now c.advance.new.thread c.in-Some.asked
answered c =
    let same = same_read _ _ _ _ (within c) c.index_mut.ensures.value c.index.ensures in
    let P : ThreadState → Type 0 = λ z. c.advance.new.thread.holds ≡ holds_after z c.in-Some.asked in
    record {
      asked = c.in-Some.ensures.asked;
      ready = c.in-Some.ensures.ready;
      holds = subst P same c.advance.ensures.holds;
      now = c.advance.ensures.ready;
      waits = c.advance.ensures.waits;
    }

made : (c : goal.After-self-2-1) → made_after_entry (plain_machine c.self.inside) c.args.t c.args.entry.now ≡ Some c.note.new.self.made
made c =
    subst (λ (n : Numbering). take_made n c.self.inside.register.made c.args.t c.args.entry.now ≡ Some c.note.new.self.made)
    c.self.invariant.numbering c.note.ensures.made

pub returns-then-not-may_take-clause-refused : goal.returns-then-not-may_take-clause-refused
returns-then-not-may_take-clause-refused c =
    let none : is_some (made_after_entry (plain_machine c.self.inside) c.args.t c.args.entry.now) ≡ false =
    subst (λ (n : Numbering). is_some (take_made n c.self.inside.register.made c.args.t c.args.entry.now) ≡ false) c.self.invariant.numbering
    (sym c.may_take.ensures ∙ c.if-not-may_take.true) in
    rw (← c.self.view_is) (nothing_taken (plain_machine c.self.inside) _ _ (none_where _ none))

pub invariant_of-self-2 : goal.invariant_of-self-2
invariant_of-self-2 c = record {
  sound =
      rw (with_items_is c.self.inside.objects c.take.new.objects (as_many c))
      (sound_after (plain_machine c.self.inside) _ _ _ c.note.new.self.made _ _ _
      (within c) c.index.ensures c.in-Some.ensures.fits (objects c) (answered c) c.self.invariant.sound);
  numbering = c.note.ensures.numbering ∙ c.self.invariant.numbering;
}

pub returns-clause-ok : goal.returns-clause-ok
returns-clause-ok c =
    rw (with_items_is c.self.inside.objects c.take.new.objects (as_many c), ← c.self.view_is)
    (taken (plain_machine c.self.inside) _ _ _ c.note.new.self.made _ _ _ _
    (within c) c.index.ensures c.index_mut.ensures.value c.in-Some.ensures.asked c.in-Some.ensures.fits
    (made c) (objects c) (after c))
