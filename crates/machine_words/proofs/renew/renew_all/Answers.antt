use Rattle.std.proofs.Common.{◌≡◌, ℕ, ◌+◌, ◌<◌, ◌≤◌, false, [], List, length, slice_index_or, is_some, sum, refl, sym, ap, ◌∙◌, subst, arith}
use Rattle.std.specs.List.{AllByRecursion}
use Rattle.plain_monitor.specs.Limits.{most_holds}
use Rattle.plain_monitor.specs.Made.{Numbering, first_made, class_if_there}
use Rattle.plain_monitor.specs.Objects.{PlainObject, new_object}
use Rattle.object_program.specs.Program.{numbering_of}
use Rattle.plain_machine.specs.Thread.{ThreadState}
use Rattle.plain_machine.specs.Machine.{PlainMachine}
use Rattle.plain_machine.proofs.NeededObjects.{first_is_total}
use Rattle.machine_words.specs.inner.Reading.{Walks, renewed, renew_step, beside, after_row}
use Rattle.machine_words.proofs.Beside.{reached_beside, beside_again}
use Rattle.machine_words.proofs.Holding.{HeldBelow, held_in_all, held_renewed, beside_few}
use Rattle.machine_words.proofs.Told.{reached_few}
use Rattle.machine_words.proofs.There.{not_declared}
use Rattle.machine_words.proofs.Renewing.{is_not_there, renew_jump}
use Rattle.machine_words.proofs.Walking.{walks_none, walks_more, walks_all}
use Rattle.machine_words.proofs.WalkedParts.{renewed_walked}
use Rattle.machine_words.proofs.renew.renew_all.Goals as goal

pub loop-number-init : goal.loop-number-init
loop-number-init c =
    let m : PlainMachine =
    record { program = c.args.program.now; objects = c.args.objects.now; made = c.args.register.now.made; threads = c.args.threads.now } in
    record { walks = walks_none renew_step c.args.objects.now []; threads = reached_beside m c.requires.reached; below = λ t o. omega arith }

pub renew_at-requires-clause-beside : goal.renew_at-requires-clause-beside
renew_at-requires-clause-beside c =
    let objects = c.loop-number.objects in
    let were = c.loop-number.invariant.threads in
    were ∙ sym (beside_again objects objects 0 c.args.threads.now) ∙ ap (beside objects 0) (sym were)

pub renew_at-requires-clause-holds : goal.renew_at-requires-clause-holds
renew_at-requires-clause-holds c =
    let inv = c.loop-number.invariant in
    let m : PlainMachine =
    record { program = c.args.program.now; objects = c.args.objects.now; made = c.args.register.now.made; threads = c.args.threads.now } in
    subst (AllByRecursion (λ (s : ThreadState). sum s.holds ≤ most_holds)) (sym inv.threads)
    (beside_few c.loop-number.objects 0 c.args.threads.now (λ u lt.
    omega (arith, held_in_all c.loop-number.objects c.args.objects.now u inv.below, reached_few m u c.requires.reached (omega (arith, lt)))))

pub loop-number-preserved-then-is_some : goal.loop-number-preserved-then-is_some
loop-number-preserved-then-is_some c =
    let inv = c.loop-number.invariant in
    let number = c.loop-number.number in
    let objects = c.loop-number.objects in
    let new = c.renew_at.new.objects in
    let first = c.args.objects.now in
    let within : number < length objects = omega (arith, c.loop-number-test.true, inv.walks.count) in
    record {
      walks =
          subst (λ (xs : List PlainObject). Walks renew_step first [] (number + 1) xs []) (sym c.in_ok-renew_at.ensures.objects)
          (walks_more (renewed (slice_index_or objects number (new_object 0))) (new_object 0) [] inv.walks within refl refl);
      threads =
          c.in_ok-renew_at.ensures.threads ∙ ap (beside new 0) inv.threads ∙ beside_again new objects 0 c.args.threads.now;
      below = subst (λ (xs : List PlainObject). HeldBelow xs first) (sym c.in_ok-renew_at.ensures.objects)
          (held_renewed objects first number (slice_index_or objects number (new_object 0)) inv.below);
    }

pub after_row-number-requires-clause-made : goal.after_row-number-requires-clause-made
after_row-number-requires-clause-made c =
    let n : Numbering = numbering_of c.args.program.now in
    let none : is_some (class_if_there n c.args.register.now.made c.loop-number.number) ≡ false =
    ap (λ (m : Numbering). is_some (class_if_there m c.args.register.now.made c.loop-number.number)) (sym c.requires.numbering)
    ∙ ap is_some (sym c.class_of.ensures) ∙ sym c.is_some.ensures ∙ c.if-is_some.false in
    let first : c.declared_total-first.result ≡ first_made n = c.declared_total-first.ensures ∙ sym (first_is_total c.args.program.now.objects) in
    let above = not_declared n c.args.register.now.made c.loop-number.number (is_not_there n c.args.register.now.made c.loop-number.number none) in
    omega (arith, first, above)

pub loop-number-preserved : goal.loop-number-preserved
loop-number-preserved c =
    let inv = c.loop-number.invariant in
    let n : Numbering = numbering_of c.args.program.now in
    let none : is_some (class_if_there n c.args.register.now.made c.loop-number.number) ≡ false =
    ap (λ (m : Numbering). is_some (class_if_there m c.args.register.now.made c.loop-number.number)) (sym c.requires.numbering)
    ∙ ap is_some (sym c.class_of.ensures) ∙ sym c.is_some.ensures ∙ c.if-is_some.false in
    let first : c.declared_total-first.result ≡ first_made n = c.declared_total-first.ensures ∙ sym (first_is_total c.args.program.now.objects) in
    let to : after_row (first_made n) c.loop-number.number ≡ c.after_row-number.result =
    ap (λ (k : ℕ). after_row k c.loop-number.number) (sym first) ∙ sym c.after_row-number.ensures in
    record {
      walks = subst (λ (j : ℕ). Walks renew_step c.args.objects.now [] j c.loop-number.objects []) to
          (renew_jump n c.args.register.now.made c.args.objects.now c.loop-number.number c.loop-number.objects c.requires.untouched none inv.walks);
      threads = inv.threads;
      below = inv.below;
    }

pub returns-clause-objects : goal.returns-clause-objects
returns-clause-objects c =
    let inv = c.loop-number.invariant in
    let past : length c.loop-number.objects ≤ c.loop-number.number = omega (arith, c.loop-number-test.false, inv.walks.count) in
    sym (walks_all inv.walks past).0 ∙ renewed_walked 0 c.args.objects.now []
