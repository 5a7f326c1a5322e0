use Rattle.std.proofs.Common.{◌≡◌, ℕ, ◌+◌, ◌++◌, false, List, drop, length, slice_get, Some, is_some, refl, sym, ap, ◌∙◌, subst, arith}
use Rattle.std.specs.List.{AllByRecursion}
use Rattle.std.proofs.lemmas.Option.{slice_get_read}
use Rattle.plain_monitor.specs.Made.{Numbering, first_made, class_if_there}
use Rattle.plain_monitor.specs.Objects.{PlainObject}
use Rattle.plain_monitor.specs.ValueWords.{IsSpellable}
use Rattle.plain_monitor.proofs.Lists.{all_at}
use Rattle.object_program.specs.Program.{declared_total, numbering_of}
use Rattle.plain_machine.proofs.NeededObjects.{first_is_total}
use Rattle.machine_laws.specs.Reached.{HasSlots}
use Rattle.machine_words.specs.ObjectWords.{objects_words}
use Rattle.machine_words.specs.inner.Reading.{after_row}
use Rattle.machine_words.proofs.ReadBack.{objects_spelled}
use Rattle.machine_words.proofs.Renewing.{is_not_there, words_jump}
use Rattle.machine_words.proofs.There.{not_declared}
use Rattle.machine_words.proofs.object_words.add_objects.Goals as goal

pub add_changed-requires : goal.add_changed-requires
add_changed-requires c =
    let m = c.args.machine.now in
    let x = c.index-objects-number.result in
    let each : (j : ℕ) (x : PlainObject) → slice_get m.objects j ≡ Some x → HasSlots m.program (0 + j) x =
    λ j x at. let here : j ≡ 0 + j = omega arith in subst (λ (o : ℕ). HasSlots m.program o x) here (c.requires.reached.slots j x at) in
    let at : slice_get c.objects-objects.result.now c.loop-number.number ≡ Some x =
    slice_get_read c.objects-objects.result.now (length c.objects-objects.result.now) c.loop-number.number x refl c.loop-number-test.true
    c.index-objects-number.is in
    all_at (λ (x : PlainObject). AllByRecursion IsSpellable x.slots) m.objects c.loop-number.number x
    (objects_spelled m.program 0 m.objects c.requires.reached.program each)
    (subst (λ (xs : List PlainObject). slice_get xs c.loop-number.number ≡ Some x) c.objects-objects.ensures at)

pub after_row-number-requires-clause-made : goal.after_row-number-requires-clause-made
after_row-number-requires-clause-made c =
    let m = c.args.machine.now in
    let n : Numbering = numbering_of m.program in
    let none : is_some (class_if_there n m.made c.loop-number.number) ≡ false =
    ap is_some (sym c.class_of.ensures) ∙ sym c.is_some.ensures ∙ c.if-is_some.false in
    let first : c.declared_total-first.result ≡ first_made n =
    c.declared_total-first.ensures ∙ ap declared_total c.program.ensures ∙ sym (first_is_total m.program.objects) in
    let above = not_declared n m.made c.loop-number.number (is_not_there n m.made c.loop-number.number none) in
    omega (arith, first, above)

pub loop-number-preserved : goal.loop-number-preserved
loop-number-preserved c =
    let m = c.args.machine.now in
    let n : Numbering = numbering_of m.program in
    let objects = c.objects-objects.result.now in
    let none : is_some (class_if_there n m.made c.loop-number.number) ≡ false =
    ap is_some (sym c.class_of.ensures) ∙ sym c.is_some.ensures ∙ c.if-is_some.false in
    let first : c.declared_total-first.result ≡ first_made n =
    c.declared_total-first.ensures ∙ ap declared_total c.program.ensures ∙ sym (first_is_total m.program.objects) in
    let to : after_row (first_made n) c.loop-number.number ≡ c.after_row-number.result =
    ap (λ (k : ℕ). after_row k c.loop-number.number) (sym first) ∙ sym c.after_row-number.ensures in
    let same =
    words_jump n m.made objects c.loop-number.number (λ o x at none.
    c.requires.untouched o x (subst (λ (xs : List PlainObject). slice_get xs o ≡ Some x) c.objects-objects.ensures at) none) none
    ∙ ap (λ (j : ℕ). objects_words j (drop j objects)) to in
    ap (λ (zs : List ℕ). c.loop-number.out.items ++ zs) (sym same) ∙ c.loop-number.invariant
