use Rattle.std.proofs.Common.{◌≡◌, true, length, slice_set, slice_index_or, refl, sym, ap, ◌∙◌}
use Rattle.std.proofs.lemmas.List.{get_or_default, get_or-set_same, set-get_or}
use Rattle.plain_monitor.specs.Objects.{PlainObject, new_object}
use Rattle.machine_words.specs.ObjectWords.{is_new}
use Rattle.machine_words.specs.inner.Reading.{renewed, beside}
use Rattle.machine_words.proofs.ReadObjects.{new_is}
use Rattle.machine_words.proofs.Beside.{held_more, holds_within}
use Rattle.machine_words.proofs.renew.renew_at.Goals as goal

pub returns-then-is_new-clause-objects : goal.returns-then-is_new-clause-objects
returns-then-is_new-clause-objects c =
    let objects = c.args.objects.now in
    let number = c.args.number in
    let x = slice_index_or objects number c.index-objects-number.result in
    let same = get_or_default objects number c.index-objects-number.result (new_object 0) c.requires.within in
    let as_at_first : is_new x ≡ true = sym c.is_new.ensures ∙ c.if-is_new.true in
    sym (set-get_or objects number (new_object 0))
    ∙ ap (λ (y : PlainObject). slice_set objects number y) (sym same ∙ new_is (length x.slots) x refl as_at_first ∙ ap renewed same)

pub place_object-requires-clause-number : goal.place_object-requires-clause-number
place_object-requires-clause-number c =
    holds_within c.args.number c.args.objects.now c.args.threads.now c.args.threads.now c.requires.within c.requires.beside

pub returns-clause-objects : goal.returns-clause-objects
returns-clause-objects c =
    let objects = c.args.objects.now in
    let number = c.args.number in
    let same = get_or_default objects number c.index-objects-number-2.result (new_object 0) c.requires.within in
    ap (λ (y : PlainObject). slice_set objects number y) (c.in_ok-renew.ensures ∙ ap renewed same)

pub returns-clause-threads : goal.returns-clause-threads
returns-clause-threads c =
    let objects = c.args.objects.now in
    let number = c.args.number in
    let new = c.renew.new.object in
    let placed = slice_index_or (slice_set objects number new) number c.index-objects-number-3.result in
    let same : placed ≡ new = get_or-set_same objects number new c.index-objects-number-3.result c.requires.within in
    held_more number placed objects c.args.threads.now c.args.threads.now c.place_object.new.threads c.requires.beside c.in_ok-place_object.ensures.held
    ∙ ap (λ (x : PlainObject). beside (slice_set objects number x) 0 c.args.threads.now) same
