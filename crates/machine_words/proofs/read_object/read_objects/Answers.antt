use Rattle.std.proofs.Common.{rules, ◌≡◌, ◌≤◌, sum, ℕ, ◌+◌, ◌<◌, List, [], ◌∷◌, length, drop, slice_set, slice_get, slice_index_or}
use Rattle.std.proofs.Common.{Some, sym, subst, ap, ◌∙◌, arith}
use Rattle.std.specs.List.{AllByRecursion}
use Rattle.std.proofs.lemmas.List.{drop_more, drop_all, get_or-set_same}
use Rattle.std.proofs.lemmas.Option.{slice_get-get_or}
use Rattle.plain_monitor.specs.Objects.{PlainObject}
use Rattle.plain_monitor.specs.Limits.{most_holds}
use Rattle.plain_machine.specs.Thread.{ThreadState}
use Rattle.machine_laws.specs.ReachedMonitor.{standing}
use Rattle.machine_words.specs.ObjectWords.{objects_words, begins}
use Rattle.machine_words.specs.inner.Telling.{IsLost, AreTold}
use Rattle.machine_words.proofs.Lost.{lost_by}
use Rattle.machine_words.specs.inner.Reading.{object_step, beside}
use Rattle.machine_words.proofs.Beside.{held_more, holds_within}
use Rattle.machine_words.proofs.Renewing.{read_jump, begins_here, begins_later, step_reads}
use Rattle.machine_words.proofs.Holding.{HeldBelow, held_put, none_held, held_in_all, stands_few, beside_few}
use Rattle.machine_words.proofs.Changed.{goes_on_with, got_within, told_next}
use Rattle.machine_words.proofs.Jumps.{left_at}
use Rattle.machine_words.proofs.ReadObjects.{object_read}
use Rattle.machine_words.proofs.Walking.{walks_none, walks_more, walks_all}
use Rattle.machine_words.proofs.read_object.read_objects.Goals as goal

pub place_object-requires-clause-number : goal.place_object-requires-clause-number
place_object-requires-clause-number c =
    let inv = c.loop-at.invariant in
    let next : ℕ = slice_index_or c.args.words.now c.loop-at.at 0 in
    holds_within next c.loop-at.objects c.args.threads.now c.loop-at.threads (omega (arith, c.if-next-objects.false, inv.walks.count)) inv.threads

pub loop-at-preserved : goal.loop-at-preserved
loop-at-preserved c =
    let inv = c.loop-at.invariant in
    let ws = c.args.words.now in
    let objects = c.loop-at.objects in
    let next : ℕ = slice_index_or ws c.loop-at.at 0 in
    let rest : List ℕ = drop c.loop-at.at ws in
    let old = slice_index_or objects next c.index-objects-number.result in
    let new = c.read_at.new.object in
    let placed = slice_index_or (slice_set objects next new) next c.index-objects-number-in-loop-at.result in
    let within : next < length objects = omega (arith, c.if-next-objects.false, inv.walks.count) in
    let here : rest ≡ next ∷ drop (c.loop-at.at + 1) ws = drop_more ws c.loop-at.at 0 c.loop-at-test.true in
    let before =
    read_jump next c.requires.new c.if-next-number.false (λ j lt. begins_later next j rest (drop (c.loop-at.at + 1) ws) here lt) inv.walks in
    let reads = step_reads next old rest (begins_here next rest (drop (c.loop-at.at + 1) ws) here) in
    let same : placed ≡ new = get_or-set_same objects next new c.index-objects-number-in-loop-at.result within in
    record {
      within = omega (arith, within, inv.walks.count);
      walks =
          walks_more new c.index-objects-number.result (drop c.read_at.new.at ws) before within
          (c.in_ok-read_at.ensures.object ∙ ap (λ (r : PlainObject × List ℕ). r.0) reads)
          (c.in_ok-read_at.ensures.rest ∙ ap (λ (r : PlainObject × List ℕ). r.1) reads);
      threads =
          held_more next placed objects c.args.threads.now c.loop-at.threads c.place_object.new.threads inv.threads c.in_ok-place_object.ensures.held
          ∙ ap (λ (x : PlainObject). beside (slice_set objects next x) 0 c.args.threads.now) same;
      told = λ xs are is.
          let was = inv.told xs are is in
          let g = goes_on_with c.loop-at.number xs next (drop (c.loop-at.at + 1) ws) (sym was.1 ∙ here) in
          let old_is : slice_get c.args.objects.now next ≡ Some old =
          sym (left_at before next (omega arith)) ∙ slice_get-get_or objects next c.index-objects-number.result within in
          let back = object_read old g.object rest (drop (c.loop-at.at + 1) ws) _ next here g.rest (are.slots next g.object old g.at old_is)
          (are.values next g.object g.at) in
          let is_read : new ≡ g.object = c.in_ok-read_at.ensures.object ∙ ap (λ (r : PlainObject × List ℕ). r.0) back in (
            subst (λ (x : PlainObject). HeldBelow (slice_set objects next x) xs) (sym is_read) (held_put objects xs next g.object g.at was.0),
            c.in_ok-read_at.ensures.rest ∙ ap (λ (r : PlainObject × List ℕ). r.1) back,
          );
    }

pub loop-at-init : goal.loop-at-init
loop-at-init c =
    record {
      within = omega arith;
      walks = walks_none object_step c.args.objects.now (drop c.args.at.now c.args.words.now);
      threads = c.requires.beside;
      told = λ xs are is. (
        subst (λ (ys : List PlainObject). HeldBelow ys xs) (sym c.requires.new) (none_held c.args.objects.now xs),
        is,
      );
    }

pub returns-then-next-number-clause-lost : goal.returns-then-next-number-clause-lost
returns-then-next-number-clause-lost c =
    let inv = c.loop-at.invariant in
    let ws = c.args.words.now in
    let next : ℕ = slice_index_or ws c.loop-at.at 0 in
    let rest : List ℕ = drop c.loop-at.at ws in
    let here : rest ≡ next ∷ drop (c.loop-at.at + 1) ws = drop_more ws c.loop-at.at 0 c.loop-at-test.true in
    λ h.
    let was = inv.told h.0 h.1 h.2 in
    let g = goes_on_with c.loop-at.number h.0 next (drop (c.loop-at.at + 1) ws) (sym was.1 ∙ here) in
    omega (arith, g.from, got_within h.0 next g.object g.at, h.1.count, inv.walks.count, c.then-next-number.either)

pub returns-in_err-read_at-clause-lost : goal.returns-in_err-read_at-clause-lost
returns-in_err-read_at-clause-lost c =
    let inv = c.loop-at.invariant in
    let ws = c.args.words.now in
    let first = c.args.objects.now in
    let objects = c.loop-at.objects in
    let next : ℕ = slice_index_or ws c.loop-at.at 0 in
    let rest : List ℕ = drop c.loop-at.at ws in
    let here : rest ≡ next ∷ drop (c.loop-at.at + 1) ws = drop_more ws c.loop-at.at 0 c.loop-at-test.true in
    let old = slice_index_or objects next c.index-objects-number.result in
    let within : next < length objects = omega (arith, c.if-next-objects.false, inv.walks.count) in
    let before =
    read_jump next c.requires.new c.if-next-number.false (λ j lt. begins_later next j rest (drop (c.loop-at.at + 1) ws) here lt) inv.walks in
    let old_is : slice_get first next ≡ Some old =
    sym (left_at before next (omega arith)) ∙ slice_get-get_or objects next c.index-objects-number.result within in
    let lost : IsLost ((xs : List PlainObject) × AreTold (length c.args.threads.now) first xs × (drop c.args.at.now ws ≡ objects_words 0 xs))
    c.in_err-read_at.field-0.0 =
    lost_by c.in_err-read_at.field-0.0
    (λ h.
    let was = inv.told h.0 h.1 h.2 in
    let g = goes_on_with c.loop-at.number h.0 next (drop (c.loop-at.at + 1) ws) (sym was.1 ∙ here) in
    told_next old g.object rest (drop (c.loop-at.at + 1) ws) _ next here g.rest (h.1.slots next g.object old g.at old_is)
    (h.1.told next g.object _ g.at))
    c.in_err-read_at.ensures.lost in
    search rules

pub returns-in_err-place_object-clause-lost : goal.returns-in_err-place_object-clause-lost
returns-in_err-place_object-clause-lost c =
    let inv = c.loop-at.invariant in
    let ws = c.args.words.now in
    let first = c.args.objects.now in
    let objects = c.loop-at.objects in
    let next : ℕ = slice_index_or ws c.loop-at.at 0 in
    let rest : List ℕ = drop c.loop-at.at ws in
    let here : rest ≡ next ∷ drop (c.loop-at.at + 1) ws = drop_more ws c.loop-at.at 0 c.loop-at-test.true in
    let old = slice_index_or objects next c.index-objects-number.result in
    let within : next < length objects = omega (arith, c.if-next-objects.false, inv.walks.count) in
    let before =
    read_jump next c.requires.new c.if-next-number.false (λ j lt. begins_later next j rest (drop (c.loop-at.at + 1) ws) here lt) inv.walks in
    let old_is : slice_get first next ≡ Some old =
    sym (left_at before next (omega arith)) ∙ slice_get-get_or objects next c.index-objects-number.result within in
    let new = c.read_at.new.object in
    let placed = slice_index_or (slice_set objects next new) next c.index-objects-number-in-loop-at.result in
    let same : placed ≡ new = get_or-set_same objects next new c.index-objects-number-in-loop-at.result within in
    let lost : IsLost ((xs : List PlainObject) × AreTold (length c.args.threads.now) first xs × (drop c.args.at.now ws ≡ objects_words 0 xs))
    c.in_err-place_object.field-0.0 =
    lost_by c.in_err-place_object.field-0.0
    (λ h.
    let was = inv.told h.0 h.1 h.2 in
    let g = goes_on_with c.loop-at.number h.0 next (drop (c.loop-at.at + 1) ws) (sym was.1 ∙ here) in
    let back = object_read old g.object rest (drop (c.loop-at.at + 1) ws) _ next here g.rest (h.1.slots next g.object old g.at old_is)
    (h.1.values next g.object g.at) in
    let is_read : placed ≡ g.object = same ∙ c.in_ok-read_at.ensures.object ∙ ap (λ (r : PlainObject × List ℕ). r.0) back in
    let few : (t : ℕ) → t < length c.loop-at.threads → standing placed.monitor t ≤ most_holds = λ t lt.
    subst (λ (x : PlainObject). standing x.monitor t ≤ most_holds) (sym is_read)
    (omega (arith, stands_few h.0 t next g.object g.at, h.1.few t (omega (arith, lt, c.loop-at.auto.threads)))) in (
      few,
      subst (AllByRecursion (λ (s : ThreadState). sum s.holds ≤ most_holds)) (sym inv.threads)
          (beside_few objects 0 c.args.threads.now (λ u lt. omega (arith, held_in_all objects h.0 u was.0, h.1.few u (omega (arith, lt))))),
    ))
    c.in_err-place_object.ensures.lost in
    search rules

pub returns-clause-objects : goal.returns-clause-objects
returns-clause-objects c =
    let inv = c.loop-at.invariant in
    let ws = c.args.words.now in
    let rest : List ℕ = drop c.loop-at.at ws in
    let none : rest ≡ [] = drop_all c.loop-at.at ws c.loop-at-test.false in
    let all =
    read_jump (length c.loop-at.objects) c.requires.new (omega (arith, inv.within, inv.walks.count)) (λ j lt. ap (begins j) none) inv.walks in
    sym (walks_all all (omega arith)).0
