use Rattle.std.proofs.Common.{◌+◌, ◌-◌, ◌*◌, [], ◌∷◌, ◌++◌, ◌∙◌}
use Rattle.heap_table.specs.inner.Openings.{copies, heap_words, class_words, object_words, numbers}
use Rattle.heap_table.proofs.Opens.{chained, opening_count}
use Rattle.heap_table.proofs.opening.opening_words.Goals as goal

pub returns-clause-words : goal.returns-clause-words
returns-clause-words c =
    let mark = c.mark_word-mark.ensures in
    let other = c.mark_word.ensures in
    let classes = c.classes-classes.ensures in
    let objects = c.objects-objects.ensures in
    let threads = c.threads-threads.ensures.same in
    let declared = c.declared-declared.ensures.same in
    let size = c.object_size-size.ensures.size in
    let places = c.ring_places-places.ensures.places in
    chained _ _ _ _ _ _ _ _ _ _ _ _ _ c.in_ok-words.ensures.items c.in_ok-push_copies.ensures c.in_ok-push_copies-2.ensures
    c.in_ok-push_objects.ensures c.in_ok-push_objects-2.ensures c.in_ok-push_copies-3.ensures
    c.in_ok-push_numbers.ensures
    ∙ λ i. copies 1 (heap_words (objects i + threads i)) ++ (copies (classes i) (class_words (mark i))
    ++ (copies (declared i) (object_words (size i) (mark i))
    ++ (copies (objects i - declared i) (object_words (size i) (other i))
    ++ (copies (144 * threads i + 11 * (objects i + threads i)) (0 ∷ []) ++ numbers (places i)))))

pub returns-clause-count : goal.returns-clause-count
returns-clause-count c = opening_count c.args.setting.now.shape c.args.setting.now.biasing _ c.threads-threads.ensures.limits.declared (returns-clause-words c)
