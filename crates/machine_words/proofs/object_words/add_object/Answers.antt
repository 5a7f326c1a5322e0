use Rattle.std.proofs.Common.{ℕ, List, ◌++◌, ◌∷◌, [], length, map, ap, ◌∙◌}
use Rattle.plain_monitor.specs.declared.entry.Value.{Value}
use Rattle.plain_monitor.specs.Monitor.{PlainMonitor}
use Rattle.plain_monitor.specs.ValueWords.{word_of}
use Rattle.machine_words.specs.Readers.{option_word, pair_words}
use Rattle.machine_words.proofs.Writing.{five_in_front}
use Rattle.machine_words.proofs.object_words.add_object.Goals as goal

pub returns : goal.returns
returns c =
    let x = c.args.object.now in
    let is = c.monitor-monitor.ensures in
    let owner = c.owner.ensures ∙ ap (λ (m : PlainMonitor). m.owner) is in
    let count = c.from.ensures ∙ c.count.ensures ∙ ap (λ (m : PlainMonitor). m.count) is in
    let waits = c.all_waiting-waiting.ensures ∙ ap (λ (m : PlainMonitor). m.waits) is in
    let called = c.all_called-called.ensures ∙ ap (λ (m : PlainMonitor). m.called) is in
    let o = c.args.out.now.items in
    let o1 = c.add.new.out.items in
    let o2 = c.add-2.new.out.items in
    let o3 = c.add-3.new.out.items in
    let o4 = c.add-4.new.out.items in
    let o5 = c.add-5.new.out.items in
    let o6 = c.add_pairs.new.out.items in
    let o7 = c.add_pairs-2.new.out.items in
    five_in_front o o1 o2 o3 o4 o5 o6 o7 c.add_values.new.out.items (option_word x.monitor.owner) x.monitor.count (option_word x.hash) (length x.monitor.waits)
    (length x.monitor.called) (pair_words x.monitor.waits) (pair_words x.monitor.called) (map word_of x.slots)
    (c.in_ok-add.ensures ∙ ap (λ w. o ++ w ∷ []) (c.option_word.ensures ∙ ap option_word owner))
    (c.in_ok-add-2.ensures ∙ ap (λ w. o1 ++ w ∷ []) count)
    (c.in_ok-add-3.ensures ∙ ap (λ w. o2 ++ w ∷ []) (c.option_word-2.ensures ∙ ap option_word c.hash.ensures))
    (c.in_ok-add-4.ensures ∙ ap (λ (ps : List (ℕ × ℕ)). o3 ++ length ps ∷ []) waits)
    (c.in_ok-add-5.ensures ∙ ap (λ (ps : List (ℕ × ℕ)). o4 ++ length ps ∷ []) called)
    (c.in_ok-add_pairs.ensures ∙ ap (λ (ps : List (ℕ × ℕ)). o5 ++ pair_words ps) waits)
    (c.in_ok-add_pairs-2.ensures ∙ ap (λ (ps : List (ℕ × ℕ)). o6 ++ pair_words ps) called)
    (c.in_ok-add_values.ensures ∙ ap (λ (vs : List Value). o7 ++ map word_of vs) c.slots.ensures)
