use Rattle.std.proofs.Common.{ℕ, ◌<◌, ◌^◌, subst, List, ◌++◌, ◌∷◌, [], length, map, ap, ◌∙◌}
use Rattle.plain_monitor.specs.declared.entry.Value.{Value}
use Rattle.plain_monitor.specs.ValueWords.{word_of}
use Rattle.plain_machine.specs.declared.monitor_call.Mode.{Mode}
use Rattle.machine_words.specs.ModeWords.{mode_rest}
use Rattle.machine_words.specs.ThreadWords.{head_word}
use Rattle.machine_words.proofs.Writing.{four_in_front}
use Rattle.machine_words.proofs.thread_words.add_thread.Goals as goal

pub returns : goal.returns
returns c =
    let s = c.args.thread.now in
    let o1 = c.add.new.out.items in
    let o2 = c.add-2.new.out.items in
    let o3 = c.add-3.new.out.items in
    let o4 = c.add-4.new.out.items in
    record {
      words =
          four_in_front c.args.out.now.items o1 o2 o3 o4 c.add_values.new.out.items (head_word s) (mode_rest s.mode) s.made (length s.locals)
          (map word_of s.locals)
          (c.in_ok-add.ensures ∙ ap (λ w. c.args.out.now.items ++ w ∷ []) c.head_word.ensures.word)
          (c.in_ok-add-2.ensures ∙ ap (λ w. o1 ++ w ∷ []) (c.mode_rest.ensures.rest ∙ ap mode_rest c.mode.ensures))
          (c.in_ok-add-3.ensures ∙ ap (λ w. o2 ++ w ∷ []) (c.from.ensures ∙ c.made.ensures))
          (c.in_ok-add-4.ensures ∙ ap (λ (vs : List Value). o3 ++ length vs ∷ []) c.locals-locals.ensures)
          (c.in_ok-add_values.ensures ∙ ap (λ (vs : List Value). o4 ++ map word_of vs) c.locals-locals.ensures);
      numbers = (
        c.head_word.ensures.small,
        subst (λ (mode : Mode). mode_rest mode < 2 ^ 32) c.mode.ensures (subst (λ (n : ℕ). n < 2 ^ 32) c.mode_rest.ensures.rest c.mode_rest.ensures.small),
      );
    }
