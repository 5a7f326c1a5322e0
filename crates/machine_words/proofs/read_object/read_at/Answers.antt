use Rattle.std.proofs.Common.{◌≡◌, List, length, drop, sym, ap, ◌∙◌}
use Rattle.plain_monitor.specs.declared.entry.Value.{Value}
use Rattle.machine_words.specs.ObjectWords.{after_one, read_object}
use Rattle.machine_words.proofs.read_object.read_at.Goals as goal

pub returns : goal.returns
returns c =
    let ws = c.args.words.now in
    let slots = ap (λ (vs : List Value). length vs) c.slots-slots.ensures in
    let beyond : drop c.take_word.new.at ws ≡ after_one (drop c.args.at.now ws) = ap after_one (sym c.in_ok-take_word.ensures.read) in
    record {
      lost = tt;
      object = c.in_ok-read_object.ensures.object ∙ (λ i. (read_object (slots i) (beyond i)).0);
      rest = c.in_ok-read_object.ensures.rest ∙ (λ i. (read_object (slots i) (beyond i)).1);
    }
