use Rattle.std.proofs.Common.{◌≡◌, ◌∷◌, drop, ap, ◌∙◌}
use Rattle.plain_monitor.specs.Objects.{PlainObject}
use Rattle.machine_words.proofs.ReadParts.{given, object_is}
use Rattle.machine_words.proofs.read_object.read_object.Goals as goal

pub returns : goal.returns
returns c =
    let ws = c.args.words.now in
    let all : drop c.args.at.now ws
    ≡ c.in_ok-owner_word.owner_word ∷ c.in_ok-count.count ∷ c.in_ok-hash_word.hash_word ∷ c.in_ok-waiting.waiting ∷ c.in_ok-called.called
    ∷ drop c.take_word-4.new.at ws =
    c.in_ok-owner_word.ensures.read
    ∙ ap (λ xs. c.in_ok-owner_word.owner_word ∷ xs) (c.in_ok-count.ensures.read
    ∙ ap (λ xs. c.in_ok-count.count ∷ xs) (c.in_ok-hash_word.ensures.read
    ∙ ap (λ xs. c.in_ok-hash_word.hash_word ∷ xs) (c.in_ok-waiting.ensures.read
    ∙ ap (λ xs. c.in_ok-waiting.waiting ∷ xs) c.in_ok-called.ensures.read))) in
    let cleared : c.set_hash.new.self ≡ given c.in_ok-owner.owner c.in_ok-count.count c.in_ok-hash.hash =
    c.set_hash.ensures ∙ ap (λ (x : PlainObject). record x { hash = c.in_ok-hash.hash }) (c.give.ensures
    ∙ ap (λ (x : PlainObject). record x { monitor = record x.monitor { owner = c.in_ok-owner.owner; count = c.in_ok-count.count } }) c.clear.ensures) in
    let is =
    object_is c.args.slots c.in_ok-owner_word.owner_word c.in_ok-count.count c.in_ok-hash_word.hash_word c.in_ok-waiting.waiting c.in_ok-called.called
    (drop c.args.at.now ws) (drop c.take_word-4.new.at ws) (drop c.read_waiting.new.at ws) (drop c.read_called.new.at ws) (drop c.read_slots.new.at ws)
    c.in_ok-owner.owner c.in_ok-hash.hash c.set_hash.new.self c.read_waiting.new.object c.read_called.new.object c.read_slots.new.object all
    c.in_ok-owner.ensures.read c.in_ok-hash.ensures.read cleared c.in_ok-read_waiting.ensures.object c.in_ok-read_waiting.ensures.rest
    c.in_ok-read_called.ensures.object c.in_ok-read_called.ensures.rest c.in_ok-read_slots.ensures.object c.in_ok-read_slots.ensures.rest in
    record { lost = tt; object = is.0; rest = is.1 }
