use Rattle.std.proofs.Common.{◌≡◌, ℕ, ◌/◌, ◌%◌, ◌∷◌, drop, refl, ap, ◌∙◌}
use Rattle.plain_machine.specs.Thread.{ThreadState}
use Rattle.machine_words.proofs.ReadParts.{begun, thread_is}
use Rattle.machine_words.proofs.read_thread.read_thread.Goals as goal

pub returns : goal.returns
returns c =
    let ws = c.args.words.now in
    let all : drop c.args.at.now ws
    ≡ c.in_ok-head.head ∷ c.in_ok-rest.rest ∷ c.in_ok-made.made ∷ c.in_ok-locals.locals ∷ drop c.take_word-2.new.at ws =
    c.in_ok-head.ensures.read
    ∙ ap (λ xs. c.in_ok-head.head ∷ xs) (c.in_ok-rest.ensures.read
    ∙ ap (λ xs. c.in_ok-rest.rest ∷ xs) (c.in_ok-made.ensures.read
    ∙ ap (λ xs. c.in_ok-made.made ∷ xs) c.in_ok-locals.ensures.read)) in
    let mode = c.mode_with-mode.result in
    let dumps : ℕ = c.in_ok-head.head / 32 % 8 in
    let stands : c.stand.new.self ≡ begun c.args.thread.now.holds c.in_ok-place.place dumps c.in_ok-made.made c.args.fuel mode =
    c.stand.ensures ∙ ap (λ (s : ThreadState). record s { fuel = c.args.fuel; mode = mode }) c.restart.ensures in
    let is =
    thread_is c.args.thread.now.holds c.args.fuel
    c.in_ok-head.head c.in_ok-rest.rest c.in_ok-made.made c.in_ok-locals.locals c.in_ok-place.place dumps (drop c.args.at.now ws)
    (drop c.take_word-2.new.at ws) (drop c.read_locals.new.at ws) mode c.stand.new.self c.read_locals.new.thread all c.in_ok-place.ensures.read refl
    c.mode_with-mode.ensures stands c.in_ok-read_locals.ensures.thread c.in_ok-read_locals.ensures.rest in
    record { lost = tt; thread = is.0; rest = is.1 }
