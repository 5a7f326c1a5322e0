use Rattle.std.proofs.Common.{◌≡◌, [], ap, refl, ◌∙◌}
use Rattle.std.proofs.lemmas.List.{get_or_read_under}
use Rattle.plain_monitor.specs.History.{log_of}
use Rattle.lock_journal.proofs.PrintsLeft.{prints_left-kept, skipped_kept}
use Rattle.lock_journal.proofs.prints.skip.Goals as goal

pub returns-in-Some : goal.returns-in-Some
returns-in-Some c =
    let run = c.args.run.now in
    let t = c.args.thread in
    let places = c.args.merge.now in
    let h = c.in-Some.ensures.lookup in
    let read : c.in-Some.log.now ≡ log_of c.items.result.now t = get_or_read_under _ _ _ _ [] h.1 h.3.0 refl in
    let log : c.items-in-Some.result.now ≡ log_of run.logs t = c.items-in-Some.ensures ∙ read ∙ ap (λ ls. log_of ls t) c.items.ensures in
    rw c.set_place.ensures (prints_left-kept run places _
    (skipped_kept run.logs places t c.next_printing-place.result (rw (log, c.place.ensures) at c.next_printing-place.ensures)))
