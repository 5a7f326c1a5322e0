use Rattle.std.proofs.Common.{ℕ, ◌-◌, ◌/◌, ◌%◌, List, ◌++◌, codes, ap, sym, ◌∙◌, arith}
use Rattle.std.specs.Prelude.{decimal}
use Rattle.plain_monitor.specs.Limits.{most_made}
use Rattle.lock_journal.specs.Words.{thread_text}
use Rattle.lock_journal.proofs.Names.{made_is}
use Rattle.lock_journal.proofs.words.push_object_at.Goals as goal

pub returns-then-place-declared-clause-text : goal.returns-then-place-declared-clause-text
returns-then-place-declared-clause-text c =
    let total = c.declared_total-declared.ensures in
    c.push_made.ensures.text
    ∙ ap (λ (n : ℕ). c.args.out.now
    ++ (thread_text c.args.program.now ((c.args.place - n) / most_made) ++ codes "." ++ decimal ((c.args.place - n) % most_made))) total
    ∙ ap (λ (text : List ℕ). c.args.out.now ++ text) (sym (made_is c.args.program.now c.args.place (omega (arith, total, c.if-place-declared.true))))
