use Rattle.std.proofs.Common.{◌≡◌, ◌==◌, if◌then◌else◌, Option, refl, sym, ◌∙◌, eq-eqb, ne_eqb}
use Rattle.mark_word.specs.Safe.{read_safe}
use Rattle.core_world.specs.declared.answer.PendingCause.{PendingCause}
use Rattle.core_world.specs.declared.answer.PendingCause.TheVariants.{Raced}
use Rattle.core_world.specs.declared.word_id.WordId.TheVariants.{Safepoint}
use Rattle.core_world.specs.Threads.ThreadView.{local_of}
use Rattle.core_world.specs.Trees.Plans.{swap, done_with, pending_for}
use Rattle.core_world.specs.Trees.SafepointSteps.{bar, unless, running_too, resume_swap_steps}
use Rattle.heap_table.proofs.StepsLeft.{AreLeft, all_left, can_make, step_made, left_as, left_then, left_else, all_made}
use Rattle.safepoint.proofs.running.resume_from.Goals as goal
use Rattle.safepoint.proofs.running.resume_from.Goals.{After-running_too-left, After-exchange-found}

-- the word that the code exchanges is the tree's,
new_word : (c : After-running_too-left) → c.running_too-left.result ≡ running_too (read_safe c.args.word) c.args.pass.now.known.thread
new_word c = c.running_too-left.ensures ∙ (λ i. running_too (c.requires.form i) (c.thread.ensures.same i))

-- so the exchange is its step
exchanged : (c : After-exchange-found) (x : Option PendingCause) → bar c.exchange-found.result ≡ x
    → AreLeft c.args.heap.now c.args.call.now.task c.args.pass.now
    (resume_swap_steps c.args.call.now (local_of c.args.pass.now.known) c.args.word) c.exchange-found.new.pass
    (if c.exchange-found.result == c.args.word then done_with tt else unless x (pending_for (Raced c.args.word c.exchange-found.result)))
exchanged c x is = left_as (step_made (all_left c.requires.heap c.requires.due)
    (λ i. swap c.args.call.now Safepoint c.args.word (new_word c.before.before i)) refl refl c.exchange-found.ensures)
    (λ i. if c.exchange-found.result == c.args.word then done_with tt else unless (is i) (pending_for (Raced c.args.word c.exchange-found.result)))

pub exchange-found-requires : goal.exchange-found-requires
exchange-found-requires c =
    let z = (goal.at.exchange-found-requires c).After-running_too-left in
    can_make (all_left c.requires.heap c.requires.due) (λ i. swap c.args.call.now Safepoint c.args.word (new_word z i)) refl refl tt

pub returns-in-None : goal.returns-in-None
returns-in-None c =
    all_made (left_else _ _ _ (exchanged (goal.at.returns-in-None c).After-exchange-found _ (sym c.bar.ensures ∙ c.in-None.is))
    (ne_eqb _ _ c.if-found-word.false))

pub returns-in-Some : goal.returns-in-Some
returns-in-Some c =
    all_made (left_else _ _ _ (exchanged (goal.at.returns-in-Some c).After-exchange-found _ (sym c.bar.ensures ∙ c.in-Some.is))
    (ne_eqb _ _ c.if-found-word.false))

pub returns-then-found-word : goal.returns-then-found-word
returns-then-found-word c =
    all_made (left_then _ _ _ (exchanged (goal.at.returns-then-found-word c).After-exchange-found _ refl) (eq-eqb _ _ c.if-found-word.true))
