use Rattle.std.proofs.Common.{◌≡◌, Bool, [], ◌∷◌, Some, None, ap, ◌∙◌, inl, inr}
use Rattle.core_calls.specs.CallsSay.{begins_with, lets_go}
use Rattle.plain_monitor.specs.declared.entry.Entry.TheVariants as entry
use Rattle.core_calls.proofs.refused.no_wait_or_notify_logs_another_answer.Goals as goal

pub returns-clause-wait_unlogged : goal.returns-clause-wait_unlogged
returns-clause-wait_unlogged z e k o goes says =
    let logs : entry.Resume o ∷ [] ≡ begins_with (lets_go k o) o (entry.Resume o ∷ []) = (says.by 0).1.entries in
    let both = logs ∙ ap (λ (b : Bool). begins_with b o (entry.Resume o ∷ [])) goes in
    absurd (cc both)

pub returns-clause-wait_again : goal.returns-clause-wait_again
returns-clause-wait_again z e k o t gone says =
    let logs : entry.Wait o ∷ entry.Resume o ∷ [] ≡ begins_with (lets_go k o) o (entry.Resume o ∷ []) = (says.by 0 0).1.entries in
    let one = logs ∙ ap (λ (b : Bool). begins_with b o (entry.Resume o ∷ [])) gone in
    absurd (cc one)

pub returns-clause-wait_unnotified : goal.returns-clause-wait_unnotified
returns-clause-wait_unnotified z k o now says = elim (says.by 0).1.1.0.cause.1 [
  | inl x ↦ absurd (cc (x.0))
  | inr none ↦ absurd none
]

pub returns-clause-notify : goal.returns-clause-notify
returns-clause-notify z e k o t says =
    let logs : entry.Notify o (Some t) ∷ [] ≡ entry.Notify o None ∷ [] = (says.by 0).1.entries in absurd (cc logs)

pub returns-clause-notify_all : goal.returns-clause-notify_all
returns-clause-notify_all z e k o t n m differ says =
    let logs : entry.NotifyAll o n ∷ [] ≡ entry.NotifyAll o m ∷ [] = (says.by 0).1.entries in differ (cc logs)
