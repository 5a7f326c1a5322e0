use Rattle.core_locks.proofs.Prelude.{◌≡◌, ne_eqb, false, ap, ◌∙◌, mark_of, Locked, is_thread, Exit, Mark}
use Rattle.core_locks.proofs.Prelude.{Exits, monitor_of, owner_at, CompareExchange, thread_is, same_number}
use Rattle.core_locks.proofs.enter_exit.RefutedOwning.{no_entry_logged}
use Rattle.core_locks.proofs.RefutedSteps.{swap_hits}
use Rattle.core_locks.proofs.refused.no_exit_by_another.Goals as goal

pub returns : goal.returns
returns c w o t u q header e v runs other owns mark valid =
    let out : owner_at v.objects o t ≡ false = ap (λ a. is_thread a t) (thread_is (monitor_of v.objects o).owner u owns) ∙ ne_eqb u t other in
    no_entry_logged w o t (Mark o) (CompareExchange (mark_of (Locked u q)) header) (Exit o) e (Exits o q) v runs
    (λ s. absurd (cc s)) (swap_hits (w.words (Mark o)) (mark_of (Locked u q)) header mark).0 (same_number o) out valid
