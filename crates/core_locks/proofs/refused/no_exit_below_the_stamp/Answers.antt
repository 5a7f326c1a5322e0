use Rattle.core_locks.proofs.Prelude.{◌≡◌, ℕ, ◌<◌, ◌≤◌, true, List, [], ◌∷◌, ◌++◌, Some, None, refl, ap, ◌∙◌, subst, arith, mark_of}
use Rattle.core_locks.proofs.Prelude.{Locked, PlainObject, Logged, log_of, Exit, bound_to, IsBounded, Mark, Stamp, is_neutral, local_of}
use Rattle.core_locks.proofs.Prelude.{World, logs, monitor_of, CallContext, next_stamp, Fits, bound_stamp, with_known_here, log_at}
use Rattle.core_locks.proofs.enter_exit.RefutedExits.{leave, left_unowned}
use Rattle.core_locks.proofs.RefutedOrders.{last_is_ordered}
use Rattle.core_locks.proofs.RefutedSteps.{knows, hit, swap_hits, hit_fits}
use Rattle.core_locks.proofs.refused.no_exit_below_the_stamp.Goals as goal

-- the object has no owner afterwards, so that no stamp of its entries is above its stamp word; but that of the Exit is
no_exit : (w : World) (Q : List PlainObject) (o t p header : ℕ) (e : CallContext)
    → (w.known t).running ≡ true → w.words (Mark o) ≡ mark_of (Locked t p) → is_neutral header ≡ true
    → w.words (Stamp o) < next_stamp (local_of (w.known t)) → Fits (hit (leave o t p header e) t w) Q → ⊥
no_exit w Q o t p header e runs mark neutral low fits =
    let x = hit (leave o t p header e) t w in
    let l = knows (leave o t p header e) t w in
    let y : Logged = record { stamp = next_stamp (local_of (w.known t)); entry = Exit o } in
    let mine = with_known_here t l w.known in
    let within : t < w.shape.threads = fits.safe.few t (ap (λ k. k.running) mine ∙ runs) in
    let nobody : (monitor_of Q o).owner ≡ None = left_unowned w Q o t p header e mark neutral fits in
    let bounded : IsBounded (logs x) o (w.words (Stamp o)) =
    subst (λ a. IsBounded (logs x) o (bound_stamp (λ u. (x.known u).log) (w.words (Stamp o)) a)) nobody (fits.stamps.bound o) in
    let ends_so : log_of (logs x) t ≡ (w.known t).log ++ y ∷ [] = log_at 0 w.shape.threads t t x.known (omega arith) within ∙ ap (λ k. k.log) mine in
    let high : next_stamp (local_of (w.known t)) ≤ w.words (Stamp o) =
    last_is_ordered (λ z. bound_to z.entry ≡ Some o → z.stamp ≤ w.words (Stamp o)) (logs x) t (w.known t).log y fits.legal.rises ends_so bounded refl in
    absurd (omega (arith, low, high))

pub returns : goal.returns
returns c w o t p header e runs mark neutral low valid =
    let test = swap_hits (w.words (Mark o)) (mark_of (Locked t p)) header mark in
    let afterwards = hit_fits (leave o t p header e) t w test.0 runs valid in
    no_exit w afterwards.0 o t p header e runs mark neutral low afterwards.1
