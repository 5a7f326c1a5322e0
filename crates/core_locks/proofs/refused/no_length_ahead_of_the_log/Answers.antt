use Rattle.core_locks.proofs.Prelude.{length, refl, ap, arith, Print, Length, StepPlan, ThreadView, local_of, logging_plan, next_stamp, Store, with_known_here}
use Rattle.core_locks.proofs.Logging.{length_more}
use Rattle.core_locks.proofs.RefutedSteps.{knows, hit_fits}
use Rattle.core_locks.proofs.refused.no_length_ahead_of_the_log.Goals as goal

pub returns : goal.returns
returns c w t n value e runs ahead valid =
    let plan : StepPlan = logging_plan (Print value) e (Length t) (Store n) in
    let afterwards = hit_fits plan t w refl runs valid in
    let l = knows plan t w in
    let mine = with_known_here t l w.known in
    let published = ap (λ (k : ThreadView). k.published) mine in
    let log = ap (λ (k : ThreadView). length k.log) mine in
    let more = length_more (w.known t).log (record { stamp = next_stamp (local_of (w.known t)); entry = Print value }) in
    absurd (omega (arith, afterwards.1.lengths.most t, published, log, more, ahead))
