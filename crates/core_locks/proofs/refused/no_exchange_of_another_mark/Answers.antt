use Rattle.plain_monitor.specs.Limits.{most_holds}
use Rattle.core_locks.proofs.Prelude.{◌≡◌, ◌≢◌, ℕ, ◌<◌, ◌||◌, ne_eqb, true, false, List, Some, refl, sym, ap, ◌∙◌, arith, read_mark, mark_of, Locked}
use Rattle.core_locks.proofs.Prelude.{is_thread, PlainObject, objects_after, Mark, StepPlan, RecordLocked, bears, World, logs, marks, who, owner_at}
use Rattle.core_locks.proofs.Prelude.{CallContext, with_stage, swap, Fits, with_known_else, logs_stay, same_number, running_fits, with_word_there}
use Rattle.core_locks.proofs.MarkMeanings.{locked_read}
use Rattle.core_locks.proofs.RefutedSteps.{knows, hit, swap_hits, hit_fits, record_holder}
use Rattle.core_locks.proofs.refused.no_exchange_of_another_mark.Goals as goal

abbrev exchange : (o t u p q : ℕ) → CallContext → StepPlan
exchange o t u p q e = with_stage (RecordLocked o p) (swap e (Mark o) (mark_of (Locked u q)) (mark_of (Locked t p)))

-- the thread that had the lock has it no more, though it is still the plain owner or is still taking it
no_exchange : (w : World) (P Q : List PlainObject) (o t u p q : ℕ) (e : CallContext) → (w.known t).running ≡ true → t ≢ u → u < 32 → p < 64 → q < most_holds
    → w.words (Mark o) ≡ mark_of (Locked u q) → Fits w P → Fits (hit (exchange o t u p q e) t w) Q → ⊥
no_exchange w P Q o t u p q e runs other few place there mark before afterwards =
    let x = hit (exchange o t u p q e) t w in
    let had : who w o ≡ Some u = record_holder w o u q (ap read_mark mark ∙ locked_read u q few there) in
    let mine : t < 32 = omega (arith, before.limits.threads, before.safe.few t runs) in
    let word : marks x o ≡ mark_of (Locked t p) =
    with_word_there (Mark o) _ w.words ∙ (swap_hits (w.words (Mark o)) (mark_of (Locked u q)) (mark_of (Locked t p)) mark).1 in
    let has : who x o ≡ Some t = record_holder x o t p (ap read_mark word ∙ locked_read t p mine place) in
    let same_logs : logs x ≡ logs w = logs_stay 0 w.shape.threads t (knows (exchange o t u p q e) t w) w.known refl in
    let objects : P ≡ Q = cc (sym before.taken ∙ ap (objects_after w.shape.objects) (sym same_logs) ∙ afterwards.taken) in
    let holds : true ≡ (owner_at P o u || bears (w.known u).stage o) = sym (same_number u) ∙ ap (λ a. is_thread a u) (sym had) ∙ before.owners.same o u in
    let still : (owner_at P o u || bears (w.known u).stage o) ≡ (owner_at Q o u || bears (x.known u).stage o) =
    ap (λ R. owner_at R o u || bears (w.known u).stage o) objects
    ∙ ap (λ k. owner_at Q o u || bears k.stage o) (sym (with_known_else t (knows (exchange o t u p q e) t w) w.known u (λ d. other (sym d)))) in
    let lost : (owner_at Q o u || bears (x.known u).stage o) ≡ false = sym (afterwards.owners.same o u) ∙ ap (λ a. is_thread a u) has ∙ ne_eqb t u other in
    absurd (cc (holds ∙ still ∙ lost))

pub returns : goal.returns
returns c w o t u p q e v runs other few place there mark valid =
    let test = swap_hits (w.words (Mark o)) (mark_of (Locked u q)) (mark_of (Locked t p)) mark in
    let afterwards = hit_fits (exchange o t u p q e) t w test.0 runs valid in
    no_exchange w v.objects afterwards.0 o t u p q e runs other few place there mark (running_fits w v t runs) afterwards.1
