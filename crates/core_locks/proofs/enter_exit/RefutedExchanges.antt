-- No running thread exchanges a neutral mark for a place where it hasn't stored that mark as the displaced word.
use Rattle.plain_monitor.specs.Limits.{most_holds}
use Rattle.core_locks.proofs.Prelude.{◌≡◌, ◌≢◌, ◌<◌, ℕ, true, List, refl, sym, ap, ◌∙◌, arith, same_Some, Neutral, Locked, mark_of, read_mark}
use Rattle.core_locks.proofs.Prelude.{read_mark-spells, PlainObject, objects_after, Mark, Displaced, StepPlan, RecordLocked, is_neutral, hash_in}
use Rattle.core_locks.proofs.Prelude.{hash_form, World, OnRecord, lock, marks, displaced_words, headers, inflations, hash_at, CallContext, with_stage}
use Rattle.core_locks.proofs.Prelude.{swap, world_after, Fits, Valid, with_known_here, logs_stay, running_fits, with_word_there, lock_by_form}
use Rattle.core_locks.proofs.MarkMeanings.{neutral_is, neutral_header, locked_read, locked_header}
use Rattle.core_locks.proofs.RefutedSteps.{knows, hit, swap_hits, hit_fits}

abbrev exchange : (o t mark p : ℕ) → CallContext → StepPlan
exchange o t mark p e = with_stage (RecordLocked o p) (swap e (Mark o) mark (mark_of (Locked t p)))

-- a neutral word is told by its hash, as its age is 0
neutral_word : (n : ℕ) → is_neutral n ≡ true → n ≡ mark_of (Neutral (hash_in n) 0)
neutral_word n e =
    let f = neutral_is n e in
    (read_mark-spells n (Neutral f.0 0) f.1).1 ∙ ap (λ h. mark_of (Neutral h 0)) (sym (ap hash_form f.1))

-- the lock rests on a record whose displaced word is the header, so that it is neutral and has the plain hash, as the mark had
no_exchange : (w : World) (P Q : List PlainObject) (o t mark p : ℕ) (e : CallContext)
    → (w.known t).running ≡ true → p < most_holds → is_neutral mark ≡ true → w.words (Mark o) ≡ mark
    → Fits w P → Fits (hit (exchange o t mark p e) t w) Q → w.words (Displaced t p) ≡ mark
no_exchange w P Q o t mark p e runs place neutral found before fits =
    let x = hit (exchange o t mark p e) t w in
    let goes_on : (x.known t).running ≡ true = ap (λ k. k.running) (with_known_here t (knows (exchange o t mark p e) t w) w.known) ∙ runs in
    let few : t < 32 = omega (arith, fits.limits.threads, fits.safe.few t goes_on) in
    let word : marks x o ≡ mark_of (Locked t p) = with_word_there (Mark o) _ w.words ∙ (swap_hits (w.words (Mark o)) mark (mark_of (Locked t p)) found).1 in
    let form = ap read_mark word ∙ locked_read t p few place in
    let rests : lock x o ≡ OnRecord t p = lock_by_form x o (Locked t p) form in
    let header : is_neutral (w.words (Displaced t p)) ≡ true = fits.records.header o t p rests in
    let hash_now : hash_in (w.words (Displaced t p)) ≡ hash_at Q o =
    fits.hashes.stands o (w.words (Displaced t p)) (locked_header (marks x o) t p (displaced_words x) (headers x) (inflations x o) form) in
    let was_neutral : is_neutral (marks w o) ≡ true = ap is_neutral found ∙ neutral in
    let hash_before : hash_in (marks w o) ≡ hash_at P o =
    before.hashes.stands o (marks w o) (neutral_header (marks w o) (displaced_words w) (headers w) (inflations w o) was_neutral) in
    let logs_same = ap (objects_after w.shape.objects) (logs_stay 0 w.shape.threads t (knows (exchange o t mark p e) t w) w.known refl) in
    let objects : Q ≡ P = same_Some Q P (sym fits.taken ∙ logs_same ∙ before.taken) in
    let hash : hash_in (w.words (Displaced t p)) ≡ hash_in mark = hash_now ∙ ap (λ z. hash_at z o) objects ∙ sym hash_before ∙ ap hash_in found in
    neutral_word (w.words (Displaced t p)) header ∙ ap (λ h. mark_of (Neutral h 0)) hash ∙ sym (neutral_word mark neutral)

pub exchange_refused : (w : World) (o t mark p : ℕ) (e : CallContext) → Valid w → (w.known t).running ≡ true
    → p < most_holds → is_neutral mark ≡ true → w.words (Mark o) ≡ mark → w.words (Displaced t p) ≢ mark
    → Valid (world_after (exchange o t mark p e) t w) → ⊥
exchange_refused w o t mark p e v runs place neutral found other valid =
    let test = swap_hits (w.words (Mark o)) mark (mark_of (Locked t p)) found in
    let afterwards = hit_fits (exchange o t mark p e) t w test.0 runs valid in
    other (no_exchange w v.objects afterwards.0 o t mark p e runs place neutral found (running_fits w v t runs) afterwards.1)
