-- The world after a step that hits, of a running thread or of one at its reached safepoint.
use Rattle.core_locks.proofs.Prelude.{◌≡◌, ℕ, eq-eqb, Bool, true, cond, List, Some, None, ap, ◌∙◌, subst, read_mark, Locked, PlainObject, StepPlan}
use Rattle.core_locks.proofs.Prelude.{word_after, hits, ThreadView, World, with_word_and_known, marks, who, holder, hold_count, revocation_in}
use Rattle.core_locks.proofs.Prelude.{world_after, known_hit, known_miss, Fits, Valid, CompareExchange, with_known_here, running_fits, lock_by_form}
use Rattle.core_locks.proofs.safepoint.Standing.{fits_standing}

-- what thread t knows after the step, and the world
abbrev pub knows : StepPlan → ℕ → World → ThreadView
knows p t w = known_hit w.shape w.start p (w.words p.at) (w.known t)

abbrev pub hit : StepPlan → ℕ → World → World
hit p t w = with_word_and_known p.at (word_after p.act (w.words p.at)) t (knows p t w) w

-- an exchange hits where it finds what it expects
pub swap_hits : (found expected word : ℕ) → found ≡ expected
    → (hits (CompareExchange expected word) found ≡ true) × (word_after (CompareExchange expected word) found ≡ word)
swap_hits found expected word e = let test = eq-eqb found expected e in (test, ap (λ (b : Bool). cond b word found) test)

-- the thread goes on running, so that every clause holds where the world is valid
pub hit_fits : (p : StepPlan) (t : ℕ) (w : World) → hits p.act (w.words p.at) ≡ true → (knows p t w).running ≡ true → Valid (world_after p t w)
    → (P : List PlainObject) × Fits (hit p t w) P
hit_fits p t w hits_so runs v =
    let same : world_after p t w ≡ hit p t w =
    ap (λ (b : Bool). with_word_and_known p.at (word_after p.act (w.words p.at)) t
    (cond b (knows p t w) (known_miss w.shape w.start p (w.words p.at) (w.known t))) w) hits_so in
    let valid : Valid (hit p t w) = subst Valid same v in
    let goes_on : ((hit p t w).known t).running ≡ true = ap (λ k. k.running) (with_known_here t (knows p t w) w.known) ∙ runs in
    (valid.objects, running_fits (hit p t w) valid t goes_on)

-- or its safepoint is reached, and it revokes no bias
pub standing_fits : (p : StepPlan) (t : ℕ) (w : World) → hits p.act (w.words p.at) ≡ true
    → (knows p t w).reached ≡ true → revocation_in (knows p t w).stage ≡ None → Valid (world_after p t w)
    → (P : List PlainObject) × Fits (hit p t w) P
standing_fits p t w hits_so reached unrevoking v =
    let same : world_after p t w ≡ hit p t w =
    ap (λ (b : Bool). with_word_and_known p.at (word_after p.act (w.words p.at)) t
    (cond b (knows p t w) (known_miss w.shape w.start p (w.words p.at) (w.known t))) w) hits_so in
    let valid : Valid (hit p t w) = subst Valid same v in
    let mine = with_known_here t (knows p t w) w.known in
    (valid.objects, fits_standing (hit p t w) valid.objects t (ap (λ k. k.reached) mine ∙ reached) (ap (λ k. revocation_in k.stage) mine ∙ unrevoking) valid.is)

-- who has the lock by a mark that names a record
pub record_holder : (w : World) (o t p : ℕ) → read_mark (marks w o) ≡ Some (Locked t p) → who w o ≡ Some t
record_holder w o t p form = ap (λ l. holder l (λ u. hold_count o (w.known u).holds)) (lock_by_form w o (Locked t p) form)
