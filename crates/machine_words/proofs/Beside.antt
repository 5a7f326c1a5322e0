-- Threads with the holds that all objects say.
use Rattle.std.proofs.Common.{◌≡◌, ℕ, suc, ◌+◌, ◌<◌, List, [], ◌∷◌, length, slice_get, slice_set, Some, refl, sym, ap, ◌∙◌, subst, arith}
use Rattle.std.specs.List.{AllByRecursion}
use Rattle.std.proofs.lemmas.List.{map-set}
use Rattle.plain_monitor.specs.Objects.{PlainObject}
use Rattle.plain_machine.specs.Thread.{ThreadState}
use Rattle.plain_machine.specs.Machine.{PlainMachine}
use Rattle.machine_laws.specs.Reached.{IsReached}
use Rattle.machine_laws.specs.ReachedMonitor.{standing}
use Rattle.every_outcome.proofs.Places.{length_map}
use Rattle.machine_words.specs.ThreadWords.{read_thread, holds_in}
use Rattle.machine_words.specs.inner.Reading.{walk, unplaced, thread_step, hold_step, beside}
use Rattle.machine_words.proofs.ReadThreads.{holds_are}

all_beside : (objects : List PlainObject) (t : ℕ) (ss : List ThreadState)
    → ((j : ℕ) (s : ThreadState) → slice_get ss j ≡ Some s → holds_in (t + j) objects ≡ s.holds) → ss ≡ beside objects t ss
all_beside objects t [] each = refl
all_beside objects t (s ∷ ss) each =
    let here : t + 0 ≡ t = omega arith in
    let first : holds_in t objects ≡ s.holds = subst (λ (u : ℕ). holds_in u objects ≡ s.holds) here (each 0 s refl) in
    let others = all_beside objects (t + 1) ss (λ j z at.
    let moved : t + suc j ≡ t + 1 + j = omega arith in subst (λ (u : ℕ). holds_in u objects ≡ z.holds) moved (each (suc j) z at)) in
    λ i. record s { holds = sym first i } ∷ others i

-- those of a reached machine are
pub reached_beside : (m : PlainMachine) → IsReached m → m.threads ≡ beside m.objects 0 m.threads
reached_beside m h = all_beside m.objects 0 m.threads (λ j s at.
    let first : 0 + j ≡ j = omega arith in subst (λ (t : ℕ). holds_in t m.objects ≡ s.holds) (sym first) (holds_are m j s h at))

pub beside_count : (objects : List PlainObject) (t : ℕ) (ss : List ThreadState) → length (beside objects t ss) ≡ length ss
beside_count objects t [] = refl
beside_count objects t (s ∷ ss) = ap (λ n. suc n) (beside_count objects (t + 1) ss)

-- each has a place for the object's holds
pub beside_within : (o t : ℕ) (objects : List PlainObject) (ss : List ThreadState) → o < length objects
    → AllByRecursion (λ (s : ThreadState). o < length s.holds) (beside objects t ss)
beside_within o t objects [] lt = tt
beside_within o t objects (s ∷ ss) lt =
    let count : length (holds_in t objects) ≡ length objects = length_map (λ x. standing x.monitor t) objects in
    (omega (arith, lt, count), beside_within o (t + 1) objects ss lt)

-- where all hold one object as it says, and the others as before
pub held_beside : (o : ℕ) (x : PlainObject) (t : ℕ) (objects : List PlainObject) (ss : List ThreadState) (ws : List ℕ)
    → (walk (hold_step o x) t (beside objects t ss) ws).0 ≡ beside (slice_set objects o x) t ss
held_beside o x t objects [] ws = refl
held_beside o x t objects (s ∷ ss) ws =
    let own : slice_set (holds_in t objects) o (standing x.monitor t) ≡ holds_in t (slice_set objects o x) =
    sym (map-set (λ (y : PlainObject). standing y.monitor t) objects o x) in
    λ i. record s { holds = own i } ∷ held_beside o x (t + 1) objects ss ws i

-- reading the rest of a thread leaves its holds
pub read_beside : (fuel t : ℕ) (objects : List PlainObject) (ss : List ThreadState) (ws : List ℕ)
    → (walk (thread_step fuel) t (beside objects t ss) ws).0 ≡ beside objects t (walk (thread_step fuel) t (beside objects t ss) ws).0
read_beside fuel t objects [] ws = refl
read_beside fuel t objects (s ∷ ss) ws =
    ap (λ (zs : List ThreadState). unplaced fuel (holds_in t objects) (read_thread ws).0 ∷ zs)
    (read_beside fuel (t + 1) objects ss (read_thread ws).1)

-- once all hold an object that has changed as it says
pub held_more : (o : ℕ) (x : PlainObject) (objects : List PlainObject) (first threads holding : List ThreadState) → threads ≡ beside objects 0 first
    → holding ≡ (walk (hold_step o x) 0 threads []).0 → holding ≡ beside (slice_set objects o x) 0 first
held_more o x objects first threads holding were is =
    is ∙ ap (λ (ss : List ThreadState). (walk (hold_step o x) 0 ss []).0) were ∙ held_beside o x 0 objects first []

pub holds_within : (o : ℕ) (objects : List PlainObject) (first threads : List ThreadState) → o < length objects → threads ≡ beside objects 0 first
    → AllByRecursion (λ (s : ThreadState). o < length s.holds) threads
holds_within o objects first threads lt were =
    subst (AllByRecursion (λ (s : ThreadState). o < length s.holds)) (sym were) (beside_within o 0 objects first lt)

-- what others said before doesn't count
pub beside_again : (objects before : List PlainObject) (t : ℕ) (ss : List ThreadState) → beside objects t (beside before t ss) ≡ beside objects t ss
beside_again objects before t [] = refl
beside_again objects before t (s ∷ ss) =
    ap (λ (zs : List ThreadState). record s { holds = holds_in t objects } ∷ zs) (beside_again objects before (t + 1) ss)
