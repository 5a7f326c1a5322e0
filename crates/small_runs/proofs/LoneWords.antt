-- The words of a heap of one thread and one object with a slot, listed by their places, in each world to which it comes.
use Rattle.std.proofs.Common.{◌≡◌, ℕ, zero, suc, ◌==◌, ◌&&◌, ◌<◌, Bool, true, false, List, refl, subst, eqb-true, inl, inr, arith}
use Rattle.std.specs.Prelude.{slice_index, slice_set}
use Rattle.std.proofs.lemmas.Bool.{cases_lt}
use Rattle.core_world.specs.declared.word_id.WordId.{WordId}
use Rattle.core_world.specs.declared.word_id.WordId.TheVariants.{Safepoint, Prototype, Revocations, LastBulk, Mark, Stamp, Slot, Hold, Displaced}
use Rattle.core_world.specs.declared.word_id.WordId.TheVariants.{Waiting, Length, Owner, Recursions, Header, Object, Claim, End, Ring, Class}
use Rattle.core_world.specs.Opening.{first_word}
use Rattle.core_world.specs.There.{IsIn}
use Rattle.core_world.specs.Words.Acts.{word_after}
use Rattle.core_world.specs.Words.Shape.{IsInLimits, ring_bits}
use Rattle.core_world.specs.World.{World}
use Rattle.core_law.specs.Logic.{Heap}
use Rattle.core_law.specs.Reached.{IsReachable, opens, moves}
use Rattle.heap_table.specs.Layout.{place_of, object_size}
use Rattle.heap_table.specs.inner.Openings.{opening_words}
use Rattle.step_history.specs.Examples.{lone}
use Rattle.small_runs.proofs.Reached.{AreWords, words_moved}

-- so for each number below n, by computing
abbrev each_below : ℕ → (ℕ → Bool) → Bool
each_below zero f = true
each_below (suc n) f = f n && each_below n f

both : (a b : Bool) → (a && b) ≡ true → (a ≡ true) × (b ≡ true)
both true b e = (refl, e)
both false b e = absurd (cc e)

at_each : (n : ℕ) (f : ℕ → Bool) (i : ℕ) → each_below n f ≡ true → i < n → f i ≡ true
at_each zero f i e h = absurd (omega (arith, h))
at_each (suc n) f i e h =
    let s = both (f n) (each_below n f) e in
    elim (cases_lt i n) [
      | inl low ↦ at_each n f i s.1 low
      | inr top ↦ let last : n ≡ i = omega (arith, h, top) in subst (λ (x : ℕ). f x ≡ true) last s.0
    ]

none : (n : ℕ) {A : Type 0} → suc n < 1 → A
none n h = absurd (omega (arith, h))

none_of_two : (n : ℕ) {A : Type 0} → suc (suc n) < 2 → A
none_of_two n h = absurd (omega (arith, h))

abbrev heap_with : Bool → Heap
heap_with biasing = record lone { biasing = biasing }

-- at its opening
first_words : (biasing : Bool) (n : WordId) → IsIn lone.shape n
    → slice_index (opening_words lone.shape biasing) (place_of lone.shape n) ≡ first_word lone.shape biasing n
unfolding object_size ring_bits
first_words b Safepoint h = refl
first_words b Claim h = refl
first_words b End h = refl
first_words b (Prototype zero) h = refl
first_words b (Prototype (suc c)) h = none c h
first_words b (Revocations zero) h = refl
first_words b (Revocations (suc c)) h = none c h
first_words b (LastBulk zero) h = refl
first_words b (LastBulk (suc c)) h = none c h
first_words true (Mark zero) h = refl
first_words false (Mark zero) h = refl
first_words b (Mark (suc o)) h = none o h
first_words b (Stamp zero) h = refl
first_words b (Stamp (suc o)) h = none o h
first_words b (Slot zero zero) h = refl
first_words b (Slot zero (suc i)) h = none i h.1
first_words b (Slot (suc o) i) h = none o h.0
first_words b (Class o) h = absurd (omega (arith, h.0, h.1))
first_words b (Hold zero p) h = eqb-true _ _ (at_each 64 (λ p. slice_index (opening_words lone.shape b) (place_of lone.shape (Hold 0 p)) == 0) p refl h.1)
first_words b (Hold (suc t) p) h = none t h.0
first_words b (Displaced zero p) h =
    eqb-true _ _ (at_each 64 (λ p. slice_index (opening_words lone.shape b) (place_of lone.shape (Displaced 0 p)) == 0) p refl h.1)
first_words b (Displaced (suc t) p) h = none t h.0
first_words b (Length zero) h = refl
first_words b (Length (suc t)) h = none t h
first_words b (Waiting zero) h = refl
first_words b (Waiting (suc t)) h = none t h
first_words b (Owner zero) h = refl
first_words b (Owner (suc zero)) h = refl
first_words b (Owner (suc (suc m))) h = none_of_two m h
first_words b (Recursions zero) h = refl
first_words b (Recursions (suc zero)) h = refl
first_words b (Recursions (suc (suc m))) h = none_of_two m h
first_words b (Header zero) h = refl
first_words b (Header (suc zero)) h = refl
first_words b (Header (suc (suc m))) h = none_of_two m h
first_words b (Object zero) h = refl
first_words b (Object (suc zero)) h = refl
first_words b (Object (suc (suc m))) h = none_of_two m h
first_words b (Ring zero) h = refl
first_words b (Ring (suc zero)) h = refl
first_words b (Ring (suc (suc p))) h = none_of_two p h

opening_listed : (biasing : Bool) → AreWords lone.shape (opening_words lone.shape biasing) (first_word lone.shape biasing)
unfolding object_size ring_bits
opening_listed biasing = record { wide = refl; are = first_words biasing }

-- and in each world
pub words_in : (biasing : Bool) (w : World) → IsInLimits lone.shape → IsReachable (heap_with biasing) w
    → (words : List ℕ) × AreWords lone.shape words w.words
words_in biasing w limits opens = (opening_words lone.shape biasing, opening_listed biasing)
words_in biasing w limits (moves v t p before within next) =
    let a = words_in biasing v limits before in
    (slice_set a.0 (place_of lone.shape p.at) (word_after p.act (v.words p.at)), words_moved (heap_with biasing) v t p a.0 limits before within next a.1)
