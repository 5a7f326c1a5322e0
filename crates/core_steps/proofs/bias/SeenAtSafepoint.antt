-- What a thread saw since its safepoint was reached, beside all that it saw.
use Rattle.std.proofs.Common.{◌≡◌, ◌⊎◌, ℕ, ◌&&◌, not, Bool, true, false, cond, List, [], ◌∷◌, Some, refl, ap, inl, inr}
use Rattle.core_world.specs.declared.word_id.WordId.{WordId}
use Rattle.core_world.specs.Threads.ThreadView.{ThreadView, StepMade, last_seen, left_by}
use Rattle.core_world.specs.Words.Names.{same_name}
use Rattle.core_world.specs.Words.Shape.{Shape}
use Rattle.core_world.specs.Steps.{is_idle, seen_before}
use Rattle.core_bias.specs.Revoking.{is_kept_on_request}
use Rattle.core_steps.proofs.safepoint.SafepointLooks.{going}

-- some step of these was on the word of this name
abbrev pub HasSeen : WordId → List StepMade → Type 0
HasSeen n ms = (v : ℕ) × (last_seen n ms ≡ Some v)

pub seen_more : (n : WordId) (m : StepMade) (ms : List StepMade) → HasSeen n ms → HasSeen n (m ∷ ms)
seen_more n m ms h = cases (same_name n m.plan.at)
  where
    cases : (b : Bool) → (v : ℕ) × (cond b (Some (left_by m)) (last_seen n ms) ≡ Some v)
    cases true = (left_by m, refl)
    cases false = h

-- WHAT STAYS WHILE A REQUEST STANDS, marks, words of classes and class words: whatever all steps last saw of such a word, those since the safepoint was
-- reached saw too.
abbrev pub SeenSince : List StepMade → List StepMade → Type 0
SeenSince all since = (n : WordId) (v : ℕ) → is_kept_on_request n ≡ true → last_seen n all ≡ Some v → last_seen n since ≡ Some v

-- So it is with one step more,
pub since_more : (m : StepMade) (all since : List StepMade) → SeenSince all since → SeenSince (m ∷ all) (m ∷ since)
since_more m all since f n v kept = by_name (same_name n m.plan.at)
  where
    by_name : (c : Bool) → cond c (Some (left_by m)) (last_seen n all) ≡ Some v → cond c (Some (left_by m)) (last_seen n since) ≡ Some v
    by_name true h = h
    by_name false h = f n v kept h

-- and where some words are left out, each step leaves out one less.
abbrev pub SeenBut : (WordId → Type 0) → List StepMade → List StepMade → Type 0
SeenBut But all since = (n : WordId) (v : ℕ) → is_kept_on_request n ≡ true → last_seen n all ≡ Some v → (last_seen n since ≡ Some v) ⊎ But n

pub but_more : (But : WordId → Type 0) (m : StepMade) (all since : List StepMade) → SeenBut But all since
    → SeenBut (λ n. But n × (same_name n m.plan.at ≡ false)) (m ∷ all) (m ∷ since)
but_more But m all since f n v kept = by_name (same_name n m.plan.at) refl
  where
    by_name : (c : Bool) → same_name n m.plan.at ≡ c → cond c (Some (left_by m)) (last_seen n all) ≡ Some v
        → (cond c (Some (left_by m)) (last_seen n since) ≡ Some v) ⊎ (But n × (same_name n m.plan.at ≡ false))
    by_name true same h = inl h
    by_name false other h = elim (f n v kept h) [
      | inl a ↦ inl a
      | inr a ↦ inr (a, other)
    ]

pub but_less : (But Less : WordId → Type 0) (all since : List StepMade) → ((n : WordId) → But n → Less n) → SeenBut But all since → SeenBut Less all since
but_less But Less all since less f n v kept h = elim (f n v kept h) [
  | inl a ↦ inl a
  | inr a ↦ inr (less n a)
]

-- within a call a step forgets nothing that was seen before
pub goes_on_seeing : (s : Shape) (k : ThreadView) → is_idle s k ≡ false → seen_before s k ≡ k.seen
goes_on_seeing s k going = ap (λ (z : Bool). cond (z && not k.requesting) [] k.seen) going
