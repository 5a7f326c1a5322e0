-- Each monitor is kept by one thread, named by one mark, being given back by one thread, or at one ring position.
use Rattle.std.specs.Prelude.{◌≡◌, ◌⊎◌, ℕ, zero, suc, ◌+◌, ◌%◌, ◌^◌, ◌<◌, ◌≤◌, is_some, Bool, true, Option, Some, None}
use Rattle.core_world.specs.Threads.Stages.{one_if}
use Rattle.core_world.specs.Threads.ThreadView.{Moving, Fetches, Returns}

-- how many of the first n have a monitor
abbrev pub count_with_monitor : ℕ → (ℕ → Option ℕ) → ℕ
count_with_monitor zero f = 0
count_with_monitor (suc n) f = count_with_monitor n f + one_if (is_some (f n))

-- where a monitor is: with the thread that keeps it or has claimed its position, at the mark of an object, with the thread that gives it back, or
-- at a ring position, counted without end
pub data Place : Type 0 where
  With : (thread : ℕ) → Place
  At : (object : ℕ) → Place
  Leaves : (thread : ℕ) → Place
  InRing : (position : ℕ) → Place

-- what a thread keeps, or has claimed; and what it gives back
abbrev pub claimed_or_kept : Moving → Option ℕ → Option ℕ
claimed_or_kept (Fetches p) kept = Some p
claimed_or_kept _ kept = kept

abbrev pub given_back : Moving → Option ℕ
given_back (Returns m) = Some m
given_back _ = None

-- `monitors` is how many there are, and the ring has 2 ^ bits places
pub record MonitorsAreClaimed (threads objects monitors bits claim end : ℕ) (ring : ℕ → ℕ) (monitor kept : ℕ → Option ℕ)
    (moving : ℕ → Moving) : Type 0 where
  -- how many positions were claimed, and at how many further ones monitors stand: the words count modulo 2 ^ 64
  pub first : ℕ
  pub ringed : ℕ
  pub claim_word : claim ≡ first % 2 ^ 64
  pub end_word : end ≡ (first + ringed) % 2 ^ 64
  -- each monitor is in one place, and its holder says so
  pub place : ℕ → Place
  pub keeps : (t m : ℕ) → kept t ≡ Some m → (m < monitors) × (place m ≡ With t)
  pub fetches : (t p : ℕ) → moving t ≡ Fetches p
      → (kept t ≡ None) × (ring (p % 2 ^ bits) < monitors) × (place (ring (p % 2 ^ bits)) ≡ With t)
  pub names : (o m : ℕ) → monitor o ≡ Some m → (m < monitors) × (place m ≡ At o)
  pub returns : (t m : ℕ) → moving t ≡ Returns m → (m < monitors) × (place m ≡ Leaves t)
  pub stands : (p : ℕ) → first ≤ p → p < first + ringed
      → (ring (p % 2 ^ bits) < monitors) × (place (ring (p % 2 ^ bits)) ≡ InRing p)
  pub kept_there : (t m : ℕ) → m < monitors → place m ≡ With t
      → (kept t ≡ Some m) ⊎ ((p : ℕ) × (moving t ≡ Fetches p) × (ring (p % 2 ^ bits) ≡ m))
  pub named_there : (o m : ℕ) → m < monitors → place m ≡ At o → monitor o ≡ Some m
  pub returned_there : (t m : ℕ) → m < monitors → place m ≡ Leaves t → moving t ≡ Returns m
  pub ringed_there : (p m : ℕ) → m < monitors → place m ≡ InRing p
      → (first ≤ p) × (p < first + ringed) × (ring (p % 2 ^ bits) ≡ m)
  -- so a thread that keeps none finds a monitor at the position that it claims
  pub counted : ringed + count_with_monitor threads (λ t. claimed_or_kept (moving t) (kept t))
      + count_with_monitor threads (λ t. given_back (moving t)) + count_with_monitor objects monitor ≡ monitors

-- Who has claimed a position runs until it has loaded it, and who gives a monitor back stands at its reached safepoint.
pub record MovesFit (running reached : ℕ → Bool) (moving : ℕ → Moving) : Type 0 where
  pub runs : (t p : ℕ) → moving t ≡ Fetches p → running t ≡ true
  pub reaches : (t m : ℕ) → moving t ≡ Returns m → reached t ≡ true
