-- A load leaves what its thread knows of its own words and of its running as it was.
use Rattle.std.proofs.Common.{Option, ◌≡◌, ℕ, ◌&&◌, not, Bool, true, false, cond, List, [], ◌∷◌, Some, refl, ap, ◌∙◌}
use Rattle.core_world.specs.declared.act.Act.{Act}
use Rattle.core_world.specs.declared.act.Act.TheVariants.{Load, CompareExchange}
use Rattle.core_world.specs.declared.word_id.WordId.{WordId}
use Rattle.core_world.specs.declared.word_id.WordId.TheVariants as id
use Rattle.core_world.specs.Words.Acts.{word_after, hits}
use Rattle.core_world.specs.declared.heap_call.Unfinished.{Unfinished}
use Rattle.core_world.specs.Words.Shape.{Shape}
use Rattle.core_world.specs.Threads.ThreadView.{ThreadView, StepMade, left_by, last_seen}
use Rattle.core_world.specs.RevocationRules.{write_by}
use Rattle.core_world.specs.Steps.{runs_after, asks_after, holds_after, wait_after, published_after, kept_by_act, seen_before, only_headers, is_header, is_idle}
use Rattle.core_world.specs.Words.Names.{same_name}
use Rattle.core_world.proofs.Naming.{same_named}
use Rattle.core_world.proofs.SeenMoves.{IsPart}

pub runs_load : (at : WordId) (n : ℕ) (k : ThreadView) → runs_after at Load n k ≡ k.running
runs_load id.Safepoint n k = refl
runs_load _ n k = refl

pub asks_load : (at : WordId) (n : ℕ) (k : ThreadView) → asks_after at Load n k ≡ k.requesting
asks_load id.Safepoint n k = refl
asks_load _ n k = refl

pub holds_load : (at : WordId) (k : ThreadView) → holds_after at Load k ≡ k.holds
holds_load (id.Hold t p) k = refl
holds_load _ k = refl

pub wait_load : (at : WordId) (k : ThreadView) → wait_after at Load k ≡ k.wait
wait_load (id.Waiting t) k = refl
wait_load _ k = refl

pub published_load : (at : WordId) (k : ThreadView) → published_after at Load k ≡ k.published
published_load (id.Length t) k = refl
published_load _ k = refl

pub kept_load : (at : WordId) (n : ℕ) (k : ThreadView) (seen : List StepMade) → kept_by_act at Load n k seen ≡ seen
kept_load id.Safepoint n k seen = refl
kept_load _ n k seen = refl

-- a call that begins counts on nothing, or on what it saw before
pub seen_is_part : (s : Shape) (k : ThreadView) → IsPart (seen_before s k) k.seen
seen_is_part s k n v e = cases (is_idle s k && not k.requesting) e
  where
    cases : (b : Bool) → last_seen n (cond b [] k.seen) ≡ Some v → last_seen n k.seen ≡ Some v
    cases true h = absurd (cc h)
    cases false h = h

-- what was last seen so of the headers was last seen so, and of nothing else was anything seen
pub headers_are_part : (u : Option Unfinished) (ms : List StepMade) (n : WordId) (v : ℕ)
    → last_seen n (only_headers u ms) ≡ Some v → (is_header u n ≡ true) × (last_seen n ms ≡ Some v)
headers_are_part u [] n v h = absurd (cc h)
headers_are_part u (m ∷ ms) n v h = by_header (headers_are_part u ms n v) (is_header u m.plan.at) refl h
  where
    by_name : (last_seen n (only_headers u ms) ≡ Some v → (is_header u n ≡ true) × (last_seen n ms ≡ Some v))
        → is_header u m.plan.at ≡ true → (b : Bool) → same_name n m.plan.at ≡ b
        → cond b (Some (left_by m)) (last_seen n (only_headers u ms)) ≡ Some v → (is_header u n ≡ true) × (cond b (Some (left_by m)) (last_seen n ms) ≡ Some v)
    by_name part f true e h = (ap (is_header u) (same_named n m.plan.at e) ∙ f, h)
    by_name part f false e h = part h

    hidden : is_header u n ≡ true → is_header u m.plan.at ≡ false → (b : Bool) → same_name n m.plan.at ≡ b
        → last_seen n ms ≡ Some v → cond b (Some (left_by m)) (last_seen n ms) ≡ Some v
    hidden f g true e h = let same = ap (is_header u) (same_named n m.plan.at e) in absurd (cc (same, f, g))
    hidden f g false e h = h

    by_header : (last_seen n (only_headers u ms) ≡ Some v → (is_header u n ≡ true) × (last_seen n ms ≡ Some v)) → (b : Bool) → is_header u m.plan.at ≡ b
        → last_seen n (cond b (m ∷ only_headers u ms) (only_headers u ms)) ≡ Some v
        → (is_header u n ≡ true) × (cond (same_name n m.plan.at) (Some (left_by m)) (last_seen n ms) ≡ Some v)
    by_header part true e h = by_name part e (same_name n m.plan.at) refl h
    by_header part false e h = let a = part h in (a.0, hidden a.0 e (same_name n m.plan.at) refl a.1)

-- an exchange that misses leaves its word
pub missed_word : (act : Act) (n : ℕ) → hits act n ≡ false → word_after act n ≡ n
missed_word (CompareExchange expected word) n e = ap (λ b. cond b word n) e
missed_word _ n e = absurd (cc e)

-- and it is no store
pub missed_write : (at : WordId) (act : Act) (n : ℕ) → hits act n ≡ false → write_by at act ≡ []
missed_write at (CompareExchange expected word) n e = refl
missed_write at _ n e = absurd (cc e)
