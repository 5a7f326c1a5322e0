-- What the release of a safepoint leaves of what was seen at it.
use Rattle.std.proofs.Common.{◌≡◌, ℕ, ◌==◌, ◌&&◌, eq-eqb, Bool, true, false, cond, List, [], ◌∷◌, Option, Some, None, refl, ap, ◌∙◌}
use Rattle.core_world.specs.declared.word_id.WordId.{WordId}
use Rattle.core_world.specs.declared.word_id.WordId.TheVariants as id
use Rattle.core_world.specs.declared.heap_call.Operation.{Operation}
use Rattle.core_world.specs.declared.heap_call.Unfinished.{Unfinished}
use Rattle.core_world.specs.Threads.ThreadView.{StepMade, last_seen, left_by}
use Rattle.core_world.specs.Threads.References.{is_on, has_object}
use Rattle.core_world.specs.Words.Names.{same_name}
use Rattle.core_world.specs.Steps.{only_headers, is_header}
use Rattle.core_world.proofs.ActsLook.{headers_are_part}
use Rattle.core_world.proofs.Naming.{same_named}
use Rattle.core_steps.proofs.bias.BiasFacts.{is_any_header}

-- of the header of the unfinished operation's object, and of the prototypes, all is kept that was seen at the safepoint
pub headers_stay : (u : Option Unfinished) (n : WordId) → is_header u n ≡ true → (ms : List StepMade) → last_seen n (only_headers u ms) ≡ last_seen n ms
headers_stay u n h [] = refl
headers_stay u n h (m ∷ ms) = by_header (is_header u m.plan.at) refl (headers_stay u n h ms)
  where
    unless : is_header u m.plan.at ≡ false → (b : Bool) → same_name n m.plan.at ≡ b → last_seen n (only_headers u ms) ≡ last_seen n ms
        → last_seen n (only_headers u ms) ≡ cond b (Some (left_by m)) (last_seen n ms)
    unless g true e rest = let same = ap (is_header u) (same_named n m.plan.at e) in absurd (cc (same, h, g))
    unless g false e rest = rest

    by_header : (b : Bool) → is_header u m.plan.at ≡ b → last_seen n (only_headers u ms) ≡ last_seen n ms
        → last_seen n (cond b (m ∷ only_headers u ms) (only_headers u ms)) ≡ last_seen n (m ∷ ms)
    by_header true g rest = ap (λ z. cond (same_name n m.plan.at) (Some (left_by m)) z) rest
    by_header false g rest = unless g (same_name n m.plan.at) refl rest

any_header : (u : Option Unfinished) (n : WordId) → is_header u n ≡ true → is_any_header n ≡ true
any_header u (id.Mark o) h = refl
any_header u (id.Prototype c) h = refl
any_header u (id.Class o) h = refl
any_header u _ h = absurd (cc h)

-- and of words of other kinds nothing is
pub headers_alone : (u : Option Unfinished) (n : WordId) → is_any_header n ≡ false → (ms : List StepMade) → last_seen n (only_headers u ms) ≡ None
headers_alone u n h ms = cases (last_seen n (only_headers u ms)) refl
  where
    cases : (a : Option ℕ) → last_seen n (only_headers u ms) ≡ a → a ≡ None
    cases None e = refl
    cases (Some v) e = let is = any_header u n (headers_are_part u ms n v e).0 in absurd (cc (is, h))

-- an operation on an object is on its own one
pub works_on : (a : Operation) (u : Option Unfinished) (o : ℕ) → u ≡ Some (record { op = a; object = o }) → has_object a ≡ true → is_on u o ≡ true
works_on a u o is works = ap (λ z. is_on z o) is ∙ ap (λ b. b && (o == o)) works ∙ eq-eqb o o refl
