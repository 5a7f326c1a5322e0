-- The heap has the words that a thread names: of an object's class and slots, of a monitor that it keeps, and of a thread that waits; and which form
-- a word has that is found at a name.
use Rattle.std.proofs.Common.{◌≡◌, ◌≢◌, ℕ, suc, zero, ◌+◌, ◌-◌, ◌<◌, ◌≤◌, nat_lt, cond, Bool, true, false, List, []}
use Rattle.std.proofs.Common.{◌∷◌, length, slice_index_or, Some, refl, sym, ap, ◌∙◌, subst, inl, inr, arith}
use Rattle.std.specs.List.{AllByRecursion}
use Rattle.std.proofs.lemmas.Bool.Decides.{nat_tests}
use Rattle.mark_word.specs.Hold.{read_hold}
use Rattle.mark_word.specs.Mark.{read_mark}
use Rattle.mark_word.specs.Owner.{read_owner}
use Rattle.mark_word.specs.Wait.{read_wait}
use Rattle.mark_word.specs.declared.wait.WaitForm.TheVariants.{Ready}
use Rattle.mark_word.proofs.ReadingWaits.{read_wait-wait_of}
use Rattle.plain_monitor.specs.Limits.{most_slots}
use Rattle.plain_monitor.specs.Objects.{PlainObject}
use Rattle.core_world.specs.declared.word_id.WordId.{WordId}
use Rattle.core_world.specs.declared.word_id.WordId.TheVariants.{Mark, Hold, Waiting, Owner, Class}
use Rattle.core_world.specs.Clauses.WordForms.{IsMark, IsHold, IsWait, IsOwner}
use Rattle.core_world.specs.Words.Forms.{waits_on, waits_form}
use Rattle.core_world.specs.Words.Shape.{Shape, IsInLimits, class_in_shape, monitor_count}
use Rattle.core_world.specs.Words.Names.{class_by}
use Rattle.core_world.specs.Threads.AtRest.{SawClass, SawClassIf}
use Rattle.core_world.specs.Threads.ThreadView.{ThreadView, StepMade, last_seen}
use Rattle.core_world.specs.Valid.{Fits, FormsFit, IsValid}
use Rattle.core_world.specs.World.{World}

-- what the forms of words say of one that was found at this name
abbrev pub IsFormed : Shape → WordId → ℕ → Type 0
IsFormed s (Mark o) n = IsMark s (read_mark n)
IsFormed s (Hold t p) n = IsHold s (read_hold n)
IsFormed s (Waiting t) n = IsWait s (read_wait n)
IsFormed s (Owner m) n = IsOwner s (read_owner n)
IsFormed s (Class o) n = n ≤ s.classes
IsFormed s _ n = Unit {0}

pub is_formed : (w : World) (n : WordId) → FormsFit w → IsFormed w.shape n (w.words n)
is_formed w (Mark o) f = f.marks o
is_formed w (Hold t p) f = f.holds t p
is_formed w (Waiting t) f = f.waits t
is_formed w (Owner m) f = f.owners m
is_formed w (Class o) f = f.classes o
is_formed w _ f = tt

no_wait : (o : ℕ) → waits_on 0 o ≡ false
no_wait o = ap (λ f. waits_form f o) (read_wait-wait_of Ready tt)

of_each : (xs : List (ℕ × ℕ)) (n o : ℕ) → AllByRecursion (λ x. (x.0 < n) × (x.1 ≤ most_slots)) xs → o < length xs
    → ((slice_index_or xs o (0, 0)).0 < n) × ((slice_index_or xs o (0, 0)).1 ≤ most_slots)
of_each [] n o h l = absurd (omega (arith, l))
of_each (x ∷ xs) n zero h l = h.0
of_each (x ∷ xs) n (suc o) h l = of_each xs n o h.1 (omega (arith, l))

pub class_there : (s : Shape) (o : ℕ) → IsInLimits s → o < length s.objects → class_in_shape s o < s.classes
class_there s o limits object = (of_each s.objects s.classes o limits.each object).0

-- where class words are of classes that there are, each object is of one
pub class_in_heap : (s : Shape) (f : WordId → ℕ) (o : ℕ) → IsInLimits s → f (Class o) ≤ s.classes → o < length s.objects → class_by s f o < s.classes
class_in_heap s f o limits formed object = by_test (nat_lt o s.declared)
  where
    by_test : (b : Bool) → cond b (class_in_shape s o) (f (Class o) - 1) < s.classes
    by_test true = class_there s o limits object
    by_test false = let some = class_there s o limits object in omega (arith, some, formed)

-- the class that a thread has seen an object have is the one that it has by words among which its class word stays as it was seen
pub class_seen : (s : Shape) (f : WordId → ℕ) (seen : List StepMade) (o c : ℕ) → ((v : ℕ) → last_seen (Class o) seen ≡ Some v → v ≢ 0 → f (Class o) ≡ v)
    → SawClass s seen o c → class_by s f o ≡ c
class_seen s f seen o c stays saw = by_test (nat_lt o s.declared) saw
  where
    by_test : (b : Bool) → SawClassIf b s seen o c → cond b (class_in_shape s o) (f (Class o) - 1) ≡ c
    by_test true h = sym h
    by_test false h = let is = stays (c + 1) h (λ z. absurd (omega (arith, z))) in omega (arith, is)

pub limits_there : (w : World) (P : List PlainObject) → IsValid w P → IsInLimits w.shape
limits_there w P valid = elim valid [ inl v ↦ v.limits | inr s ↦ subst IsInLimits (sym s.shape) s.fits.limits ]

module _ (w : World) (P : List PlainObject) (v : Fits w P) where
  pub kept_there : (t m : ℕ) → (w.known t).kept ≡ Some m → m < monitor_count w.shape
  kept_there t m kept = (v.claims.keeps t m kept).0

  -- a thread that the heap lacks waits for nothing
  pub waiter_there : (u o : ℕ) → waits_on (w.words (Waiting u)) o ≡ true → u < w.shape.threads
  waiter_there u o waits = cases (nat_lt u w.shape.threads) refl
    where
      never_waits : w.shape.threads ≤ u → ⊥
      never_waits absent =
          let fresh = ap (λ (k : ThreadView). k.wait) (v.absent u absent) in
          elim (v.waits.stored u) [
            | inl same ↦ let said = ap (λ n. waits_on n o) (same ∙ fresh) in let none = no_wait o in absurd (cc (said, none, waits))
            | inr told ↦ let said = ap (λ n. waits_on n told.0) fresh in let none = no_wait told.0 in let its = told.1 in absurd (cc (said, none, its))
          ]

      cases : (b : Bool) → nat_lt u w.shape.threads ≡ b → u < w.shape.threads
      cases true e = grind (arith, nat_tests, e)
      cases false e = absurd (never_waits (grind (arith, nat_tests, e)))
