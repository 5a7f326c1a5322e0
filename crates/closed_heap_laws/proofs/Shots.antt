-- The shots of a run's dumps.
use Rattle.std.proofs.Common.{◌≡◌, ℕ, suc, List, [], ◌∷◌, length, Option, Some, refl, sym, ap, ◌∙◌, subst, arith, inl, inr}
use Rattle.std.specs.Prelude.{slice_get}
use Rattle.std.specs.List.{AllByRecursion}
use Rattle.std.proofs.lemmas.List.{length-append, length-map}
use Rattle.plain_monitor.specs.declared.entry.Logged.{Logged}
use Rattle.plain_monitor.specs.History.{log_of}
use Rattle.plain_monitor.proofs.Lists.{all_at}
use Rattle.core_world.specs.declared.heap_call.Operation.TheVariants as op
use Rattle.core_world.specs.declared.heap_call.Unfinished.{Unfinished}
use Rattle.core_world.specs.Clauses.Safepoints.{IsUnfinished}
use Rattle.core_world.specs.Shots.{AreOfDumps, IsRightShot, dumps_from, places_of}
use Rattle.core_world.specs.Threads.AtRest.{AtRest}
use Rattle.core_world.specs.Threads.ThreadView.{ThreadView, DumpShot}
use Rattle.core_world.specs.Words.Shape.{Shape}
use Rattle.core_law.specs.Logic.{Heap}
use Rattle.closed_heap_laws.specs.OfARun.{HasShots, IsEnd, logs_in, shots_at, shots_in}
use Rattle.closed_heap_laws.proofs.LastWorlds.{IsListed, Settled, settled, log_listed, shots_listed}

all_of : {A : Type 0} (P : A → Type 0) (xs : List A) → ((i : ℕ) (x : A) → slice_get xs i ≡ Some x → P x)
    → AllByRecursion P xs
all_of P [] each = tt
all_of P (x ∷ xs) each = (each 0 x refl, all_of P xs (λ i y h. each (suc i) y h))

-- the dumps are those that are logged, where an unfinished one has taken no shot
of_logged : (t : ℕ) (log : List Logged) (shots : List DumpShot) (unfinished : Option Unfinished)
    → (IsUnfinished unfinished op.Dump 0 → length shots ≡ length (dumps_from 0 log)) → AreOfDumps t log shots unfinished
    → places_of t shots ≡ dumps_from 0 log
of_logged t log shots unfinished rest (inl is) = is
of_logged t log shots unfinished rest (inr is) =
    let one_more =
    ap (λ (x : List (ℕ × ℕ)). length x) is.0
    ∙ length-append (dumps_from 0 log) ((length log, length shots) ∷ []) in
    let as_many : length (places_of t shots) ≡ length shots = length-map shots _ in
    let kept = rest is.1 in
    absurd (omega (arith, one_more, as_many, kept))

-- a thread that the heap lacks has no dump unfinished
kept_at_rest : (s : Shape) (ks : List ThreadView) (t : ℕ) (k : ThreadView) → AllByRecursion (AtRest s) ks → IsListed ks t k
    → IsUnfinished k.unfinished op.Dump 0 → length k.shots ≡ length (dumps_from 0 k.log)
kept_at_rest s ks t k rest (inl h) = (all_at (AtRest s) ks t k rest h).shots
kept_at_rest s ks t k rest (inr h) = λ u. let none = ap (λ (x : ThreadView). x.unfinished) h.1 in absurd (cc (none, u))

module _ (heap : Heap) (words : List ℕ) (ks : List ThreadView) (e : IsEnd heap words ks) where
  s : Settled heap words ks
  s = settled heap words ks e

  shots_are : (t : ℕ) → shots_at (shots_in ks) t ≡ (s.world.known t).shots
  shots_are t = shots_listed ks t (s.world.known t) (s.listed t)

  shot_is : (t i : ℕ) (a : DumpShot) → slice_get (shots_at (shots_in ks) t) i ≡ Some a
      → slice_get (s.world.known t).shots i ≡ Some a
  shot_is t i a h = ap (λ (x : List DumpShot). slice_get x i) (sym (shots_are t)) ∙ h

  right_here : (t i : ℕ) (a : DumpShot) → slice_get (shots_at (shots_in ks) t) i ≡ Some a
      → IsRightShot heap.shape.objects (logs_in ks) a
  right_here t i a h =
      subst (λ (x : Heap × List (List Logged)). IsRightShot x.0.shape.objects x.1 a) (λ j. (s.is_of j, s.logs_are j))
      (s.fits.shots.right t i a (shot_is t i a h))

  dumps_are : (t : ℕ) → places_of t (shots_at (shots_in ks) t) ≡ dumps_from 0 (log_of (logs_in ks) t)
  dumps_are t =
      let k = s.world.known t in
      ap (places_of t) (shots_are t)
      ∙ of_logged t k.log k.shots k.unfinished (kept_at_rest heap.shape ks t k e.rest (s.listed t)) (s.fits.shots.dumps t)
      ∙ ap (dumps_from 0) (sym (log_listed ks t k (s.listed t)))

  pub has_shots : HasShots heap.shape.objects (logs_in ks) (shots_in ks)
  has_shots =
      record {
        right = λ t. all_of (IsRightShot heap.shape.objects (logs_in ks)) (shots_at (shots_in ks) t) (right_here t);
        dumps = dumps_are;
        ordered = λ t u i j a b f g. s.fits.shots.ordered t u i j a b (shot_is t i a f) (shot_is u j b g);
      }
