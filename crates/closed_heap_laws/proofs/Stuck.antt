-- A halted run is stuck, and no thread has a Hash unfinished then.
use Rattle.std.proofs.Common.{◌≡◌, ℕ, zero, suc, ◌<◌, Bool, true, false, List, [], ◌∷◌, length, arith, Option, Some, refl, sym, ap, ◌∙◌, subst, inl, inr}
use Rattle.std.specs.Prelude.{slice_get, slice_index}
use Rattle.std.proofs.lemmas.Option.{same_Some}
use Rattle.plain_monitor.specs.History.{log_of, objects_after}
use Rattle.plain_monitor.proofs.Lists.{all_at}
use Rattle.core_world.specs.declared.word_id.WordId.TheVariants.{Safepoint}
use Rattle.core_world.specs.declared.heap_call.Operation.{Operation}
use Rattle.core_world.specs.declared.heap_call.Operation.TheVariants as op
use Rattle.core_world.specs.declared.heap_call.Unfinished.{Unfinished}
use Rattle.core_world.specs.Clauses.Safepoints.{IsHeldUp, IsStuck, IsUnfinished, ends}
use Rattle.core_world.specs.Locks.{monitor_of}
use Rattle.core_world.specs.Threads.AtRest.{AtRest}
use Rattle.core_world.specs.Threads.ThreadView.{ThreadView}
use Rattle.core_world.specs.Words.Forms.{is_halted}
use Rattle.core_law.specs.Logic.{Heap}
use Rattle.closed_heap_laws.specs.OfARun.{IsEnd, IsStuckEnd, logs_in, unfinished_in}
use Rattle.closed_heap_laws.proofs.LastWorlds.{IsListed, Settled, settled, log_listed, unfinished_listed}

get_below : (ks : List ThreadView) (i : ℕ) (k : ThreadView) → slice_get ks i ≡ Some k → i < length ks
get_below [] i k h = absurd (cc h)
get_below (x ∷ ks) zero k h = omega arith
get_below (x ∷ ks) (suc i) k h = let a = get_below ks i k h in omega (arith, a)

same_op : {u : Option Unfinished} (a b : Operation) (i o : ℕ) → IsUnfinished u a i → IsUnfinished u b o → a ≡ b
same_op a b i o p q =
    ap (λ (x : Unfinished). x.op)
    (same_Some (record { op = a; object = i }) (record { op = b; object = o }) (sym p ∙ q))

module _ (heap : Heap) (words : List ℕ) (ks : List ThreadView) (e : IsEnd heap words ks)
    (halted : is_halted (slice_index words 0) ≡ true) where
  s : Settled heap words ks
  s = settled heap words ks e

  stuck_world : IsStuck s.world.shape.threads (λ t. ends (s.world.known t).log)
      (λ t. (s.world.known t).unfinished) (monitor_of s.objects)
  stuck_world = (s.fits.safe.still (ap is_halted (sym (s.words_are Safepoint tt)) ∙ halted)).2

  ends_listed : (t : ℕ) → ends (log_of (logs_in ks) t) ≡ ends (s.world.known t).log
  ends_listed t = ap ends (log_listed ks t (s.world.known t) (s.listed t))

  left_listed : (t : ℕ) → unfinished_in (slice_get ks t) ≡ (s.world.known t).unfinished
  left_listed t = unfinished_listed ks t (s.world.known t) (s.listed t)

  pub is_stuck : IsStuckEnd heap.shape.objects heap.shape.threads ks
  is_stuck =
      record {
        objects = s.objects;
        taken = (λ i. objects_after ((sym s.is_of i).shape.objects) (sym s.logs_are i)) ∙ s.fits.taken;
        stuck = subst (λ (x : Heap × (ℕ → Bool) × (ℕ → Option Unfinished)).
            IsStuck x.0.shape.threads x.1 x.2 (monitor_of s.objects))
            (λ i. (s.is_of i, λ t. sym (ends_listed t) i, λ t. sym (left_listed t) i)) stuck_world;
      }

  -- who is held up waits or enters
  not_hash : (t o : ℕ) → IsHeldUp (monitor_of s.objects) t (s.world.known t).unfinished
      → IsUnfinished (s.world.known t).unfinished op.Hash o → ⊥
  not_hash t o (i, inl waits) h = absurd (cc (same_op op.Wait op.Hash i o (s.fits.waits.unfinished t i (inl waits)) h))
  not_hash t o (i, inr (inl called, owned)) h =
      absurd (cc (same_op op.Wait op.Hash i o (s.fits.waits.unfinished t i (inr called)) h))
  not_hash t o (i, inr (inr enters, owned)) h = absurd (cc (same_op op.Enter op.Hash i o enters h))

  -- who is listed is a thread of the heap
  within : (t : ℕ) → slice_get ks t ≡ Some (s.world.known t) → t < s.world.shape.threads
  within t there =
      let same = ap (λ (h : Heap). h.shape.threads) s.is_of in
      let h = get_below ks t (s.world.known t) there in
      omega (arith, h, e.all, same)

  none_open : (t o : ℕ) → IsListed ks t (s.world.known t) → IsUnfinished (s.world.known t).unfinished op.Hash o → ⊥
  none_open t o (inr far) h = let none = ap (λ (k : ThreadView). k.unfinished) far.1 in absurd (cc (none, h))
  none_open t o (inl there) h = by_end (ends (s.world.known t).log) refl
    where
      by_end : (b : Bool) → ends (s.world.known t).log ≡ b → ⊥
      by_end true ended =
          let none = ((all_at (AtRest heap.shape) ks t (s.world.known t) e.rest there).ended ended).1 in absurd (cc (none, h))
      by_end false unended = not_hash t o (stuck_world.1 t (within t there) unended) h

  pub no_hash_open : (t o : ℕ) → IsUnfinished (unfinished_in (slice_get ks t)) op.Hash o → ⊥
  no_hash_open t o h = none_open t o (s.listed t) (sym (left_listed t) ∙ h)
