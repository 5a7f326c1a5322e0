-- What a thread that holds an object may count on where it has seen that the object's mark names a monitor.
use Rattle.std.proofs.Common.{◌≡◌, ◌≢◌, ℕ, ◌<◌, ◌≤◌, ◌||◌, Bool, true, List, length, slice_index}
use Rattle.std.proofs.Common.{Option, Some, None, refl, sym, ap, ◌∙◌, subst, arith, inl, inr}
use Rattle.std.proofs.lemmas.Option.{same_Some}
use Rattle.mark_word.specs.declared.owner.OwnerForm.{OwnerForm}
use Rattle.mark_word.specs.declared.owner.OwnerForm.TheVariants.{Free, ByThread, ByRecord}
use Rattle.mark_word.specs.Mark.{read_mark}
use Rattle.mark_word.specs.Owner.{owner_of, read_owner}
use Rattle.mark_word.proofs.ReadingOwners.{read_owner-owner_of}
use Rattle.plain_monitor.specs.Limits.{most_holds}
use Rattle.plain_monitor.specs.Objects.{PlainObject}
use Rattle.core_world.specs.declared.word_id.WordId.TheVariants as id
use Rattle.core_world.specs.declared.stage.Stage.TheVariants.{Settled}
use Rattle.core_world.specs.Words.Forms.{monitor_in, hold_word}
use Rattle.core_world.specs.Threads.ThreadView.{ThreadView, last_seen}
use Rattle.core_world.specs.Locks.{Lock, OnRecord, OwnedBy, lock, lock_form, owner_lock, holder, marks, owner_words, prototype_of, inflations, hold_count}
use Rattle.core_world.specs.Trees.Plans.{top_place}
use Rattle.core_world.specs.Threads.Stages.{bears}
use Rattle.core_world.specs.Valid.{Fits}
use Rattle.core_world.specs.World.{World}
use Rattle.core_world.proofs.enter_exit.OwnersShown.{inflated_form}
use Rattle.core_locks.specs.Knowing.{IsOut, SawInflated, SawOwn}
use Rattle.core_locks.proofs.enter_exit.HoldWays.{saw_displaced}
use Rattle.core_locks.proofs.monitor.Supplies.{last_hold}
use Rattle.core_law.specs.Logic.{Heap, SoundWorldWith}
use Rattle.core_steps.proofs.enter_exit.ExitFacts.{owner_here, who_here, unopen}
use Rattle.core_steps.proofs.Facts.{limits_here}
use Rattle.core_law.proofs.Standing.{fits_here, home, away}
use Rattle.core_law.proofs.Places.{top_here, few_here}

-- the owner word says that it is thread t's: its own, or one of its records'
abbrev pub IsOwned : ℕ → Option OwnerForm → Type 0
IsOwned t (Some (ByThread u)) = u ≡ t
IsOwned t (Some (ByRecord u p)) = u ≡ t
IsOwned t _ = ⊥

module _ (w : World) (P : List PlainObject) (t o m : ℕ) (v : Fits w P) (runs : (w.known t).running ≡ true) (saw : SawInflated (w.known t) o m) where
  -- the mark names the monitor still
  pub names_still : monitor_in (marks w o) ≡ Some m
  names_still = ap monitor_in (v.seen.stays t (id.Mark o) saw.0 saw.1 (inl (runs, inr (inl (m, saw.2))))) ∙ saw.2

  pub lock_of_owner : lock w o ≡ owner_lock (read_owner (owner_words w m))
  lock_of_owner = ap (λ f. lock_form f (prototype_of w o) (owner_words w) (inflations w o)) (inflated_form (read_mark (marks w o)) m names_still)

  -- an owner word that it saw to be its own is so still
  pub own_still : (w.known t).stage ≡ Settled → IsOut (w.known t) → 1 ≤ hold_count o (w.known t).holds
      → SawOwn (w.known t) t m → t < 32 → read_owner (owner_words w m) ≡ Some (ByThread t)
  own_still calm out some own small =
      ap read_owner (v.seen.stays t (id.Owner m) (owner_of (ByThread t)) own
      (inl (runs, inr (o, names_still, ap (λ (b : Bool). b || bears (w.known t).stage o) (owner_here w P t o v calm out some)))))
      ∙ read_owner-owner_of (ByThread t) small

  -- so its owner word is the thread's, where the thread holds the object in the middle of nothing
  pub owned_still : (w.known t).stage ≡ Settled → IsOut (w.known t) → 1 ≤ hold_count o (w.known t).holds → IsOwned t (read_owner (owner_words w m))
  owned_still calm out some = cases (read_owner (owner_words w m)) lock_of_owner
    where
      mine : (u : ℕ) (l : Lock) → lock w o ≡ l → holder l (λ z. hold_count o (w.known z).holds) ≡ Some u → u ≡ t
      mine u l e h = same_Some u t (sym h ∙ ap (λ z. holder z (λ y. hold_count o (w.known y).holds)) (sym e) ∙ who_here w P t o v calm out some)

      cases : (f : Option OwnerForm) → lock w o ≡ owner_lock f → IsOwned t f
      cases None e = unopen w P t o v calm out some e
      cases (Some Free) e = unopen w P t o v calm out some e
      cases (Some (ByThread u)) e = mine u (OwnedBy u) e refl
      cases (Some (ByRecord u p)) e = mine u (OnRecord u p) e refl

module _ (heap : Heap) (k : ThreadView) (v : SoundWorldWith heap k) (runs : k.running ≡ true) where
  runs_there : (v.world.known k.thread).running ≡ true
  runs_there = away heap k v (λ s y. y.running ≡ true) runs

  -- the owner word that the thread finds
  pub owned_here : (o m n : ℕ) → SawInflated k o m → k.stage ≡ Settled → IsOut k
      → 1 ≤ hold_count o k.holds → v.world.words (id.Owner m) ≡ n → IsOwned k.thread (read_owner n)
  owned_here o m n saw calm out some found =
      subst (λ z. IsOwned k.thread (read_owner z)) found
      (owned_still v.world v.objects k.thread o m (fits_here heap k v runs) runs_there
      (away heap k v (λ s y. SawInflated y o m) saw) (away heap k v (λ s y. y.stage ≡ Settled) calm)
      (away heap k v (λ s y. IsOut y) out) (away heap k v (λ s y. 1 ≤ hold_count o y.holds) some))

  -- where it finds that the recursions are 0, its hold is the only one, unless that is a recursive record
  pub only_here : (o m h : ℕ) → SawInflated k o m → SawOwn k k.thread m → k.stage ≡ Settled
      → IsOut k → 1 ≤ hold_count o k.holds → v.world.words (id.Recursions m) ≡ 0
      → last_seen (id.Displaced k.thread (top_place o k.holds)) k.seen ≡ Some h → h ≢ 0 → o < length heap.shape.objects → hold_count o k.holds ≡ 1
  only_here o m h inflated own calm out some none saw nonzero object =
      let w = v.world in let t = k.thread in let fits = fits_here heap k v runs in
      let few = limits_here heap k v runs in let threads = few.threads in let objects = few.objects in let within = v.within in
      let calm_there = away heap k v (λ s y. y.stage ≡ Settled) calm in
      let p = top_place o k.holds in
      let word = saw_displaced w v.objects t o runs_there fits p h (away heap k v (λ s y. last_seen (id.Displaced y.thread p) y.seen ≡ Some h) saw) in
      let saw_there = away heap k v (λ s y. SawInflated y o m) inflated in
      let owner = own_still w v.objects t o m fits runs_there saw_there calm_there
      (away heap k v (λ s y. IsOut y) out) (away heap k v (λ s y. 1 ≤ hold_count o y.holds) some)
      (away heap k v (λ s y. SawOwn y t m) own) (omega (arith, threads, within)) in
      home heap k v (λ s y. hold_count o y.holds ≡ 1)
      (last_hold w v.objects t o m fits calm_there (names_still w v.objects t o m fits runs_there saw_there) p
      (hold_count o (w.known t).holds) (omega (arith, objects, object)) owner none
      (away heap k v (λ s y. slice_index y.holds p ≡ hold_word o (hold_count o y.holds)) (top_here heap k v runs o some).0)
      (away heap k v (λ s y. 1 ≤ hold_count o y.holds) some) (away heap k v (λ s y. hold_count o y.holds ≤ most_holds) (few_here heap k v runs o))
      (λ e. nonzero (sym word ∙ e)))
