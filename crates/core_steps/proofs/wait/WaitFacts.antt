-- What a thread that stored that it waits may count on, and one that stored nothing like it.
use Rattle.std.proofs.Common.{◌≡◌, ◌⊎◌, ℕ, ◌<◌, ◌^◌, ◌||◌, eq-eqb, Bool, true, false, List, Option, Some, None, refl, ap, ◌∙◌, subst, arith, inl, inr}
use Rattle.std.proofs.lemmas.Option.{same_Some}
use Rattle.mark_word.specs.declared.owner.OwnerForm.{OwnerForm}
use Rattle.mark_word.specs.declared.owner.OwnerForm.TheVariants.{Free, ByThread, ByRecord}
use Rattle.mark_word.specs.declared.wait.WaitForm.TheVariants.{Notified}
use Rattle.mark_word.specs.Owner.{read_owner}
use Rattle.mark_word.specs.Wait.{read_wait}
use Rattle.mark_word.proofs.ReadingWaits.{read_wait-wait_of}
use Rattle.plain_history.proofs.HoldSteps.{never_counted}
use Rattle.plain_monitor.specs.Monitor.{is_thread, is_listed}
use Rattle.plain_monitor.specs.Objects.{PlainObject}
use Rattle.core_world.specs.declared.word_id.WordId.TheVariants as id
use Rattle.core_world.specs.declared.stage.Stage.TheVariants.{Settled}
use Rattle.core_world.specs.declared.heap_call.Operation.TheVariants as op
use Rattle.core_world.specs.declared.heap_call.Unfinished.{Unfinished}
use Rattle.core_world.specs.Words.Forms.{monitor_in, waits_on, says_notified, notified_form}
use Rattle.core_world.specs.Threads.ThreadView.{ThreadView, last_seen}
use Rattle.core_world.specs.Locks.{lock, owner_lock, who, holder, hold_count, marks, owner_words, owner_at, waits_at, notified_at}
use Rattle.core_world.specs.Clauses.Safepoints.{IsUnfinished}
use Rattle.core_world.specs.Threads.Stages.{one_if, bears}
use Rattle.core_world.specs.Valid.{Fits}
use Rattle.core_world.specs.World.{World}
use Rattle.core_world.proofs.enter_exit.ObjectHolds.{sound, listed_count}
use Rattle.core_locks.specs.Knowing.{IsOut, SawInflated}
use Rattle.core_locks.proofs.wait.TellLists.{waits_one}
use Rattle.core_locks.proofs.WaitOut.{fails}
use Rattle.core_law.specs.Logic.{Heap, SoundWorldWith}
use Rattle.core_steps.proofs.Facts.{Untold, waits_range}
use Rattle.core_law.proofs.Standing.{fits_here, home, away}
use Rattle.core_steps.proofs.monitor.MonitorFacts.{IsOwned, lock_of_owner}

-- it stands at a list of the object
abbrev pub IsListed : List PlainObject → ℕ → ℕ → Type 0
IsListed P o t = (is_listed (waits_at P o) t ≡ true) ⊎ (is_listed (notified_at P o) t ≡ true)

module _ (w : World) (P : List PlainObject) (t o : ℕ) (v : Fits w P) where
  -- who was notified is listed
  told_lists : says_notified (w.words (id.Waiting t)) o ≡ true → IsListed P o t
  told_lists told = elim (v.waits.told t o told) [ inl a ↦ inr a | inr a ↦ inl a.0 ]

  -- by what its own thread stored
  module _ (own : waits_on (w.known t).wait o ≡ true) where
    -- the waiting word says so still, or that it was notified
    wait_says : (waits_on (w.words (id.Waiting t)) o ≡ true) ⊎ (says_notified (w.words (id.Waiting t)) o ≡ true)
    wait_says = elim (v.waits.stored t) [
      | inl e ↦ inl (ap (λ n. waits_on n o) e ∙ own)
      | inr e ↦
          let small : e.0 < 2 ^ 15 = waits_range (w.known t).wait e.0 e.1 in
          let same : e.0 ≡ o = waits_one (read_wait (w.known t).wait) o e.0 own e.1 in
          inr (ap (λ n. says_notified n o) e.2 ∙ ap (λ f. notified_form f o) (read_wait-wait_of (Notified e.0) small) ∙ eq-eqb e.0 o same)
    ]

    wait_lists : IsListed P o t
    wait_lists = elim wait_says [
      | inl a ↦ inl (v.waits.waiter t o a)
      | inr a ↦ told_lists a
    ]

    waits_unfinished : IsUnfinished (w.known t).unfinished op.Wait o
    waits_unfinished = v.waits.unfinished t o wait_lists

  -- who is listed isn't the owner
  listed_unowned : IsListed P o t → owner_at P o t ≡ true → ⊥
  listed_unowned listed owns =
      let s = sound w P v o in
      let one = s.once t in
      let present = ap one_if owns in
      elim listed [
        | inl a ↦ absurd (omega (arith, never_counted (waits_at P o) t (omega (arith, one, present)), listed_count (waits_at P o) t s.waits a))
        | inr a ↦ absurd (omega (arith, never_counted (notified_at P o) t (omega (arith, one, present)), listed_count (notified_at P o) t s.called a))
      ]

  module _ (m : ℕ) (runs : (w.known t).running ≡ true) (saw : SawInflated (w.known t) o m) where
    -- so in the middle of nothing it doesn't find that it is
    listed_outside : (w.known t).stage ≡ Settled → IsListed P o t → IsOwned t (read_owner (owner_words w m)) → ⊥
    listed_outside calm listed = cases (read_owner (owner_words w m)) (lock_of_owner w P t o m v runs saw)
      where
        unowned : owner_at P o t ≡ false
        unowned = fails _ (listed_unowned listed)

        mine : (u : ℕ) → who w o ≡ Some u → u ≡ t → ⊥
        mine u is e =
            let no : is_thread (who w o) t ≡ false = v.owners.same o t ∙ ap (λ (b : Bool). b || bears (w.known t).stage o) unowned ∙ ap (λ s. bears s o) calm in
            let yes : is_thread (who w o) t ≡ true = ap (λ a. is_thread a t) is ∙ eq-eqb u t e in
            cc (no, yes)

        cases : (f : Option OwnerForm) → lock w o ≡ owner_lock f → IsOwned t f → ⊥
        cases None e h = h
        cases (Some Free) e h = h
        cases (Some (ByThread u)) e h = mine u (ap (λ l. holder l (λ z. hold_count o (w.known z).holds)) e) h
        cases (Some (ByRecord u p)) e h = mine u (ap (λ l. holder l (λ z. hold_count o (w.known z).holds)) e) h

  -- a word that it saw to tell it tells it still, and the object is inflated
  module _ (runs : (w.known t).running ≡ true) (word : ℕ)
      (saw : last_seen (id.Waiting t) (w.known t).seen ≡ Some word) (told : says_notified word o ≡ true) where
    still_told : says_notified (w.words (id.Waiting t)) o ≡ true
    still_told = ap (λ n. says_notified n o) (v.seen.stays t (id.Waiting t) word saw (inl (runs, inr (refl, (o, told))))) ∙ told

    told_inflated : (m : ℕ) × (monitor_in (marks w o) ≡ Some m)
    told_inflated = v.waits.inflated o t (told_lists still_told)

module _ (heap : Heap) (k : ThreadView) (v : SoundWorldWith heap k) (fits : Fits v.world v.objects) where
  pub waiting_unfinished : (o : ℕ) → waits_on k.wait o ≡ true → IsUnfinished k.unfinished op.Wait o
  waiting_unfinished o =
      home heap k v (λ s y. waits_on y.wait o ≡ true → IsUnfinished y.unfinished op.Wait o) (waits_unfinished v.world v.objects k.thread o fits)

  -- a wait that is to begin: the thread waits nowhere
  pub out_to_wait : (o : ℕ) → (◌≡◌ {A = Option Unfinished} (Some (record { op = op.Wait; object = o })) k.unfinished) ⊎ (k.unfinished ≡ None)
      → waits_on k.wait o ≡ false → Untold k → IsOut k
  out_to_wait o goes out untold i = (
    fails _ (λ h.
        let is = waiting_unfinished i h in
        elim goes [
          | inl g ↦ let same : o ≡ i = ap (λ (u : Unfinished). u.object) (same_Some _ _ (g ∙ is)) in
              let waits : waits_on k.wait o ≡ true = ap (λ z. waits_on k.wait z) same ∙ h in absurd (cc (waits, out))
          | inr none ↦ absurd (cc (none, is))
        ]),
    untold i,
  )

module _ (heap : Heap) (k : ThreadView) (v : SoundWorldWith heap k) (runs : k.running ≡ true) where
  runs_there : (v.world.known k.thread).running ≡ true
  runs_there = away heap k v (λ s y. y.running ≡ true) runs

  -- the waiting word that a thread finds which stored that it waits
  pub says_here : (o n : ℕ) → waits_on k.wait o ≡ true → v.world.words (id.Waiting k.thread) ≡ n → (waits_on n o ≡ true) ⊎ (says_notified n o ≡ true)
  says_here o n own found =
      subst (λ z. (waits_on z o ≡ true) ⊎ (says_notified z o ≡ true)) found
      (wait_says v.world v.objects k.thread o (fits_here heap k v runs) (away heap k v (λ s y. waits_on y.wait o ≡ true) own))

  module _ (o word : ℕ) (saw : last_seen (id.Waiting k.thread) k.seen ≡ Some word) (told : says_notified word o ≡ true) where
    saw_there : last_seen (id.Waiting k.thread) (v.world.known k.thread).seen ≡ Some word
    saw_there = away heap k v (λ s y. last_seen (id.Waiting k.thread) y.seen ≡ Some word) saw

    -- the mark that it finds once it was notified
    pub inflated_here : (n : ℕ) → v.world.words (id.Mark o) ≡ n → (m : ℕ) × (monitor_in n ≡ Some m)
    inflated_here n found = subst (λ z. (m : ℕ) × (monitor_in z ≡ Some m)) found
        (told_inflated v.world v.objects k.thread o (fits_here heap k v runs) runs_there word saw_there told)

    -- and the owner word
    pub unowned_here : (m n : ℕ) → k.stage ≡ Settled → SawInflated k o m → v.world.words (id.Owner m) ≡ n → IsOwned k.thread (read_owner n) → ⊥
    unowned_here m n calm inflated found = subst (λ z. IsOwned k.thread (read_owner z) → ⊥) found
        (listed_outside v.world v.objects k.thread o (fits_here heap k v runs) m runs_there
        (away heap k v (λ s y. SawInflated y o m) inflated) (away heap k v (λ s y. y.stage ≡ Settled) calm)
        (told_lists v.world v.objects k.thread o (fits_here heap k v runs)
        (still_told v.world v.objects k.thread o (fits_here heap k v runs) runs_there word saw_there told)))
