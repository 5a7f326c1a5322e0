-- What a running thread may count on by the clauses of the world that it stands in: of its waiting word and its places.
use Rattle.std.proofs.Common.{◌≡◌, ◌⊎◌, ℕ, ◌<◌, ◌^◌, eq-eqb, Bool, true, false, List, Option, Some, None, refl, sym, ap, ◌∙◌, subst, arith, inl, inr}
use Rattle.std.proofs.lemmas.Bool.Decides.{nat_tests}
use Rattle.mark_word.specs.declared.wait.WaitForm.{WaitForm}
use Rattle.mark_word.specs.declared.wait.WaitForm.TheVariants as wait
use Rattle.mark_word.specs.Wait.{read_wait}
use Rattle.mark_word.proofs.ReadingWaits.{read_wait-wait_of, read_wait-spells}
use Rattle.plain_monitor.specs.Limits.{most_holds}
use Rattle.plain_monitor.specs.Objects.{PlainObject}
use Rattle.plain_monitor.specs.declared.entry.Logged.{Logged}
use Rattle.core_world.specs.declared.word_id.WordId.TheVariants.{Waiting}
use Rattle.core_world.specs.declared.stage.Stage.TheVariants.{Settled}
use Rattle.core_world.specs.declared.heap_call.Operation.TheVariants as op
use Rattle.core_world.specs.Words.Forms.{waits_on, waits_form, says_notified, notified_form, enters_on, enters_form, is_entering, entering_form, ended_form}
use Rattle.core_world.specs.Words.Shape.{IsInLimits}
use Rattle.core_world.specs.Threads.ThreadView.{ThreadView}
use Rattle.core_world.specs.Threads.References.{numbering, knows_by_log}
use Rattle.core_world.specs.Clauses.Safepoints.{IsUnfinished, ends}
use Rattle.core_world.specs.Threads.Stages.{revocation_in}
use Rattle.core_world.specs.Valid.{Fits}
use Rattle.core_world.specs.Clauses.WordForms.{IsWait}
use Rattle.core_world.specs.World.{World}
use Rattle.core_world.proofs.NoWordChanges.{one_requester}
use Rattle.core_locks.specs.Knowing.{IsOut}
use Rattle.core_locks.specs.LockLaws.{IsFree}
use Rattle.core_world.specs.Trees.Plans.{free_place}
use Rattle.core_locks.proofs.WaitOut.{fails, out_word, out_waits, out_told}
use Rattle.bias_law.specs.Steps.{SawUnbiased}
use Rattle.core_law.specs.Logic.{Heap, SoundWorldWith}
use Rattle.core_law.proofs.Places.{empty_here}
use Rattle.core_law.proofs.Standing.{home, away, fits_here, valid_here}

-- a waiting word that says it waits names an object in the range of the word
pub waits_range : (n o : ℕ) → waits_on n o ≡ true → o < 2 ^ 15
waits_range n o h = cases (read_wait n) refl h
  where
    cases : (f : Option WaitForm) → read_wait n ≡ f → waits_form f o ≡ true → o < 2 ^ 15
    cases None e h = absurd (cc h)
    cases (Some wait.Ready) e h = absurd (cc h)
    cases (Some (wait.Entering i)) e h = absurd (cc h)
    cases (Some (wait.Waiting i x)) e h =
        let spells = read_wait-spells n (wait.Waiting i x) e in
        let same : i ≡ o = grind (arith, nat_tests, h) in
        subst (λ z. z < 2 ^ 15) same spells.0.0
    cases (Some (wait.Notified i)) e h = absurd (cc h)
    cases (Some wait.Ended) e h = absurd (cc h)

enters_is : (n i : ℕ) → enters_on n i ≡ true → is_entering n ≡ true
enters_is n i h = cases (read_wait n) h
  where
    cases : (f : Option WaitForm) → enters_form f i ≡ true → entering_form f ≡ true
    cases None h = absurd (cc h)
    cases (Some wait.Ready) h = absurd (cc h)
    cases (Some (wait.Entering j)) h = refl
    cases (Some (wait.Waiting j x)) h = absurd (cc h)
    cases (Some (wait.Notified j)) h = absurd (cc h)
    cases (Some wait.Ended) h = absurd (cc h)

-- the object's mark has no bias pattern: the heap has no biases, or the thread saw so in this call
abbrev pub Unbiased : Heap → Bool → ThreadView → ℕ → Type 0
Unbiased heap fresh k o = (heap.biasing ≡ false) ⊎ ((fresh ≡ false) × SawUnbiased k o)

-- a thread with this log knows the object by it
abbrev pub Knows : Heap → List Logged → ℕ → Type 0
Knows heap log o = knows_by_log (numbering heap.shape) log o ≡ true

-- no wait is unfinished
abbrev pub Unwaiting : ThreadView → Type 0
Unwaiting k = (o : ℕ) → IsUnfinished k.unfinished op.Wait o → ⊥

abbrev pub Unentering : ThreadView → Type 0
Unentering k = (o : ℕ) → IsUnfinished k.unfinished op.Enter o → ⊥

abbrev pub Untold : ThreadView → Type 0
Untold k = (o : ℕ) → says_notified k.wait o ≡ false

module _ (w : World) (P : List PlainObject) (t : ℕ) (v : Fits w P) where
  -- a thread whose unfinished operation is no wait, and that never stores that it was notified, is out
  out_is : Unwaiting (w.known t) → Untold (w.known t) → IsOut (w.known t)
  out_is none untold o = (
    fails _ (λ h. elim (v.waits.stored t) [
      | inl e ↦ none o (v.waits.unfinished t o (inl (v.waits.waiter t o (ap (λ n. waits_on n o) e ∙ h))))
      | inr e ↦
          let small : e.0 < 2 ^ 15 = waits_range (w.known t).wait e.0 e.1 in
          let said : says_notified (w.words (Waiting t)) e.0 ≡ true =
          ap (λ n. says_notified n e.0) e.2 ∙ ap (λ f. notified_form f e.0) (read_wait-wait_of (wait.Notified e.0) small) ∙ eq-eqb e.0 e.0 refl in
          elim (v.waits.told t e.0 said) [
            | inl a ↦ none e.0 (v.waits.unfinished t e.0 (inr a))
            | inr a ↦ none e.0 (v.waits.unfinished t e.0 (inl a.0))
          ]
    ]),
    untold o,
  )

  -- where it is out, and its waiting word doesn't say that it enters, that is Ready
  ready_if_out : IsOut (w.known t) → ((i : ℕ) → enters_on (w.words (Waiting t)) i ≡ true → ⊥) → ends (w.known t).log ≡ false → (w.known t).wait ≡ 0
  ready_if_out out nor live = sym (out_word w P t v out) ∙ cases (read_wait (w.words (Waiting t))) refl (v.forms.waits t)
    where
      cases : (f : Option WaitForm) → read_wait (w.words (Waiting t)) ≡ f → IsWait w.shape f → w.words (Waiting t) ≡ 0
      cases None e h = elim h [ ]
      cases (Some wait.Ready) e h = (read_wait-spells _ wait.Ready e).1
      cases (Some (wait.Entering i)) e h = absurd (nor i (ap (λ f. enters_form f i) e ∙ eq-eqb i i refl))
      cases (Some (wait.Waiting i x)) e h =
          let yes : waits_on (w.words (Waiting t)) i ≡ true = ap (λ f. waits_form f i) e ∙ eq-eqb i i refl in
          let no = out_waits w P t v out i in absurd (cc (yes, no))
      cases (Some (wait.Notified i)) e h =
          let yes : says_notified (w.words (Waiting t)) i ≡ true = ap (λ f. notified_form f i) e ∙ eq-eqb i i refl in
          let no = out_told w P t v out i in absurd (cc (yes, no))
      cases (Some wait.Ended) e h =
          let ended = v.waits.done t (ap ended_form e) in absurd (cc (ended, live))

  ready_is : Unwaiting (w.known t) → ((i : ℕ) → enters_on (w.words (Waiting t)) i ≡ true → ⊥)
      → Untold (w.known t) → ends (w.known t).log ≡ false → (w.known t).wait ≡ 0
  ready_is none nor untold = ready_if_out (out_is none untold) nor

  pub ready_outside : IsOut (w.known t) → Unentering (w.known t) → ends (w.known t).log ≡ false → (w.known t).wait ≡ 0
  ready_outside out nor = ready_if_out out (λ i h. nor i (v.waits.entering t i h).0)

  ready_unentering : Unwaiting (w.known t) → Unentering (w.known t) → Untold (w.known t) → ends (w.known t).log ≡ false → (w.known t).wait ≡ 0
  ready_unentering none nor untold live = ready_is none (λ i h. nor i (v.waits.entering t i h).0) untold live

  ready_quiet : Unwaiting (w.known t) → is_entering (w.known t).wait ≡ false → Untold (w.known t) → ends (w.known t).log ≡ false → (w.known t).wait ≡ 0
  ready_quiet none quiet untold live = ready_is none
      (λ i h. let here : enters_on (w.known t).wait i ≡ true = ap (λ n. enters_on n i) (sym (out_word w P t v (out_is none untold))) ∙ h in
      let yes = enters_is (w.known t).wait i here in absurd (cc (yes, quiet))) untold live

-- every clause holds where a thread runs, and where one asks for a safepoint in the middle of nothing
pub fits_asking : (heap : Heap) (k : ThreadView) (v : SoundWorldWith heap k) → k.requesting ≡ true → k.stage ≡ Settled → Fits v.world v.objects
fits_asking heap k v asks calm = elim (valid_here heap k v) [
  | inl a ↦ a
  | inr s ↦
      let reached = ap (λ (y : ThreadView). y.reached) s.knows ∙ s.reached in
      let same = one_requester v.world v.objects s.safe k.thread s.requester
      (away heap k v (λ z y. y.requesting ≡ true) asks) (s.safe.safepoint s.requester reached).0 in
      let none = ap (λ u. revocation_in (v.world.known u).stage) (sym same) ∙ away heap k v (λ z y. revocation_in y.stage ≡ None) (ap revocation_in calm) in
      let some = s.its_revocation in
      absurd (cc (none, some))
]

module _ (heap : Heap) (k : ThreadView) (v : SoundWorldWith heap k) (runs : k.running ≡ true) where
  pub out_here : Unwaiting k → Untold k → IsOut k
  out_here = home heap k v (λ z y. Unwaiting y → Untold y → IsOut y) (out_is v.world v.objects k.thread (fits_here heap k v runs))

  pub ready_here : Unwaiting k → Unentering k → Untold k → ends k.log ≡ false → k.wait ≡ 0
  ready_here = home heap k v (λ z y. Unwaiting y → Unentering y → Untold y → ends y.log ≡ false → y.wait ≡ 0)
      (ready_unentering v.world v.objects k.thread (fits_here heap k v runs))

  pub ready_entered : Unwaiting k → is_entering k.wait ≡ false → Untold k → ends k.log ≡ false → k.wait ≡ 0
  ready_entered = home heap k v (λ z y. Unwaiting y → is_entering y.wait ≡ false → Untold y → ends y.log ≡ false → y.wait ≡ 0)
      (ready_quiet v.world v.objects k.thread (fits_here heap k v runs))

  -- the lowest free place is free
  pub free_here : free_place k.holds < most_holds → IsFree k (free_place k.holds)
  free_here h = record { place = h; empty = empty_here heap k v runs h }

  pub limits_here : IsInLimits heap.shape
  limits_here = home heap k v (λ z y. IsInLimits z) (fits_here heap k v runs).limits
