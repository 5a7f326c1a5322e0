-- What a thread that holds an object, whose mark has no bias pattern, may count on when it leaves.
use Rattle.std.proofs.Common.{◌≡◌, ◌≢◌, ◌⊎◌, ℕ, ◌≤◌, ◌||◌, Bool, true, false, List, slice_index, Option, Some, None, refl, sym, ap, ◌∙◌, subst, arith, inl, inr}
use Rattle.std.proofs.lemmas.Option.{same_Some}
use Rattle.mark_word.specs.declared.mark.MarkForm.{MarkForm}
use Rattle.mark_word.specs.declared.mark.MarkForm.TheVariants.{Inflating, Neutral, Anonymous, Biased, Locked, Inflated, Marked}
use Rattle.mark_word.specs.declared.owner.OwnerForm.{OwnerForm}
use Rattle.mark_word.specs.declared.owner.OwnerForm.TheVariants.{Free, ByThread, ByRecord}
use Rattle.mark_word.specs.Mark.{read_mark}
use Rattle.mark_word.specs.Owner.{read_owner}
use Rattle.plain_monitor.specs.Limits.{most_holds}
use Rattle.plain_monitor.specs.Objects.{PlainObject}
use Rattle.core_world.specs.declared.stage.Stage.TheVariants.{Settled}
use Rattle.core_world.specs.Words.Forms.{is_neutral, is_neutral_form, is_biased, is_biased_form, hold_word}
use Rattle.core_world.specs.Threads.Stages.{Inflation, bears}
use Rattle.core_world.specs.Locks.{Lock, Open, BiasedTo, OnRecord, OwnedBy, record_lock, owner_lock, lock}
use Rattle.core_world.specs.Locks.{lock_form, holder, who, marks, displaced_words, hold_count, owner_at}
use Rattle.core_world.specs.Valid.{Fits}
use Rattle.core_world.specs.Clauses.WordForms.{IsMark}
use Rattle.core_world.specs.World.{World}
use Rattle.core_world.proofs.KnowledgeParts.{by_equal}
use Rattle.core_world.proofs.Readings.{mark_zero}
use Rattle.core_world.proofs.enter_exit.OwnersShown.{lock_by_form}
use Rattle.core_world.proofs.enter_exit.ObjectHolds.{thread_is}
use Rattle.core_locks.specs.Knowing.{IsOut}
use Rattle.core_locks.proofs.enter_exit.HoldCounts.{hold_tells}
use Rattle.core_locks.proofs.monitor.OwnerTurns.{rest_hold, rest_place}
use Rattle.core_locks.proofs.WaitOut.{holder_owns}

-- a lock leans where the mark has the bias pattern
leans_biased : (f : Option MarkForm) (prototype : ℕ) (owners : ℕ → ℕ) (named : Option Inflation) (t : ℕ)
    → lock_form f prototype owners named ≡ BiasedTo t → is_biased_form f ≡ true
leans_biased (Some Inflating) a b c t e = absurd (cases c e)
  where
    cases : (i : Option Inflation) → record_lock i ≡ BiasedTo t → ⊥
    cases None e = cc e
    cases (Some i) e = cc e
leans_biased (Some (Anonymous epoch age)) a b c t e = refl
leans_biased (Some (Biased u epoch age)) a b c t e = refl
leans_biased (Some (Inflated m)) a b c t e = absurd (cases (read_owner (b m)) e)
  where
    cases : (f : Option OwnerForm) → owner_lock f ≡ BiasedTo t → ⊥
    cases None e = cc e
    cases (Some Free) e = cc e
    cases (Some (ByThread u)) e = cc e
    cases (Some (ByRecord u p)) e = cc e
leans_biased _ a b c t e = absurd (cc e)

zero_no_header : (n : ℕ) → n ≡ 0 → is_neutral n ≡ true → ⊥
zero_no_header n e h = let a : is_neutral n ≡ false = ap is_neutral e ∙ ap is_neutral_form mark_zero in cc (a, h)

-- the forms in which a thread with n holds, the deepest at place q, finds the mark when it leaves
abbrev pub OnExit : ℕ → ℕ → ℕ → Option MarkForm → Type 0
OnExit t q n (Some Inflating) = Unit {0}
OnExit t q n (Some (Locked u p)) = (u ≡ t) × (p ≡ q) × (n ≡ 1)
OnExit t q n (Some (Inflated m)) = Unit {0}
OnExit t q n _ = ⊥

module _ (w : World) (P : List PlainObject) (t o : ℕ) (v : Fits w P) (calm : (w.known t).stage ≡ Settled)
    (out : IsOut (w.known t)) (holds : 1 ≤ hold_count o (w.known t).holds) where
  pub owner_here : owner_at P o t ≡ true
  owner_here = (holder_owns w P t v out o calm holds).0

  pub who_here : who w o ≡ Some t
  who_here = thread_is (who w o) t (v.owners.same o t ∙ ap (λ (b : Bool). b || bears (w.known t).stage o) owner_here)

  pub unopen : lock w o ≡ Open → ⊥
  unopen e = let a : who w o ≡ None = ap (λ l. holder l (λ u. hold_count o (w.known u).holds)) e in let b = who_here in cc (a, b)

  has_lock : is_biased (marks w o) ≡ false → ((p : ℕ) × (lock w o ≡ OnRecord t p)) ⊎ (lock w o ≡ OwnedBy t)
  has_lock unbiased = cases (lock w o) refl
    where
      cases : (l : Lock) → lock w o ≡ l → ((p : ℕ) × (lock w o ≡ OnRecord t p)) ⊎ (lock w o ≡ OwnedBy t)
      cases Open e = absurd (unopen e)
      cases (BiasedTo u) e = let b = leans_biased (read_mark (marks w o)) _ _ _ u e in absurd (cc (b, unbiased))
      cases (OnRecord u p) e =
          let a : Some u ≡ Some t = sym (ap (λ l. holder l (λ u. hold_count o (w.known u).holds)) e) ∙ who_here in
          inl (p, e ∙ ap (λ z. OnRecord z p) (same_Some _ _ a))
      cases (OwnedBy u) e =
          let a : Some u ≡ Some t = sym (ap (λ l. holder l (λ u. hold_count o (w.known u).holds)) e) ∙ who_here in
          inr (e ∙ ap OwnedBy (same_Some _ _ a))

  -- the only hold has a displaced word
  pub covered : (p : ℕ) → is_biased (marks w o) ≡ false → slice_index (w.known t).holds p ≡ hold_word o 1 → displaced_words w t p ≡ 0 → ⊥
  covered p unbiased e none = elim (has_lock unbiased) [
    | inl a ↦ zero_no_header (displaced_words w t p) none
        (subst (λ q. is_neutral (displaced_words w t q) ≡ true) (sym (rest_place w P t o a.0 v a.1 calm p e)) (v.records.header o t a.0 a.1))
    | inr a ↦ elim (v.recursions.first o t p (inl a) e) [
      | inl b ↦ zero_no_header (displaced_words w t p) none b
      | inr b ↦ let c : 0 ≡ 3 = sym none ∙ b in absurd (omega (arith, c))
    ]
  ]

  -- a mark that names a record names this one, and it is the only hold
  pub names_mine : (u p q : ℕ) → read_mark (marks w o) ≡ Some (Locked u p)
      → slice_index (w.known t).holds q ≡ hold_word o (hold_count o (w.known t).holds) → hold_count o (w.known t).holds ≤ most_holds
      → displaced_words w t q ≢ 0 → (u ≡ t) × (p ≡ q) × (hold_count o (w.known t).holds ≡ 1)
  names_mine u p q reads e few some =
      let rests : lock w o ≡ OnRecord u p = lock_by_form w o (Locked u p) reads in
      let a : Some u ≡ Some t = sym (ap (λ l. holder l (λ z. hold_count o (w.known z).holds)) rests) ∙ who_here in
      let mine : u ≡ t = same_Some _ _ a in
      let rests_here : lock w o ≡ OnRecord t p = rests ∙ ap (λ z. OnRecord z p) mine in
      let first = rest_hold w P t o p v rests_here calm in
      let same : p ≡ q = by_equal q p (λ s. sym s) (λ n. absurd (some (v.records.others o t p q (hold_count o (w.known t).holds) rests_here e few n))) in
      let words : hold_word o (hold_count o (w.known t).holds) ≡ hold_word o 1 = sym e ∙ ap (slice_index (w.known t).holds) (sym same) ∙ first in
      (mine, same, (hold_tells o (hold_count o (w.known t).holds) o 1 few (omega arith) words).1)

  pub on_exit : (q : ℕ) → is_biased (marks w o) ≡ false
      → slice_index (w.known t).holds q ≡ hold_word o (hold_count o (w.known t).holds) → hold_count o (w.known t).holds ≤ most_holds
      → displaced_words w t q ≢ 0 → OnExit t q (hold_count o (w.known t).holds) (read_mark (marks w o))
  on_exit q unbiased e few some = cases (read_mark (marks w o)) refl (v.forms.marks o) unbiased
    where
      cases : (f : Option MarkForm) → read_mark (marks w o) ≡ f → IsMark w.shape f → is_biased_form f ≡ false → OnExit t q (hold_count o (w.known t).holds) f
      cases None r h u = h
      cases (Some Inflating) r h u = tt
      cases (Some (Neutral hash age)) r h u = unopen (lock_by_form w o (Neutral hash age) r)
      cases (Some (Anonymous epoch age)) r h u = cc u
      cases (Some (Biased z epoch age)) r h u = cc u
      cases (Some (Locked z p)) r h u = names_mine z p q r e few some
      cases (Some (Inflated m)) r h u = tt
      cases (Some Marked) r h u = h
