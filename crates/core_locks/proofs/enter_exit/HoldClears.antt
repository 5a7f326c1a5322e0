-- The hold words of a thread once it has cleared that of o at depth d, at its place p, and what its clauses say then.
use Rattle.core_locks.proofs.Prelude.{◌≡◌, ◌≢◌, ◌⊎◌, ℕ, ◌+◌, ◌<◌, ◌≤◌, ◌^◌, ◌==◌, ◌&&◌, nat_lt, ne_eqb, eqb-true, Bool, true, false, cond}
use Rattle.core_locks.proofs.Prelude.{List, length, slice_index, slice_set, Some, None, refl, sym, ap, ◌∙◌, arith, inl, inr, is_listed}
use Rattle.core_locks.proofs.Prelude.{Stage, Settled, RecordLocked, hold_word, recursions_ahead, recursions_lowered, one_if, Lock, BiasedTo}
use Rattle.core_locks.proofs.Prelude.{OnRecord, OwnedBy, holder, hold_count, depth_count, recursion_count, by_equal, hold_some}
use Rattle.std.proofs.lemmas.List.{get_or-set_same, get_or-set_other}
use Rattle.plain_monitor.specs.Limits.{most_holds}
use Rattle.core_locks.proofs.ByThread.{RecordsOf, RecursionsOf}
use Rattle.core_locks.proofs.enter_exit.HoldCounts.{index_past, named_clear, times_clear, again_clear, hold_tells}
use Rattle.core_locks.proofs.enter_exit.HoldSets.{next_one}
use Rattle.core_locks.proofs.Steps.{IsPlain}

-- who has the lock still has it where another has a hold word less
pub holder_less : (f : Lock) (c e : ℕ → ℕ) (t : ℕ) → c t ≢ 0 → (holder f c ≡ Some t → ⊥) → ((z : ℕ) → z ≢ t → e z ≡ c z) → holder f e ≡ holder f c
holder_less (BiasedTo z) c e t h d s =
    by_equal z t
    (λ q. absurd (d (ap (λ (b : Bool). cond b None (Some z)) (ap (λ y. c y == 0) q ∙ ne_eqb (c t) 0 h) ∙ ap Some q)))
    (λ n. ap (λ y. cond (y == 0) None (Some z)) (s z n))
holder_less _ c e t h d s = refl

-- the place has that hold word, whose object and depth can be spelled
pub record IsFull (old : List ℕ) (o d p : ℕ) : Type 0 where
  pub few : o < 2 ^ 15
  pub some : 1 ≤ d
  pub small : d ≤ 64
  pub full : slice_index old p ≡ hold_word o d

module _ (old : List ℕ) (o d p : ℕ) (is : IsFull old o d p) where
  abbrev new : List ℕ
  new = slice_set old p 0

  pub inside : p < length old
  inside = index_past old p (λ z. hold_some o d (sym is.full ∙ z))

  -- each hold word that stands afterwards stood there before
  pub cleared_back : (q i e : ℕ) → slice_index new q ≡ hold_word i e → slice_index old q ≡ hold_word i e
  cleared_back q i e g =
      by_equal q p
      (λ s. absurd (hold_some i e (sym g ∙ ap (slice_index new) s ∙ get_or-set_same old p 0 0 inside)))
      (λ s. sym (get_or-set_other old p q 0 0 s) ∙ g)

  -- and each that stood before, but the one that was cleared, stands afterwards
  cleared_forth : (q i e : ℕ) → e ≤ 64 → slice_index old q ≡ hold_word i e → ((q ≡ p) × (o ≡ i) × (d ≡ e)) ⊎ (slice_index new q ≡ hold_word i e)
  cleared_forth q i e h g =
      by_equal q p
      (λ s. let r = hold_tells o d i e is.small h (sym is.full ∙ ap (slice_index old) (sym s) ∙ g) in inl (s, r.0, r.1))
      (λ s. inr (get_or-set_other old p q 0 0 s ∙ g))

  pub named_less : (i : ℕ) → hold_count i new + one_if (o == i) ≡ hold_count i old
  named_less = named_clear old p o d is.few is.some is.small is.full

  pub again_less : (i : ℕ) (f : ℕ → ℕ) → recursion_count i f new + one_if (((o == i) && nat_lt 1 d) && (f p == 3)) ≡ recursion_count i f old
  again_less = again_clear old p o d is.few is.some is.small is.full

  -- where the deepest is cleared, each depth up to the number of those that are left still stands once
  pub times_less : hold_count o old ≡ d → ((i e : ℕ) → e < most_holds → depth_count i (e + 1) old ≡ one_if (nat_lt e (hold_count i old)))
      → (i e : ℕ) → e < most_holds → depth_count i (e + 1) new ≡ one_if (nat_lt e (hold_count i new))
  times_less deep was i e h = go (o == i) refl (times_clear old p o d is.few is.some is.small is.full i e h) (named_less i)
    where
      go : (b : Bool) → (o == i) ≡ b → depth_count i (e + 1) new + one_if (b && (d == e + 1)) ≡ depth_count i (e + 1) old
          → hold_count i new + one_if b ≡ hold_count i old
          → depth_count i (e + 1) new ≡ one_if (nat_lt e (hold_count i new))
      go true q a c =
          let whole : d ≡ hold_count i new + 1 = sym deep ∙ ap (λ j. hold_count j old) (eqb-true o i q) ∙ sym c in
          let one = ap (λ n. one_if (n == e + 1)) whole in
          let before = was i e h ∙ ap (λ n. one_if (nat_lt e n)) (sym c) in
          omega (arith, a, one, before, next_one e (hold_count i new))
      go false q a c = omega (arith, a) ∙ was i e h ∙ ap (λ n. one_if (nat_lt e n)) (let same : hold_count i old ≡ hold_count i new = omega (arith, c) in same)

  -- THE CLAUSES of the thread, which is calm afterwards, and stood where it hadn't just seized a mark. Its record isn't one on which a lock rests,
  -- unless it has another hold.
  pub records_less : {lock : ℕ → Lock} {t : ℕ} {stage : Stage} {displaced : ℕ → ℕ}
      → ((i q : ℕ) → stage ≡ RecordLocked i q → ⊥) → (d ≡ 1 → lock o ≡ OnRecord t p → ⊥)
      → RecordsOf lock t old stage displaced → RecordsOf lock t new Settled displaced
  records_less {lock} {t} unseized rests h = record {
    first = λ i q f. elim (h.first i q f) [
      | inl a ↦ elim (cleared_forth q i 1 (omega arith) a) [ inl b ↦ absurd (rests b.2 (ap lock b.1 ∙ f ∙ ap (OnRecord t) b.0)) | inr b ↦ inl b ]
      | inr a ↦ absurd (unseized i q a)
    ];
    header = h.header;
    others = λ i q r k f g. h.others i q r k f (cleared_back r i k g);
    seized = λ i q c. absurd (cc c);
    grabbed = λ i c. absurd (cc c);
  }

  -- where the thread has the lock through the monitor, it had lowered recursions exactly where they counted its record
  pub recursions_less : {mark recursions : ℕ → ℕ} {lock : ℕ → Lock} {t : ℕ} {stage : Stage} {saved : ℕ} {displaced : ℕ → ℕ} {waits called : ℕ → List (ℕ × ℕ)}
      → IsPlain stage
      → ((i : ℕ) → recursions_ahead stage i ≡ 0)
      → ((i : ℕ) → lock i ≡ OwnedBy t → one_if (((o == i) && nat_lt 1 d) && (displaced p == 3)) ≡ recursions_lowered stage i)
      → ((i : ℕ) → (is_listed (waits i) t ≡ true) ⊎ (is_listed (called i) t ≡ true) → saved ≡ recursion_count i displaced new)
      → RecursionsOf mark recursions lock t old stage saved displaced waits called
      → RecursionsOf mark recursions lock t new Settled saved displaced waits called
  recursions_less {displaced = displaced} plain ahead counted waiting h = record {
    first = λ i q g a. h.first i q g (cleared_back q i 1 a);
    others = λ i q k g a. h.others i q k g (cleared_back q i (k + 2) a);
    owned = λ i m n g a b. omega (arith, h.owned i m n g (plain.waits i) (plain.resumes i), again_less i displaced, counted i g, ahead i);
    waiting = waiting;
    thread_owns = λ i c. absurd (cc c);
  }
