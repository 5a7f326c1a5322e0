-- What a thread has seen at its reached safepoint is what is there, and so the cells that it makes of that are the plain owners and counts.
use Rattle.plain_monitor.specs.Limits.{most_holds}
use Rattle.core_locks.proofs.Prelude.{◌≡◌, ℕ, zero, suc, ◌+◌, ◌<◌, ◌==◌, Bool, true, false, cond, List, [], ◌∷◌, length, slice_index, Option, Some}
use Rattle.core_locks.proofs.Prelude.{None, refl, sym, ap, ◌∙◌, subst, arith, MarkForm, read_mark, PlainObject, WordId, Prototype, Mark, Hold}
use Rattle.core_locks.proofs.Prelude.{Owner, Inflation, inflation_in, last_seen, World, Lock, Open, BiasedTo, OnRecord, OwnedBy, lock_form, marks}
use Rattle.core_locks.proofs.Prelude.{owner_words, prototype_of, inflations, holder, hold_count, monitor_of, Fits, Biased, Locked, Inflated}
use Rattle.core_locks.proofs.Prelude.{OwnerForm, ByThread, ByRecord, read_owner, epoch_in, class_by, Class, ◌-◌, nat_lt, class_in_shape}
use Rattle.core_world.specs.Locks.{is_for, inflation_of, owner_lock, has_epoch, owner_and_count_by, or_zero}
use Rattle.core_world.specs.RevocationRules.{holds_in, words_from}
use Rattle.core_world.specs.Shots.{cell_in, cells_of}
use Rattle.core_world.specs.Steps.{seen_words, owner_and_count_in, cells_from}
use Rattle.core_world.proofs.enter_exit.OwnersShown.{safepoint_part, at_safepoint_shown}
use Rattle.core_locks.specs.ShotLaws.{Saw, SawHolds, SawByOwner, SawNamed, SawAll, SawClassWord, SawClassWordIf}

-- where no thread is in the middle of an inflation, no object is
no_inflation : (o n : ℕ) (f : ℕ → Option Inflation) → ((u : ℕ) → f u ≡ None) → inflation_of o n f ≡ None
no_inflation o zero f none = refl
no_inflation o (suc n) f none = ap (λ y. is_for o y (inflation_of o n f)) (none n) ∙ no_inflation o n f none

-- the n words from place p on are those of the list
pub words_are : (p n : ℕ) (f : ℕ → ℕ) (xs : List ℕ) → length xs ≡ n → ((i j : ℕ) → j ≡ p + i → i < n → f j ≡ slice_index xs i) → words_from p n f ≡ xs
words_are p zero f [] e h = refl
words_are p zero f (x ∷ xs) e h = absurd (omega (arith, e))
words_are p (suc n) f [] e h = absurd (omega (arith, e))
words_are p (suc n) f (x ∷ xs) e h =
    ap (λ y. y ∷ words_from (p + 1) n f) (h 0 p (omega arith) (omega arith))
    ∙ ap (λ ys. x ∷ ys) (words_are (p + 1) n f xs (omega (arith, e)) (λ i j s below. h (suc i) j (omega (arith, s)) (omega (arith, below))))

-- a fact of the thread that a lock names
abbrev OfThread : Lock → (ℕ → Type 0) → Type 0
OfThread Open F = Unit {0}
OfThread (BiasedTo thread) F = F thread
OfThread (OnRecord thread place) F = F thread
OfThread (OwnedBy thread) F = F thread

-- what a lock shows goes by the count of its thread alone
shown_of : (f : Lock) (c d : ℕ → ℕ) → OfThread f (λ u. c u ≡ d u) → owner_and_count_by (holder f c) c ≡ owner_and_count_by (holder f d) d
shown_of Open c d e = refl
shown_of (OnRecord thread place) c d e = ap (λ (n : ℕ). let x : Option ℕ × ℕ = (Some thread, n) in x) e
shown_of (OwnedBy thread) c d e = ap (λ (n : ℕ). let x : Option ℕ × ℕ = (Some thread, n) in x) e
shown_of (BiasedTo thread) c d e = ap (λ n. owner_and_count_by (cond (n == 0) None (Some thread)) c) e ∙ by_count (d thread == 0)
  where
    by_count : (b : Bool) → owner_and_count_by (cond b None (Some thread)) c ≡ owner_and_count_by (cond b None (Some thread)) d
    by_count true = refl
    by_count false = ap (λ (n : ℕ). let x : Option ℕ × ℕ = (Some thread, n) in x) e

module _ (w : World) (P : List PlainObject) (t : ℕ) (reached : (w.known t).reached ≡ true) (v : Fits w P) where
  abbrev f : WordId → ℕ
  f = seen_words (w.known t)

  pub word_seen : (n : WordId) (s : ℕ) → last_seen n (w.known t).seen_at_safepoint ≡ Some s → s ≡ w.words n
  word_seen n s e = sym (v.seen.stands t n s reached e)

  pub word_is : (n : WordId) → Saw (w.known t) n → f n ≡ w.words n
  word_is n saw = ap or_zero saw.1 ∙ word_seen n saw.0 saw.1

  holds_are : (u : ℕ) → SawHolds (w.known t) u → holds_in f u ≡ (w.known u).holds
  unfolding holds_in
  holds_are u saw =
      words_are 0 most_holds (λ p. f (Hold u p)) (w.known u).holds (v.holds.places u)
      (λ i j s below. let same : j ≡ i = omega (arith, s) in ap (λ p. f (Hold u p)) same ∙ word_is (Hold u i) (saw i below) ∙ v.holds.stored u i)

  counts_are : (o u : ℕ) → SawHolds (w.known t) u → hold_count o (holds_in f u) ≡ hold_count o (w.known u).holds
  counts_are o u saw = ap (hold_count o) (holds_are u saw)

  -- the lock by the words that were seen is that by the words that are there, and so is the count of its thread
  module _ (o : ℕ) where
    abbrev seen_lock : Option MarkForm → Lock
    seen_lock g = lock_form g (f (Prototype (class_by w.shape f o))) (λ m. f (Owner m)) None

    abbrev true_lock : Option MarkForm → Lock
    true_lock g = lock_form g (prototype_of w o) (owner_words w) None

    abbrev Counted : Lock → Type 0
    Counted g = OfThread g (λ u. hold_count o (holds_in f u) ≡ hold_count o (w.known u).holds)

    record SeesLock (g : Option MarkForm) : Type 0 where
      pub same : seen_lock g ≡ true_lock g
      pub counted : Counted (true_lock g)

    owner_counted : (a : Option OwnerForm) → SawByOwner a (w.known t) → Counted (owner_lock a)
    owner_counted (Some (ByThread thread)) saw = counts_are o thread saw
    owner_counted (Some (ByRecord thread place)) saw = counts_are o thread saw
    owner_counted _ saw = tt

    -- the class that was seen is that by these words, and by those that are there
    class_is : (g : WordId → ℕ) → (Saw (w.known t) (Class o) → g (Class o) ≡ w.words (Class o)) → (c : ℕ) → SawClassWord w.shape (w.known t) o c
        → class_by w.shape g o ≡ c
    class_is g same c saw = by_test (nat_lt o w.shape.declared) saw
      where
        by_test : (b : Bool) → SawClassWordIf b w.shape (w.known t) o c → cond b (class_in_shape w.shape o) (g (Class o) - 1) ≡ c
        by_test true h = sym h
        by_test false h = ap (λ n. n - 1) (same (h.0, h.1) ∙ sym (word_seen (Class o) h.0 h.1)) ∙ sym h.2

    sees_lock : (g : Option MarkForm) → SawNamed g w.shape (w.known t) o → SeesLock g
    sees_lock (Some (Biased thread epoch age)) saw =
        let of_class : w.words (Prototype saw.1) ≡ prototype_of w o = ap (λ c. w.words (Prototype c)) (sym (class_is w.words (λ h. refl) saw.1 saw.2)) in
        let is : saw.0 ≡ prototype_of w o = word_seen (Prototype saw.1) saw.0 saw.3 ∙ of_class in
        let same : f (Prototype (class_by w.shape f o)) ≡ prototype_of w o =
        ap (λ c. f (Prototype c)) (class_is f (word_is (Class o)) saw.1 saw.2) ∙ word_is (Prototype saw.1) (saw.0, saw.3) ∙ of_class in
        record {
          same = ap (λ y. lock_form (Some (Biased thread epoch age)) y (λ m. f (Owner m)) None) same;
          counted = by_epoch (has_epoch (epoch_in (prototype_of w o)) epoch) (λ e. saw.4 (ap (λ y. has_epoch (epoch_in y) epoch) is ∙ e));
        }
      where
        by_epoch : (b : Bool) → (b ≡ true → SawHolds (w.known t) thread) → Counted (cond b (BiasedTo thread) Open)
        by_epoch true h = counts_are o thread (h refl)
        by_epoch false h = tt
    sees_lock (Some (Locked thread place)) saw = record { same = refl; counted = counts_are o thread saw }
    sees_lock (Some (Inflated monitor)) saw =
        let is : saw.0 ≡ w.words (Owner monitor) = word_seen (Owner monitor) saw.0 saw.1 in
        record {
          same = ap (λ y. owner_lock (read_owner y)) (word_is (Owner monitor) (saw.0, saw.1));
          counted = owner_counted (read_owner (w.words (Owner monitor))) (subst (λ y. SawByOwner (read_owner y) (w.known t)) is saw.2);
        }
    sees_lock _ saw = record { same = refl; counted = tt }

    -- nothing is being inflated at a reached safepoint
    calm_lock : inflations w o ≡ None
    calm_lock = no_inflation o w.shape.threads (λ u. inflation_in (w.known u).stage) (λ u. safepoint_part inflation_in None refl (λ i. refl) w P t u v reached)

    pub shown_seen : (s : ℕ) → last_seen (Mark o) (w.known t).seen_at_safepoint ≡ Some s
        → SawNamed (read_mark s) w.shape (w.known t) o → owner_and_count_in w.shape f o ≡ cell_in (monitor_of P o)
    shown_seen s e saw =
        let is : s ≡ marks w o = word_seen (Mark o) s e in
        let a = sees_lock (read_mark (marks w o)) (subst (λ y. SawNamed (read_mark y) w.shape (w.known t) o) is saw) in
        let mark : f (Mark o) ≡ marks w o = word_is (Mark o) (s, e) in
        let seen = ap (λ y. owner_and_count_by (holder (seen_lock (read_mark y)) (λ u. hold_count o (holds_in f u))) (λ u. hold_count o (holds_in f u))) mark in
        let by_lock = ap (λ y. owner_and_count_by (holder y (λ u. hold_count o (holds_in f u))) (λ u. hold_count o (holds_in f u))) a.same in
        let by_count = shown_of (true_lock (read_mark (marks w o))) (λ u. hold_count o (holds_in f u)) (λ u. hold_count o (w.known u).holds) a.counted in
        let calm = ap (λ y. owner_and_count_by (holder (lock_form (read_mark (marks w o)) (prototype_of w o) (owner_words w) y)
        (λ u. hold_count o (w.known u).holds)) (λ u. hold_count o (w.known u).holds)) (sym calm_lock) in
        seen ∙ by_lock ∙ by_count ∙ calm ∙ at_safepoint_shown w P t o v reached

  cells_are : (o : ℕ) (xs : List (ℕ × ℕ)) (ys : List PlainObject) → length ys ≡ length xs
      → ((i j : ℕ) → j ≡ o + i → i < length xs → owner_and_count_in w.shape f j ≡ cell_in (monitor_of ys i))
      → cells_from o xs w.shape f ≡ cells_of ys
  cells_are o [] [] e h = refl
  cells_are o [] (y ∷ ys) e h = absurd (omega (arith, e))
  cells_are o (x ∷ xs) [] e h = absurd (omega (arith, e))
  cells_are o (x ∷ xs) (y ∷ ys) e h =
      ap (λ c. c ∷ cells_from (o + 1) xs w.shape f) (h 0 o (omega arith) (omega arith))
      ∙ ap (λ cs. cell_in y.monitor ∷ cs) (cells_are (o + 1) xs ys (omega (arith, e)) (λ i j s below. h (suc i) j (omega (arith, s)) (omega (arith, below))))

  pub cells_seen : SawAll w.shape (w.known t) → cells_from 0 w.shape.objects w.shape f ≡ cells_of P
  cells_seen saw =
      cells_are 0 w.shape.objects P v.sized
      (λ i j s below. let same : j ≡ i = omega (arith, s) in let a = saw.objects i below in ap (owner_and_count_in w.shape f) same ∙ shown_seen i a.0 a.1 a.2)
