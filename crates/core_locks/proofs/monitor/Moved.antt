-- A monitor moves from one place to another, and each other is where it was. A thread takes something in hand, and the others have in hand what they had.
use Rattle.core_locks.proofs.Prelude.{◌≡◌, ◌≢◌, ℕ, ◌+◌, ◌<◌, ◌==◌, eq-eqb, ne_eqb, true, false, cond, List, Option, refl, sym, ap, ◌∙◌}
use Rattle.core_locks.proofs.Prelude.{is_some, PlainObject, ThreadView, Fetches, Returns, World, with_known, Fits, MovesFit}
use Rattle.core_locks.proofs.Prelude.{count_with_monitor, by_equal, each_with_known, with_known_here, with_known_else}
use Rattle.core_world.specs.Clauses.Claims.{Place}
use Rattle.core_locks.proofs.monitor.Places.{with_same, with_more}

-- MONITOR m MOVES from one place to another
abbrev pub moved : (ℕ → Place) → ℕ → Place → ℕ → Place
moved place m to a = cond (a == m) to (place a)

pub record Moves (place : ℕ → Place) (m : ℕ) (from to : Place) : Type 0 where
  pub place_here : (a : ℕ) → a ≡ m → moved place m to a ≡ to
  pub place_else : (a : ℕ) → a ≢ m → moved place m to a ≡ place a
  -- a monitor that is elsewhere is another, and stays there
  pub stays_at : (a : ℕ) (q : Place) → place a ≡ q → (from ≡ q → ⊥) → moved place m to a ≡ q
  -- and one that is afterwards elsewhere than m was there
  pub was_at : (a : ℕ) (q : Place) → moved place m to a ≡ q → (to ≡ q → ⊥) → (a ≢ m) × (place a ≡ q)

pub moves_from : (place : ℕ → Place) (m : ℕ) (from to : Place) → place m ≡ from → Moves place m from to
moves_from place m from to was = record {
  place_here = here;
  place_else = else;
  stays_at = λ a q h other. else a (λ s. other (sym was ∙ ap place (sym s) ∙ h)) ∙ h;
  was_at = λ a q h other. by_equal a m (λ s. absurd (other (sym (here a s) ∙ h))) (λ d. (d, sym (else a d) ∙ h));
}
  where
    here : (a : ℕ) → a ≡ m → moved place m to a ≡ to
    here a s = ap (λ b. cond b to (place a)) (eq-eqb a m s)

    else : (a : ℕ) → a ≢ m → moved place m to a ≡ place a
    else a d = ap (λ b. cond b to (place a)) (ne_eqb a m d)

-- WHAT THREADS HAVE IN HAND, where thread t knows l afterwards
module _ (w : World) (t : ℕ) (l : ThreadView) where
  pub moving_here : (with_known t l w.known t).moving ≡ l.moving
  moving_here = ap (λ (k : ThreadView). k.moving) (with_known_here t l w.known)

  pub moving_else : (u : ℕ) → u ≢ t → (with_known t l w.known u).moving ≡ (w.known u).moving
  moving_else u d = ap (λ (k : ThreadView). k.moving) (with_known_else t l w.known u d)

  pub moves_law : (P : List PlainObject) → ((p : ℕ) → l.moving ≡ Fetches p → (w.known t).running ≡ true)
      → ((m : ℕ) → l.moving ≡ Returns m → (w.known t).reached ≡ true) → Fits w P
      → MovesFit (λ u. (w.known u).running) (λ u. (w.known u).reached) (λ u. (with_known t l w.known u).moving)
  moves_law P runs reached v = record {
    runs = λ u p. each_with_known (λ u y. y.moving ≡ Fetches p → (w.known u).running ≡ true) t l w.known u (runs p) (λ d. v.moves.runs u p);
    reaches = λ u m. each_with_known (λ u y. y.moving ≡ Returns m → (w.known u).reached ≡ true) t l w.known u (reached m) (λ d. v.moves.reaches u m);
  }

  -- how many have a monitor: as many, one more or one fewer
  module _ (n : ℕ) (has : ℕ → ThreadView → Option ℕ) where
    abbrev before : ℕ → Option ℕ
    before u = has u (w.known u)

    abbrev after : ℕ → Option ℕ
    after u = has u (with_known t l w.known u)

    here_is : is_some (after t) ≡ is_some (has t l)
    here_is = ap (λ k. is_some (has t k)) (with_known_here t l w.known)

    else_is : (u : ℕ) → u ≢ t → is_some (after u) ≡ is_some (before u)
    else_is u d = ap (λ k. is_some (has u k)) (with_known_else t l w.known u d)

    pub as_many : is_some (has t l) ≡ is_some (before t) → count_with_monitor n after ≡ count_with_monitor n before
    as_many same = with_same n before after (λ u d. each_with_known (λ u y. is_some (has u y) ≡ is_some (before u)) t l w.known u same (λ d. refl))

    pub one_more : t < n → is_some (before t) ≡ false → is_some (has t l) ≡ true → count_with_monitor n after ≡ count_with_monitor n before + 1
    one_more within none some = with_more n t before after within none (here_is ∙ some) else_is

    pub one_fewer : t < n → is_some (before t) ≡ true → is_some (has t l) ≡ false → count_with_monitor n before ≡ count_with_monitor n after + 1
    one_fewer within some none = with_more n t after before within (here_is ∙ none) some (λ u d. sym (else_is u d))
