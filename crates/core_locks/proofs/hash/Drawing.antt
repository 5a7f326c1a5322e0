-- The draws in the logs, when a thread logs an entry.
use Rattle.core_locks.proofs.Prelude.{◌≡◌, ℕ, zero, suc, ◌+◌, ◌<◌, ◌==◌, cond, List, [], ◌∷◌, ◌++◌, length, Some, None, refl, sym, ap}
use Rattle.core_locks.proofs.Prelude.{◌∙◌, subst, arith, PlainObject, Logged, appended, Entry, Hash, bound_to, ThreadView, World, with_known}
use Rattle.core_locks.proofs.Prelude.{logs, logs_from, hash_at, draws_after, Fits, DrawsFit, drawn_by, draw_in, first_draw, drawn_for}
use Rattle.core_locks.proofs.Prelude.{all_draws, IsNextDraw, AreDraws, draws_in, draws_for, Log, each_with_known, logs_length}
use Rattle.core_locks.proofs.Logging.{IsLogging, logs_are}

-- an entry that is bound to an object is no hash
pub bound_undrawn : (e : Entry) (o : ℕ) → bound_to e ≡ Some o → draw_in e ≡ None
bound_undrawn (Hash i v d) o h = absurd (cc h)
bound_undrawn _ o h = refl

-- a step that logs an entry counts its draw
pub draws_counted : (e : Entry) (d : ℕ) → draws_after (Log e) d ≡ d + drawn_by (draw_in e)
draws_counted (Hash i v (Some n)) d = refl
draws_counted (Hash i v None) d = omega arith
draws_counted _ d = omega arith

-- a log, and all logs, with one entry more
draws_more : (log : List Logged) (y : Logged) → draws_in (log ++ y ∷ []) ≡ draws_in log + drawn_by (draw_in y.entry)
draws_more [] y = omega arith
draws_more (l ∷ log) y = let a = draws_more log y in omega (arith, a)

for_more : (o : ℕ) (log : List Logged) (y : Logged) → draws_for o (log ++ y ∷ []) ≡ draws_for o log + drawn_for o (draw_in y.entry)
for_more o [] y = omega arith
for_more o (l ∷ log) y = let a = for_more o log y in omega (arith, a)

pub all_more : (o t : ℕ) (all : List (List Logged)) (y : Logged) → t < length all
    → all_draws o (appended all t y) ≡ all_draws o all + drawn_for o (draw_in y.entry)
all_more o t [] y h = absurd (omega arith)
all_more o zero (log ∷ all) y h = let a = for_more o log y in omega (arith, a)
all_more o (suc t) (log ∷ all) y h = let a = all_more o t all y (omega arith) in omega (arith, a)

are_more : (first n : ℕ) (log : List Logged) (y : Logged) → AreDraws first n log
    → IsNextDraw first (draws_in log + n) (draw_in y.entry) → AreDraws first n (log ++ y ∷ [])
are_more first n [] y h g = let same : 0 + n ≡ n = omega arith in (subst (λ k. IsNextDraw first k (draw_in y.entry)) same g, tt)
are_more first n (l ∷ log) y h g =
    let same : drawn_by (draw_in l.entry) + draws_in log + n ≡ draws_in log + (drawn_by (draw_in l.entry) + n) = omega arith in
    (h.0, are_more first (drawn_by (draw_in l.entry) + n) log y h.1 (subst (λ k. IsNextDraw first k (draw_in y.entry)) same g))

module _ (w : World) (P Q : List PlainObject) (t : ℕ) (y : Logged) (l : ThreadView) (v : Fits w P)
    (a : IsLogging w P Q t y l) (counts : l.draws ≡ (w.known t).draws + drawn_by (draw_in y.entry)) where
  -- the entry may be the next draw of its thread, of an object that had no hash
  pub draws_next : (hash : ℕ → ℕ) → IsNextDraw (first_draw w.start t) (w.known t).draws (draw_in y.entry)
      → ((o : ℕ) → cond (hash o == 0) 0 1 ≡ cond (hash_at P o == 0) 0 1 + drawn_for o (draw_in y.entry))
      → DrawsFit w.start (logs_from 0 w.shape.threads (with_known t l w.known))
      (λ u. (with_known t l w.known u).log) (λ u. (with_known t l w.known u).draws) hash
  draws_next hash next_one one = record {
    drawn = λ u. each_with_known (λ u k. AreDraws (first_draw w.start u) 0 k.log) t l w.known u
        (let n : (w.known t).draws ≡ draws_in (w.known t).log + 0 = (let b = v.draws.counted t in omega (arith, b)) in
        subst (AreDraws (first_draw w.start t) 0) (sym a.grows)
        (are_more (first_draw w.start t) 0 (w.known t).log y (v.draws.drawn t) (subst (λ k. IsNextDraw (first_draw w.start t) k (draw_in y.entry)) n next_one)))
        (λ d. v.draws.drawn u);
    counted = λ u. each_with_known (λ u k. k.draws ≡ draws_in k.log) t l w.known u
        (let b = v.draws.counted t in let c = ap draws_in a.grows in let d = draws_more (w.known t).log y in omega (arith, b, c, d, counts))
        (λ d. v.draws.counted u);
    one = λ o.
        let many : t < length (logs w) = (let b = logs_length 0 w.shape.threads w.known in omega (arith, b, a.within)) in
        let b = ap (all_draws o) (logs_are w P Q t y l v a) ∙ all_more o t (logs w) y many in
        omega (arith, b, v.draws.one o, one o);
  }

  -- or none
  pub draws_still : draw_in y.entry ≡ None → DrawsFit w.start (logs_from 0 w.shape.threads (with_known t l w.known))
      (λ u. (with_known t l w.known u).log) (λ u. (with_known t l w.known u).draws) (hash_at P)
  draws_still none =
      draws_next (hash_at P) (subst (IsNextDraw (first_draw w.start t) (w.known t).draws) (sym none) tt)
      (λ o. let e = ap (drawn_for o) none in omega (arith, e))
