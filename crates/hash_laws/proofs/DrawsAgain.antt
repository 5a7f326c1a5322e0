-- What a check asks of hashes makes them draws of generators.
use Rattle.std.proofs.Common.{◌≡◌, ◌⊎◌, inl, inr, ℕ, ◌+◌, ◌==◌, ◌&&◌, ◌||◌, not, cond, Bool, true, false, List}
use Rattle.std.proofs.Common.{[], ◌∷◌, ◌++◌, Option, Some, None, refl, sym, ap, ◌∙◌, subst, eq-eqb, eqb-true}
use Rattle.std.specs.List.{AllByRecursion}
use Rattle.std.proofs.lemmas.Bool.{and_parts, cases_eq, false≢true}
use Rattle.lock_policy.specs.Draws.{nth_value}
use Rattle.plain_monitor.specs.declared.entry.Entry.{Entry}
use Rattle.plain_monitor.specs.declared.entry.Entry.TheVariants as entry
use Rattle.plain_monitor.specs.declared.entry.Logged.{Logged}
use Rattle.plain_monitor.specs.History.{RisesAbove, log_of}
use Rattle.plain_monitor.specs.Order.{of_thread, order}
use Rattle.plain_monitor.proofs.Threads.{thread_kept}
use Rattle.plain_history.specs.EnterPaths.{has_hash, is_hash}
use Rattle.plain_history.specs.FirstDraws.{DrawsComeFirst}
use Rattle.core_world.specs.Clauses.Draws.{AreDraws, IsNextDraw, draw_in, drawn_by, first_draw}
use Rattle.core_law.specs.Draws.{HasDraws}
use Rattle.lock_journal.specs.Hashes.{all_same, are_right, draws_by, first_word, has_none, hash_fits, hash_in, hashes_of, is_draw_of, is_right}
use Rattle.hash_laws.proofs.DrawsFit.{AreLeft, done_other, done_own, drawn_in_all, drawn_of, other_left, own_left}

-- HASHES
-- an entry that is a hash of o has a value among the hashes of o
has_value : (o : ℕ) (e : Entry) → is_hash o e ≡ true → (v : ℕ) × (hash_in o e ≡ Some v)
has_value o (entry.Hash object value drawn) h = (value, rw h refl)
has_value o e h = absurd (false≢true h)

seen_here : (o : ℕ) (x : ℕ × Logged) (xs : List (ℕ × Logged)) → is_hash o x.1.entry ≡ true → has_none (hashes_of o (x ∷ xs)) ≡ false
seen_here o x xs h = let r = has_value o x.1.entry h in rw r.1 refl

seen_later : (o : ℕ) (x : ℕ × Logged) (xs : List (ℕ × Logged)) → has_none (hashes_of o xs) ≡ false → has_none (hashes_of o (x ∷ xs)) ≡ false
seen_later o x xs h = by_entry (hash_in o x.1.entry) refl
  where
    by_entry : (a : Option ℕ) → hash_in o x.1.entry ≡ a → has_none (hashes_of o (x ∷ xs)) ≡ false
    by_entry None is = rw is h
    by_entry (Some v) is = rw is refl

-- what a thread logged is among all
seen_in : (o t : ℕ) (xs : List (ℕ × Logged)) → has_hash o (of_thread t xs) ≡ true → has_none (hashes_of o xs) ≡ false
seen_in o t [] h = absurd (false≢true h)
seen_in o t (x ∷ xs) h = by_test (x.0 == t) h (seen_in o t xs)
  where
    at_head : (b : Bool) → is_hash o x.1.entry ≡ b → (b || has_hash o (of_thread t xs)) ≡ true
        → (has_hash o (of_thread t xs) ≡ true → has_none (hashes_of o xs) ≡ false)
        → has_none (hashes_of o (x ∷ xs)) ≡ false
    at_head true is g others = seen_here o x xs is
    at_head false is g others = seen_later o x xs (others g)

    by_test : (b : Bool) → has_hash o (cond b (x.1 ∷ of_thread t xs) (of_thread t xs)) ≡ true
        → (has_hash o (of_thread t xs) ≡ true → has_none (hashes_of o xs) ≡ false)
        → has_none (hashes_of o (x ∷ xs)) ≡ false
    by_test true g others = at_head (is_hash o x.1.entry) refl g others
    by_test false g others = seen_later o x xs (others g)

-- DRAWS
draw_is_hash : (o : ℕ) (e : Entry) → is_draw_of o e ≡ true → is_hash o e ≡ true
draw_is_hash o (entry.Hash object value (Some number)) h = h
draw_is_hash o (entry.Hash object value None) h = absurd (false≢true h)
draw_is_hash o e h = absurd (false≢true h)

-- where there is no hash of o, there is no draw of it that is wrong
none_wrong : (start o : ℕ) (done left : List (ℕ × Logged)) → has_none (hashes_of o left) ≡ true → are_right start o done left ≡ true
none_wrong start o done [] h = refl
none_wrong start o done (x ∷ xs) h = by_draw (is_draw_of o x.1.entry) refl (λ k. none_wrong start o (done ++ x ∷ []) xs k)
  where
    rest : (b : Bool) → has_none (hashes_of o xs) ≡ b → has_none (hashes_of o xs) ≡ true
    rest true is = is
    rest false is = absurd (false≢true (sym (seen_later o x xs is) ∙ h))

    by_draw : (b : Bool) → is_draw_of o x.1.entry ≡ b → (has_none (hashes_of o xs) ≡ true → are_right start o (done ++ x ∷ []) xs ≡ true)
        → ((not b || is_right start x.0 (draws_by x.0 done) x.1.entry) && are_right start o (done ++ x ∷ []) xs) ≡ true
    by_draw true is others = absurd (false≢true (sym (seen_here o x xs (draw_is_hash o x.1.entry is)) ∙ h))
    by_draw false is others = others (rest (has_none (hashes_of o xs)) refl)

right_is_next : (start t n : ℕ) (e : Entry) → ((o : ℕ) → (not (is_draw_of o e) || is_right start t n e) ≡ true) → IsNextDraw (first_draw start t) n (draw_in e)
right_is_next start t n (entry.Hash object value (Some number)) h =
    let right : is_right start t n (entry.Hash object value (Some number)) ≡ true = rw (eq-eqb object object refl) at (h object) in
    let parts = and_parts (number == n + 1) (value == nth_value (first_word start t) number) right in
    let same = eqb-true number (n + 1) parts.0 in
    (same, eqb-true value (nth_value (first_word start t) number) parts.1 ∙ ap (nth_value (first_word start t)) same)
right_is_next start t n (entry.Hash object value None) h = tt
right_is_next start t n e h = tt

are_left : (start t : ℕ) (done left : List (ℕ × Logged)) → ((o : ℕ) → are_right start o done left ≡ true) → AreLeft start t done left
are_left start t done [] h = tt
are_left start t done (x ∷ xs) h = by_thread (cases_eq x.0 t) (are_left start t (done ++ x ∷ []) xs (λ o. (parts o).1))
  where
    parts : (o : ℕ) → ((not (is_draw_of o x.1.entry) || is_right start x.0 (draws_by x.0 done) x.1.entry) ≡ true)
        × (are_right start o (done ++ x ∷ []) xs ≡ true)
    parts o = and_parts (not (is_draw_of o x.1.entry) || is_right start x.0 (draws_by x.0 done) x.1.entry) (are_right start o (done ++ x ∷ []) xs) (h o)

    next : x.0 ≡ t → IsNextDraw (first_draw start t) (draws_by t done) (draw_in x.1.entry)
    next is =
        subst (λ u. IsNextDraw (first_draw start u) (draws_by u done) (draw_in x.1.entry)) is
        (right_is_next start x.0 (draws_by x.0 done) x.1.entry (λ o. (parts o).0))

    by_thread : (x.0 ≡ t) ⊎ (x.0 ≡ t → ⊥) → AreLeft start t (done ++ x ∷ []) xs → AreLeft start t done (x ∷ xs)
    by_thread (inl is) others =
        let after : AreDraws (first_draw start t) (drawn_by (draw_in x.1.entry) + draws_by t done) (of_thread t xs) =
        subst (λ n. AreDraws (first_draw start t) n (of_thread t xs)) (done_own t done x is) others in
        subst (AreDraws (first_draw start t) (draws_by t done)) (sym (own_left t x xs is)) (next is, after)
    by_thread (inr other) others =
        subst (AreDraws (first_draw start t) (draws_by t done)) (sym (other_left t x xs other))
        (subst (λ n. AreDraws (first_draw start t) n (of_thread t xs)) (done_other t done x other) others)

or_right : (a b : Bool) → a ≡ false → (a || b) ≡ true → b ≡ true
or_right true b none h = absurd (false≢true (sym none))
or_right false b none h = h

module _ (start : ℕ) (logs : List (List Logged)) (rises : AllByRecursion (RisesAbove 0) logs) (fits : (o : ℕ) → hash_fits start (order logs) o ≡ true) where
  abbrev AllFit : ℕ → Type 0
  AllFit o = (drawn_of o (order logs) ≡ 1) × (are_right start o [] (order logs) ≡ true)

  where_seen : (o : ℕ) → has_none (hashes_of o (order logs)) ≡ false → AllFit o
  where_seen o seen =
      let both = or_right (has_none (hashes_of o (order logs)))
      (all_same (hashes_of o (order logs)) && (drawn_of o (order logs) == 1) && are_right start o [] (order logs)) seen (fits o) in
      let front = and_parts (all_same (hashes_of o (order logs)) && (drawn_of o (order logs) == 1)) (are_right start o [] (order logs)) both in
      (eqb-true (drawn_of o (order logs)) 1 (and_parts (all_same (hashes_of o (order logs))) (drawn_of o (order logs) == 1) front.0).1, front.1)

  right : (o : ℕ) → are_right start o [] (order logs) ≡ true
  right o = by_test (has_none (hashes_of o (order logs))) refl
    where
      by_test : (b : Bool) → has_none (hashes_of o (order logs)) ≡ b → are_right start o [] (order logs) ≡ true
      by_test true none = none_wrong start o [] (order logs) none
      by_test false seen = (where_seen o seen).1

  -- each thread's draws are its generator's
  pub are_drawn : (t : ℕ) → AreDraws (first_draw start t) 0 (log_of logs t)
  are_drawn t = subst (AreDraws (first_draw start t) 0) (thread_kept logs t rises) (are_left start t [] (order logs) right)

  pub has_draws : DrawsComeFirst logs → HasDraws start logs
  has_draws first =
      record {
        drawn = are_drawn;
        one = λ o t h.
            sym (drawn_in_all o logs)
            ∙ (where_seen o (seen_in o t (order logs) (ap (has_hash o) (thread_kept logs t rises) ∙ h))).0;
        first = first;
      }
