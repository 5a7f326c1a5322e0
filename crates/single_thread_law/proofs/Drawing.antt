-- Which of a log's hashes are draws: the first of each object.
use Rattle.std.proofs.Common.{◌≡◌, ℕ, ◌==◌, not, ◌||◌, Bool, true, false, cond, eq-eqb, List, [], ◌∷◌}
use Rattle.std.proofs.Common.{◌++◌, Option, Some, None, is_some, refl, sym, ap, ◌∙◌, subst, arith}
use Rattle.std.proofs.lemmas.Bool.{false≢true, or_parts, eqb-true}
use Rattle.plain_monitor.specs.declared.entry.Entry.{Entry}
use Rattle.plain_monitor.specs.declared.entry.Entry.TheVariants as entry
use Rattle.plain_monitor.specs.declared.entry.Logged.{Logged}
use Rattle.plain_history.specs.EnterPaths.{is_hash, has_hash}
use Rattle.core_world.specs.Clauses.Draws.{draw_in, drawn_for, draws_for}
use Rattle.core_world.specs.Threads.Stages.{one_if}
use Rattle.plain_history.specs.FirstDraws.{DrawsComeFirst}

-- the objects of which a hash was logged, with this entry
abbrev pub seen_with : Entry → (ℕ → Bool) → ℕ → Bool
seen_with e seen o = is_hash o e || seen o

-- a hash is drawn exactly where none of its object was seen before
abbrev pub IsDrawnFirst : (ℕ → Bool) → Entry → Type 0
IsDrawnFirst seen (entry.Hash o value drawn) = is_some drawn ≡ not (seen o)
IsDrawnFirst seen e = Unit {0}

abbrev pub AreDrawnFirst : (ℕ → Bool) → List Logged → Type 0
AreDrawnFirst seen [] = Unit {0}
AreDrawnFirst seen (l ∷ log) = IsDrawnFirst seen l.entry × AreDrawnFirst (seen_with l.entry seen) log

-- after a hash of an object the log has no draw for the object
abbrev NoneIsDrawnAfter : Entry → List Logged → Type 0
NoneIsDrawnAfter (entry.Hash o value drawn) later = draws_for o later ≡ 0
NoneIsDrawnAfter e later = Unit {0}

abbrev NoneAreDrawnAfter : List Logged → Type 0
NoneAreDrawnAfter [] = Unit {0}
NoneAreDrawnAfter (l ∷ log) = NoneIsDrawnAfter l.entry log × NoneAreDrawnAfter log

-- no entry of these is a draw for the object
abbrev HasNoDraw : ℕ → List Logged → Type 0
HasNoDraw o log = (value number : ℕ) (before : List Logged) (l : Logged) (later : List Logged) → log ≡ before ++ l ∷ later
    → l.entry ≡ entry.Hash o value (Some number) → ⊥

draws_nothing : (o : ℕ) (e : Entry) → ((value number : ℕ) → e ≡ entry.Hash o value (Some number) → ⊥) → drawn_for o (draw_in e) ≡ 0
draws_nothing o (entry.Hash k v (Some n)) h = by_object (k == o) refl
  where
    by_object : (b : Bool) → (k == o) ≡ b → one_if b ≡ 0
    by_object true is = absurd (h v n (ap (λ i. entry.Hash i v (Some n)) (eqb-true k o is)))
    by_object false is = refl
draws_nothing o (entry.Hash k v None) h = refl
draws_nothing o e h = refl

no_draws : (o : ℕ) (log : List Logged) → HasNoDraw o log → draws_for o log ≡ 0
no_draws o [] h = refl
no_draws o (l ∷ log) h =
    let here = draws_nothing o l.entry (λ v n is. h v n [] l log refl is) in
    let rest = no_draws o log (λ v n before k later split is. h v n (l ∷ before) k later (ap (λ ls. l ∷ ls) split) is) in
    omega (arith, here, rest)

-- in a log draws come first
abbrev ComeFirst : List Logged → Type 0
ComeFirst log = (o value number : ℕ) (before : List Logged) (l : Logged) (later : List Logged) → log ≡ before ++ l ∷ later
    → l.entry ≡ entry.Hash o value (Some number) → has_hash o before ≡ false

none_drawn_after : (l : Logged) (e : Entry) (log : List Logged) → l.entry ≡ e → ComeFirst (l ∷ log) → NoneIsDrawnAfter e log
none_drawn_after l (entry.Hash o v d) log is h =
    no_draws o log (λ value number before k later split drawn.
    let first = (or_parts (is_hash o l.entry) (has_hash o before) (h o value number (l ∷ before) k later (ap (λ ls. l ∷ ls) split) drawn)).0 in
    false≢true (sym first ∙ ap (is_hash o) is ∙ eq-eqb o o refl))
none_drawn_after l e log is h = tt

none_after_each : (log : List Logged) → ComeFirst log → NoneAreDrawnAfter log
none_after_each [] h = tt
none_after_each (l ∷ log) h = (
  none_drawn_after l l.entry log refl h,
  none_after_each log (λ o v n before k later split is.
      (or_parts (is_hash o l.entry) (has_hash o before) (h o v n (l ∷ before) k later (ap (λ ls. l ∷ ls) split) is)).1),
)

-- what is left of a log has one draw for each object that was not seen, and none for one that was
record HasOneLeft (seen : ℕ → Bool) (log : List Logged) : Type 0 where
  one : (o : ℕ) → seen o ≡ false → has_hash o log ≡ true → draws_for o log ≡ 1
  none : (o : ℕ) → seen o ≡ true → draws_for o log ≡ 0

-- an entry that is no hash of the object draws none for it
other_draws_none : (o : ℕ) (e : Entry) → is_hash o e ≡ false → drawn_for o (draw_in e) ≡ 0
other_draws_none o (entry.Hash k v (Some n)) h = ap (λ b. cond b 1 0) h
other_draws_none o (entry.Hash k v None) h = refl
other_draws_none o e h = refl

none_after : (o : ℕ) (e : Entry) (log : List Logged) → is_hash o e ≡ true → NoneIsDrawnAfter e log → draws_for o log ≡ 0
none_after o (entry.Hash k v d) log h n = subst (λ (i : ℕ). draws_for i log ≡ 0) (eqb-true k o h) n
none_after o e log h n = absurd (false≢true h)

left_with : (seen : ℕ → Bool) (l : Logged) (log : List Logged) → NoneIsDrawnAfter l.entry log → HasOneLeft seen (l ∷ log)
    → HasOneLeft (seen_with l.entry seen) log
left_with seen l log n h = record { one = one_left; none = none_left }
  where
    one_left : (o : ℕ) → seen_with l.entry seen o ≡ false → has_hash o log ≡ true → draws_for o log ≡ 1
    one_left o s has =
        let parts = or_parts (is_hash o l.entry) (seen o) s in
        let nothing = other_draws_none o l.entry parts.0 in
        let all = h.one o parts.1 (ap (λ b. b || has_hash o log) parts.0 ∙ has) in
        omega (arith, nothing, all)

    by_entry : (o : ℕ) (b : Bool) → is_hash o l.entry ≡ b → (b || seen o) ≡ true → draws_for o log ≡ 0
    by_entry o true e s = none_after o l.entry log e n
    by_entry o false e s = let all = h.none o s in omega (arith, all)

    none_left : (o : ℕ) → seen_with l.entry seen o ≡ true → draws_for o log ≡ 0
    none_left o s = by_entry o (is_hash o l.entry) refl s

drawn_first : (seen : ℕ → Bool) (l : Logged) (e : Entry) (log : List Logged)
    → l.entry ≡ e → NoneIsDrawnAfter e log → HasOneLeft seen (l ∷ log) → IsDrawnFirst seen e
drawn_first seen l (entry.Hash o v d) log is n h = by_draw d is
  where
    here : (o == o) ≡ true
    here = eq-eqb o o refl

    by_seen : (b : Bool) (d : Option ℕ) → seen o ≡ b → l.entry ≡ entry.Hash o v d → is_some d ≡ not b
    by_seen true None s at = refl
    by_seen false (Some k) s at = refl
    by_seen true (Some k) s at =
        let none = h.none o s in
        let draws : drawn_for o (draw_in l.entry) ≡ 1 = ap (λ x. drawn_for o (draw_in x)) at ∙ ap (λ b. cond b 1 0) here in
        absurd (omega (arith, none, draws))
    by_seen false None s at =
        let hashes : has_hash o (l ∷ log) ≡ true = ap (λ x. is_hash o x || has_hash o log) at ∙ ap (λ b. b || has_hash o log) here in
        let one = h.one o s hashes in
        let draws : drawn_for o (draw_in l.entry) ≡ 0 = ap (λ x. drawn_for o (draw_in x)) at in
        absurd (omega (arith, one, draws, n))

    by_draw : (d : Option ℕ) → l.entry ≡ entry.Hash o v d → is_some d ≡ not (seen o)
    by_draw d at = by_seen (seen o) d refl at
drawn_first seen l e log is n h = tt

are_drawn_first : (seen : ℕ → Bool) (log : List Logged) → NoneAreDrawnAfter log → HasOneLeft seen log → AreDrawnFirst seen log
are_drawn_first seen [] d h = tt
are_drawn_first seen (l ∷ log) d h =
    (drawn_first seen l l.entry log refl d.0 h, are_drawn_first (seen_with l.entry seen) log d.1 (left_with seen l log d.0 h))

abbrev pub nothing_seen : ℕ → Bool
nothing_seen o = false

-- of a whole log
pub drawn_at_first : (log : List Logged) → DrawsComeFirst (log ∷ []) → ((o : ℕ) → has_hash o log ≡ true → draws_for o log ≡ 1)
    → AreDrawnFirst nothing_seen log
drawn_at_first log first one =
    are_drawn_first nothing_seen log (none_after_each log (first 0))
    (record { one = λ o s has. one o has; none = λ o s. absurd (false≢true s) })
