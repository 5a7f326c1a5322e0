-- Logs that are empty after the first ones have the order of these.
use Rattle.std.proofs.Common.{◌≡◌, ℕ, zero, suc, ◌+◌, ◌≤◌, List, [], ◌∷◌, ◌++◌, length, map, drop, take, get_or}
use Rattle.std.proofs.Common.{slice_get, Option, Some, None, MatchOption, refl, ap, sym, ◌∙◌, arith}
use Rattle.std.proofs.Math.Seq.{drop-nil, get_or-take}
use Rattle.std.proofs.lemmas.List.{drop_all}
use Rattle.std.specs.List.{AllByRecursion}
use Rattle.plain_monitor.specs.Limits.{most_threads}
use Rattle.plain_monitor.specs.declared.entry.Logged.{Logged}
use Rattle.plain_monitor.specs.Order.{order, ordered, with_threads}
use Rattle.plain_monitor.specs.History.{log_of}
use Rattle.lock_journal.specs.Merging.{left_of, AreOfSixteen}
use Rattle.lock_journal.specs.inner.Heads.{HasStamps, stamp_in, or_greatest}

abbrev pub AreEmpty : List (List Logged) → Type 0
AreEmpty logs = AllByRecursion (λ log. log ≡ []) logs

-- where the logs after the first n are empty, the first n have all entries
first_have_all : (n t : ℕ) (logs : List (List Logged)) → AreEmpty (drop n logs) → with_threads t (take n logs) ≡ with_threads t logs
first_have_all zero t [] h = refl
first_have_all zero t (log ∷ logs) h = rw h.0 (first_have_all zero (t + 1) logs h.1)
first_have_all (suc n) t [] h = refl
first_have_all (suc n) t (log ∷ logs) h = ap (λ xs. map (λ l. (t, l)) log ++ xs) (first_have_all n (t + 1) logs h)

-- what the first n logs have left are the first n of what all have left
left_of_first : (n : ℕ) (logs : List (List Logged)) (places : List ℕ) → left_of (take n logs) places ≡ take n (left_of logs places)
left_of_first zero logs places = refl
left_of_first (suc n) [] places = refl
left_of_first (suc n) (log ∷ logs) [] = refl
left_of_first (suc n) (log ∷ logs) (p ∷ places) = ap (λ ls. drop p log ∷ ls) (left_of_first n logs places)

-- of empty logs nothing is left
none_left : (n : ℕ) (logs : List (List Logged)) (places : List ℕ) → AreEmpty (drop n logs) → AreEmpty (drop n (left_of logs places))
none_left zero [] places h = tt
none_left zero (log ∷ logs) [] h = h
none_left zero (log ∷ logs) (p ∷ places) h = (ap (drop p) h.0 ∙ drop-nil p, none_left zero logs places h.1)
none_left (suc n) [] places h = tt
none_left (suc n) (log ∷ logs) [] h = h
none_left (suc n) (log ∷ logs) (p ∷ places) h = none_left n logs places h

-- the order of what is left is that of what the first sixteen have left
pub left_in_order : (logs : List (List Logged)) (places : List ℕ) → AreOfSixteen logs
    → order (left_of (take most_threads logs) places) ≡ order (left_of logs places)
left_in_order logs places h =
    ap order (left_of_first most_threads logs places) ∙ ap ordered (first_have_all most_threads 0 (left_of logs places) (none_left most_threads logs places h))

-- the order of all logs is that of the first sixteen
pub all_in_order : (logs : List (List Logged)) → AreOfSixteen logs → order (take most_threads logs) ≡ order logs
all_in_order logs h = ap ordered (first_have_all most_threads 0 logs h)

-- the stamps at hand of the first sixteen logs are those of all
pub held_by_first : (logs first : List (List Logged)) (places stamps : List ℕ)
    → first ≡ take most_threads logs → HasStamps first places stamps → HasStamps logs places stamps
held_by_first logs first places stamps is held t h =
    held t h ∙ ap (λ ls. or_greatest (stamp_in (slice_get (log_of ls t) (get_or places t 0)))) is
    ∙ ap (λ log. or_greatest (stamp_in (slice_get log (get_or places t 0)))) (get_or-take most_threads logs t [] h)

pub held_in_first : (logs first : List (List Logged)) (places stamps : List ℕ)
    → first ≡ take most_threads logs → HasStamps logs places stamps → HasStamps first places stamps
held_in_first logs first places stamps is held t h =
    held t h ∙ ap (λ log. or_greatest (stamp_in (slice_get log (get_or places t 0)))) (sym (get_or-take most_threads logs t [] h))
    ∙ ap (λ ls. or_greatest (stamp_in (slice_get (log_of ls t) (get_or places t 0)))) (sym is)

-- what a merge of the first sixteen gives, a merge of all gives
pub given_by_first : (logs first : List (List Logged)) (old new : List ℕ) (given : Option (ℕ × Logged)) → AreOfSixteen logs → first ≡ take most_threads logs
    → MatchOption given (order (left_of first old) ≡ []) (λ x. order (left_of first old) ≡ x ∷ order (left_of first new))
    → MatchOption given (order (left_of logs old) ≡ []) (λ x. order (left_of logs old) ≡ x ∷ order (left_of logs new))
given_by_first logs first old new None few is h = sym (left_in_order logs old few) ∙ ap (λ ls. order (left_of ls old)) (sym is) ∙ h
given_by_first logs first old new (Some x) few is h =
    sym (left_in_order logs old few) ∙ ap (λ ls. order (left_of ls old)) (sym is) ∙ h
    ∙ ap (λ (xs : List (ℕ × Logged)). x ∷ xs) (ap (λ ls. order (left_of ls new)) is ∙ left_in_order logs new few)

-- logs of which each one after the first n is empty
pub empty_after : (n : ℕ) (logs : List (List Logged)) → ((t : ℕ) → n ≤ t → log_of logs t ≡ []) → AreEmpty (drop n logs)
empty_after zero [] f = tt
empty_after zero (log ∷ logs) f = (f 0 (omega arith), empty_after zero logs (λ t h. f (suc t) (omega arith)))
empty_after (suc n) [] f = tt
empty_after (suc n) (log ∷ logs) f = empty_after n logs (λ t h. f (suc t) (omega (arith, h)))

-- sixteen logs or fewer
pub few_of_sixteen : (logs : List (List Logged)) → length logs ≤ most_threads → AreOfSixteen logs
few_of_sixteen logs h = rw (drop_all most_threads logs h) tt
